-- The round trip of a return, of what running code is lent. `read_writes_back` and `c_read_writes_back` ask that each number of the list is a byte; behind a
-- `&[u8]` each is, by the law of that type, so whoever has one to lend has the round trip of its bytes, and nothing is left to ask.
use Rattle.std.specs.Prelude.{ℕ, ◌≤◌, ◌≡◌, List, length, Ok}
use Rattle.form.specs.declared.Counts.{Counts}
use Rattle.rows.specs.Reading.{read_answer, lengths_of}
use Rattle.trips.proofs.Again.{left_behind}
use Rattle.handed.specs.Rows.{read_call, rows_read, counts_read}
use Rattle.door.specs.Door.{code_of}
use Rattle.promises.specs.Demand2.{WritesBack}
use Rattle.promises.specs.FromC.{edition_left, lengths_left, rows_left, WritesBackC}

-- "an accepted return, read and written again, is the same bytes", from Rattle and from C: whatever the rooms are, if they are long enough
pub record SameAgain (s : List ℕ) : Type 0 where
  pub rattle : (area : List ℕ) (c : Counts) → read_answer s area ≡ Ok c
      → (room : List ℕ) → length s ≤ length room → WritesBack s c.edition (lengths_of c) (left_behind s area c) room
  pub from_C : (area counts : List ℕ) → code_of (read_call s area counts) ≡ 0 → (room size : List ℕ) → length s ≤ length room → 1 ≤ length size
      → let n = counts_read s area counts in WritesBackC s (edition_left n) (rows_left (rows_read s area counts) n) (lengths_left n) room size
