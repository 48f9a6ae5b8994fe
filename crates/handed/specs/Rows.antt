-- Reading and writing rows from C. "Reading: 1 to 9." "Writing: 10, then 5 to 9." "A refusal gives number and place; lent memory is unchanged."
use Rattle.std.specs.Prelude.{ℕ, zero, suc, Bool, ◌||◌, List, [], ◌∷◌, ◌++◌, length, ltb, Err}
use Rattle.form.specs.Layout.{kinds}
use Rattle.form.specs.Ruling.{Rule, rule, on_front, ruling}
use Rattle.form.specs.Verdict.{rules, verdict_by}
use Rattle.form.specs.Refusals.{Clean, Ruling}
use Rattle.filing.specs.Lists.{cut}
use Rattle.lists.specs.Rules.{list_rules}
use Rattle.rows.specs.Reading.{outgrown, room_after}
use Rattle.rows.specs.Writing.{written, written_by, bytes_after}
use Rattle.counted.specs.Counts.{counts_room, counts_after}

-- 9: "lent room too short": place 0 the room of n elements for the edition and the counts, then the lowest kind whose rows no longer fit room of m numbers
abbrev pub short_at : List ℕ → ℕ → ℕ → ℕ → Bool
short_at s m n zero = ltb n counts_room
short_at s m n (suc k) = outgrown s m (suc k)

-- the rules of a read from C, into these rooms, and their ruling
abbrev pub read_rules_c : List ℕ → List ℕ → List ℕ → List Rule
read_rules_c s rows counts = rules s ++ (rule 9 (suc kinds) (short_at s (length rows) (length counts)) ∷ [])

abbrev pub read_call : List ℕ → List ℕ → List ℕ → Ruling
read_call s rows counts = ruling (read_rules_c s rows counts)

-- the room of the rows afterwards: "exactly the rows at the front", or as it was; the counts' room is `counts_after`, as after the judge
abbrev pub rows_after : List ℕ → List ℕ → Ruling → List ℕ
rows_after s room v = room_after s room (verdict_by s v)

-- both rooms after a read from C
abbrev pub rows_read : List ℕ → List ℕ → List ℕ → List ℕ
rows_read s rows counts = rows_after s rows (read_call s rows counts)

abbrev pub counts_read : List ℕ → List ℕ → List ℕ → List ℕ
counts_read s rows counts = counts_after s counts (read_call s rows counts)

-- 9, place 0: the room for the blocks, or that for their number of bytes
abbrev pub write_rooms : ℕ → List ℕ → List ℕ → List ℕ → List ℕ → Rule
write_rooms edition lengths area room size = rule 9 1 (λ p. ltb (length room) (length (written edition (cut lengths area))) || ltb (length size) 1)

-- the rules of a write from C, of these rows in this edition into these rooms, and their ruling
abbrev pub write_rules_c : ℕ → List ℕ → List ℕ → List ℕ → List ℕ → List Rule
write_rules_c edition area lengths room size = list_rules edition lengths area ++ (write_rooms edition lengths area room size ∷ [])

abbrev pub write_call : ℕ → List ℕ → List ℕ → List ℕ → List ℕ → Ruling
write_call edition area lengths room size = ruling (write_rules_c edition area lengths room size)

-- the room afterwards: "exactly the blocks at the front", or as it was
abbrev pub blocks_after : ℕ → List ℕ → List ℕ → List ℕ → Ruling → List ℕ
blocks_after edition area lengths room v = bytes_after edition lengths area room (written_by edition (cut lengths area) v)

-- and that of the size: "a write answers the number of bytes written"
abbrev pub size_after : ℕ → List ℕ → List ℕ → List ℕ → Ruling → List ℕ
size_after edition area lengths size Clean = on_front (length (written edition (cut lengths area)) ∷ []) size
size_after edition area lengths size (Err r) = size

-- both rooms after a write from C
abbrev pub blocks_written : ℕ → List ℕ → List ℕ → List ℕ → List ℕ → List ℕ
blocks_written edition area lengths room size = blocks_after edition area lengths room (write_call edition area lengths room size)

abbrev pub size_written : ℕ → List ℕ → List ℕ → List ℕ → List ℕ → List ℕ
size_written edition area lengths room size = size_after edition area lengths size (write_call edition area lengths room size)
