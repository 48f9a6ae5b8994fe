-- Reading: the rules of the bytes, then 9. "Success writes exactly the rows at the front; later elements keep their values."
use Rattle.std.specs.Prelude.{ℕ, zero, suc, ◌*◌, Bool, length, ltb, Ok, Err}
use mathlib.Core.List.{List, [], ◌∷◌, ◌++◌, flatten}
use Rattle.form.specs.Layout.{kinds, numbers_of}
use Rattle.form.specs.Ruling.{Rule, rule, ruling, on_front}
use Rattle.form.specs.Verdict.{rules, rows, count_list, verdict_by}
use Rattle.form.specs.declared.Counts.{Counts}
use Rattle.form.specs.Refusals.{Verdict}
use Rattle.filing.specs.Lists.{Lists}
use Rattle.filing.specs.Written.{in_turn}

-- the rows of a kind in lent memory: one after the other
abbrev pub rows_of : List ℕ → ℕ → List ℕ
rows_of s kind = flatten (rows kind s)

-- the rows of kinds 1 to k in one area, kind after kind
abbrev pub area_to : List ℕ → ℕ → List ℕ
area_to s k = in_turn (rows_of s) 1 k

-- 9: "lent room too short", of m numbers; its place is the lowest kind whose rows no longer fit
abbrev pub outgrown : List ℕ → ℕ → ℕ → Bool
outgrown s m kind = ltb m (length (area_to s kind))

abbrev pub read_rules : List ℕ → List ℕ → List Rule
read_rules s room = rules s ++ (rule 9 (suc kinds) (outgrown s (length room)) ∷ [])

-- "A read answers the .. row counts" and the edition, or "a refusal gives number and place"
unfoldable pub read_answer : List ℕ → List ℕ → Verdict
read_answer s room = verdict_by s (ruling (read_rules s room))

-- what the room holds after an answer
abbrev pub room_after : List ℕ → List ℕ → Verdict → List ℕ
room_after s room (Ok c) = on_front (area_to s kinds) room
room_after s room (Err r) = room

-- the rows of a return as lists, one for each kind: of n kinds, from one on
unfoldable pub lists_from : List ℕ → ℕ → ℕ → Lists
lists_from s k zero = []
lists_from s k (suc n) = rows_of s k ∷ lists_from s (suc k) n

abbrev pub row_lists : List ℕ → Lists
row_lists s = lists_from s 1 kinds

-- the lengths of the rows, kind by kind, from their counts: what writing is told of the rows that were read
unfoldable pub lengths_from : ℕ → List ℕ → List ℕ
lengths_from k [] = []
lengths_from k (n ∷ ns) = numbers_of k * n ∷ lengths_from (suc k) ns

abbrev pub lengths_of : Counts → List ℕ
lengths_of c = lengths_from 1 (count_list c)
