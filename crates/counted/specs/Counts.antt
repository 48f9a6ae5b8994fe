-- The judge from C: what a return holds, in lent room. "1 to 8 (from C, then 11 and last 9)."
use Rattle.std.specs.Prelude.{ℕ, suc, List, [], ◌∷◌, ◌++◌, Err}
use Rattle.form.specs.Layout.{kinds}
use Rattle.form.specs.Ruling.{Rule, too_short, on_front, ruling}
use Rattle.form.specs.Verdict.{rules, counts_of, count_list}
use Rattle.form.specs.declared.Counts.{Counts}
use Rattle.form.specs.Refusals.{Clean, Ruling}

-- what a return holds: its edition, then a count for each kind, so that a count's place is its kind; last "how many such rows there were", of scattered trees
abbrev pub held : Counts → List ℕ
held c = c.edition ∷ (count_list c ++ (c.scattered ∷ []))

-- how many numbers that is
abbrev pub counts_room : ℕ
counts_room = suc (suc kinds)

-- the return's rules, last the room for the edition and the counts
abbrev pub judge_rules : List ℕ → List ℕ → List Rule
judge_rules s room = rules s ++ (too_short counts_room room ∷ [])

abbrev pub judge_call : List ℕ → List ℕ → Ruling
judge_call s room = ruling (judge_rules s room)

-- the room afterwards: the edition and the counts at the front and "later elements keep their values"; on a refusal "lent memory is unchanged"
abbrev pub counts_after : List ℕ → List ℕ → Ruling → List ℕ
counts_after s room Clean = on_front (held (counts_of s)) room
counts_after s room (Err r) = room

-- after the judge from C
abbrev pub counts_judged : List ℕ → List ℕ → List ℕ
counts_judged s room = counts_after s room (judge_call s room)
