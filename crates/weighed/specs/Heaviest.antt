-- §7: the row that weighs most in a subtotal, from C. "Refusals: those of the sheets, then 11 for a subtotal's code above 2"; last 9 for the room.
use Rattle.std.specs.Prelude.{ℕ, List, [], ◌∷◌, ◌++◌, Ok, Some, Err}
use Rattle.form.specs.Ruling.{Rule, too_short, on_front, ruling}
use Rattle.form.specs.Refusals.{Clean, Ruling}
use Rattle.heaviest.specs.Named.{Named, NoRow}
use Rattle.form.specs.Verdict.{rules}
use Rattle.totals.specs.Codes.{wrong_code}
use Rattle.heaviest.specs.Heaviest.{heaviest_answer}

-- three numbers at the front of a room: 9, place 0, where it has fewer elements
abbrev pub three : ℕ → ℕ → ℕ → List ℕ
three x y z = x ∷ y ∷ z ∷ []

abbrev pub three_call : List ℕ → Ruling
three_call room = ruling (too_short 3 room ∷ [])

abbrev pub three_after : List ℕ → List ℕ → Ruling → List ℕ
three_after numbers room Clean = on_front numbers room
three_after numbers room (Err r) = room

-- the answer in three numbers: 1, the row's id and its exact part; or three zeros for 'none', "where the subtotal is zero". A refusal has none
abbrev pub named_numbers : Named → List ℕ
named_numbers (Ok (Some w)) = three 1 w.id w.part
named_numbers NoRow = three 0 0 0
named_numbers (Err r) = []

-- the return's rules and 11, as `heaviest` has them, last the room for the three numbers
abbrev pub heaviest_rules_c : List ℕ → ℕ → List ℕ → List Rule
heaviest_rules_c s code room = rules s ++ (wrong_code code ∷ too_short 3 room ∷ [])

abbrev pub heaviest_call : List ℕ → ℕ → List ℕ → Ruling
heaviest_call s code room = ruling (heaviest_rules_c s code room)

-- the room afterwards: the answer of `heaviest` at the front and "later elements keep their values"; on a refusal "lent memory is unchanged"
abbrev pub heaviest_after : List ℕ → ℕ → List ℕ → Ruling → List ℕ
heaviest_after s code room Clean = on_front (named_numbers (heaviest_answer s code)) room
heaviest_after s code room (Err r) = room

-- after the call
abbrev pub heaviest_told : List ℕ → ℕ → List ℕ → List ℕ
heaviest_told s code room = heaviest_after s code room (heaviest_call s code room)
