-- The figures from C, as whole numbers of 64 bits, three each (listed/Listed).
use Rattle.std.specs.Prelude.{ℕ, List, [], ◌∷◌, ◌++◌, Err}
use Rattle.form.specs.Ruling.{Rule, too_short, ruling, on_front}
use Rattle.form.specs.Verdict.{rules}
use Rattle.form.specs.Refusals.{Clean, Ruling}
use Rattle.worksheets.specs.Sheets.{by_kind, figures_of}
use Rattle.listed.specs.Listed.{figure_numbers, numbers_room}

-- the return's rules, last the room
abbrev pub figures_rules : List ℕ → List ℕ → List Rule
figures_rules s room = rules s ++ (too_short numbers_room room ∷ [])

abbrev pub figures_answer : List ℕ → List ℕ → Ruling
figures_answer s room = ruling (figures_rules s room)

-- the room afterwards: the numbers at the front and "later elements keep their values"; on a refusal "lent memory is unchanged"
abbrev pub figures_after : List ℕ → List ℕ → Ruling → List ℕ
figures_after s room Clean = on_front (figure_numbers (figures_of (by_kind s))) room
figures_after s room (Err r) = room

-- after the call
abbrev pub figures_told : List ℕ → List ℕ → List ℕ
figures_told s room = figures_after s room (figures_answer s room)
