-- "Each number is tried over the whole input before the next, and the lowest place is given."
use Rattle.std.specs.Prelude.{ℕ, Bool, List, [], ◌∷◌, ◌++◌, length, drop, ltb, None, Option, Some}
use Rattle.form.specs.First.{first}
use Rattle.form.specs.Refusals.{Clean, Refused, Ruling}

-- a rule: its refusal number, how many places it has, and the test that a place breaks it
pub record Rule : Type 0 where
  pub number : ℕ
  pub places : ℕ
  pub broken : ℕ → Bool

abbrev pub rule : ℕ → ℕ → (ℕ → Bool) → Rule
rule n m p = record { number = n; places = m; broken = p }

-- 9: "lent room too short", for n elements; place 0
abbrev pub too_short : ℕ → List ℕ → Rule
too_short n room = rule 9 1 (λ p. ltb (length room) n)

-- what room that is long enough holds then: exactly these "at the front; later elements keep their values"
abbrev pub on_front : List ℕ → List ℕ → List ℕ
on_front x room = x ++ drop (length x) room

abbrev pub refuse : ℕ → Option ℕ → Ruling → Ruling
refuse n (Some i) rest = Refused n i
refuse n None rest = rest

-- the first broken rule of a list, at its lowest place; or Clean
unfoldable pub ruling : List Rule → Ruling
ruling [] = Clean
ruling (r ∷ rs) = refuse r.number (first r.broken r.places) (ruling rs)
