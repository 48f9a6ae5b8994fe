-- The line or the two lines of the heaviest row. Assumes nothing.
use Prim.Native.Nat.{ℕ}
use mathlib.Core.Path.{◌≡◌, refl}
use mathlib.Core.Bool.{Bool, true, false, cond}
use mathlib.Core.List.{List, [], ◌∷◌, ◌++◌}
use lib.Dec.{eqb}
use Rattle.heaviest.specs.declared.Weight.{Weight}
use Rattle.phrases.specs.Ascii.{codes}
use Rattle.phrases.specs.Lines.{number_line, lines_text, spaces, filled_in, unsigned}
use Rattle.naming.specs.RowLines.{word_line}
use Rattle.phrases.proofs.LineTexts.{two_text}
use Rattle.explained.specs.Explained.{weight_lines}

-- the texts that the code has, by the name
abbrev pub none_text : List ℕ → List ℕ
none_text name = name ++ 32 ∷ (codes "none" ++ 10 ∷ [])

abbrev pub names_text : List ℕ → List ℕ
names_text name = name ++ 32 ∷ ((name ++ codes "_part") ++ 32 ∷ [])

module _ (name : List ℕ) (i p : ℕ) (e : spaces (name ++ (name ++ codes "_part")) ≡ 0) where
  by_test : (b : Bool) → cond b (none_text name) (filled_in (names_text name) (unsigned (i ∷ p ∷ [])))
      ≡ lines_text (cond b (word_line name (codes "none") ∷ []) (number_line name i ∷ number_line (name ++ codes "_part") p ∷ []))
  unfolding lines_text
  by_test true = refl
  by_test false = two_text name (name ++ codes "_part") i p e

pub weight_text : (name : List ℕ) (w : Weight) → spaces (name ++ (name ++ codes "_part")) ≡ 0
    → cond (eqb w.part 0) (none_text name) (filled_in (names_text name) (unsigned (w.id ∷ w.part ∷ []))) ≡ lines_text (weight_lines name w)
weight_text name w e = by_test name w.id w.part e (eqb w.part 0)
