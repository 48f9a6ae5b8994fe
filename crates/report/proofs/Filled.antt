-- The printed names, filled in with the figures' values, are the lines. Assumes nothing.
--     names_few, as_lines    what `put_lines` asks of the figures' names, and that it writes the lines
--     as_text                the text of an outcome that another one equals
use Prim.Native.Nat.{ℕ, ◌≤◌}
use mathlib.Core.Path.{◌≡◌, refl, ap, subst, ◌∙◌}
use mathlib.Core.List.{List, [], ◌∷◌, map, flat_map}
use native.Mathlib.Omega.{arith}
use lib.IntN.{ℤ}
use lib.ListN.{length}
use Rattle.wide.specs.Signs.{amount}
use Rattle.wide.specs.declared.signed.Signed.{Signed}
use Rattle.decimal.specs.Digits.{WrittenAt}
use Rattle.phrases.specs.Lines.{spaces, filled_in, amounts}
use Rattle.phrases.proofs.Filled.{filled-flat}
use Rattle.worksheets.specs.Answers.{Outcome}
use Rattle.worksheets.specs.declared.sheets.Figures.{Figures}
use Rattle.listed.specs.Listed.{Figure, listed, values_of}
use Rattle.report.specs.Lines.{lines_of, names_of, text_of}

amount_of : Figure → ℤ
amount_of f = amount f.value

amounts_are : (fs : List Figure) → amounts (values_of fs) ≡ map amount_of fs
unfolding amount_of
amounts_are [] = refl
amounts_are (f ∷ fs) = ap (λ (x : List ℤ). amount f.value ∷ x) (amounts_are fs)

-- no printed name has a space in it, so there are as many spaces as figures
clear : (f : Figures) → spaces (flat_map (λ (x : Figure). x.name) (listed f)) ≡ 0
unfolding spaces flat_map listed
clear f = refl

module _ (f : Figures) {values : List Signed} (e : values ≡ values_of (listed f)) where
  pub names_few : spaces (names_of f) ≤ length values
  unfolding spaces flat_map listed
  names_few = omega (arith, ap length e)

  pub as_lines : filled_in (names_of f) (amounts values) ≡ lines_of f
  unfolding amount_of
  as_lines =
      ap (λ (x : List Signed). filled_in (names_of f) (amounts x)) e
      ∙ ap (filled_in (names_of f)) (amounts_are (listed f))
      ∙ filled-flat (λ (x : Figure). x.name) amount_of (listed f) (clear f)

pub as_text : {o p : Outcome} {d e : List ℕ} {i j : ℕ} → o ≡ p → WrittenAt (text_of o) d e i j → WrittenAt (text_of p) d e i j
as_text {d = d} {e} {i} {j} q w = subst (λ (x : Outcome). WrittenAt (text_of x) d e i j) q w
