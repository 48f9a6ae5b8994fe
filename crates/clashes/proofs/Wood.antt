-- The two lines of 12, whose numbers take two words each. Assumes nothing.
use Prim.Native.Nat.{ℕ, ◌*◌, ◌^◌, ◌<◌, ◌≤◌}
use mathlib.Core.Path.{◌≡◌, refl, ap₂, ◌∙◌}
use mathlib.Core.List.{List, [], ◌∷◌}
use native.Mathlib.Nat.{le-pred_of_lt}
use native.Mathlib.Numerals.{bound}
use native.Mathlib.Omega.{arith}
use lib.Dec.{lit<}
use lib.IntN.{ℤ}
use lib.ListN.{length, length-append}
use Rattle.form.specs.Records.{Filed, filed_rows}
use Rattle.form.specs.Sums.{column_k, column_l}
use Rattle.wide.specs.Numbers.{value}
use Rattle.wide.specs.declared.Wide.{Wide}
use Rattle.wide.proofs.Laws.{value_words}
use Rattle.decimal.proofs.DigitLaws.{decimal-length}
use Rattle.balance.specs.Wood.{wood_of}
use Rattle.balance.specs.declared.Wood.{Wood}
use Rattle.phrases.specs.Ascii.{codes}
use Rattle.phrases.specs.Lines.{lines_text, filled_in, unsigned}
use Rattle.wording.specs.Wording.{wood_lines, value_lines}
use Rattle.clashes.specs.Clashes.{wood_clash}

abbrev pub wood_names : List ℕ
wood_names = codes "used cleared "

-- what the two masses come to
abbrev pub wood_values : Wood → List ℤ
wood_values w = unsigned (value w.used.0 ∷ value w.cleared.0 ∷ [])

wood-filled : (w : Wood) → filled_in wood_names (wood_values w) ≡ lines_text (wood_lines (value w.used.0) (value w.cleared.0))
unfolding filled_in lines_text
wood-filled w = refl

-- two words have at most 39 digits
wide_short : (w : Wide) → w.lo < 2 ^ 64 → w.hi < 2 ^ 64 → value w < 10 ^ 39
unfolding value
wide_short w l h = grw (bound, le-pred_of_lt l, le-pred_of_lt h) (lit< tt)

abbrev pub Words : Wide → Type 0
Words w = (w.lo < 2 ^ 64) × (w.hi < 2 ^ 64)

module _ {w : Wood} (u : Words w.used.0) (l : Words w.cleared.0) where
  pub wood-short : length (filled_in wood_names (wood_values w)) ≤ 100
  unfolding lines_text
  wood-short =
      rw (wood-filled w)
      (simp length-append
      (omega (arith, decimal-length 38 (value w.used.0) (wide_short w.used.0 u.0 u.1), decimal-length 38 (value w.cleared.0) (wide_short w.cleared.0 l.0 l.1))))

pub wood_told : (f : Filed) {w : Wood} → w ≡ wood_of (filed_rows f 3) (filed_rows f 1)
    → filled_in wood_names (wood_values w) ≡ lines_text (value_lines (wood_clash f))
wood_told f {w} e =
    wood-filled w
    ∙ rw e
    (ap₂ (λ (x y : ℕ). lines_text (wood_lines x y)) (value_words (100 * column_k (filed_rows f 3))).number (value_words (column_l (filed_rows f 1))).number)
