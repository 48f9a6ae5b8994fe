-- The line of a row. Assumes nothing.
--     RowAt, row_at_lem              row j stands in a line that is not passed over, with j such lines before it, and its number is the line's
--     row_none                   there is no line of a row that is not there
use Prim.Native.Nat.{ℕ, suc, ◌+◌, ◌-◌, ◌<◌, ◌≤◌}
use mathlib.Core.Path.{◌≡◌, refl, ap, ◌∙◌}
use mathlib.Core.Bool.{Bool, true, false, cond}
use mathlib.Core.List.{List, [], ◌∷◌}
use native.Mathlib.Omega.{arith}
use lib.Dec.{eqb}
use lib.ListN.{length, take, get_or}
use borrow.Author.Tests.{eqb-true, eqb-false}
use Rattle.heads.specs.Heads.{is_passed}
use Rattle.texts.specs.Texts.{row_line_at}
use Rattle.texts.specs.Steps.{count_in}

pub record RowAt (sep j n : ℕ) (ls : List (List ℕ)) (line : ℕ) : Type 0 where
  pub place : ℕ
  pub inside : place < length ls
  pub number : line ≡ n + suc place
  pub counts : is_passed sep (get_or ls place []) ≡ false
  pub before : count_in sep (take place ls) ≡ j

module _ (sep : ℕ) where
  pub row_at_lem : (j n : ℕ) (ls : List (List ℕ)) → j < count_in sep ls → RowAt sep j n ls (row_line_at sep j n ls)
  unfolding row_line_at count_in
  row_at_lem j n [] h = absurd (omega arith)
  row_at_lem j n (l ∷ ls) h = by (is_passed sep l) refl (eqb j 0) refl h (row_at_lem j (suc n) ls) (row_at_lem (j - 1) (suc n) ls)
    where
      -- one line more in front, which counts or is passed over
      behind : (p : Bool) → is_passed sep l ≡ p → (i line : ℕ) → cond p i (suc i) ≡ j → RowAt sep i (suc n) ls line → RowAt sep j n (l ∷ ls) line
      behind p e i line h w = record {
        place = suc w.place;
        inside = omega (arith, w.inside);
        number = omega (arith, w.number);
        counts = w.counts;
        before =
            ap (λ (q : Bool). cond q (count_in sep (take w.place ls)) (suc (count_in sep (take w.place ls)))) e
            ∙ ap (λ (x : ℕ). cond p x (suc x)) w.before
            ∙ h;
      }

      by : (p : Bool) → is_passed sep l ≡ p → (z : Bool) → eqb j 0 ≡ z → j < cond p (count_in sep ls) (suc (count_in sep ls))
          → (j < count_in sep ls → RowAt sep j (suc n) ls (row_line_at sep j (suc n) ls))
          → (j - 1 < count_in sep ls → RowAt sep (j - 1) (suc n) ls (row_line_at sep (j - 1) (suc n) ls))
          → RowAt sep j n (l ∷ ls) (cond p (row_line_at sep j (suc n) ls) (cond z (suc n) (row_line_at sep (j - 1) (suc n) ls)))
      by true e z f g over more = behind true e j (row_line_at sep j (suc n) ls) refl (over g)
      by false e true f g over more = record {
        place = 0;
        inside = omega arith;
        number = omega arith;
        counts = e;
        before = let z : j ≡ 0 = eqb-true j 0 f in omega arith;
      }
      by false e false f g over more =
          let z : j ≡ 0 → ⊥ = eqb-false j 0 f in
          behind false e (j - 1) (row_line_at sep (j - 1) (suc n) ls) (omega (arith, z)) (more (omega (arith, g, z)))

  pub row_none : (j n : ℕ) (ls : List (List ℕ)) → count_in sep ls ≤ j → row_line_at sep j n ls ≡ 0
  unfolding row_line_at count_in
  row_none j n [] h = refl
  row_none j n (l ∷ ls) h = by (is_passed sep l) (eqb j 0) refl h (row_none j (suc n) ls) (row_none (j - 1) (suc n) ls)
    where
      by : (p z : Bool) → eqb j 0 ≡ z → cond p (count_in sep ls) (suc (count_in sep ls)) ≤ j
          → (count_in sep ls ≤ j → row_line_at sep j (suc n) ls ≡ 0) → (count_in sep ls ≤ j - 1 → row_line_at sep (j - 1) (suc n) ls ≡ 0)
          → cond p (row_line_at sep j (suc n) ls) (cond z (suc n) (row_line_at sep (j - 1) (suc n) ls)) ≡ 0
      by true z e g over more = over g
      by false true e g over more = let z : j ≡ 0 = eqb-true j 0 e in absurd (omega arith)
      by false false e g over more = more (omega arith)
