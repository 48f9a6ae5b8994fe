-- §9: conversion rows that clear no less never add up to less, exactly or as doubles. Assumes nothing.
--     onsite_raised, offsite_raised, decay_raised    one row's part, by the numbers that it takes
--     sums_raised                                    the three subtotals of two accepted returns, row by row
use mathlib.Core.Path.{◌≡◌}
use mathlib.Core.List.{List, [], ◌∷◌, Forall₂}
use Prim.Native.Nat.{ℕ, suc, ◌*◌, ◌≤◌, ◌<◌, zero-le}
use native.Mathlib.Nat.{le_refl, add-le-add, mul-le-mul}
use native.Mathlib.Omega.{arith}
use lib.Ieee.{Float}
use lib.ListN.{length, get_or}
use Rattle.form.specs.Records.{area_of, before, after, onsite, onsite_oxidised, onsite_carbon, offsite, offsite_oxidised, offsite_carbon}
use Rattle.form.specs.Records.{ten_year_area, ten_year_before, ten_year_after, decay, decay_carbon, counted_difference}
use Rattle.form.specs.Sums.{sum_of}
use Rattle.form.specs.Verdict.{rows, verdict_of}
use Rattle.form.specs.declared.Counts.{Counts}
use Rattle.std.specs.Prelude.{Ok}
use Rattle.form.proofs.Periods.{counted_mono}
use Rattle.totals.specs.Columns.{onsite_part, offsite_part, decay_part}
use Rattle.doubles.specs.Double.{double}
use Rattle.doubles.specs.Subtotals.{onsite_double, offsite_double, decay_double, add_rows}
use Rattle.nearness.specs.NoLower.{NoLower}
use Rattle.nearness.proofs.Parts.{part_value, part_mono}
use Rattle.nearness.proofs.Sums.{Part, sum_le}
use Rattle.nearness.proofs.Bound.{Within, onsite_value, offsite_value, decay_value, onsite-part, offsite-part, decay-part}
use Rattle.nearness.proofs.Demand.{few, all_within}

-- ---- one row
-- a part of row q is no lower than that of row r: the exact one, and the whole number that its double is
pub record Raised (v e : List ℕ → ℕ) (r q : List ℕ) : Type 0 where
  pub value : v r ≤ v q
  pub exact : e r ≤ e q

-- the one law of the three parts: a larger area, density before or fraction, or a smaller density after, lowers neither
module _ {a b d f o c a' b' d' f' o' c' : ℕ} (area : a ≤ a') (before : b ≤ b') (after : d' ≤ d)
    (fraction : f ≤ f') (oxidised : o ≤ o') (carbon : c ≤ c') where
  value_raised : part_value a (counted_difference b d) f o c ≤ part_value a' (counted_difference b' d') f' o' c'
  value_raised = part_mono area (counted_mono before after) fraction oxidised carbon

  exact_raised : a * counted_difference b d * f * o * c ≤ a' * counted_difference b' d' * f' * o' * c'
  exact_raised = mul-le-mul (mul-le-mul (mul-le-mul (mul-le-mul area (counted_mono before after)) fraction) oxidised) carbon

module _ (r q : List ℕ) where
  pub onsite_raised : area_of r ≤ area_of q → before r ≤ before q → after q ≤ after r
      → onsite r ≤ onsite q → onsite_oxidised r ≤ onsite_oxidised q → onsite_carbon r ≤ onsite_carbon q → Raised onsite_value onsite_part r q
  unfolding onsite_part
  onsite_raised a b d f o c = record { value = value_raised a b d f o c; exact = exact_raised a b d f o c }

  pub offsite_raised : area_of r ≤ area_of q → before r ≤ before q → after q ≤ after r
      → offsite r ≤ offsite q → offsite_oxidised r ≤ offsite_oxidised q → offsite_carbon r ≤ offsite_carbon q → Raised offsite_value offsite_part r q
  unfolding offsite_part
  offsite_raised a b d f o c = record { value = value_raised a b d f o c; exact = exact_raised a b d f o c }

  -- "with oxidised 1,000" in both
  pub decay_raised : ten_year_area r ≤ ten_year_area q → ten_year_before r ≤ ten_year_before q → ten_year_after q ≤ ten_year_after r
      → decay r ≤ decay q → decay_carbon r ≤ decay_carbon q → Raised decay_value decay_part r q
  unfolding decay_part
  decay_raised a b d f c = record { value = value_raised a b d f (le_refl 1000) c; exact = exact_raised a b d f (le_refl 1000) c }

-- all three of a row
pub record RowRaised (r q : List ℕ) : Type 0 where
  pub onsite : Raised onsite_value onsite_part r q
  pub offsite : Raised offsite_value offsite_part r q
  pub decay : Raised decay_value decay_part r q

-- ---- rows added up
-- what holds of the rows at each place holds of two lists that are as long
paired : {R : List ℕ → List ℕ → Type 0} (rs qs : List (List ℕ)) → length rs ≡ length qs
    → ((i : ℕ) → i < length rs → R (get_or rs i []) (get_or qs i [])) → Forall₂ R rs qs
paired [] [] e h = Forall₂.nil
paired [] (q ∷ qs) e h = absurd (omega arith)
paired (r ∷ rs) [] e h = absurd (omega arith)
paired (r ∷ rs) (q ∷ qs) e h = Forall₂.cons (h 0 (omega arith)) (paired rs qs (omega arith) (λ i l. h (suc i) (omega arith)))

exact-sums : (e : List ℕ → ℕ) {rs qs : List (List ℕ)} → Forall₂ (λ r q. e r ≤ e q) rs qs → sum_of e rs ≤ sum_of e qs
unfolding sum_of
exact-sums e Forall₂.nil = zero-le
exact-sums e (Forall₂.cons g more) = add-le-add g (exact-sums e more)

-- one subtotal of two lists of rows: the exact numbers, and the doubles
pub record SumsRaised (x : List ℕ → Float) (e : List ℕ → ℕ) (rs qs : List (List ℕ)) : Type 0 where
  pub exact : sum_of e rs ≤ sum_of e qs
  pub drawn : NoLower (add_rows x (double 0) rs) (add_rows x (double 0) qs)

-- all three
pub record AllRaised (rs qs : List (List ℕ)) : Type 0 where
  pub onsite : SumsRaised onsite_double onsite_part rs qs
  pub offsite : SumsRaised offsite_double offsite_part rs qs
  pub decay : SumsRaised decay_double decay_part rs qs

module _ (s t : List ℕ) (c d : Counts) (first : verdict_of s ≡ Ok c) (second : verdict_of t ≡ Ok d)
    (as_many : length (rows 1 s) ≡ length (rows 1 t)) where
  -- the one law of the three subtotals
  one_raised : (x : List ℕ → Float) (v e : List ℕ → ℕ) → ((r : List ℕ) → Within r → Part (x r) (v r) (e r))
      → ((i : ℕ) → i < length (rows 1 s) → Raised v e (get_or (rows 1 s) i []) (get_or (rows 1 t) i [])) → SumsRaised x e (rows 1 s) (rows 1 t)
  one_raised x v e part_of raised = record {
    exact = exact-sums e (paired (rows 1 s) (rows 1 t) as_many (λ i l. (raised i l).exact));
    drawn = sum_le x v e (rows 1 s) (rows 1 t) (few s c first) (few t d second)
        (λ i l. part_of (get_or (rows 1 s) i []) (all_within s c first i l))
        (λ i l. part_of (get_or (rows 1 t) i []) (all_within t d second i l))
        (paired (rows 1 s) (rows 1 t) as_many (λ i l. (raised i l).value));
  }

  pub sums_raised : ((i : ℕ) → i < length (rows 1 s) → RowRaised (get_or (rows 1 s) i []) (get_or (rows 1 t) i [])) → AllRaised (rows 1 s) (rows 1 t)
  sums_raised raised = record {
    onsite = one_raised onsite_double onsite_value onsite_part onsite-part (λ i l. (raised i l).onsite);
    offsite = one_raised offsite_double offsite_value offsite_part offsite-part (λ i l. (raised i l).offsite);
    decay = one_raised decay_double decay_value decay_part decay-part (λ i l. (raised i l).decay);
  }
