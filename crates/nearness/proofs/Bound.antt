-- Demand 3 over a list of conversion rows. Assumes nothing.
--     onsite-near, offsite-near, decay-near    at most 32 rows, each within its limits: the double is near the exact subtotal
use mathlib.Core.Path.{◌≡◌}
use mathlib.Core.Bool.{false}
use mathlib.Core.List.{List, []}
use Prim.Native.Nat.{ℕ, ◌*◌, ◌≤◌}
use native.Mathlib.Nat.{le_trans}
use lib.Dec.{T, ltb, lit<, lit≤}
use lib.ListN.{length, get_or}
use Rattle.form.specs.Layout.{field, conversion, above_limit}
use Rattle.form.specs.Records.{area_of, before, after, onsite, onsite_oxidised, onsite_carbon, offsite, offsite_oxidised, offsite_carbon, ten_year_area, ten_year_before, ten_year_after, decay, decay_carbon, counted_difference, difference, ten_year_difference}
use Rattle.form.proofs.Periods.{counted_le}
use Rattle.standing.proofs.Accepted.{limit_of}
use Rattle.form.specs.Sums.{sum_of}
use Rattle.totals.specs.Columns.{onsite_part, offsite_part, decay_part}
use Rattle.nearness.specs.Near.{Near}
use Rattle.doubles.specs.Subtotals.{part_of, onsite_double, offsite_double, decay_double, subtotals_of}
use Rattle.nearness.proofs.Parts.{Limits, part_value, part-holds, part_off, part-first}
use Rattle.nearness.proofs.Sums.{Each, Part, sum_near}

-- a row that rule 6 lets pass
abbrev pub Within : List ℕ → Type 0
Within r = above_limit conversion r ≡ false

-- the whole numbers that a row's doubles are
abbrev pub onsite_value : List ℕ → ℕ
onsite_value r = part_value (area_of r) (difference r) (onsite r) (onsite_oxidised r) (onsite_carbon r)

abbrev pub offsite_value : List ℕ → ℕ
offsite_value r = part_value (area_of r) (difference r) (offsite r) (offsite_oxidised r) (offsite_carbon r)

abbrev pub decay_value : List ℕ → ℕ
decay_value r = part_value (ten_year_area r) (ten_year_difference r) (decay r) 1000 (decay_carbon r)

-- a row's part, from the limits of the numbers that it takes
part : (a b d f o c : ℕ) → a ≤ 1000000 → b ≤ 10000 → f ≤ 1000 → o ≤ 1000 → c ≤ 1000 → Part (part_of a (counted_difference b d) f o c) (part_value a (counted_difference b d) f o c) (a * counted_difference b d * f * o * c)
part a b d f o c A B F O C =
    let m = counted_difference b d in
    let l : Limits a m f o c = record { area-fits = A; difference-fits = le_trans (counted_le b d) B; fraction-fits = F; oxidised_fits = O; carbon-fits = C } in
    record { holds = part-holds a m f o c l; first-exact = part-first a m f o c; off = part_off a m f o c l }

module _ (r : List ℕ) (h : Within r) where
  -- number k of the row is at most its limit
  most : (k : ℕ) → T (ltb k 15) → get_or r k 0 ≤ (get_or conversion k (field 0 0 0)).limit
  most k t = limit_of conversion r k (field 0 0 0) (lit< t) h

  pub onsite-part : Part (onsite_double r) (onsite_value r) (onsite_part r)
  unfolding onsite_double onsite_part
  onsite-part = part (area_of r) (before r) (after r) (onsite r) (onsite_oxidised r) (onsite_carbon r) (most 1 tt) (most 2 tt) (most 4 tt) (most 5 tt) (most 6 tt)

  pub offsite-part : Part (offsite_double r) (offsite_value r) (offsite_part r)
  unfolding offsite_double offsite_part
  offsite-part = part (area_of r) (before r) (after r) (offsite r) (offsite_oxidised r) (offsite_carbon r) (most 1 tt) (most 2 tt) (most 7 tt) (most 8 tt) (most 9 tt)

  pub decay-part : Part (decay_double r) (decay_value r) (decay_part r)
  unfolding decay_double decay_part
  decay-part = part (ten_year_area r) (ten_year_before r) (ten_year_after r) (decay r) 1000 (decay_carbon r) (most 10 tt) (most 11 tt) (most 13 tt) (lit≤ tt) (most 14 tt)

module _ (rs : List (List ℕ)) (l : length rs ≤ 32) (h : Each Within rs) where
  pub onsite-near : Near (length rs) (subtotals_of rs).onsite (sum_of onsite_part rs)
  onsite-near = sum_near onsite_double onsite_value onsite_part rs l (λ i k. onsite-part (get_or rs i []) (h i k))

  pub offsite-near : Near (length rs) (subtotals_of rs).offsite (sum_of offsite_part rs)
  offsite-near = sum_near offsite_double offsite_value offsite_part rs l (λ i k. offsite-part (get_or rs i []) (h i k))

  pub decay-near : Near (length rs) (subtotals_of rs).decay (sum_of decay_part rs)
  decay-near = sum_near decay_double decay_value decay_part rs l (λ i k. decay-part (get_or rs i []) (h i k))
