-- A row that is not above its limits, number by number, and how large its parts are. Assumes nothing.
--     period, ten_years, onsites, offsites, decays, stocks, harvests    its numbers by name
--     cleared-below, ..    its part in each sum
use Prim.Native.Nat.{ℕ, ◌+◌, ◌*◌, ◌^◌, ◌<◌, ◌≤◌}
use mathlib.Core.Path.{◌≡◌}
use mathlib.Core.Bool.{Bool, true, false, cond}
use mathlib.Core.List.{List}
use native.Mathlib.Omega.{arith}
use native.Mathlib.Nat.{le_of_lt, le-pred_of_lt, mul-le-mul}
use native.Mathlib.Numerals.{bound}
use lib.Pow.{pow-add, pow_pos}
use lib.ListN.{get_or}
use lib.Dec.{lit<, lit≤}
use Rattle.form.specs.Layout.{field, conversion, stock, harvest, abandoned, above_limit}
use Rattle.form.specs.Records.{area_of, before, after, onsite, onsite_oxidised, onsite_carbon, offsite, offsite_oxidised, offsite_carbon, ten_year_area, ten_year_before, ten_year_after, decay, decay_carbon, thinner, counted_difference, difference}
use Rattle.form.proofs.Periods.{counted_le}
use Rattle.standing.proofs.Accepted.{limit_of}
use Rattle.form.specs.Sums.{commercial, tonnes_per_m3, fuelwood, other_use, harvest_part, cleared_part}
use Rattle.totals.specs.Columns.{rate, stock_amount, stock_carbon, stock_part, onsite_part, offsite_part, decay_part, thinner_part}
use Rattle.totals.specs.Abandoned.{abandoned_part}

-- a number of four bytes times one or two of two bytes
pub four_two : (a b : ℕ) → a < 2 ^ 32 → b < 2 ^ 16 → a * b ≤ 2 ^ 48
four_two a b ha hb = grw (bound, le-pred_of_lt ha, le-pred_of_lt hb) (lit≤ tt)

pub four_two_two : (a b c : ℕ) → a < 2 ^ 32 → b < 2 ^ 16 → c < 2 ^ 16 → a * b * c < 2 ^ 64
four_two_two a b c ha hb hc = grw (bound, le-pred_of_lt ha, le-pred_of_lt hb, le-pred_of_lt hc) (lit< tt)

-- an area's biomass times a number of two bytes
pub biomass_two : (a b : ℕ) → a ≤ 10 ^ 10 → b < 2 ^ 16 → a * b < 2 ^ 64
biomass_two a b ha hb = grw (bound, ha, le-pred_of_lt hb) (lit< tt)

-- a number of b bits times one of at most a thousand has ten bits more
pub thousand : (b x k : ℕ) → x < 2 ^ b → k ≤ 1000 → x * k < 2 ^ (b + 10)
thousand b x k hx hk = omega (arith, mul-le-mul (le_of_lt hx) hk, pow-add 2 b 10, pow_pos b)

-- a period is thinner, or it is not
period_one : (b : Bool) → cond b 1 0 ≤ 1
period_one true = lit≤ tt
period_one false = lit≤ tt

pub thinner-below : (r : List ℕ) → thinner_part r ≤ 2
unfolding thinner_part
thinner-below r = omega (arith, period_one (thinner (before r) (after r)), period_one (thinner (ten_year_before r) (ten_year_after r)))

module _ (r : List ℕ) (h : above_limit conversion r ≡ false) where
  fits : (i : ℕ) → i < 15 → get_or r i 0 ≤ (get_or conversion i (field 0 0 0)).limit
  fits i l = limit_of conversion r i (field 0 0 0) l h

  pub period : (area_of r ≤ 1000000) × (before r ≤ 10000)
  period = (fits 1 (lit< tt), fits 2 (lit< tt))

  pub ten_years : (ten_year_area r ≤ 1000000) × (ten_year_before r ≤ 10000)
  ten_years = (fits 10 (lit< tt), fits 11 (lit< tt))

  pub onsites : (onsite r ≤ 1000) × (onsite_oxidised r ≤ 1000) × (onsite_carbon r ≤ 1000)
  onsites = (fits 4 (lit< tt), fits 5 (lit< tt), fits 6 (lit< tt))

  pub offsites : (offsite r ≤ 1000) × (offsite_oxidised r ≤ 1000) × (offsite_carbon r ≤ 1000)
  offsites = (fits 7 (lit< tt), fits 8 (lit< tt), fits 9 (lit< tt))

  pub decays : (decay r ≤ 1000) × (decay_carbon r ≤ 1000)
  decays = (fits 13 (lit< tt), fits 14 (lit< tt))

  -- a difference is no more than what it is taken from
  five : (a b d f o c : ℕ) → a ≤ 1000000 → b ≤ 10000 → f ≤ 1000 → o ≤ 1000 → c ≤ 1000 → a * counted_difference b d * f * o * c ≤ 10 ^ 19
  five a b d f o c ha hb hf ho hc = let m : counted_difference b d ≤ 10000 = omega (arith, counted_le b d) in grw (bound, ha, m, hf, ho, hc) (lit≤ tt)

  pub cleared-below : cleared_part r ≤ 10 ^ 13
  unfolding cleared_part
  cleared-below =
      let m : difference r ≤ 10000 = omega (arith, period, counted_le (before r) (after r)) in
      grw (bound, period.0, m, offsites.0) (lit≤ tt)

  pub onsite-below : onsite_part r ≤ 10 ^ 19
  unfolding onsite_part
  onsite-below = five _ _ (after r) _ _ _ period.0 period.1 onsites.0 onsites.1 onsites.2

  pub offsite-below : offsite_part r ≤ 10 ^ 19
  unfolding offsite_part
  offsite-below = five _ _ (after r) _ _ _ period.0 period.1 offsites.0 offsites.1 offsites.2

  pub decay-below : decay_part r ≤ 10 ^ 19
  unfolding decay_part
  decay-below = five _ _ (ten_year_after r) _ _ _ ten_years.0 ten_years.1 decays.0 (lit≤ tt) decays.1

pub stocks : (r : List ℕ) → above_limit stock r ≡ false → (rate r ≤ 10000) × (stock_amount r ≤ 10000000) × (stock_carbon r ≤ 1000)
stocks r h = (limit_of stock r 2 (field 0 0 0) (lit< tt) h, limit_of stock r 3 (field 0 0 0) (lit< tt) h, limit_of stock r 4 (field 0 0 0) (lit< tt) h)

pub stock-below : (r : List ℕ) → above_limit stock r ≡ false → stock_part r ≤ 10 ^ 14
unfolding stock_part
stock-below r h = let w = stocks r h in grw (bound, w.1, w.0, w.2) (lit≤ tt)

pub abandoned-below : (r : List ℕ) → above_limit abandoned r ≡ false → abandoned_part r ≤ 2 * 10 ^ 14
unfolding abandoned_part
abandoned-below r h = grw (bound, fits 1 (lit< tt), fits 2 (lit< tt), fits 3 (lit< tt), fits 4 (lit< tt), fits 5 (lit< tt), fits 6 (lit< tt)) (lit≤ tt)
  where
    fits : (i : ℕ) → i < 7 → get_or r i 0 ≤ (get_or abandoned i (field 0 0 0)).limit
    fits i l = limit_of abandoned r i (field 0 0 0) l h

pub harvests : (r : List ℕ) → above_limit harvest r ≡ false
    → (commercial r ≤ 10000000) × (tonnes_per_m3 r ≤ 10000) × (fuelwood r ≤ 10000000) × (other_use r ≤ 10000000)
harvests r h = (limit_of harvest r 1 (field 0 0 0) (lit< tt) h, limit_of harvest r 2 (field 0 0 0) (lit< tt) h, limit_of harvest r 3 (field 0 0 0) (lit< tt) h, limit_of harvest r 4 (field 0 0 0) (lit< tt) h)

pub harvest-below : (r : List ℕ) → above_limit harvest r ≡ false → harvest_part r ≤ 10 ^ 12
unfolding harvest_part
harvest-below r h = let w = harvests r h in grw (bound, w.0, w.1, w.2, w.3) (lit≤ tt)
