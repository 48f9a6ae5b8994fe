-- A soil row that is not above its limits, number by number, and how large its parts are. Assumes nothing.
use Prim.Native.Nat.{ℕ, ◌+◌, ◌*◌, ◌^◌, ◌<◌, ◌≤◌}
use mathlib.Core.Path.{◌≡◌}
use mathlib.Core.Bool.{false}
use mathlib.Core.List.{List}
use native.Mathlib.Numerals.{bound}
use lib.ListN.{get_or}
use lib.Dec.{lit<, lit≤}
use Rattle.form.specs.Bytes.{number}
use Rattle.form.specs.Layout.{field, soil, row_from, row_at, above_limit}
use Rattle.form.specs.Sums.{area_now, area_then}
use Rattle.standing.proofs.Accepted.{limit_of}
use Rattle.soils.specs.Soils.{native_carbon, base_factor, tillage_factor, input_factor, soil_carbon, stock_now, stock_then}

-- native carbon by two factors, and by all three
pub by_two : (n b t : ℕ) → n ≤ 10000 → b ≤ 300 → t ≤ 300 → n * b * t ≤ 9 * 10 ^ 8
by_two n b t hn hb ht = grw (bound, hn, hb, ht) (lit≤ tt)

pub by_three : (n b t i : ℕ) → n ≤ 10000 → b ≤ 300 → t ≤ 300 → i ≤ 300 → n * b * t * i ≤ 27 * 10 ^ 10
by_three n b t i hn hb ht hi = grw (bound, hn, hb, ht, hi) (lit≤ tt)

module _ (r : List ℕ) (h : above_limit soil r ≡ false) where
  fits : (i : ℕ) → i < 9 → get_or r i 0 ≤ (get_or soil i (field 0 0 0)).limit
  fits i l = limit_of soil r i (field 0 0 0) l h

  pub areas : (area_now r ≤ 100000) × (area_then r ≤ 100000)
  areas = (fits 3 (lit< tt), fits 4 (lit< tt))

  pub factors : (native_carbon r ≤ 10000) × (base_factor r ≤ 300) × (tillage_factor r ≤ 300) × (input_factor r ≤ 300)
  factors = (fits 5 (lit< tt), fits 6 (lit< tt), fits 7 (lit< tt), fits 8 (lit< tt))

  pub carbon-below : soil_carbon r ≤ 27 * 10 ^ 10
  unfolding soil_carbon
  carbon-below = let w = factors in by_three _ _ _ _ w.0 w.1 w.2 w.3

  -- a stock is at most 2.7 x 10^16
  pub now-below : stock_now r ≤ 27 * 10 ^ 15
  unfolding stock_now
  now-below = grw (bound, carbon-below, areas.0) (lit≤ tt)

  pub then_below : stock_then r ≤ 27 * 10 ^ 15
  unfolding stock_then
  then_below = grw (bound, carbon-below, areas.1) (lit≤ tt)

-- where the code reads them
abbrev pub FactorsAt : List ℕ → ℕ → Type 0
FactorsAt s at = (number 2 s (at + 16) ≤ 10000) × (number 2 s (at + 18) ≤ 300) × (number 2 s (at + 20) ≤ 300) × (number 2 s (at + 22) ≤ 300)

module _ (s : List ℕ) (at : ℕ) (h : above_limit soil (row_at soil s at) ≡ false) where
  pub areas_at : (number 4 s (at + 8) ≤ 100000) × (number 4 s (at + 12) ≤ 100000)
  unfolding row_from
  areas_at = areas (row_at soil s at) h

  pub factors_at : FactorsAt s at
  unfolding row_from
  factors_at = factors (row_at soil s at) h
