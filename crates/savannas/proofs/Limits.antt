-- A savanna row that is not above its limits, number by number, and how large its parts are. Assumes nothing.
use Prim.Native.Nat.{ℕ, ◌+◌, ◌*◌, ◌^◌, ◌<◌, ◌≤◌}
use mathlib.Core.Path.{◌≡◌}
use mathlib.Core.Bool.{false}
use mathlib.Core.List.{List}
use native.Mathlib.Omega.{arith}
use native.Mathlib.Nat.{add_assoc}
use native.Mathlib.Numerals.{bound}
use lib.ListN.{get_or}
use lib.Dec.{lit<, lit≤}
use Rattle.form.specs.Bytes.{number}
use Rattle.form.specs.Layout.{field, savanna, row_from, row_at, above_limit}
use Rattle.standing.proofs.Accepted.{limit_of}
use Rattle.burning.specs.Released.{Thousandths, ratios_at}
use Rattle.savannas.specs.Savannas.{burned_area, biomass, really_burned, live, live_oxidised, live_carbon, dead_oxidised, dead_carbon, carbon_share, carbon_part, ratios_of}

-- three numbers of a row that the code multiplies
pub burns : (a b c : ℕ) → a ≤ 1000000 → b ≤ 10000 → c ≤ 1000 → a * b * c ≤ 10 ^ 13
burns a b c ha hb hc = grw (bound, ha, hb, hc) (lit≤ tt)

-- two fractions' carbon
pub shares : (l a b m c d : ℕ) → l ≤ 1000 → a ≤ 1000 → b ≤ 1000 → m ≤ 1000 → c ≤ 1000 → d ≤ 1000 → l * a * b + m * c * d ≤ 2 * 10 ^ 9
shares l a b m c d hl ha hb hm hc hd = grw (bound, hl, ha, hb, hm, hc, hd) (lit≤ tt)

module _ (r : List ℕ) (h : above_limit savanna r ≡ false) where
  fits : (i : ℕ) → i < 14 → get_or r i 0 ≤ (get_or savanna i (field 0 0 0)).limit
  fits i l = limit_of savanna r i (field 0 0 0) l h

  pub burning : (burned_area r ≤ 1000000) × (biomass r ≤ 10000) × (really_burned r ≤ 1000)
  burning = (fits 1 (lit< tt), fits 2 (lit< tt), fits 3 (lit< tt))

  pub living : (live r ≤ 1000) × (live_oxidised r ≤ 1000) × (live_carbon r ≤ 1000) × (dead_oxidised r ≤ 1000) × (dead_carbon r ≤ 1000)
  living = (fits 4 (lit< tt), fits 5 (lit< tt), fits 6 (lit< tt), fits 7 (lit< tt), fits 8 (lit< tt))

  pub ratios : Thousandths (ratios_of r)
  ratios = record { nc = fits 9 (lit< tt); ch4 = fits 10 (lit< tt); co = fits 11 (lit< tt); n2o = fits 12 (lit< tt); nox = fits 13 (lit< tt) }

  pub share_below : carbon_share r ≤ 2 * 10 ^ 9
  unfolding carbon_share
  share_below = let w = living in shares _ _ _ _ _ _ w.0 w.1 w.2 (omega arith) w.3 w.4

  pub carbon-below : carbon_part r ≤ 10 ^ 23
  unfolding carbon_part
  carbon-below = let w = burning in grw (bound, w.0, w.1, w.2, share_below) (lit≤ tt)

-- its ratios, where the code reads them
pub ratios_there : (s : List ℕ) (at : ℕ) → ratios_at s (at + 22) ≡ ratios_of (row_at savanna s at)
unfolding row_from
ratios_there s at = simp add_assoc

-- where the code reads the others
module _ (s : List ℕ) (at : ℕ) (h : above_limit savanna (row_at savanna s at) ≡ false) where
  pub burning_at : (number 4 s (at + 4) ≤ 1000000) × (number 2 s (at + 8) ≤ 10000) × (number 2 s (at + 10) ≤ 1000)
  unfolding row_from
  burning_at = burning (row_at savanna s at) h

  pub living_at : (number 2 s (at + 12) ≤ 1000) × (number 2 s (at + 14) ≤ 1000) × (number 2 s (at + 16) ≤ 1000) × (number 2 s (at + 18) ≤ 1000) × (number 2 s (at + 20) ≤ 1000)
  unfolding row_from
  living_at = living (row_at savanna s at) h
