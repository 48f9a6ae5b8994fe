-- A crop row that is not above its limits, number by number, and how large its parts are. Assumes nothing.
use Prim.Native.Nat.{ℕ, ◌+◌, ◌*◌, ◌^◌, ◌<◌, ◌≤◌}
use mathlib.Core.Path.{◌≡◌}
use mathlib.Core.Bool.{false}
use mathlib.Core.List.{List}
use native.Mathlib.Nat.{add_assoc}
use native.Mathlib.Numerals.{bound}
use lib.ListN.{get_or}
use lib.Dec.{lit<, lit≤}
use Rattle.form.specs.Bytes.{number}
use Rattle.form.specs.Layout.{field, crop, row_from, row_at, above_limit}
use Rattle.standing.proofs.Accepted.{limit_of}
use Rattle.burning.specs.Released.{Thousandths, ratios_at}
use Rattle.crops.specs.Crops.{production, residue_ratio, dry_fraction, burned_fraction, oxidised_fraction, carbon_fraction, residue_carbon, crop_ratios}

-- the numbers of a row that the code multiplies
pub residues : (a b c d : ℕ) → a ≤ 10000000 → b ≤ 1000 → c ≤ 1000 → d ≤ 1000 → a * b * c * d ≤ 10 ^ 16
residues a b c d ha hb hc hd = grw (bound, ha, hb, hc, hd) (lit≤ tt)

pub shares : (a b : ℕ) → a ≤ 1000 → b ≤ 10000 → a * b ≤ 10 ^ 7
shares a b ha hb = grw (bound, ha, hb) (lit≤ tt)

module _ (r : List ℕ) (h : above_limit crop r ≡ false) where
  fits : (i : ℕ) → i < 12 → get_or r i 0 ≤ (get_or crop i (field 0 0 0)).limit
  fits i l = limit_of crop r i (field 0 0 0) l h

  pub burning : (production r ≤ 10000000) × (residue_ratio r ≤ 1000) × (dry_fraction r ≤ 1000) × (burned_fraction r ≤ 1000)
  burning = (fits 1 (lit< tt), fits 2 (lit< tt), fits 3 (lit< tt), fits 4 (lit< tt))

  pub oxidising : (oxidised_fraction r ≤ 1000) × (carbon_fraction r ≤ 10000)
  oxidising = (fits 5 (lit< tt), fits 6 (lit< tt))

  pub ratios : Thousandths (crop_ratios r)
  ratios = record { nc = fits 7 (lit< tt); ch4 = fits 8 (lit< tt); co = fits 9 (lit< tt); n2o = fits 10 (lit< tt); nox = fits 11 (lit< tt) }

  pub carbon-below : residue_carbon r ≤ 10 ^ 23
  unfolding residue_carbon
  carbon-below = let w = burning in let o = oxidising in grw (bound, w.0, w.1, w.2, w.3, o.0, o.1) (lit≤ tt)

-- its ratios, where the code reads them
pub ratios_there : (s : List ℕ) (at : ℕ) → ratios_at s (at + 18) ≡ crop_ratios (row_at crop s at)
unfolding row_from
ratios_there s at = simp add_assoc

-- where the code reads the others
module _ (s : List ℕ) (at : ℕ) (h : above_limit crop (row_at crop s at) ≡ false) where
  pub burning_at : (number 4 s (at + 4) ≤ 10000000) × (number 2 s (at + 8) ≤ 1000) × (number 2 s (at + 10) ≤ 1000) × (number 2 s (at + 12) ≤ 1000)
  unfolding row_from
  burning_at = burning (row_at crop s at) h

  pub oxidising_at : (number 2 s (at + 14) ≤ 1000) × (number 2 s (at + 16) ≤ 10000)
  unfolding row_from
  oxidising_at = oxidising (row_at crop s at) h
