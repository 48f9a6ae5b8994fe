-- One row's part: the double of five numbers within their limits. Assumes nothing.
--     part-holds    it is the whole number part_value
--     part_off      which is two roundings off the exact product: the first two products are exact
--     part-first    adding it to zero is exact
--     part_mono     larger numbers never give a smaller part
use mathlib.Core.Path.{◌≡◌}
use Prim.Native.Nat.{ℕ, suc, ◌+◌, ◌*◌, ◌≤◌, ◌<◌}
use native.Mathlib.Nat.{le_trans, lt_of_le_of_lt, mul-le-mul}
use lib.Dec.{lit≤, lit<}
use lib.Ieee.{Float}
use Rattle.doubles.specs.Subtotals.{times, part_of}
use Rattle.nearness.proofs.Rounding.{rnd, rnd-small, rnd-first, rnd_mono}
use Rattle.nearness.proofs.Wholes.{Holds, double-holds, mul_holds}
use Rattle.nearness.proofs.Errors.{Off, off_self, off_mul, off_rnd}

pub record Limits (area difference fraction oxidised carbon : ℕ) : Type 0 where
  pub area-fits : area ≤ 1000000
  pub difference-fits : difference ≤ 10000
  pub fraction-fits : fraction ≤ 1000
  pub oxidised_fits : oxidised ≤ 1000
  pub carbon-fits : carbon ≤ 1000

unfoldable pub part_value : ℕ → ℕ → ℕ → ℕ → ℕ → ℕ
part_value a d f o c = rnd (rnd (rnd (rnd (a * d) * f) * o) * c)

pub part-first : (a d f o c : ℕ) → rnd (0 + part_value a d f o c) ≡ part_value a d f o c
unfolding part_value
part-first a d f o c = rnd-first (rnd (rnd (rnd (a * d) * f) * o) * c)

times-holds : {i : ℕ} {x : Float} {n : ℕ} (c : ℕ) → i + 32 < 1023 → c ≤ 10000 → Holds i x n → Holds (suc (i + 32)) (times x c) (rnd (n * c))
times-holds c l h s = mul_holds l s (double-holds c (le_trans h (lit≤ tt)))

module _ (a d f o c : ℕ) (l : Limits a d f o c) where
  pub part-holds : Holds 164 (part_of a d f o c) (part_value a d f o c)
  unfolding part_value
  part-holds =
      times-holds c (lit< tt) (le_trans l.carbon-fits (lit≤ tt))
      (times-holds o (lit< tt) (le_trans l.oxidised_fits (lit≤ tt))
      (times-holds f (lit< tt) (le_trans l.fraction-fits (lit≤ tt))
      (times-holds d (lit< tt) l.difference-fits
      (double-holds a (le_trans l.area-fits (lit≤ tt))))))

  pub part_off : Off 2 (part_value a d f o c) (a * d * f * o * c)
  unfolding part_value
  part_off =
      let two : a * d ≤ 10000000000 = mul-le-mul l.area-fits l.difference-fits in
      let three : a * d * f ≤ 10000000000000 = mul-le-mul two l.fraction-fits in
      rw (rnd-small (a * d) (lt_of_le_of_lt two (lit< tt)), rnd-small (a * d * f) (lt_of_le_of_lt three (lit< tt)))
      (off_rnd (lit≤ tt) (off_mul c (off_rnd (lit≤ tt) (off_self 0 (a * d * f * o)))))

pub part_mono : {a d f o c a' d' f' o' c' : ℕ} → a ≤ a' → d ≤ d' → f ≤ f' → o ≤ o' → c ≤ c' → part_value a d f o c ≤ part_value a' d' f' o' c'
unfolding part_value
part_mono A D F O C = rnd_mono (mul-le-mul (rnd_mono (mul-le-mul (rnd_mono (mul-le-mul (rnd_mono (mul-le-mul A D)) F)) O)) C)
