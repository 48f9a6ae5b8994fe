-- The difference of a period, as it counts. Assumes nothing.
use Prim.Native.Nat.{ℕ, ◌-◌, ◌<◌, ◌≤◌}
use mathlib.Core.Path.{◌≡◌}
use native.Mathlib.Decide.{dec_lt}
use native.Mathlib.Omega.{arith}
use borrow.Author.Tests.{lt-ltb, le-ltb}
use Rattle.form.specs.Records.{counted_difference}

module _ (b a : ℕ) where
  pub thinner_none : b < a → counted_difference b a ≡ 0
  unfolding counted_difference
  thinner_none h = rw (lt-ltb b a h)

  pub plain : a ≤ b → counted_difference b a ≡ b - a
  unfolding counted_difference
  plain h = rw (le-ltb b a h)

  -- no more than what it is taken from
  pub counted_le : counted_difference b a ≤ b
  counted_le = by (dec_lt b a)
    where
      by : Dec (b < a) → counted_difference b a ≤ b
      by (yes h) = omega (arith, thinner_none h)
      by (no h) = omega (arith, plain (omega arith))

-- more before and less after lose no less
pub counted_mono : {b a b' a' : ℕ} → b ≤ b' → a' ≤ a → counted_difference b a ≤ counted_difference b' a'
counted_mono {b} {a} {b'} {a'} h l = by (dec_lt b a)
  where
    by : Dec (b < a) → counted_difference b a ≤ counted_difference b' a'
    by (yes t) = omega (arith, thinner_none b a t)
    by (no t) = omega (arith, plain b a (omega arith), plain b' a' (omega arith))
