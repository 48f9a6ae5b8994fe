-- How near a double is to an exact number: the bound of the third demand.
use Rattle.std.specs.Prelude.{ℕ, ◌+◌, ◌-◌, ◌*◌, ◌^◌, ◌≤◌, false, Float}
use Rattle.std.specs.Float.Ieee.Exact.{HasValue}

-- the double x is the whole number n: not negative, and n over 1
abbrev pub Whole : Float → ℕ → Type 0
Whole x n = HasValue x false n 1

abbrev pub distance : ℕ → ℕ → ℕ
distance a b = (a - b) + (b - a)

-- "a whole number whose distance from the exact subtotal, times 2 to the 53rd, is at most (n + 2) times the exact subtotal"
pub record Near (n : ℕ) (x : Float) (exact : ℕ) : Type 0 where
  pub value : ℕ
  pub whole : Whole x value
  pub near : distance value exact * 2 ^ 53 ≤ (n + 2) * exact
