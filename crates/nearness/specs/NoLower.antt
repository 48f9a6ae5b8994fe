-- Two doubles in their order: as the whole numbers that they are, and as a program compares them.
use Rattle.std.specs.Prelude.{ℕ, ◌≤◌, T, Float}
use Rattle.std.specs.Float.Ieee.{le}
use Rattle.nearness.specs.Near.{Whole}

-- y is no lower than x: each is a whole number, and y's is at least x's; `compared` says the same by IEEE 754's own `<=`, which is C's and Rattle's
pub record NoLower (x y : Float) : Type 0 where
  pub first : ℕ
  pub second : ℕ
  pub first-whole : Whole x first
  pub second-whole : Whole y second
  pub at_least : first ≤ second
  pub compared : T (le x y)
