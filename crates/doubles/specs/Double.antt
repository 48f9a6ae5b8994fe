-- A whole number as a double.
use Rattle.std.specs.Prelude.{ℕ, pos, Float}
use Rattle.std.specs.Float.{binary64}
use Rattle.std.specs.Float.Ieee.{of_int}

-- the double of a number
abbrev pub double : ℕ → Float
double n = of_int binary64 (pos n)
