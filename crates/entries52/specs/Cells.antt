-- The table as the code has it: three numbers for each entry, one after the other, and a number that stands for a blank.
use Rattle.std.specs.Prelude.{cond, List, [], ◌∷◌, ℤ, pos, negsuc, eqb, Option, Some, None}
use Rattle.entries52.specs.Table.{Printed}

-- the figures of some entries: area of 1980, area of 1990, rate
abbrev pub cells : List Printed → List (Option ℤ)
cells [] = []
cells (p ∷ ps) = p.area1980 ∷ p.area1990 ∷ p.rate ∷ cells ps

-- a number of the code's array: the least of 32 bits stands for a blank
abbrev pub figure_of : ℤ → Option ℤ
figure_of (pos n) = Some (pos n)
figure_of (negsuc n) = cond (eqb n 2147483647) None (Some (negsuc n))
