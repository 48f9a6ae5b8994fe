-- Worksheet 5-4, land given up by farmers: the numbers of a row, and the carbon that it takes up as it grows again.
use Rattle.std.specs.Prelude.{ℕ, ◌+◌, ◌*◌, List, get_or}
use Rattle.form.specs.Bytes.{number}
use Rattle.form.specs.Sums.{sum_of}

-- "the area abandoned for up to twenty years, its growth rate and carbon fraction"
abbrev pub young_area : List ℕ → ℕ
young_area r = get_or r 1 0

abbrev pub young_rate : List ℕ → ℕ
young_rate r = get_or r 2 0

abbrev pub young_carbon : List ℕ → ℕ
young_carbon r = get_or r 3 0

-- "then the same three for land abandoned longer"
abbrev pub older_area : List ℕ → ℕ
older_area r = get_or r 4 0

abbrev pub older_rate : List ℕ → ℕ
older_rate r = get_or r 5 0

abbrev pub older_carbon : List ℕ → ℕ
older_carbon r = get_or r 6 0

-- one row's part: "the two products"
unfoldable pub abandoned_part : List ℕ → ℕ
abandoned_part r = young_area r * young_rate r * young_carbon r + older_area r * older_rate r * older_carbon r

-- "Uptake is the sum of the two products over the rows" (10^-7 kt C)
abbrev pub uptake_total : List (List ℕ) → ℕ
uptake_total abandoned = sum_of abandoned_part abandoned

-- as the code reads it: an area, its growth rate and carbon fraction, from a byte on
abbrev pub growth_at : List ℕ → ℕ → ℕ
growth_at s at = number 4 s at * number 2 s (at + 4) * number 2 s (at + 6)
