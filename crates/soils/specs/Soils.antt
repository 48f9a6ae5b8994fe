-- Worksheets 5-5 and 5-5A, mineral soils: the numbers of a row, its soil carbon and its stocks, and the sheet.
use Rattle.std.specs.Prelude.{ℕ, ◌+◌, ◌*◌, ◌^◌, ◌≤◌, List, ℤ, pos, ◌-ℤ◌, get_or}
use Rattle.form.specs.Sums.{sum_of, area_now, area_then}
use Rattle.wide.specs.Signs.{amount, signed_of, nearest_z}
use Rattle.soils.specs.declared.SoilStocks.{SoilStocks}
use Rattle.soils.specs.declared.SoilGain.{SoilGain}
use Rattle.soils.specs.declared.SoilChange.{SoilChange}
use Rattle.soils.specs.declared.Soils.{Soils}

-- the numbers of a row behind its areas, which are form/specs/Sums': "native soil carbon .., base, tillage and input factors"
abbrev pub native_carbon : List ℕ → ℕ
native_carbon r = get_or r 5 0

abbrev pub base_factor : List ℕ → ℕ
base_factor r = get_or r 6 0

abbrev pub tillage_factor : List ℕ → ℕ
tillage_factor r = get_or r 7 0

abbrev pub input_factor : List ℕ → ℕ
input_factor r = get_or r 8 0

-- "Soil carbon is the product of native carbon and the three factors" (10^-7 t/ha)
unfoldable pub soil_carbon : List ℕ → ℕ
soil_carbon r = native_carbon r * base_factor r * tillage_factor r * input_factor r

-- "a stock is that times the area", now and twenty years ago; 10^-7 t/ha times 1,000 ha is 10^-4 t C
unfoldable pub stock_now : List ℕ → ℕ
stock_now r = soil_carbon r * area_now r

unfoldable pub stock_then : List ℕ → ℕ
stock_then r = soil_carbon r * area_then r

-- both, by their numbers: of one row, of two together, of all rows
abbrev pub stocks : ℕ → ℕ → SoilStocks
stocks n t = record { now = record { 0 = n }; then = record { 0 = t } }

abbrev pub row_stocks : List ℕ → SoilStocks
row_stocks r = stocks (stock_now r) (stock_then r)

abbrev pub plus_stocks : SoilStocks → SoilStocks → SoilStocks
plus_stocks a b = stocks (a.now.0 + b.now.0) (a.then.0 + b.then.0)

-- each is at most n
abbrev pub StocksMost : ℕ → SoilStocks → Type 0
StocksMost n t = (t.now.0 ≤ n) × (t.then.0 ≤ n)

unfoldable pub all_stocks : List (List ℕ) → SoilStocks
all_stocks rows = stocks (sum_of stock_now rows) (sum_of stock_then rows)

-- a gain, and a change of one year, by its number: a loss is below zero
abbrev pub soil_gain : ℤ → SoilGain
soil_gain z = record { 0 = signed_of z }

abbrev pub soil_change : ℤ → SoilChange
soil_change z = record { 0 = signed_of z }

-- "the sum of stocks now less that of twenty years ago", "signed, kept exact" (10^-4 t C)
abbrev pub gain_of : SoilStocks → SoilGain
gain_of t = soil_gain (pos t.now.0 -ℤ pos t.then.0)

-- "The yearly change is .. that, over 20, .. rounded once to tonnes of carbon"
abbrev pub change_of : SoilGain → SoilChange
change_of g = soil_change (nearest_z (amount g.0) (20 * 10 ^ 4))

unfoldable pub soils_of : List (List ℕ) → Soils
soils_of rows = let g = gain_of (all_stocks rows) in record { soil = g; change = change_of g }
