-- The workbook's columns that are plain sums over rows, each an exact whole number in the unit of 01's "Worksheet rules".
use Rattle.std.specs.Prelude.{ℕ, ◌+◌, ◌*◌, cond, List, get_or}
use Rattle.form.specs.Records.{area_of, before, after, onsite, onsite_oxidised, onsite_carbon, offsite, offsite_oxidised, offsite_carbon, ten_year_area, ten_year_before, ten_year_after, decay, decay_carbon, thinner, difference, ten_year_difference}
use Rattle.form.specs.Sums.{sum_of}

-- the numbers of a stock row: id, unit code, rate, amount, carbon fraction
abbrev pub rate : List ℕ → ℕ
rate r = get_or r 2 0

abbrev pub stock_amount : List ℕ → ℕ
stock_amount r = get_or r 3 0

abbrev pub stock_carbon : List ℕ → ℕ
stock_carbon r = get_or r 4 0

-- one row's part in a column
unfoldable pub stock_part : List ℕ → ℕ
stock_part r = stock_amount r * rate r * stock_carbon r

unfoldable pub onsite_part : List ℕ → ℕ
onsite_part r = area_of r * difference r * onsite r * onsite_oxidised r * onsite_carbon r

unfoldable pub offsite_part : List ℕ → ℕ
offsite_part r = area_of r * difference r * offsite r * offsite_oxidised r * offsite_carbon r

-- "Decay carbon takes the ten-year fields with oxidised 1,000."
unfoldable pub decay_part : List ℕ → ℕ
decay_part r = ten_year_area r * ten_year_difference r * decay r * 1000 * decay_carbon r

-- of the row's two periods, those with "after above before"
unfoldable pub thinner_part : List ℕ → ℕ
thinner_part r = cond (thinner (before r) (after r)) 1 0 + cond (thinner (ten_year_before r) (ten_year_after r)) 1 0

-- 5-1: "E = sum of amount x rate x carbon fraction (10^-7 kt C)", of the stock rows; K and L are form/specs/Sums'
abbrev pub column_e : List (List ℕ) → ℕ
column_e stock = sum_of stock_part stock

-- 5-2: "on-site and off-site carbon = sum of area x (before - after) x fraction x oxidised x carbon fraction (10^-12 kt C)", of the conversion rows, likewise
abbrev pub onsite_total : List (List ℕ) → ℕ
onsite_total conversion = sum_of onsite_part conversion

abbrev pub offsite_total : List (List ℕ) → ℕ
offsite_total conversion = sum_of offsite_part conversion

abbrev pub decay_total : List (List ℕ) → ℕ
decay_total conversion = sum_of decay_part conversion

-- "the number of (row, period) pairs with after above before"
abbrev pub thinner_total : List (List ℕ) → ℕ
thinner_total conversion = sum_of thinner_part conversion
