-- Worksheet 4-3, savannas that burn in the dry season: the numbers of a row, its carbon, and the sheet.
use Rattle.std.specs.Prelude.{ℕ, ◌+◌, ◌-◌, ◌*◌, List, get_or}
use Rattle.burning.specs.Released.{burned_by}
use Rattle.burning.specs.Gases.{gases_of}
use Rattle.burning.specs.declared.Ratios.{Ratios}
use Rattle.savannas.specs.declared.Savannas.{Savannas}

-- "area, density, fraction really burned, live fraction"
abbrev pub burned_area : List ℕ → ℕ
burned_area r = get_or r 1 0

abbrev pub biomass : List ℕ → ℕ
biomass r = get_or r 2 0

abbrev pub really_burned : List ℕ → ℕ
really_burned r = get_or r 3 0

abbrev pub live : List ℕ → ℕ
live r = get_or r 4 0

-- "oxidised and carbon fraction of the live part, the same two of the dead"
abbrev pub live_oxidised : List ℕ → ℕ
live_oxidised r = get_or r 5 0

abbrev pub live_carbon : List ℕ → ℕ
live_carbon r = get_or r 6 0

abbrev pub dead_oxidised : List ℕ → ℕ
dead_oxidised r = get_or r 7 0

abbrev pub dead_carbon : List ℕ → ℕ
dead_carbon r = get_or r 8 0

-- "the row's own N/C, CH4, CO, N2O and NOx"
abbrev pub nitrogen_ratio : List ℕ → ℕ
nitrogen_ratio r = get_or r 9 0

abbrev pub ch4_ratio : List ℕ → ℕ
ch4_ratio r = get_or r 10 0

abbrev pub co_ratio : List ℕ → ℕ
co_ratio r = get_or r 11 0

abbrev pub n2o_ratio : List ℕ → ℕ
n2o_ratio r = get_or r 12 0

abbrev pub nox_ratio : List ℕ → ℕ
nox_ratio r = get_or r 13 0

-- "The dead fraction is 1,000 less the live one."
abbrev pub dead : List ℕ → ℕ
dead r = 1000 - live r

-- "carbon of both": of what is really burned, live and dead (10^-15 kt C)
unfoldable pub carbon_share : List ℕ → ℕ
carbon_share r = live r * live_oxidised r * live_carbon r + dead r * dead_oxidised r * dead_carbon r

-- what is really burned
abbrev pub burned_mass : List ℕ → ℕ
burned_mass r = burned_area r * biomass r * really_burned r

unfoldable pub carbon_part : List ℕ → ℕ
carbon_part r = burned_mass r * carbon_share r

-- "the row's own" ratios, as burning takes them
abbrev pub ratios_of : List ℕ → Ratios
ratios_of r = record { nc = nitrogen_ratio r; ch4 = ch4_ratio r; co = co_ratio r; n2o = n2o_ratio r; nox = nox_ratio r }

-- "gases as in 5-3, each gas summed exactly over the rows and rounded once"; "There is no net CO2 here." Carbon is in 10^-15 kt, a thousand times finer than in 5-3
unfoldable pub savannas_of : List (List ℕ) → Savannas
savannas_of rows = let t = burned_by carbon_part ratios_of rows in record { carbon = t.carbon; gases = gases_of t 1000 }
