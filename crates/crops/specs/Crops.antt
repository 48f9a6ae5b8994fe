-- Worksheet 4-4, crop residues that burn in the field: the numbers of a row, its carbon, and the sheet.
use Rattle.std.specs.Prelude.{ℕ, ◌*◌, List, get_or}
use Rattle.burning.specs.Released.{burned_by}
use Rattle.burning.specs.Gases.{gases_of}
use Rattle.burning.specs.declared.Ratios.{Ratios}
use Rattle.crops.specs.declared.Crops.{Crops}

-- "production (0.1 kt ..), residue ratio (0.01 ..), dry matter, burned and oxidised fractions (0.001), carbon fraction (0.0001 ..)"
abbrev pub production : List ℕ → ℕ
production r = get_or r 1 0

abbrev pub residue_ratio : List ℕ → ℕ
residue_ratio r = get_or r 2 0

abbrev pub dry_fraction : List ℕ → ℕ
dry_fraction r = get_or r 3 0

abbrev pub burned_fraction : List ℕ → ℕ
burned_fraction r = get_or r 4 0

abbrev pub oxidised_fraction : List ℕ → ℕ
oxidised_fraction r = get_or r 5 0

abbrev pub carbon_fraction : List ℕ → ℕ
carbon_fraction r = get_or r 6 0

-- "N/C and four ratios per crop in §5's order (0.001)": CH4, CO, N2O and NOx
abbrev pub crop_nitrogen : List ℕ → ℕ
crop_nitrogen r = get_or r 7 0

abbrev pub crop_ch4 : List ℕ → ℕ
crop_ch4 r = get_or r 8 0

abbrev pub crop_co : List ℕ → ℕ
crop_co r = get_or r 9 0

abbrev pub crop_n2o : List ℕ → ℕ
crop_n2o r = get_or r 10 0

abbrev pub crop_nox : List ℕ → ℕ
crop_nox r = get_or r 11 0

-- the dry matter of the residues that burn in the field (10^-9 kt)
abbrev pub burned_residue : List ℕ → ℕ
burned_residue r = production r * residue_ratio r * dry_fraction r * burned_fraction r

-- and how much of it is carbon that oxidises (10^-7)
abbrev pub residue_share : List ℕ → ℕ
residue_share r = oxidised_fraction r * carbon_fraction r

-- the carbon of a row (10^-16 kt C)
unfoldable pub residue_carbon : List ℕ → ℕ
residue_carbon r = burned_residue r * residue_share r

-- "per crop": the row's own ratios, as burning takes them
abbrev pub crop_ratios : List ℕ → Ratios
crop_ratios r = record { nc = crop_nitrogen r; ch4 = crop_ch4 r; co = crop_co r; n2o = crop_n2o r; nox = crop_nox r }

-- "Gases only, as in 5-3, each summed exactly over the rows and rounded once; residues are no net CO2." Carbon is in 10^-16 kt, ten thousand times finer than in 5-3
unfoldable pub crops_of : List (List ℕ) → Crops
crops_of rows = let t = burned_by residue_carbon crop_ratios rows in record { carbon = t.carbon; gases = gases_of t 10000 }
