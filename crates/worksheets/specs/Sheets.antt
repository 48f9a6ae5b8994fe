-- The figures of a return, sheet by sheet, from its rows: 5-1, 5-2 and where the cleared biomass went from the crate ledger, 4-3 from savannas, 4-4 from crops, 5-5 from soils, 5-3 and 5-4 here, in the unit of 01's "Worksheet rules".
use Rattle.std.specs.Prelude.{ℕ, ◌≤◌, List, [], ◌∷◌, get_or}
use Rattle.form.specs.Layout.{parameters_kind}
use Rattle.form.specs.Sums.{scattered_in}
use Rattle.form.specs.Verdict.{rows}
use Rattle.wide.specs.Numbers.{words_of}
use Rattle.totals.specs.Masses.{carbon, periods}
use Rattle.totals.specs.Columns.{thinner_total}
use Rattle.totals.specs.Abandoned.{uptake_total}
use Rattle.totals.specs.declared.Carbon.{Carbon}
use Rattle.units.specs.Columns.{uptake_co2}
use Rattle.burning.specs.Released.{Thousandths, released_of}
use Rattle.burning.specs.Gases.{gases_of}
use Rattle.burning.specs.declared.Ratios.{Ratios}
use Rattle.burning.specs.declared.Gases.{Gases}
use Rattle.savannas.specs.Savannas.{savannas_of}
use Rattle.soils.specs.Soils.{soils_of}
use Rattle.crops.specs.Crops.{crops_of}
use Rattle.ledger.specs.Ledger.{ledger_of}
use Rattle.ledger.specs.Derived.{stocks_of, conversion_of}
use Rattle.worksheets.specs.declared.sheets.Parameters.{Parameters}
use Rattle.worksheets.specs.declared.sheets.Abandoned.{Abandoned}
use Rattle.worksheets.specs.declared.sheets.StockRows.{StockRows}
use Rattle.worksheets.specs.declared.sheets.Figures.{Figures}

-- N, CH4, CO, N/C, N2O and NOx, by the numbers of a parameter row
abbrev pub parameters_of : List ℕ → Parameters
parameters_of r = record { n = get_or r 0 0; ch4 = get_or r 1 0; co = get_or r 2 0; nc = get_or r 3 0; n2o = get_or r 4 0; nox = get_or r 5 0 }

-- and the numbers of the row, in its order
abbrev pub parameter_numbers : Parameters → List ℕ
parameter_numbers p = p.n ∷ p.ch4 ∷ p.co ∷ p.nc ∷ p.n2o ∷ p.nox ∷ []

-- "The workbook's default ratios stand with the parameter type itself: N 500, CH4 12, CO 60, N/C 10, N2O 7, NOx 121."
abbrev pub standard : Parameters
standard = record { n = 500; ch4 = 12; co = 60; nc = 10; n2o = 7; nox = 121 }

-- all but N are ratios of burning
abbrev pub ratios_in : Parameters → Ratios
ratios_in p = record { nc = p.nc; ch4 = p.ch4; co = p.co; n2o = p.n2o; nox = p.nox }

-- all six "0 to 1,000; 0.001"
pub record Within (p : Parameters) : Type 0 where
  pub n : p.n ≤ 1000
  pub ratios : Thousandths (ratios_in p)

-- a return's rows, by kind
abbrev pub Rows : Type 0
Rows = ℕ → List (List ℕ)

abbrev pub by_kind : List ℕ → Rows
by_kind s kind = rows kind s

-- "always one parameter row"
abbrev pub given : Rows → Parameters
given by = parameters_of (get_or (by parameters_kind) 0 [])

-- 5-3: "from on-site carbon C only, in tonnes, rounded", by the parameters
abbrev pub gases_by : Carbon → Parameters → Gases
gases_by c p = gases_of (released_of c (ratios_in p)) 1

-- 5-4: the uptake, and its CO2
unfoldable pub abandoned_of : Carbon → Abandoned
abandoned_of u = record { uptake = u; co2 = uptake_co2 u }

-- a count of stock rows, from its number
abbrev pub stock_rows : ℕ → StockRows
stock_rows n = record { 0 = words_of n }

-- the figures of rows, sheet by sheet: conversion rows are kind 1, stock rows 2, harvest rows 3, abandoned land 5, savannas 6, mineral soils 7, crop residues 8
abbrev pub figures_of : Rows → Figures
figures_of by =
    let g = ledger_of (by 1) (by 2) (by 3) (given by).n in
    record {
      stocks = stocks_of g;
      conversion = conversion_of g;
      thinner = periods (thinner_total (by 1));
      gases = gases_by g.onsite (given by);
      abandoned = abandoned_of (carbon (uptake_total (by 5)));
      savannas = savannas_of (by 6);
      soils = soils_of (by 7);
      scattered = stock_rows (scattered_in (by 2));
      matter = g.matter;
      crops = crops_of (by 8);
    }
