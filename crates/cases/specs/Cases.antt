-- "Proved as a single table, under one claim about all of it": 01's cases (a) to (j), eight of edition 2, four of halves, one of a row thinner in both periods, one of the largest savannas, two of wood, three of mineral soils, two of number 13, nine of scattered trees and number 14 one of where every tonne went and three of crop residues, each a whole return with its complete answer, every figure of it.
-- Where the case is about rows, the return is made of them by the definition of writing; where it is about bytes, the bytes stand here. An accepted return of rows is answered from the rows (FromRows), any other from its bytes.
use Rattle.std.specs.Prelude.{ℕ, zero, suc, ◌≡◌, refl, length, replicate, take, drop, ℤ, pos, negsuc, Ok, Err}
use mathlib.Core.List.{List, [], ◌∷◌, ◌++◌, map, flatten}
use Rattle.std.specs.Float.{binary64}
use Rattle.std.specs.Float.Ieee.{add, mul, of_int, to_bits}
use Rattle.form.specs.Bytes.{number, little_endian}
use Rattle.form.specs.Layout.{row_from}
use Rattle.form.specs.Ruling.{ruling}
use Rattle.form.specs.Block.{weighed}
use Rattle.form.specs.Standing.{rows_from}
use Rattle.form.specs.Records.{counted_difference, rows_below}
use Rattle.form.specs.Computed.{computed}
use Rattle.doubles.specs.Answers.{Answer}
use Rattle.form.specs.Refusals.{Clean, Ruling}
use Rattle.filing.specs.Lists.{Lists, cut, total, filed_list, behind, filed_from}
use Rattle.filing.specs.Written.{record_from, in_turn, head_of, sealed, record_on, used_from, body_of, block_of, bytes_of}
use Rattle.lists.specs.Rules.{bad_list, bad_lengths, not_allowed, list_rules}
use Rattle.lists.specs.Examples.{day_lengths, day_area}
use Rattle.rows.specs.Writing.{written}
use Rattle.wide.specs.Numbers.{value, words_of}
use Rattle.wide.specs.Rounding.{even_of, settled}
use Rattle.totals.specs.Abandoned.{abandoned_part}
use Rattle.form.specs.Sums.{sum_of, scattered_part, harvest_part, cleared_part}
use Rattle.totals.specs.Columns.{stock_part, onsite_part, offsite_part, decay_part, thinner_part}
use Rattle.totals.specs.Masses.{dry_matter, carbon, periods}
use Rattle.totals.specs.Sums.{totals_of}
use Rattle.totals.specs.declared.Periods.{Periods}
use Rattle.units.specs.Columns.{net_dry_matter, net_carbon, net_co2, co2}
use Rattle.matter.specs.Matter.{lost_biomass, oxidised_onsite_part, charcoal_onsite_part, oxidised_offsite_part, charcoal_offsite_part, unburned_part, burned_of, matter_of}
use Rattle.matter.specs.declared.Matter.{Matter}
use Rattle.burning.specs.Released.{released_of, burned_by}
use Rattle.burning.specs.Gases.{gas, gases_of}
use Rattle.burning.specs.declared.Gases.{Gases}
use Rattle.savannas.specs.Savannas.{carbon_share, carbon_part, savannas_of}
use Rattle.savannas.specs.declared.Savannas.{Savannas}
use Rattle.soils.specs.Soils.{soil_carbon, stock_now, stock_then, all_stocks, soil_gain, soil_change, soils_of}
use Rattle.soils.specs.declared.Soils.{Soils}
use Rattle.crops.specs.Crops.{residue_carbon, crops_of}
use Rattle.crops.specs.declared.Crops.{Crops}
use Rattle.ledger.specs.Ledger.{entered}
use Rattle.ledger.specs.Derived.{stocks_of, conversion_of}
use Rattle.ledger.specs.declared.Stocks.{Stocks}
use Rattle.ledger.specs.declared.Conversion.{Conversion}
use Rattle.worksheets.specs.Sheets.{standard, parameter_numbers, abandoned_of, stock_rows, figures_of}
use Rattle.worksheets.specs.declared.sheets.Abandoned.{Abandoned}
use Rattle.worksheets.specs.Answers.{Outcome, worked, refusal, outcome_of}
use Rattle.doubles.specs.Subtotals.{onsite_double, offsite_double, decay_double, add_rows, subtotals_of, answer_of}
use Rattle.cases.specs.FromRows.{rows_given}

-- a complete answer: the sheets, or the refusal; and the bits of the three doubles, on site, off site and decayed, or none
pub record Complete : Type 0 where
  pub sheets : Outcome
  pub doubles : List ℕ

abbrev pub bits_of : Answer → List ℕ
bits_of (Ok d) = to_bits binary64 d.onsite ∷ to_bits binary64 d.offsite ∷ to_bits binary64 d.decay ∷ []
bits_of (Err r) = []

-- what is to be answered of any bytes
abbrev pub complete_of : List ℕ → Complete
complete_of s = record { sheets = outcome_of s; doubles = bits_of (answer_of s) }

-- a return and its answer
pub record Case : Type 0 where
  pub bytes : List ℕ
  pub answer : Complete

-- a case as the table has it: rows that are written in an edition, or bytes, and the answer
pub data Entry : Type 0 where
  of_rows : ℕ → Lists → Complete → Entry
  of_bytes : List ℕ → Complete → Entry

abbrev pub case_of : Entry → Case
case_of (of_rows edition l a) = record { bytes = written edition l; answer = a }
case_of (of_bytes s a) = record { bytes = s; answer = a }

abbrev figured : Stocks → Conversion × Periods → Gases → Abandoned → Savannas → Soils → ℕ → Matter → Crops → List ℕ → Complete
figured a b c l v s t m r d = record { sheets = worked (record { stocks = a; conversion = b.0; thinner = b.1; gases = c; abandoned = l; savannas = v; soils = s; scattered = stock_rows t; matter = m; crops = r }); doubles = d }

abbrev pub worked_all : ℕ → Lists → Stocks → Conversion × Periods → Gases → Abandoned → Savannas → Soils → ℕ → Matter → Crops → List ℕ → Entry
worked_all edition rows a b c l v s t m r d = of_rows edition rows (figured a b c l v s t m r d)

-- the lines of 01, in their order, and the thinner periods with 5-2
abbrev pub sheet51 : ℕ → ℕ → ℕ → ℤ → ℤ → ℤ → ℤ → ℤ → Stocks
sheet51 e k l m o p q r = record { e = carbon e; k = dry_matter k; l = dry_matter l; m = net_dry_matter m; o = net_carbon o; p = net_carbon p; q = net_co2 q; report = net_co2 r }

abbrev pub sheet52 : ℕ → ℕ → ℕ → ℕ → ℕ → ℕ → Conversion × Periods
sheet52 n f r d c t = (record { onsite = carbon n; offsite = carbon f; r = carbon r; decay = carbon d; co2 = co2 c }, periods t)

abbrev pub sheet53 : ℕ → ℕ → ℕ → ℕ → Gases
sheet53 h c n x = record { ch4 = gas h; co = gas c; n2o = gas n; nox = gas x }

abbrev pub sheet54 : ℕ → ℕ → Abandoned
sheet54 u c = record { uptake = carbon u; co2 = co2 c }

-- savannas, in the order of their lines
abbrev pub sheet43 : ℕ → ℕ → ℕ → ℕ → ℕ → Savannas
sheet43 b h c n x = record { carbon = carbon b; gases = sheet53 h c n x }

-- mineral soils: soil and soil_change
abbrev pub sheet55 : ℤ → ℤ → Soils
sheet55 g c = record { soil = soil_gain g; change = soil_change c }

-- what became of the cleared biomass, in the order of its lines
abbrev pub masses : ℕ → ℕ → ℕ → ℕ → ℕ → Matter
masses oxidised charcoal oxidisedOff charcoalOff unburned = record { onsite = burned_of oxidised charcoal; offsite = burned_of oxidisedOff charcoalOff; unburned = dry_matter unburned }

-- crop residues, in the order of their lines
abbrev pub sheet44 : ℕ → ℕ → ℕ → ℕ → ℕ → Crops
sheet44 b h c n x = record { carbon = carbon b; gases = sheet53 h c n x }

-- with none of them: no cleared biomass, no savannas, no mineral soils, no crop residues
abbrev none13 : Matter
none13 = masses 0 0 0 0 0

abbrev none43 : Savannas
none43 = sheet43 0 0 0 0 0

abbrev none55 : Soils
none55 = sheet55 (pos 0) (pos 0)

abbrev none44 : Crops
none44 = sheet44 0 0 0 0 0

abbrev pub worked_out : ℕ → Lists → Stocks → Conversion × Periods → Gases → Abandoned → List ℕ → Entry
worked_out edition rows a b c l d = worked_all edition rows a b c l none43 none55 0 none13 none44 d

-- with cleared biomass
abbrev pub worked_cleared : ℕ → Lists → Stocks → Conversion × Periods → Gases → Abandoned → Matter → List ℕ → Entry
worked_cleared edition rows a b c l m d = worked_all edition rows a b c l none43 none55 0 m none44 d

abbrev pub refused : List ℕ → ℕ → ℕ → Entry
refused s n p = of_bytes s (record { sheets = refusal n p; doubles = [] })

abbrev none51 : Stocks
none51 = sheet51 0 0 0 (pos 0) (pos 0) (pos 0) (pos 0) (pos 0)

-- nothing burned or decayed, and so many thinner periods
abbrev thin52 : ℕ → Conversion × Periods
thin52 t = sheet52 0 0 0 0 0 t

abbrev none52 : Conversion × Periods
none52 = thin52 0

abbrev none53 : Gases
none53 = sheet53 0 0 0 0

abbrev none54 : Abandoned
none54 = sheet54 0 0

-- the bits of the double 0, three times
abbrev zeros : List ℕ
zeros = 0 ∷ 0 ∷ 0 ∷ []

-- the lone parameter block of zero values, with a check
abbrev lone : ℕ → List ℕ
lone check = 4 ∷ 1 ∷ 0 ∷ 0 ∷ 1 ∷ 0 ∷ 1 ∷ 0 ∷ replicate 500 0 ++ (check ∷ 0 ∷ 0 ∷ 0 ∷ [])

-- "Parameters: the defaults."
abbrev defaults : List ℕ
defaults = parameter_numbers standard

-- a conversion row with nothing decayed: id, area, densities, then on-site and off-site fractions with what is oxidised and carbon
abbrev row : ℕ → ℕ → ℕ → ℕ → ℕ → List ℕ
row i area before after onsite = i ∷ area ∷ before ∷ after ∷ onsite ∷ 1000 ∷ 1000 ∷ 0 ∷ 0 ∷ 0 ∷ 0 ∷ 0 ∷ 0 ∷ 0 ∷ 0 ∷ []

-- wood cleared and not burned: an area, its difference, and the three fractions
abbrev wood : ℕ → ℕ → ℕ → ℕ → ℕ → List ℕ
wood area difference onsite offsite decay = 1 ∷ area ∷ difference ∷ 0 ∷ onsite ∷ 0 ∷ 0 ∷ offsite ∷ 0 ∷ 0 ∷ 0 ∷ 0 ∷ 0 ∷ decay ∷ 0 ∷ []

-- wood used: F x G
abbrev used : ℕ → List ℕ
used f = 1 ∷ f ∷ 1 ∷ 0 ∷ 0 ∷ []

-- n of the largest on-site rows, with the ids i, i + 1 and so on
unfoldable pub largest : ℕ → ℕ → List ℕ
largest i zero = []
largest i (suc n) = row i 1000000 10000 0 1000 ++ largest (suc i) n

-- conversion rows alone, with harvest rows, and stock rows alone, with the default parameters
abbrev converted : List ℕ → Lists
converted c = c ∷ [] ∷ [] ∷ defaults ∷ [] ∷ [] ∷ [] ∷ [] ∷ []

abbrev cleared : List ℕ → List ℕ → Lists
cleared c h = c ∷ [] ∷ h ∷ defaults ∷ [] ∷ [] ∷ [] ∷ [] ∷ []

abbrev grown : List ℕ → Lists
grown s = [] ∷ s ∷ [] ∷ defaults ∷ [] ∷ [] ∷ [] ∷ [] ∷ []

-- 10 kha growing 6.8 t/ha a year, half of it carbon; and 20 kha, abandoned longer, growing 3 t/ha, 0.45 of it carbon
abbrev land : List ℕ
land = 1 ∷ 1000 ∷ 680 ∷ 500 ∷ 2000 ∷ 300 ∷ 450 ∷ []

-- "grassland of 4.9 t/ha turned to a crop at the workbook's default of 10 t/ha": 500 ha of it, a tenth burned on site and as much off site
abbrev grass : List ℕ
grass = 8 ∷ 50 ∷ 49 ∷ 100 ∷ 100 ∷ 900 ∷ 450 ∷ 100 ∷ 900 ∷ 450 ∷ 0 ∷ 0 ∷ 0 ∷ 0 ∷ 0 ∷ []

-- 5 kha of savanna with 7 t/ha, 0.85 of it really burned: 0.45 of that live, with 0.8 oxidised and 0.45 carbon, and the rest dead, with all of it oxidised and 0.4 carbon; and the row's own ratios
abbrev burning : List ℕ
burning = 1 ∷ 500 ∷ 70 ∷ 850 ∷ 450 ∷ 800 ∷ 450 ∷ 1000 ∷ 400 ∷ 6 ∷ 4 ∷ 60 ∷ 7 ∷ 121 ∷ []

-- n of the largest savanna rows, with the ids i, i + 1 and so on
unfoldable pub largest_fires : ℕ → ℕ → List ℕ
largest_fires i zero = []
largest_fires i (suc n) =
    i ∷ 1000000 ∷ 10000 ∷ 1000 ∷ 500 ∷ 1000 ∷ 1000 ∷ 1000 ∷ 1000 ∷ 1000 ∷ 1000 ∷ 1000 ∷ 1000 ∷ 1000
    ∷ largest_fires (suc i) n

-- one soil type with 60 t/ha: of 5 Mha of forest and 1 Mha of fields, which keep 0.6 x 0.9 x 0.8 of the carbon, 1 Mha of forest became fields
abbrev felled : List ℕ
felled = 1 ∷ 0 ∷ 1 ∷ 4000 ∷ 5000 ∷ 600 ∷ 100 ∷ 100 ∷ 100 ∷ 2 ∷ 1 ∷ 1 ∷ 2000 ∷ 1000 ∷ 600 ∷ 60 ∷ 90 ∷ 80 ∷ []

-- an area with 0.01 t/ha that became bare rock: for each 1,000 ha 10 t of carbon are lost, which is half a tonne a year
abbrev lost : ℕ → List ℕ
lost area = 1 ∷ 0 ∷ 0 ∷ 0 ∷ area ∷ 1 ∷ 100 ∷ 100 ∷ 10 ∷ 2 ∷ 1 ∷ 0 ∷ area ∷ 0 ∷ 0 ∷ 100 ∷ 100 ∷ 100 ∷ []

-- 300,000 scattered trees growing 0.01 kt a thousand, 0.45 of it carbon
abbrev trees : ℕ → List ℕ
trees i = i ∷ 1 ∷ 100 ∷ 300 ∷ 450 ∷ []

-- 1,000 kt of wheat with 1.3 of straw to one of grain, 0.85 of it dry matter, of which a quarter burns in the field: 0.9 of that oxidised, and 0.4853 of it carbon; and the crop's own ratios
abbrev pub wheat : List ℕ
wheat = 1 ∷ 10000 ∷ 130 ∷ 850 ∷ 250 ∷ 900 ∷ 4853 ∷ 12 ∷ 5 ∷ 60 ∷ 7 ∷ 121 ∷ []

-- n of the largest crop rows, with the ids i, i + 1 and so on
unfoldable pub largest_crops : ℕ → ℕ → List ℕ
largest_crops i zero = []
largest_crops i (suc n) =
    i ∷ 10000000 ∷ 1000 ∷ 1000 ∷ 1000 ∷ 1000 ∷ 10000 ∷ 1000 ∷ 1000 ∷ 1000 ∷ 1000 ∷ 1000
    ∷ largest_crops (suc i) n

-- the worked day's rows with a row of grass behind its conversion row and one of scattered trees behind its stock row, a row of abandoned land, one of savanna and those of the felled forest behind all, and then
-- rows of crop residues
abbrev pub with_land : List ℕ → Lists
with_land crops = cut (30 ∷ 10 ∷ 5 ∷ 6 ∷ 7 ∷ 14 ∷ 18 ∷ length crops ∷ []) (take 15 day_area ++ (grass ++ (take 5 (drop 15 day_area) ++ (trees 2 ++ (drop 20 day_area ++ (land ++ (burning ++ (felled ++ crops))))))))

-- edition 2 blocks of these kinds, of n in all, the first being number b, each with one row of zeros
unfoldable pub blocks_from : ℕ → ℕ → List ℕ → List ℕ
blocks_from b n [] = []
blocks_from b n (k ∷ ks) = sealed (head_of 2 k 1 b n ++ replicate 500 0) ++ blocks_from (suc b) n ks

-- thinner before than after in both periods, on areas that would count
abbrev twice_thinner : List ℕ
twice_thinner = 1 ∷ 7 ∷ 49 ∷ 100 ∷ 500 ∷ 900 ∷ 450 ∷ 300 ∷ 900 ∷ 450 ∷ 7 ∷ 0 ∷ 1 ∷ 200 ∷ 450 ∷ []

-- an area burned whole, at a difference of 1 and a fraction of 250, and land that was given up, at a growth of 10 and a carbon fraction of 100
abbrev burned : ℕ → ℕ → Lists
burned area young = row 1 area 1 0 250 ∷ [] ∷ [] ∷ defaults ∷ (1 ∷ young ∷ 10 ∷ 100 ∷ 0 ∷ 0 ∷ 0 ∷ []) ∷ [] ∷ [] ∷ [] ∷ []

abbrev table01 : List Entry
table01 =
    -- (a) "this day"
    worked_cleared 1 (cut day_lengths day_area)
    (sheet51 340000000 775000 36000000 (pos 41500000) (pos 20750000000) (pos 13250000000) (pos 48583) (negsuc 48582))
    (sheet52 32400000000000 16200000000000 48600000000000 40500000000000 326700 0)
    (sheet53 518 4536 4 129)
    none54
    (masses 64800000000 7200000000 32400000000 3600000000 72000000000)
    (4809131602776948736 ∷ 4804628003149578240 ∷ 4810524802404319232 ∷ [])
    -- (b) "the lone parameter block of zero values, check 18: all figures 0"
    ∷ of_bytes (lone 18) (figured none51 none52 none53 none54 none43 none55 0 none13 none44 zeros)
    -- (c) "P = 1,500,000 gives Q = 6": a stock row of 15 x 100 x 10
    ∷ worked_out 1 (grown (1 ∷ 0 ∷ 100 ∷ 15 ∷ 10 ∷ [])) (sheet51 15000 0 0 (pos 0) (pos 0) (pos 1500000) (pos 6) (negsuc 5)) none52 none53 none54 zeros
    -- (d) "P = -1,500,000 gives -6": wood used, 40, above the wood cleared, 10 x 10 x 10, at N 500
    ∷ worked_cleared 1 (cleared (wood 10 10 0 10 0) (used 40)) (sheet51 0 40 1000 (pos 3000) (pos 1500000) (negsuc 1499999) (negsuc 5) (pos 6)) none52 none53 none54
    (masses 0 0 0 1000000 99000000) zeros
    -- (e) "1.5 x 10^9 units of conversion carbon give 6 tonnes": an area of 15, a difference of 100, a fraction of 1, all of it oxidised and carbon
    ∷ worked_cleared 1 (converted (row 1 15 100 0 1)) none51 (sheet52 1500000000 0 1500000000 0 6 0) none53 none54 (masses 1500000 0 0 0 1498500000) (4744078263993761792 ∷ 0 ∷ 0 ∷ [])
    -- (f) "32 largest on-site rows give 3.2 x 10^20"
    ∷ worked_cleared 1 (converted (largest 1 32)) none51
    (sheet52 320000000000000000000 0 320000000000000000000 0 1173333333333 0)
    (sheet53 5120000000 44800000000 35200000 1272228571)
    none54
    (masses 320000000000000000 0 0 0 0)
    (4913806406333840640 ∷ 0 ∷ 0 ∷ [])
    -- (g) "(b) with check 17 is refused 2, place 0"
    ∷ refused (lone 17) 2 0
    -- (h) "fractions 500, 300, 200 pass, and 500, 300, 201 are refused 7": both with wood used, 31, above the wood cleared, 1 x 10 x 300
    ∷ worked_cleared 1 (cleared (wood 1 10 500 300 200) (used 31)) (sheet51 0 31 3000 (pos 100) (pos 50000) (negsuc 49999) (pos 0) (pos 0)) none52 none53 none54
    (masses 0 5000000 0 3000000 2000000) zeros
    ∷ refused (written 1 (cleared (wood 1 10 500 300 201) (used 31))) 7 0
    -- (i) "before 100, after 100 passes with zero", and since "case (i) changes" so does after 101, counted as thinner
    ∷ worked_out 1 (converted (row 1 1 100 100 1000)) none51 none52 none53 none54 zeros
    ∷ worked_out 1 (converted (row 1 1 100 101 1000)) none51 (thin52 1) none53 none54 zeros
    -- (j) "511 bytes are refused 1"
    ∷ refused (replicate 511 0) 1 0
    ∷ []

-- and of edition 2
abbrev table_1 : List Entry
table_1 =
    -- the day in edition 2 with a row of grass, which is thinner in its one period, one of scattered trees, one of abandoned land, 34 + 27 kt C by 11/3, one of savanna, two of soil and one of wheat: (a)'s figures, with 1.35 kt C
    -- more of growth, and
    -- 29,750,000 x (162,000,000 + 220,000,000), which is 60.6, 1,591.03, 0.75 and 27.1 t; and a balanced change of land use, 34.08 t/ha lost on 1 Mha in twenty years; and 120.7 kt of carbon in burned straw, which is 804.4, 16,892.08, 15.93 and 575.6 t
    worked_all 2 (with_land wheat)
    (sheet51 353500000 775000 36000000 (pos 41500000) (pos 20750000000) (pos 14600000000) (pos 53533) (negsuc 53532))
    (sheet52 32400000000000 16200000000000 48600000000000 40500000000000 326700 1)
    (sheet53 518 4536 4 129)
    (sheet54 610000000 223667)
    (sheet43 11364500000000000 61 1591 1 27)
    (sheet55 (negsuc 340799999999) (negsuc 1703999))
    1
    (masses 64800000000 7200000000 32400000000 3600000000 72000000000)
    (sheet44 1206577125000000000 804 16892 16 576)
    (4809131602776948736 ∷ 4804628003149578240 ∷ 4810524802404319232 ∷ [])
    -- the same day without its crop residues: every other figure is the same
    ∷ worked_all 2 (with_land [])
    (sheet51 353500000 775000 36000000 (pos 41500000) (pos 20750000000) (pos 14600000000) (pos 53533) (negsuc 53532))
    (sheet52 32400000000000 16200000000000 48600000000000 40500000000000 326700 1)
    (sheet53 518 4536 4 129)
    (sheet54 610000000 223667)
    (sheet43 11364500000000000 61 1591 1 27)
    (sheet55 (negsuc 340799999999) (negsuc 1703999))
    1
    (masses 64800000000 7200000000 32400000000 3600000000 72000000000)
    none44
    (4809131602776948736 ∷ 4804628003149578240 ∷ 4810524802404319232 ∷ [])
    -- the same rows in edition 1: "3 for .. a kind above 4 in edition 1", at the block of abandoned land
    ∷ refused (written 1 (with_land wheat)) 3 4
    -- edition 2 that ends with a harvest row: "4 .. a last block below kind 4"
    ∷ refused (written 2 ([] ∷ [] ∷ used 30 ∷ [] ∷ [] ∷ [] ∷ [] ∷ [] ∷ [])) 4 0
    -- "kind 4 before a kind below 5", at the block of kind 4; "a kind above 4 with no kind 4 before it"
    ∷ refused (blocks_from 0 2 (4 ∷ 3 ∷ [])) 4 0
    ∷ refused (blocks_from 0 1 (5 ∷ [])) 4 0
    -- a kind that falls, past a kind above 4: at its own block
    ∷ refused (blocks_from 0 3 (4 ∷ 5 ∷ 4 ∷ [])) 4 2
    ∷ refused (blocks_from 0 3 (4 ∷ 5 ∷ 3 ∷ [])) 4 2
    ∷ []

-- and of halves, which go to the even neighbour
abbrev table_2 : List Entry
table_2 =
    -- "P = 4,500,000 then gives 16, not 17"; and below zero
    worked_out 1 (grown (1 ∷ 0 ∷ 100 ∷ 45 ∷ 10 ∷ [])) (sheet51 45000 0 0 (pos 0) (pos 0) (pos 4500000) (pos 16) (negsuc 15)) none52 none53 none54 zeros
    ∷ worked_out 1 (cleared [] (used 90)) (sheet51 0 90 0 (pos 9000) (pos 4500000) (negsuc 4499999) (negsuc 15) (pos 16)) none52 none53 none54 zeros
    -- 0.5 tonnes of CH4 go down to 0, and an uptake of 5.5 up to 6
    ∷ worked_cleared 2 (burned 125 15) none51 (sheet52 31250000000 0 31250000000 0 115 0) (sheet53 0 4 0 0) (sheet54 15000 6) (masses 31250000 0 0 0 93750000) (4763993206503243776 ∷ 0 ∷ 0 ∷ [])
    -- 1.5 tonnes of CH4 go up to 2, and an uptake of 16.5 down to 16
    ∷ worked_cleared 2 (burned 375 45) none51 (sheet52 93750000000 0 93750000000 0 344 0) (sheet53 2 13 0 0) (sheet54 45000 16) (masses 93750000 0 0 0 281250000) (4770952405757984768 ∷ 0 ∷ 0 ∷ [])
    ∷ []

-- a row thinner in both periods counts 2
abbrev table_3 : List Entry
table_3 = worked_out 1 (converted twice_thinner) none51 (thin52 2) none53 none54 zeros ∷ []

-- 32 of the largest savanna rows: 10^22 each, beyond one word
abbrev table_5 : List Entry
table_5 =
    worked_all 2 ([] ∷ [] ∷ [] ∷ defaults ∷ [] ∷ largest_fires 1 32 ∷ [] ∷ [] ∷ []) none51 none52 none53 none54
    (sheet43 320000000000000000000000 426666666667 746666666667 502857142857 1051428571429)
    none55
    0
    none13
    none44
    zeros
    ∷ []

-- wood cleared as much as used passes, and M is 0; one more is refused 12
abbrev table_8 : List Entry
table_8 =
    worked_cleared 1 (cleared (wood 100 1 0 1 0) (used 1)) (sheet51 0 1 100 (pos 0) (pos 0) (pos 0) (pos 0) (pos 0)) none52 none53 none54 (masses 0 0 0 100000 99900000) zeros
    ∷ refused (written 1 (cleared (wood 101 1 0 1 0) (used 1))) 12 0
    ∷ []

-- mineral soils alone
abbrev soil-rows : List ℕ → Lists
soil-rows rows = [] ∷ [] ∷ [] ∷ defaults ∷ [] ∷ [] ∷ rows ∷ [] ∷ []

abbrev soiled : List ℕ → ℤ → ℤ → Entry
soiled rows g c = worked_all 2 (soil-rows rows) none51 none52 none53 none54 none43 (sheet55 g c) 0 none13 none44 zeros

-- below zero too a half of a year's change goes to even: from -2.5 to -2, from -1.5 to -2, and from -0.5 to 0, which has no sign
abbrev table_11 : List Entry
table_11 =
    soiled (lost 5) (negsuc 499999) (negsuc 1)
    ∷ soiled (lost 3) (negsuc 299999) (negsuc 1)
    ∷ soiled (lost 1) (negsuc 99999) (pos 0)
    ∷ []

-- of three stock rows, two are of scattered trees; their carbon counts as that of land does
abbrev table_12 : List Entry
table_12 =
    worked_all 1 (grown (trees 1 ++ ((2 ∷ 0 ∷ 100 ∷ 15 ∷ 10 ∷ []) ++ trees 3)))
    (sheet51 27015000 0 0 (pos 0) (pos 0) (pos 2701500000) (pos 9906) (negsuc 9905)) none52 none53 none54 none43 none55 2 none13 none44 zeros
    ∷ []

-- one patch of a soil type, by its id and its areas now and twenty years ago
abbrev patch : ℕ → ℕ → ℕ → ℕ → List ℕ
patch i type area before = i ∷ 1 ∷ type ∷ area ∷ before ∷ 700 ∷ 100 ∷ 100 ∷ 100 ∷ []

abbrev table_13 : List Entry
table_13 =
    -- 13 at a type that is not the first in the return, and with a lower one in balance; its first row is the place, though that row does not differ by itself
    refused (written 2 (soil-rows (patch 1 3 9 10 ++ (patch 2 8 4 4 ++ (patch 3 3 6 5 ++ patch 4 8 2 3))))) 13 13
    -- two types out of balance: the lower one, later in the return
    ∷ refused (written 2 (soil-rows (patch 1 8 4 5 ++ (patch 2 3 1 1 ++ patch 3 3 1 2)))) 13 13
    ∷ []

-- a stock row by its id and its unit code: 15 of 0.01 kha, or 15,000 trees, as in (c)
abbrev stock_of : ℕ → ℕ → List ℕ
stock_of i code = i ∷ code ∷ 100 ∷ 15 ∷ 10 ∷ []

-- such a row worked out, in an edition: code 1 is one row of scattered trees, and code 0 none
abbrev growing : ℕ → ℕ → Entry
growing edition code =
    worked_all edition (grown (stock_of 1 code)) (sheet51 15000 0 0 (pos 0) (pos 0) (pos 1500000) (pos 6) (negsuc 5)) none52 none53 none54 none43 none55 code none13 none44 zeros

-- "Edition 3 has no unit code 1"
abbrev table_14 : List Entry
table_14 =
    -- scattered trees are worked out in editions 1 and 2, and land in edition 3
    growing 1 1
    ∷ growing 2 1
    ∷ growing 3 0
    -- scattered trees in edition 3, behind a row of land: "place of the record"
    ∷ refused (written 3 (grown (stock_of 1 0 ++ stock_of 2 1))) 14 1
    -- "code 2 or above stays 6"
    ∷ refused (written 3 (grown (stock_of 1 2))) 6 0
    -- 6 is tried over all rows first, though 14's place is lower; and 14 before 7
    ∷ refused (written 3 (grown (stock_of 1 1 ++ stock_of 2 2))) 6 1
    ∷ refused (written 3 (wood 1 10 500 300 201 ∷ stock_of 1 1 ∷ used 31 ∷ defaults ∷ [] ∷ [] ∷ [] ∷ [] ∷ [])) 14 12
    -- "3 lets edition 3 in", and not a fourth
    ∷ refused (written 4 (grown (stock_of 1 0))) 3 0
    ∷ []

-- an area of 3 at a difference of 10, of which 0.5 is burned on site, 0.9 of it to gas, and 0.3 off site, 0.8 of it to gas; and a row that is thinner, of which nothing is left over to account for.
-- No fraction of carbon is given, so that no carbon is worked out: the masses are of dry matter, and of the first period
abbrev parted : List ℕ
parted = 1 ∷ 3 ∷ 20 ∷ 10 ∷ 500 ∷ 900 ∷ 0 ∷ 300 ∷ 800 ∷ 0 ∷ 7 ∷ 9 ∷ 2 ∷ 100 ∷ 0 ∷ 2 ∷ 5 ∷ 49 ∷ 100 ∷ 500 ∷ 900 ∷ 0 ∷ 300 ∷ 800 ∷ 0 ∷ 0 ∷ 0 ∷ 0 ∷ 0 ∷ 0 ∷ []

abbrev table_tonnes : List Entry
table_tonnes =
    worked_cleared 1 (cleared parted (used 90)) (sheet51 0 90 9000 (pos 0) (pos 0) (pos 0) (pos 0) (pos 0)) (thin52 1) none53 none54
    (masses 13500000 1500000 7200000 1800000 6000000) zeros
    ∷ []

-- 32 of the largest crop rows: 10^23 each, beyond one word, and 3.2 x 10^30 of nitrogen by a ratio; two crops, each with its own ratios, in edition 3; kind 8 is not in edition 1
abbrev crop-rows : List ℕ → Lists
crop-rows rows = [] ∷ [] ∷ [] ∷ defaults ∷ [] ∷ [] ∷ [] ∷ rows ∷ []

abbrev table_44 : List Entry
table_44 =
    worked_all 2 (crop-rows (largest_crops 1 32)) none51 none52 none53 none54 none43 none55 0 none13
    (sheet44 3200000000000000000000000 426666666667 746666666667 502857142857 1051428571429)
    zeros
    ∷ worked_all 3 (crop-rows (wheat ++ (2 ∷ 375 ∷ 1 ∷ 1000 ∷ 1000 ∷ 1000 ∷ 10000 ∷ 70 ∷ 3 ∷ 12 ∷ 400 ∷ 400 ∷ []))) none51 none52 none53 none54 none43 none55 0 none13 (sheet44 1210327125000000000 806 16903 32 610) zeros
    ∷ refused (written 1 (crop-rows wheat)) 3 1
    ∷ []

abbrev pub entries : List Entry
entries = table01 ++ (table_1 ++ (table_2 ++ (table_3 ++ (table_5 ++ (table_8 ++ (table_11 ++ (table_12 ++ (table_13 ++ (table_14 ++ (table_tonnes ++ table_44))))))))))

abbrev pub table : List Case
table = map case_of entries

-- what is to be computed of a case, and what it is to be: that no rule refuses the rows, with the answer that they have
abbrev pub works_out : Entry → Ruling × Complete
works_out (of_rows edition l a) = (
  ruling (list_rules edition (map length l) (flatten l)),
  record { sheets = worked (figures_of (rows_given l)); doubles = bits_of (Ok (subtotals_of (rows_given l 1))) },
)
works_out (of_bytes s a) = (Clean, complete_of s)

abbrev pub wanted : Entry → Ruling × Complete
wanted e = (Clean, (case_of e).answer)

-- what is to be answered, and what is written beside it
abbrev pub due_of : Case → Complete
due_of c = complete_of c.bytes

abbrev pub said : Case → Complete
said c = c.answer

-- the table in two parts: a check of all entries at once wants more memory than it has
abbrev pub first_entries : List Entry
first_entries = table01 ++ (table_1 ++ (table_2 ++ (table_3 ++ table_5)))

abbrev pub later_entries : List Entry
later_entries = table_8 ++ (table_11 ++ (table_12 ++ (table_13 ++ (table_14 ++ (table_tonnes ++ table_44)))))

pub first_worked : map works_out first_entries ≡ map wanted first_entries
unfolding to_bits of_int mul add onsite_double offsite_double decay_double add_rows largest largest_fires blocks_from computed cut filed_list behind filed_from little_endian record_from in_turn head_of sealed weighed record_on used_from body_of block_of bytes_of rows_below row_from number even_of settled sum_of scattered_part stock_part harvest_part cleared_part onsite_part offsite_part decay_part counted_difference thinner_part stocks_of conversion_of gases_of abandoned_of abandoned_part savannas_of rows_from flatten total bad_list bad_lengths not_allowed list_rules carbon_share carbon_part value words_of totals_of entered released_of burned_by soil_carbon stock_now stock_then all_stocks soils_of lost_biomass oxidised_onsite_part charcoal_onsite_part oxidised_offsite_part charcoal_offsite_part unburned_part matter_of largest_crops residue_carbon crops_of
first_worked = refl

pub later_worked : map works_out later_entries ≡ map wanted later_entries
unfolding to_bits of_int mul add onsite_double offsite_double decay_double add_rows largest largest_fires blocks_from computed cut filed_list behind filed_from little_endian record_from in_turn head_of sealed weighed record_on used_from body_of block_of bytes_of rows_below row_from number even_of settled sum_of scattered_part stock_part harvest_part cleared_part onsite_part offsite_part decay_part counted_difference thinner_part stocks_of conversion_of gases_of abandoned_of abandoned_part savannas_of rows_from flatten total bad_list bad_lengths not_allowed list_rules carbon_share carbon_part value words_of totals_of entered released_of burned_by soil_carbon stock_now stock_then all_stocks soils_of lost_biomass oxidised_onsite_part charcoal_onsite_part oxidised_offsite_part charcoal_offsite_part unburned_part matter_of largest_crops residue_carbon crops_of
later_worked = refl
