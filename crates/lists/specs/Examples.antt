-- Rulings that the checker computes: the worked day's rows, and lists that are no rows.
use Rattle.std.specs.Prelude.{ℕ, ◌≡◌, refl, List, [], ◌∷◌, ◌++◌, replicate}
use Rattle.form.specs.First.{first, any}
use Rattle.form.specs.Ruling.{ruling}
use Rattle.form.specs.Layout.{kinds, above_limit}
use Rattle.form.specs.Edition.{last_kind}
use Rattle.form.specs.Records.{counted_difference, bad_id, broken_by, rows_below}
use Rattle.form.specs.Sums.{sum_of, harvest_part, cleared_part, area_in, uneven, uneven_below, lowest_uneven, soil_uneven}
use Rattle.form.specs.Refusals.{Clean, Refused, Ruling}
use Rattle.filing.specs.Lists.{cut, total, filed_list, behind, filed_from}
use Rattle.lists.specs.Rules.{bad_list, bad_lengths, not_allowed, list_rules}

-- the rows of 01's worked day, kind by kind
abbrev conversion_day : List ℕ
conversion_day = 7 ∷ 200 ∷ 1000 ∷ 100 ∷ 400 ∷ 900 ∷ 500 ∷ 200 ∷ 900 ∷ 500 ∷ 300 ∷ 1000 ∷ 100 ∷ 300 ∷ 500 ∷ []

abbrev stock_day : List ℕ
stock_day = 1 ∷ 0 ∷ 680 ∷ 1000 ∷ 500 ∷ []

abbrev harvest_day : List ℕ
harvest_day = 1 ∷ 500 ∷ 950 ∷ 300 ∷ 0 ∷ []

abbrev pub parameters_day : List ℕ
parameters_day = 500 ∷ 12 ∷ 60 ∷ 10 ∷ 7 ∷ 121 ∷ []

-- in one area, and the lengths
abbrev pub day_area : List ℕ
day_area = conversion_day ++ (stock_day ++ (harvest_day ++ parameters_day))

abbrev pub day_lengths : List ℕ
day_lengths = 15 ∷ 5 ∷ 5 ∷ 6 ∷ 0 ∷ 0 ∷ 0 ∷ 0 ∷ []

-- the ruling, opened for computing
unfoldable computed : List ℕ → List ℕ → Ruling
unfolding first any ruling kinds above_limit counted_difference bad_id broken_by rows_below sum_of harvest_part cleared_part area_in uneven uneven_below lowest_uneven soil_uneven cut total filed_list behind filed_from last_kind bad_list bad_lengths not_allowed list_rules
computed lengths area = ruling (list_rules 1 lengths area)

day-clean : ruling (list_rules 1 day_lengths day_area) ≡ Clean
unfolding computed
day-clean = refl

-- a length short by one: a number would be dropped
short : ruling (list_rules 1 (15 ∷ 5 ∷ 4 ∷ 6 ∷ 0 ∷ 0 ∷ 0 ∷ 0 ∷ []) day_area) ≡ Refused 10 0
unfolding computed
short = refl

-- three lengths
three : ruling (list_rules 1 (15 ∷ 5 ∷ 11 ∷ []) day_area) ≡ Refused 10 0
unfolding computed
three = refl

-- 33 harvest rows
many : ruling (list_rules 1 (0 ∷ 0 ∷ 165 ∷ 6 ∷ 0 ∷ 0 ∷ 0 ∷ 0 ∷ []) (replicate 165 0 ++ parameters_day)) ≡ Refused 10 3
unfolding computed
many = refl

-- no parameter row
bare : ruling (list_rules 1 (0 ∷ 0 ∷ 0 ∷ 0 ∷ 0 ∷ 0 ∷ 0 ∷ 0 ∷ []) []) ≡ Refused 10 4
unfolding computed
bare = refl

-- a second stock row with the id of the first, behind a block of one conversion row
repeated : ruling (list_rules 1 (15 ∷ 10 ∷ 0 ∷ 6 ∷ 0 ∷ 0 ∷ 0 ∷ 0 ∷ []) (conversion_day ++ (stock_day ++ (stock_day ++ parameters_day)))) ≡ Refused 5 13
unfolding computed
repeated = refl

-- a unit code of 256, wider than its byte
wide : ruling (list_rules 1 (0 ∷ 5 ∷ 0 ∷ 6 ∷ 0 ∷ 0 ∷ 0 ∷ 0 ∷ []) (1 ∷ 256 ∷ 0 ∷ 0 ∷ 0 ∷ parameters_day)) ≡ Refused 6 0
unfolding computed
wide = refl

-- the day without its harvest: what is cleared is above what is used
uncovered : ruling (list_rules 1 (15 ∷ 5 ∷ 0 ∷ 6 ∷ 0 ∷ 0 ∷ 0 ∷ 0 ∷ []) (conversion_day ++ (stock_day ++ parameters_day))) ≡ Refused 12 0
unfolding computed
uncovered = refl

-- a row of abandoned land: in editions 2 and 3, and refused in edition 1 and in one that there is not
abbrev abandoned_day : List ℕ
abandoned_day = parameters_day ++ (1 ∷ 1000 ∷ 680 ∷ 500 ∷ 2000 ∷ 300 ∷ 450 ∷ [])

second : ruling (list_rules 2 (0 ∷ 0 ∷ 0 ∷ 6 ∷ 7 ∷ 0 ∷ 0 ∷ 0 ∷ []) abandoned_day) ≡ Clean
unfolding computed
second = refl

second_only : ruling (list_rules 1 (0 ∷ 0 ∷ 0 ∷ 6 ∷ 7 ∷ 0 ∷ 0 ∷ 0 ∷ []) abandoned_day) ≡ Refused 10 5
unfolding computed
second_only = refl

third : ruling (list_rules 3 (0 ∷ 0 ∷ 0 ∷ 6 ∷ 7 ∷ 0 ∷ 0 ∷ 0 ∷ []) abandoned_day) ≡ Clean
unfolding computed
third = refl

no_fourth : ruling (list_rules 4 (0 ∷ 0 ∷ 0 ∷ 6 ∷ 7 ∷ 0 ∷ 0 ∷ 0 ∷ []) abandoned_day) ≡ Refused 10 0
unfolding computed
no_fourth = refl

-- stock rows, each an id and a unit code, behind a block of one conversion row that spends some fractions
abbrev stock_row : ℕ → ℕ → List ℕ
stock_row i code = i ∷ code ∷ 5 ∷ 100 ∷ 500 ∷ []

spending : ℕ → List ℕ
spending on-site = 7 ∷ 0 ∷ 0 ∷ 0 ∷ on-site ∷ 0 ∷ 0 ∷ 300 ∷ 0 ∷ 0 ∷ 0 ∷ 0 ∷ 0 ∷ 200 ∷ 0 ∷ []

stocks : ℕ → ℕ → ℕ → List ℕ → Ruling
stocks edition on-site n rows = ruling (list_rules edition (15 ∷ n ∷ 0 ∷ 6 ∷ 0 ∷ 0 ∷ 0 ∷ 0 ∷ []) (spending on-site ++ (rows ++ parameters_day)))

-- scattered trees, in the second of two rows: good in editions 1 and 2, and refused at its place in edition 3
trees-first : stocks 1 500 10 (stock_row 1 0 ++ stock_row 2 1) ≡ Clean
unfolding stocks spending computed
trees-first = refl

trees-second : stocks 2 500 10 (stock_row 1 0 ++ stock_row 2 1) ≡ Clean
unfolding stocks spending computed
trees-second = refl

trees-third : stocks 3 500 10 (stock_row 1 0 ++ stock_row 2 1) ≡ Refused 14 13
unfolding stocks spending computed
trees-third = refl

-- "code 2 or above stays 6"
code_2 : stocks 3 500 5 (stock_row 1 2) ≡ Refused 6 12
unfolding stocks spending computed
code_2 = refl

-- 6 is tried over all rows first, though the scattered trees stand at the lower place; and 14 before 7
six-before : stocks 3 500 10 (stock_row 1 1 ++ stock_row 2 2) ≡ Refused 6 13
unfolding stocks spending computed
six-before = refl

before_seven : stocks 3 501 5 (stock_row 1 1) ≡ Refused 14 12
unfolding stocks spending computed
before_seven = refl

-- which edition 2 lets pass, so that 7 is given
seven_second : stocks 2 501 5 (stock_row 1 1) ≡ Refused 7 0
unfolding stocks spending computed
seven_second = refl

-- a row of savanna behind the parameters, likewise
abbrev savanna_day : List ℕ
savanna_day = parameters_day ++ (1 ∷ 500 ∷ 70 ∷ 850 ∷ 450 ∷ 800 ∷ 450 ∷ 1000 ∷ 400 ∷ 6 ∷ 4 ∷ 60 ∷ 7 ∷ 121 ∷ [])

savanna : ruling (list_rules 2 (0 ∷ 0 ∷ 0 ∷ 6 ∷ 0 ∷ 14 ∷ 0 ∷ 0 ∷ []) savanna_day) ≡ Clean
unfolding computed
savanna = refl

savanna_only : ruling (list_rules 1 (0 ∷ 0 ∷ 0 ∷ 6 ∷ 0 ∷ 14 ∷ 0 ∷ 0 ∷ []) savanna_day) ≡ Refused 10 6
unfolding computed
savanna_only = refl

-- a row of mineral soil: its id, its soil type, its area now and twenty years ago
abbrev soil_row : ℕ → ℕ → ℕ → ℕ → List ℕ
soil_row i type area before = i ∷ 1 ∷ type ∷ area ∷ before ∷ 700 ∷ 100 ∷ 100 ∷ 100 ∷ []

-- soil rows behind the parameters, by themselves
soils : ℕ → List ℕ → Ruling
soils n rows = ruling (list_rules 2 (0 ∷ 0 ∷ 0 ∷ 6 ∷ 0 ∷ 0 ∷ n ∷ 0 ∷ []) (parameters_day ++ rows))

-- a change of land use: 1 kha of a soil type went from one row to the other, and the sums are the same
changed : soils 18 (soil_row 1 3 9 10 ++ soil_row 2 3 6 5) ≡ Clean
unfolding soils computed
changed = refl

changed_only : ruling (list_rules 1 (0 ∷ 0 ∷ 0 ∷ 6 ∷ 0 ∷ 0 ∷ 18 ∷ 0 ∷ []) (parameters_day ++ (soil_row 1 3 9 10 ++ soil_row 2 3 6 5))) ≡ Refused 10 7
unfolding computed
changed_only = refl

-- a type that is not the first in the return, with a lower one in balance; its first row is the place, though it does not differ by itself
later_type : soils 36 (soil_row 1 3 9 10 ++ (soil_row 2 8 4 4 ++ (soil_row 3 3 6 5 ++ soil_row 4 8 2 3))) ≡ Refused 13 13
unfolding soils computed
later_type = refl

-- two types out of balance: the lower one, later in the return
lower-later : soils 27 (soil_row 1 8 4 5 ++ (soil_row 2 3 1 1 ++ soil_row 3 3 1 2)) ≡ Refused 13 13
unfolding soils computed
lower-later = refl

-- no wood either: 12 comes first
wood-before : ruling (list_rules 2 (15 ∷ 0 ∷ 0 ∷ 6 ∷ 0 ∷ 0 ∷ 9 ∷ 0 ∷ []) (conversion_day ++ (parameters_day ++ soil_row 1 3 9 10))) ≡ Refused 12 0
unfolding computed
wood-before = refl

-- a soil type of 65,536, wider than its two bytes, and the highest there is
wide_type : soils 9 (soil_row 1 65536 5 5) ≡ Refused 6 12
unfolding soils computed
wide_type = refl

highest_type : soils 18 (soil_row 1 0 5 5 ++ soil_row 2 65535 5 6) ≡ Refused 13 13
unfolding soils computed
highest_type = refl

-- a row of crop residues behind the parameters: in editions 2 and 3, and refused in edition 1
abbrev crop_day : List ℕ
crop_day = parameters_day ++ (1 ∷ 10000 ∷ 130 ∷ 850 ∷ 250 ∷ 900 ∷ 4853 ∷ 12 ∷ 5 ∷ 60 ∷ 7 ∷ 121 ∷ [])

crop : ruling (list_rules 2 (0 ∷ 0 ∷ 0 ∷ 6 ∷ 0 ∷ 0 ∷ 0 ∷ 12 ∷ []) crop_day) ≡ Clean
unfolding computed
crop = refl

crop-third : ruling (list_rules 3 (0 ∷ 0 ∷ 0 ∷ 6 ∷ 0 ∷ 0 ∷ 0 ∷ 12 ∷ []) crop_day) ≡ Clean
unfolding computed
crop-third = refl

crop_only : ruling (list_rules 1 (0 ∷ 0 ∷ 0 ∷ 6 ∷ 0 ∷ 0 ∷ 0 ∷ 12 ∷ []) crop_day) ≡ Refused 10 8
unfolding computed
crop_only = refl
