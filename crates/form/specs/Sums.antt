-- What rows add up to, and the rules that are about it: stated once over filed records, so that they are the same of bytes and of rows to be written.
use Rattle.std.specs.Prelude.{ℕ, ◌+◌, ◌*◌, Bool, cond, not, ◌&&◌, List, [], ◌∷◌, ◌++◌, length, get_or, ltb, eqb}
use Rattle.form.specs.First.{any}
use Rattle.form.specs.Ruling.{Rule, rule}
use Rattle.form.specs.Records.{Filed, filed_rows, record_rules, is_scattered, area_of, difference, offsite}

-- a figure of each row, added up over the rows
unfoldable pub sum_of : (List ℕ → ℕ) → List (List ℕ) → ℕ
sum_of f [] = 0
sum_of f (r ∷ rs) = f r + sum_of f rs

-- 1 for a row of scattered trees, and 0 for one of land
unfoldable pub scattered_part : List ℕ → ℕ
scattered_part r = cond (is_scattered r) 1 0

-- "how many such rows there were": of the stock rows, those of scattered trees
abbrev pub scattered_in : List (List ℕ) → ℕ
scattered_in stock = sum_of scattered_part stock

-- the numbers of a harvest row: id, F commercial harvest, G tonnes per m3, I fuelwood, J other use
abbrev pub commercial : List ℕ → ℕ
commercial r = get_or r 1 0

abbrev pub tonnes_per_m3 : List ℕ → ℕ
tonnes_per_m3 r = get_or r 2 0

abbrev pub fuelwood : List ℕ → ℕ
fuelwood r = get_or r 3 0

abbrev pub other_use : List ℕ → ℕ
other_use r = get_or r 4 0

-- one row's part in a column
unfoldable pub harvest_part : List ℕ → ℕ
harvest_part r = commercial r * tonnes_per_m3 r + 1000 * (fuelwood r + other_use r)

unfoldable pub cleared_part : List ℕ → ℕ
cleared_part r = area_of r * difference r * offsite r

-- 5-1: "K = sum of F x G + 1,000 x (I + J) (10^-4 kt)", of the harvest rows
abbrev pub column_k : List (List ℕ) → ℕ
column_k harvest = sum_of harvest_part harvest

-- 5-1: "L = sum over conversion rows of area x (before - after) x off-site fraction (10^-6 kt)", with the difference that counts
abbrev pub column_l : List (List ℕ) → ℕ
column_l conversion = sum_of cleared_part conversion

-- 12: "when L is above 100K", of the harvest rows' K and the conversion rows' L; "equality still good"
abbrev pub cleared_above : List (List ℕ) → List (List ℕ) → Bool
cleared_above harvest conversion = ltb (100 * column_k harvest) (column_l conversion)

-- the numbers of a soil row that 13 is about: its soil type, "area now and twenty years ago"
abbrev pub soil_type : List ℕ → ℕ
soil_type r = get_or r 2 0

abbrev pub area_now : List ℕ → ℕ
area_now r = get_or r 3 0

abbrev pub area_then : List ℕ → ℕ
area_then r = get_or r 4 0

-- a row's area in the sum of a soil type: none, where the row is of another type
unfoldable pub area_in : ℕ → (List ℕ → ℕ) → List ℕ → ℕ
area_in type area r = cond (eqb (soil_type r) type) (area r) 0

-- the "two area sums" of a soil type, over the soil rows
abbrev pub sum_now : List (List ℕ) → ℕ → ℕ
sum_now soils type = sum_of (area_in type area_now) soils

abbrev pub sum_then : List (List ℕ) → ℕ → ℕ
sum_then soils type = sum_of (area_in type area_then) soils

-- a soil type "whose two area sums differ"
unfoldable pub uneven : List (List ℕ) → ℕ → Bool
uneven soils type = not (eqb (sum_now soils type) (sum_then soils type))

-- the soil type of row i
abbrev pub type_of : List (List ℕ) → ℕ → ℕ
type_of soils i = soil_type (get_or soils i [])

-- some row is of a lower type that is so. A type that no row has adds up to nothing, twice, so it is none of them (areas/proofs/Balanced)
unfoldable pub uneven_below : List (List ℕ) → ℕ → Bool
uneven_below soils type = any (λ i. ltb (type_of soils i) type && uneven soils (type_of soils i)) (length soils)

-- "the lowest soil type whose two area sums differ"
unfoldable pub lowest_uneven : List (List ℕ) → ℕ → Bool
lowest_uneven soils type = uneven soils type && not (uneven_below soils type)

-- 13 at a place: it has a row of that type, so that the lowest such place is the "place of the first row of the lowest soil type whose two area sums differ"
unfoldable pub soil_uneven : Filed → ℕ → Bool
soil_uneven f j = f.used j && (eqb (f.kind j) 7 && lowest_uneven (filed_rows f 7) (soil_type (f.row j)))

-- the rules that add rows up, in the paper's order: 12, "place 0", and 13, "straight after 12". A new one is a new line, over the rows of a kind, `filed_rows f`.
abbrev pub sum_rules : Filed → List Rule
sum_rules f =
    rule 12 1 (λ p. cleared_above (filed_rows f 3) (filed_rows f 1))
    ∷ rule 13 f.places (soil_uneven f)
    ∷ []

-- all rules of filed records: those of a record by itself, then those that add rows up
abbrev pub filed_rules : ℕ → Filed → List Rule
filed_rules edition f = record_rules edition f ++ sum_rules f
