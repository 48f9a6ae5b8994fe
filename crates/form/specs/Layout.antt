-- "Records, in field order": each kind's fields as one table. Rows, zero bytes, limits and the numbers of a row all come from it.
use Rattle.std.specs.Prelude.{ℕ, ◌+◌, ◌-◌, Bool, false, ◌||◌, List, [], ◌∷◌, length, get_or, drop, ltb}
use Rattle.form.specs.Bytes.{number, stray_in}
pub use Rattle.form.specs.declared.Field.{Field}

-- a field is the struct of src/lib.rt: the zero bytes before it, its width in bytes, and its limit
abbrev pub field : ℕ → ℕ → ℕ → Field
field z w l = record { zeros = z; width = w; limit = l }

abbrev pub Layout : Type 0
Layout = List Field

-- "An id is any 32-bit number, zero included."
abbrev pub id : Field
id = field 0 4 4294967295

-- "0 to 1,000,000; 0.01 kha"
abbrev pub area : Field
area = field 0 4 1000000

-- "0 to 10,000; 0.1 t/ha"
abbrev pub density : Field
density = field 0 2 10000

-- "all fractions 0 to 1,000; 0.001"
abbrev pub fraction : Field
fraction = field 0 2 1000

-- "id 4, area 4, before 2, after 2, on-site fraction 2, its oxidised fraction 2, its carbon fraction 2, the same three for off-site
-- (2 each), ten-year area 4, ten-year before 2, ten-year after 2, decay fraction 2, its carbon fraction 2"
abbrev pub conversion : Layout
conversion =
    id ∷ area ∷ density ∷ density
    ∷ fraction ∷ fraction ∷ fraction
    ∷ fraction ∷ fraction ∷ fraction
    ∷ area ∷ density ∷ density ∷ fraction ∷ fraction
    ∷ []

-- "id 4, unit code 1, zero 1, rate 2, amount 4, carbon fraction 2": unit code 0 or 1, rate 0 to 10,000, amount 0 to 10,000,000
abbrev pub stock : Layout
stock = id ∷ field 0 1 1 ∷ field 1 2 10000 ∷ field 0 4 10000000 ∷ fraction ∷ []

-- "id 4, F 4, G 2, zero 2, I 4, J 4": F, I and J 0 to 10,000,000, G 0 to 10,000
abbrev pub harvest : Layout
harvest = id ∷ field 0 4 10000000 ∷ field 0 2 10000 ∷ field 2 4 10000000 ∷ field 0 4 10000000 ∷ []

-- "zero 4, then the six in the table's order, 2 each": N, CH4, CO, N/C, N2O, NOx, each 0 to 1,000
abbrev pub parameters : Layout
parameters = field 4 2 1000 ∷ fraction ∷ fraction ∷ fraction ∷ fraction ∷ fraction ∷ []

-- §1: "per row the area abandoned for up to twenty years, its growth rate and carbon fraction, then the same three for land abandoned longer, in the
-- units and limits of land stock rows"; "the id in four bytes, then the fields in the order named, four bytes for an area .. and two for anything else"
abbrev pub abandoned : Layout
abandoned = id ∷ field 0 4 10000000 ∷ field 0 2 10000 ∷ fraction ∷ field 0 4 10000000 ∷ field 0 2 10000 ∷ fraction ∷ []

-- §5: "area, density, fraction really burned, live fraction, oxidised and carbon fraction of the live part, the same two of the dead, the row's own N/C, CH4, CO,
-- N2O and NOx"; "fields limited as 01's like fields"
abbrev pub savanna : Layout
savanna =
    id ∷ area ∷ density
    ∷ fraction ∷ fraction
    ∷ fraction ∷ fraction
    ∷ fraction ∷ fraction
    ∷ fraction ∷ fraction ∷ fraction ∷ fraction ∷ fraction
    ∷ []

-- §11: "Land system and soil type are numbers from 0 to 65,535"
abbrev pub type_number : Field
type_number = field 0 2 65535

-- §11: "(0 to 100,000 of 0.001 Mha)"
abbrev pub soil_area : Field
soil_area = field 0 4 100000

-- §11: "(0 to 300 of 0.01; 100 for untouched land)"
abbrev pub soil_factor : Field
soil_factor = field 0 2 300

-- §11: "land system, soil type, area now and twenty years ago .., native soil carbon (0 to 10,000 of 0.1 t/ha), base, tillage and input factors"
abbrev pub soil : Layout
soil =
    id ∷ type_number ∷ type_number
    ∷ soil_area ∷ soil_area
    ∷ field 0 2 10000
    ∷ soil_factor ∷ soil_factor ∷ soil_factor
    ∷ []

-- §14: "residue ratio (0.01, to 1,000)"
abbrev pub residue_ratio_field : Field
residue_ratio_field = field 0 2 1000

-- §14: "carbon fraction (0.0001, to 10,000)"
abbrev pub crop_carbon_field : Field
crop_carbon_field = field 0 2 10000

-- §14: "production (0.1 kt, to 10,000,000), residue ratio .., dry matter, burned and oxidised fractions (0.001), carbon fraction .., N/C and four ratios per crop
-- in §5's order (0.001)"
abbrev pub crop : Layout
crop =
    id ∷ field 0 4 10000000 ∷ residue_ratio_field
    ∷ fraction ∷ fraction ∷ fraction
    ∷ crop_carbon_field
    ∷ fraction ∷ fraction ∷ fraction ∷ fraction ∷ fraction ∷ []

-- "1 conversion, 2 stock, 3 harvest, 4 parameters", 5 abandoned land, 6 savanna, 7 mineral soil, 8 crop residues: the kinds in order, from 1 on. A new kind is a new line.
abbrev pub layouts : List Layout
layouts =
    conversion
    ∷ stock
    ∷ harvest
    ∷ parameters
    ∷ abandoned
    ∷ savanna
    ∷ soil
    ∷ crop
    ∷ []

-- how many kinds there are
unfoldable pub kinds : ℕ
kinds = length layouts

-- "4 parameters": "always one parameter row", which has no id
abbrev pub parameters_kind : ℕ
parameters_kind = 4

-- another number is no kind and has no fields
abbrev pub layout : ℕ → Layout
layout kind = get_or ([] ∷ layouts) kind []

-- field i of a layout; past the last there is none
abbrev pub field_at : Layout → ℕ → Field
field_at l i = get_or l i (field 0 0 0)

-- "15, 5, 5 and 6 numbers of 32 bits", 7 of abandoned land, 14 of savanna, 9 of mineral soil and 12 of crop residues
abbrev pub numbers_of : ℕ → ℕ
numbers_of kind = length (layout kind)

-- "a row is its fields in this order, zeros left out": the row of the record at a place, whose first k bytes are behind us
unfoldable pub row_from : ℕ → Layout → List ℕ → ℕ → List ℕ
row_from k [] s at = []
row_from k (f ∷ l) s at = number f.width s (at + (k + f.zeros)) ∷ row_from (k + f.zeros + f.width) l s at

abbrev pub row_at : Layout → List ℕ → ℕ → List ℕ
row_at l s at = row_from 0 l s at

-- "a non-zero byte where zero is due" in the record at a place: before a field, or after the last up to 40 bytes
unfoldable pub stray_from : ℕ → Layout → List ℕ → ℕ → Bool
stray_from k [] s at = stray_in s (at + k) (40 - k)
stray_from k (f ∷ l) s at = stray_in s (at + k) f.zeros || stray_from (k + f.zeros + f.width) l s at

abbrev pub stray_at : Layout → List ℕ → ℕ → Bool
stray_at l s at = stray_from 0 l s at

-- "a field above its limit", in a row
unfoldable pub above_limit : Layout → List ℕ → Bool
above_limit [] r = false
above_limit (f ∷ l) r = ltb f.limit (get_or r 0 0) || above_limit l (drop 1 r)
