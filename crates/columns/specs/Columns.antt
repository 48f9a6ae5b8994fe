-- The columns of a row as text: "Write this table once, in data, beside the layouts". What each kind's fields are measured in and how many decimals they have, in the
-- order of `layouts`; and the kinds by their names. Assumes nothing.
use Rattle.std.specs.Prelude.{ℕ, suc, ◌≡◌, refl, Bool, cond, ◌&&◌, List, [], ◌∷◌, map, length, get_or, eqb, zero, Option, Some, None}
use Rattle.form.specs.Layout.{Layout, layouts}
use Rattle.phrases.specs.Ascii.{codes}
use Rattle.cells.specs.Cells.{same_word}
use Rattle.naming.specs.Names.{kind_names}

-- what a field is measured in, in ASCII (nothing, for a number without a unit), and "at most as many decimals as its unit has"
pub record Column : Type 0 where
  pub unit : List ℕ
  pub decimals : ℕ

abbrev pub column : List ℕ → ℕ → Column
column u d = record { unit = u; decimals = d }

-- "ids, land system, soil type 0"
abbrev pub plain : Column
plain = column [] 0

-- "area in kha 2 (soil areas in Mha 3)"
abbrev pub kha : Column
kha = column (codes "kha") 2

abbrev pub soil_mha : Column
soil_mha = column (codes "Mha") 3

-- "densities and native carbon in t/ha 1"
abbrev pub density : Column
density = column (codes "t/ha") 1

-- "fractions and ratios 3 (crop carbon 4, residue ratio 2, soil factors 2)"
abbrev pub ratio : Column
ratio = column [] 3

abbrev pub crop_carbon : Column
crop_carbon = column [] 4

abbrev pub hundredths : Column
hundredths = column [] 2

-- "growth rate 2"
abbrev pub growth : Column
growth = column (codes "t/ha") 2

-- "F in thousand m3, I, J and production in kt 1; G 3"
abbrev pub thousand_m3 : Column
thousand_m3 = column (codes "1000 m3") 1

abbrev pub kt : Column
kt = column (codes "kt") 1

abbrev pub per_m3 : Column
per_m3 = column (codes "t/m3") 3

-- "A stock row's unit is the word `land` or `trees`; for trees the rate has 4 decimals (kt per thousand trees) and the amount none (thousand trees)": by the unit
-- code, 0 for land and 1 for trees
abbrev pub land_or_trees : Column
land_or_trees = column (codes "land or trees") 0

abbrev pub rate : ℕ → Column
rate unit = column (codes "t/ha or kt per 1000 trees") (cond (eqb unit 1) 4 2)

abbrev pub amount : ℕ → Column
amount unit = column (codes "kha or 1000 trees") (cond (eqb unit 1) 0 2)

-- the fields of each kind, in the row's order
abbrev pub conversion : List Column
conversion =
    plain ∷ kha ∷ density ∷ density
    ∷ ratio ∷ ratio ∷ ratio
    ∷ ratio ∷ ratio ∷ ratio
    ∷ kha ∷ density ∷ density ∷ ratio ∷ ratio
    ∷ []

abbrev pub stock : ℕ → List Column
stock unit = plain ∷ land_or_trees ∷ rate unit ∷ amount unit ∷ ratio ∷ []

abbrev pub harvest : List Column
harvest = plain ∷ thousand_m3 ∷ per_m3 ∷ kt ∷ kt ∷ []

abbrev pub parameters : List Column
parameters = ratio ∷ ratio ∷ ratio ∷ ratio ∷ ratio ∷ ratio ∷ []

abbrev pub abandoned : List Column
abandoned = plain ∷ kha ∷ growth ∷ ratio ∷ kha ∷ growth ∷ ratio ∷ []

abbrev pub savanna : List Column
savanna =
    plain ∷ kha ∷ density
    ∷ ratio ∷ ratio
    ∷ ratio ∷ ratio
    ∷ ratio ∷ ratio
    ∷ ratio ∷ ratio ∷ ratio ∷ ratio ∷ ratio
    ∷ []

abbrev pub soil : List Column
soil =
    plain ∷ plain ∷ plain
    ∷ soil_mha ∷ soil_mha
    ∷ density
    ∷ hundredths ∷ hundredths ∷ hundredths
    ∷ []

abbrev pub crop : List Column
crop =
    plain ∷ kt ∷ hundredths
    ∷ ratio ∷ ratio ∷ ratio
    ∷ crop_carbon
    ∷ ratio ∷ ratio ∷ ratio ∷ ratio ∷ ratio
    ∷ []

-- kind by kind, from 1 on; only a stock row's go by its unit. A new kind is a new line.
abbrev pub columns : ℕ → List (List Column)
columns unit =
    conversion
    ∷ stock unit
    ∷ harvest
    ∷ parameters
    ∷ abandoned
    ∷ savanna
    ∷ soil
    ∷ crop
    ∷ []

-- there are as many columns as fields, of every kind
each_has_one : (unit : ℕ) → map (λ (c : List Column). length c) (columns unit) ≡ map (λ (l : Layout). length l) layouts
each_has_one unit = refl

-- the columns of a kind; another number is no kind and has none
abbrev pub columns_of : ℕ → ℕ → List Column
columns_of kind unit = get_or ([] ∷ columns unit) kind []

-- the decimals of field i of a row with a unit
abbrev pub decimals_of : ℕ → ℕ → ℕ → ℕ
decimals_of kind unit i = (get_or (columns_of kind unit) i plain).decimals

-- the one field that is a word: the unit of a stock row
unfoldable pub is_unit : ℕ → ℕ → Bool
is_unit kind i = eqb kind 2 && eqb i 1

-- "the kind's name", "words go by letters, capital or not": the number of the kind that a word names, counted from k on; 0 where it names none
unfoldable pub named_from : ℕ → List (List ℕ) → List ℕ → ℕ
named_from k [] word = 0
named_from k (n ∷ ns) word = cond (same_word n word) k (named_from (suc k) ns word)

abbrev pub kind_named : List ℕ → ℕ
kind_named word = named_from 1 kind_names word

-- as it is told: a kind, or that it is none
abbrev pub kind_or_none : ℕ → Option ℕ
kind_or_none zero = None
kind_or_none (suc k) = Some (suc k)
