-- "field_name (in the paper's words, `_` for a space)": the names of each kind's fields, in the row's order, in ASCII; and the names of the kinds.
use Rattle.std.specs.Prelude.{ℕ, ◌≡◌, refl, List, [], ◌∷◌, map, length, get_or}
use Rattle.form.specs.Layout.{Layout, layouts, kinds}
use Rattle.phrases.specs.Ascii.{codes}

-- 01: "id 4, area 4, before 2, after 2, on-site fraction 2, its oxidised fraction 2, its carbon fraction 2, the same three for off-site, ten-year area,
-- ten-year before, ten-year after, decay fraction, its carbon fraction":
abbrev conversion_names : List (List ℕ)
conversion_names =
    codes "id"
    ∷ codes "area"
    ∷ codes "before"
    ∷ codes "after"
    ∷ codes "on-site_fraction"
    ∷ codes "on-site_oxidised_fraction"
    ∷ codes "on-site_carbon_fraction"
    ∷ codes "off-site_fraction"
    ∷ codes "off-site_oxidised_fraction"
    ∷ codes "off-site_carbon_fraction"
    ∷ codes "ten-year_area"
    ∷ codes "ten-year_before"
    ∷ codes "ten-year_after"
    ∷ codes "decay_fraction"
    ∷ codes "decay_carbon_fraction"
    ∷ []

-- 01: "id 4, unit code 1, zero 1, rate 2, amount 4, carbon fraction 2":
abbrev stock_names : List (List ℕ)
stock_names =
    codes "id"
    ∷ codes "unit_code"
    ∷ codes "rate"
    ∷ codes "amount"
    ∷ codes "carbon_fraction"
    ∷ []

-- 01: "id 4, F 4, G 2, zero 2, I 4, J 4":
abbrev harvest_names : List (List ℕ)
harvest_names =
    codes "id"
    ∷ codes "F"
    ∷ codes "G"
    ∷ codes "I"
    ∷ codes "J"
    ∷ []

-- 01: "N, CH4, CO, N/C, N2O, NOx":
abbrev parameters_names : List (List ℕ)
parameters_names =
    codes "N"
    ∷ codes "CH4"
    ∷ codes "CO"
    ∷ codes "N/C"
    ∷ codes "N2O"
    ∷ codes "NOx"
    ∷ []

-- §1: "the area abandoned for up to twenty years, its growth rate and carbon fraction, then the same three for land abandoned longer":
abbrev abandoned_names : List (List ℕ)
abandoned_names =
    codes "id"
    ∷ codes "area"
    ∷ codes "growth_rate"
    ∷ codes "carbon_fraction"
    ∷ codes "longer_area"
    ∷ codes "longer_growth_rate"
    ∷ codes "longer_carbon_fraction"
    ∷ []

-- §5: "area, density, fraction really burned, live fraction, oxidised and carbon fraction of the live part, the same two of the dead, the row's own N/C, CH4,
-- CO, N2O and NOx":
abbrev savanna_names : List (List ℕ)
savanna_names =
    codes "id"
    ∷ codes "area"
    ∷ codes "density"
    ∷ codes "fraction_really_burned"
    ∷ codes "live_fraction"
    ∷ codes "live_oxidised_fraction"
    ∷ codes "live_carbon_fraction"
    ∷ codes "dead_oxidised_fraction"
    ∷ codes "dead_carbon_fraction"
    ∷ codes "N/C"
    ∷ codes "CH4"
    ∷ codes "CO"
    ∷ codes "N2O"
    ∷ codes "NOx"
    ∷ []

-- §11: "land system, soil type, area now and twenty years ago .., native soil carbon .., base, tillage and input factors":
abbrev soil_names : List (List ℕ)
soil_names =
    codes "id"
    ∷ codes "land_system"
    ∷ codes "soil_type"
    ∷ codes "area_now"
    ∷ codes "area_then"
    ∷ codes "native"
    ∷ codes "base"
    ∷ codes "tillage"
    ∷ codes "input"
    ∷ []

-- §14: "production .., residue ratio .., dry matter, burned and oxidised fractions .., carbon fraction .., N/C and four ratios per crop in §5's order":
abbrev crop_names : List (List ℕ)
crop_names =
    codes "id"
    ∷ codes "production"
    ∷ codes "residue_ratio"
    ∷ codes "dry_matter"
    ∷ codes "burned_fraction"
    ∷ codes "oxidised_fraction"
    ∷ codes "carbon_fraction"
    ∷ codes "N/C"
    ∷ codes "CH4"
    ∷ codes "CO"
    ∷ codes "N2O"
    ∷ codes "NOx"
    ∷ []

-- kind by kind, from 1 on. A new kind is a new line.
abbrev pub field_names : List (List (List ℕ))
field_names = conversion_names ∷ stock_names ∷ harvest_names ∷ parameters_names ∷ abandoned_names ∷ savanna_names ∷ soil_names ∷ crop_names ∷ []

-- the names of a kind's fields, and that of field i; another number is no kind, and past the last there is no name
abbrev pub names_of : ℕ → List (List ℕ)
names_of kind = get_or ([] ∷ field_names) kind []

abbrev pub field_name : ℕ → ℕ → List ℕ
field_name kind i = get_or (names_of kind) i []

-- there are as many names as fields, of every kind
each_named : map (λ (n : List (List ℕ)). length n) field_names ≡ map (λ (l : Layout). length l) layouts
each_named = refl

-- "1 conversion, 2 stock, 3 harvest, 4 parameters", 5 abandoned land, 6 savanna, 7 mineral soil, 8 crop residues, each in a word. A new kind is a new line.
abbrev pub kind_names : List (List ℕ)
kind_names =
    codes "conversion"
    ∷ codes "stock"
    ∷ codes "harvest"
    ∷ codes "parameters"
    ∷ codes "abandoned"
    ∷ codes "savanna"
    ∷ codes "soil"
    ∷ codes "crop"
    ∷ []

-- the name of a kind; another number is no kind and has no name
abbrev pub kind_name : ℕ → List ℕ
kind_name kind = get_or ([] ∷ kind_names) kind []

-- every kind has one
kinds-named : length kind_names ≡ kinds
unfolding kinds
kinds-named = refl
