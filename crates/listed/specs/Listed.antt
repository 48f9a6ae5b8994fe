-- The figures of a return as ONE list, in the order in which they are printed: a new figure is a new line here.
-- The lines that `sheets` prints, the numbers for C and how much room either needs all come from it.
use Rattle.std.specs.Prelude.{ℕ, ◌*◌, ◌^◌, ◌<◌, false, cond, length, get_or}
use mathlib.Core.List.{List, [], ◌∷◌, map, flat_map}
use Rattle.wide.specs.declared.Wide.{Wide}
use Rattle.wide.specs.declared.signed.Signed.{Signed}
use Rattle.phrases.specs.Ascii.{codes}
use Rattle.worksheets.specs.declared.sheets.Figures.{Figures}

-- a name in ASCII and a value with its sign
pub record Figure : Type 0 where
  pub name : List ℕ
  pub value : Signed

-- one that may be below zero, and one that is not
abbrev pub net : List ℕ → Signed → Figure
net name z = record { name = name; value = z }

abbrev pub figure : List ℕ → Wide → Figure
figure name w = net name (record { below = false; size = w })

-- 01's lines; "requested figures print after 01's lines"
unfoldable pub listed : Figures → List Figure
listed f =
    figure (codes "E") f.stocks.e.0
    ∷ figure (codes "K") f.stocks.k.0
    ∷ figure (codes "L") f.stocks.l.0
    ∷ net (codes "M") f.stocks.m.0
    ∷ net (codes "O") f.stocks.o.0
    ∷ net (codes "P") f.stocks.p.0
    ∷ net (codes "Q") f.stocks.q.0
    ∷ net (codes "report") f.stocks.report.0
    ∷ figure (codes "onsite") f.conversion.onsite.0
    ∷ figure (codes "offsite") f.conversion.offsite.0
    ∷ figure (codes "R") f.conversion.r.0
    ∷ figure (codes "decay") f.conversion.decay.0
    ∷ figure (codes "co2") f.conversion.co2.0
    ∷ figure (codes "ch4") f.gases.ch4.0
    ∷ figure (codes "co") f.gases.co.0
    ∷ figure (codes "n2o") f.gases.n2o.0
    ∷ figure (codes "nox") f.gases.nox.0
    ∷ figure (codes "uptake") f.abandoned.uptake.0
    ∷ figure (codes "uptake_co2") f.abandoned.co2.0
    ∷ figure (codes "thinner") f.thinner.0
    ∷ figure (codes "savanna_carbon") f.savannas.carbon.0
    ∷ figure (codes "savanna_ch4") f.savannas.gases.ch4.0
    ∷ figure (codes "savanna_co") f.savannas.gases.co.0
    ∷ figure (codes "savanna_n2o") f.savannas.gases.n2o.0
    ∷ figure (codes "savanna_nox") f.savannas.gases.nox.0
    ∷ net (codes "soil") f.soils.soil.0
    ∷ net (codes "soil_change") f.soils.change.0
    ∷ figure (codes "scattered") f.scattered.0
    ∷ figure (codes "oxidised_onsite") f.matter.onsite.oxidised.0
    ∷ figure (codes "charcoal_onsite") f.matter.onsite.charcoal.0
    ∷ figure (codes "oxidised_offsite") f.matter.offsite.oxidised.0
    ∷ figure (codes "charcoal_offsite") f.matter.offsite.charcoal.0
    ∷ figure (codes "unburned") f.matter.unburned.0
    ∷ figure (codes "crop_carbon") f.crops.carbon.0
    ∷ figure (codes "crop_ch4") f.crops.gases.ch4.0
    ∷ figure (codes "crop_co") f.crops.gases.co.0
    ∷ figure (codes "crop_n2o") f.crops.gases.n2o.0
    ∷ figure (codes "crop_nox") f.crops.gases.nox.0
    ∷ []

-- how many there are: the same of every return (`counted`)
abbrev pub figure_count : ℕ
figure_count = 38

-- the values of a list of figures
abbrev pub values_of : List Figure → List Signed
values_of fs = map (λ (f : Figure). f.value) fs

-- a value as whole numbers of 64 bits: 1 where it is below zero and else 0, then the upper and the lower word of its size
abbrev pub three_in : Signed → List ℕ
three_in z = cond z.below 1 0 ∷ z.size.hi ∷ z.size.lo ∷ []

abbrev pub numbers_in : Figure → List ℕ
numbers_in f = three_in f.value

-- those of all figures, in the list's order; three a figure
abbrev pub figure_numbers : Figures → List ℕ
figure_numbers f = flat_map numbers_in (listed f)

abbrev pub numbers_room : ℕ
numbers_room = 3 * figure_count

-- figure i of a list; past the last there is none
abbrev pub nothing : Signed
nothing = record { below = false; size = record { lo = 0; hi = 0 } }

abbrev pub figure_at : List Figure → ℕ → Figure
figure_at fs i = get_or fs i (net [] nothing)

-- a size of two words
pub record TwoWords (z : Signed) : Type 0 where
  pub lo : z.size.lo < 2 ^ 64
  pub hi : z.size.hi < 2 ^ 64

abbrev pub AllTwoWords : List Figure → Type 0
AllTwoWords fs = (i : ℕ) → i < length fs → TwoWords (figure_at fs i).value
