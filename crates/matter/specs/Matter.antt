-- §13: what became of the biomass that was cleared, as "five exact dry-matter totals in 10^-9 kt: oxidised on site, charcoal on site, oxidised off site, charcoal off site, and left unburned".
-- "Each is defined from the rows on its own." Area times counted difference is in 10^-3 kt, and each of two fractions is in thousandths.
use Rattle.std.specs.Prelude.{ℕ, ◌+◌, ◌-◌, ◌*◌, ◌≤◌, List}
use Rattle.form.specs.Records.{area_of, onsite, onsite_oxidised, offsite, offsite_oxidised, difference}
use Rattle.form.specs.Sums.{sum_of}
use Rattle.wide.specs.Numbers.{value}
use Rattle.totals.specs.Masses.{dry_matter}
use Rattle.totals.specs.declared.DryMatter.{DryMatter}
use Rattle.matter.specs.declared.Burned.{Burned}
use Rattle.matter.specs.declared.Matter.{Matter}

-- "area times counted difference": the biomass that a row's area loses (10^-3 kt)
unfoldable pub lost_biomass : List ℕ → ℕ
lost_biomass r = area_of r * difference r

-- "the sum of area times counted difference", over the conversion rows
abbrev pub lost_total : List (List ℕ) → ℕ
lost_total conversion = sum_of lost_biomass conversion

-- "1,000 less" a fraction: what a fraction leaves of the whole. No fraction is above 1,000 (6), nor are the two burned ones together (7), so that with it they are the whole
abbrev pub left_by : ℕ → ℕ
left_by fraction = 1000 - fraction

-- ---- one row's five parts (10^-9 kt)
-- "oxidised on site"; "charcoal on site": burned there, and not oxidised
unfoldable pub oxidised_onsite_part : List ℕ → ℕ
oxidised_onsite_part r = lost_biomass r * onsite r * onsite_oxidised r

unfoldable pub charcoal_onsite_part : List ℕ → ℕ
charcoal_onsite_part r = lost_biomass r * onsite r * left_by (onsite_oxidised r)

-- "oxidised off site, charcoal off site"
unfoldable pub oxidised_offsite_part : List ℕ → ℕ
oxidised_offsite_part r = lost_biomass r * offsite r * offsite_oxidised r

unfoldable pub charcoal_offsite_part : List ℕ → ℕ
charcoal_offsite_part r = lost_biomass r * offsite r * left_by (offsite_oxidised r)

-- "left unburned, the last from 1,000 less the two burned fractions"
unfoldable pub unburned_part : List ℕ → ℕ
unburned_part r = lost_biomass r * left_by (onsite r + offsite r) * 1000

-- ---- the five totals, over the conversion rows
abbrev pub oxidised_onsite : List (List ℕ) → ℕ
oxidised_onsite conversion = sum_of oxidised_onsite_part conversion

abbrev pub charcoal_onsite : List (List ℕ) → ℕ
charcoal_onsite conversion = sum_of charcoal_onsite_part conversion

abbrev pub oxidised_offsite : List (List ℕ) → ℕ
oxidised_offsite conversion = sum_of oxidised_offsite_part conversion

abbrev pub charcoal_offsite : List (List ℕ) → ℕ
charcoal_offsite conversion = sum_of charcoal_offsite_part conversion

abbrev pub unburned : List (List ℕ) → ℕ
unburned conversion = sum_of unburned_part conversion

-- ---- the record of all five, each dry matter: of a row, of a return, of several. First what was burned at one place
abbrev pub burned_of : ℕ → ℕ → Burned
burned_of oxidised charcoal = record { oxidised = dry_matter oxidised; charcoal = dry_matter charcoal }

unfoldable pub row_matter : List ℕ → Matter
row_matter r = record {
  onsite = burned_of (oxidised_onsite_part r) (charcoal_onsite_part r);
  offsite = burned_of (oxidised_offsite_part r) (charcoal_offsite_part r);
  unburned = dry_matter (unburned_part r);
}

unfoldable pub matter_of : List (List ℕ) → Matter
matter_of conversion = record {
  onsite = burned_of (oxidised_onsite conversion) (charcoal_onsite conversion);
  offsite = burned_of (oxidised_offsite conversion) (charcoal_offsite conversion);
  unburned = dry_matter (unburned conversion);
}

-- all five together
abbrev pub together : Matter → ℕ
together m = value m.onsite.oxidised.0 + value m.onsite.charcoal.0 + value m.offsite.oxidised.0 + value m.offsite.charcoal.0 + value m.unburned.0

-- ---- of none, and of two added up, one by one
abbrev pub no_matter : Matter
no_matter = record { onsite = burned_of 0 0; offsite = burned_of 0 0; unburned = dry_matter 0 }

abbrev pub both_masses : DryMatter → DryMatter → DryMatter
both_masses a b = dry_matter (value a.0 + value b.0)

abbrev pub plus_burned : Burned → Burned → Burned
plus_burned a b = record { oxidised = both_masses a.oxidised b.oxidised; charcoal = both_masses a.charcoal b.charcoal }

unfoldable pub plus_matter : Matter → Matter → Matter
plus_matter a b = record {
  onsite = plus_burned a.onsite b.onsite;
  offsite = plus_burned a.offsite b.offsite;
  unburned = both_masses a.unburned b.unburned;
}

-- each of the five is at most n
abbrev pub BurnedMost : ℕ → Burned → Type 0
BurnedMost n b = (value b.oxidised.0 ≤ n) × (value b.charcoal.0 ≤ n)

pub record MatterMost (n : ℕ) (m : Matter) : Type 0 where
  pub onsite : BurnedMost n m.onsite
  pub offsite : BurnedMost n m.offsite
  pub unburned : value m.unburned.0 ≤ n
