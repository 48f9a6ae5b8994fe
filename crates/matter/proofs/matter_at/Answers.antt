use Prim.Native.Nat.{ℕ, ◌+◌, ◌*◌}
use mathlib.Core.Path.{◌≡◌, ◌∙◌}
use Rattle.form.specs.Layout.{row_from}
use Rattle.form.specs.Records.{counted_difference}
use Rattle.totals.specs.Masses.{dry_matter}
use Rattle.totals.proofs.Limits.{period, onsites, offsites}
use Rattle.matter.specs.Matter.{lost_biomass, left_by, oxidised_onsite_part, charcoal_onsite_part, oxidised_offsite_part, charcoal_offsite_part, unburned_part, burned_of, row_matter}
use Rattle.matter.specs.declared.Burned.{Burned}
use Rattle.matter.proofs.Whole.{fractions}
use borrow.Author.Rules.{rules}
use Rattle.matter.proofs.matter_at.Goals as goal

-- what was burned, by equals
burned_as : {b : Burned} {x x' f f' o o' : ℕ} → b ≡ burned_of (x * f * o) (x * f * left_by o) → x ≡ x' → f ≡ f' → o ≡ o' → b ≡ burned_of (x' * f' * o') (x' * f' * left_by o')
burned_as e x f o = e ∙ (λ i. burned_of (x i * f i * o i) (x i * f i * left_by (o i)))

pub lost-biomass-requires : goal.lost-biomass-requires
unfolding row_from
lost-biomass-requires c = let w = period _ c.requires.at_value in search rules

pub burn-requires : goal.burn-requires
unfolding row_from
burn-requires c = let w = onsites _ c.requires.at_value in search rules

pub burn-requires-2 : goal.burn-requires-2
unfolding row_from
burn-requires-2 c = let w = offsites _ c.requires.at_value in search rules

pub left_by-requires : goal.left_by-requires
unfolding row_from
left_by-requires c =
    let w = fractions _ c.requires.at_value c.requires.at_value_2 in search rules

pub returns : goal.returns
unfolding lost_biomass oxidised_onsite_part charcoal_onsite_part oxidised_offsite_part charcoal_offsite_part unburned_part row_matter row_from
returns c =
    let w = c.lost-biomass.ensures.0 ∙ (λ i. c.four_at.ensures i * counted_difference (c.two_at.ensures.0 i) (c.two_at-2.ensures.0 i)) in
    let onsite = burned_as c.burn.ensures w c.two_at-onsite.ensures.0 c.two_at-3.ensures.0 in
    let offsite = burned_as c.burn-2.ensures w c.two_at-offsite.ensures.0 c.two_at-4.ensures.0 in
    let left = c.left_by.ensures.0 ∙ (λ i. left_by (c.two_at-onsite.ensures.0 i + c.two_at-offsite.ensures.0 i)) in
    let unburned = c.mass_of.ensures ∙ (λ i. dry_matter (w i * left i * 1000)) in
    λ i. record { onsite = onsite i; offsite = offsite i; unburned = unburned i }
