use Prim.Native.Nat.{◌*◌}
use mathlib.Core.Path.{◌∙◌}
use Rattle.form.specs.Layout.{row_from}
use Rattle.form.specs.Records.{counted_difference}
use Rattle.form.specs.Sums.{cleared_part}
use Rattle.totals.specs.Columns.{onsite_part, offsite_part}
use Rattle.totals.proofs.Limits.{period, onsites, offsites}
use borrow.Author.Rules.{rules}
use Rattle.totals.proofs.parts_at.Goals as goal

pub lost-biomass-requires : goal.lost-biomass-requires
unfolding row_from
lost-biomass-requires c = let h = c.requires.at_value in let w = period _ h in search rules

pub burned-requires : goal.burned-requires
unfolding row_from
burned-requires c = let w = onsites _ c.requires.at_value in search rules

pub burned-requires-2 : goal.burned-requires-2
unfolding row_from
burned-requires-2 c = let w = offsites _ c.requires.at_value in search rules

pub returns : goal.returns
unfolding cleared_part onsite_part offsite_part row_from
returns c =
    let w = c.lost-biomass.ensures.0 ∙ (λ i. c.four_at.ensures i * counted_difference (c.two_at.ensures.0 i) (c.two_at-2.ensures.0 i)) in
    let cleared = c.share_of.ensures ∙ (λ i. w i * c.two_at-offsite.ensures.0 i) in
    let onsite = c.burned.ensures ∙ (λ i. w i * c.two_at-3.ensures.0 i * c.two_at-4.ensures.0 i * c.two_at-5.ensures.0 i) in
    let offsite = c.burned-2.ensures ∙ (λ i. w i * c.two_at-offsite.ensures.0 i * c.two_at-6.ensures.0 i * c.two_at-7.ensures.0 i) in
    λ i. record { cleared = record { 0 = cleared i }; onsite = record { 0 = onsite i }; offsite = record { 0 = offsite i }; decay = record { 0 = c.decay_at.ensures i }; thinner = record { 0 = c.thinner_at.ensures i } }
