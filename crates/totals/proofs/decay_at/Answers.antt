use Prim.Native.Nat.{◌*◌}
use mathlib.Core.Path.{◌∙◌}
use Rattle.form.specs.Layout.{row_from}
use Rattle.form.specs.Records.{counted_difference}
use Rattle.totals.specs.Columns.{decay_part}
use Rattle.totals.proofs.Limits.{ten_years, decays}
use borrow.Author.Rules.{rules}
use Rattle.totals.proofs.decay_at.Goals as goal

pub lost-biomass-requires : goal.lost-biomass-requires
unfolding row_from
lost-biomass-requires c = let w = ten_years _ c.requires.at_value in search rules

pub burned-requires : goal.burned-requires
unfolding row_from
burned-requires c = let w = decays _ c.requires.at_value in search rules

pub returns : goal.returns
unfolding decay_part row_from
returns c =
    let w = c.lost-biomass.ensures.0 ∙ (λ i. c.four_at.ensures i * counted_difference (c.two_at.ensures.0 i) (c.two_at-2.ensures.0 i)) in
    c.burned.ensures ∙ (λ i. w i * c.two_at-3.ensures.0 i * 1000 * c.two_at-4.ensures.0 i)
