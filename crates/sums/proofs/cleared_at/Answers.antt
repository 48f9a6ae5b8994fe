use Prim.Native.Nat.{◌*◌}
use mathlib.Core.Path.{◌∙◌}
use Rattle.form.specs.Layout.{row_from}
use Rattle.form.specs.Records.{counted_difference}
use Rattle.form.specs.Sums.{cleared_part}
use Rattle.totals.proofs.Limits.{period}
use borrow.Author.Rules.{rules}
use Rattle.sums.proofs.cleared_at.Goals as goal

pub lost-biomass-requires : goal.lost-biomass-requires
unfolding row_from
lost-biomass-requires c = let w = period _ c.requires.at_value in search rules

pub returns : goal.returns
unfolding cleared_part row_from
returns c =
    let w = c.lost-biomass.ensures.0 ∙ (λ i. c.four_at.ensures i * counted_difference (c.two_at.ensures.0 i) (c.two_at-2.ensures.0 i)) in
    c.share_of.ensures ∙ (λ i. w i * c.two_at-3.ensures.0 i)
