use Rattle.std.proofs.Common.{ap, ◌∙◌, ◌+◌, arith}
use Rattle.wide.specs.Numbers.{value}
use Rattle.totals.specs.Laws.{amounts}
use Rattle.totals.specs.Masses.{carbon}
use Rattle.totals.specs.declared.Carbon.{Carbon}
use Rattle.sums.proofs.Parts.{both}
use Rattle.sums.proofs.land_at.Goals as goal

pub plus-requires : goal.plus-requires
plus-requires c =
    let young = ap (λ (m : Carbon). value m.0) c.from-young.ensures ∙ amounts c.growth_at.result.0 in
    let older = ap (λ (m : Carbon). value m.0) c.from-older.ensures ∙ amounts c.growth_at-2.result.0 in
    omega (arith, young, older, c.growth_at.ensures.1, c.growth_at-2.ensures.1)

pub returns : goal.returns
returns c =
    let young = ap (λ (m : Carbon). value m.0) c.from-young.ensures ∙ amounts c.growth_at.result.0 ∙ c.growth_at.ensures.0 in
    let older = ap (λ (m : Carbon). value m.0) c.from-older.ensures ∙ amounts c.growth_at-2.result.0 ∙ c.growth_at-2.ensures.0 in
    c.plus.ensures ∙ ap carbon ((λ i. young i + older i) ∙ both c.args.bytes.now c.args.at)
