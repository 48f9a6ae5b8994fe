use mathlib.Core.Path.{ap, ◌∙◌}
use mathlib.Core.List.{List}
use Prim.Native.Nat.{ℕ, ◌*◌}
use lib.Dec.{lit<}
use Rattle.standing.proofs.Accepted.{few_counted}
use Rattle.areas.specs.Areas.{ruled_from}
use Rattle.areas.proofs.Return.{soils_decoded, front-part, return-ruling, no_soils}
use Rattle.areas.proofs.rule_areas.Goals as goal

pub returns-then-c-eq0 : goal.returns-then-c-eq0
returns-then-c-eq0 c = no_soils c.args.bytes.now c.args.c c.requires c.if-c-eq0.true

pub first_block-requires : goal.first_block-requires
first_block-requires c =
    (lit< tt, lit< tt, few_counted c.args.bytes.now c.args.c c.requires)

pub returns : goal.returns
returns c =
    let t = c.args.bytes.now in
    c.rule_from.ensures
    ∙ ap (λ (x : List (List ℕ)). ruled_from (12 * c.first_block.result) x)
    (soils_decoded t c.args.c c.requires (front-part c.decode_soils-end.result _ c.decode_soils-end.ensures.1))
    ∙ return-ruling t c.args.c c.requires c.first_block.ensures.0
