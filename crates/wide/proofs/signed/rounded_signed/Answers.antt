use Rattle.std.proofs.Common.{ap, ◌∙◌}
use Rattle.wide.specs.Signs.{sized}
use Rattle.wide.proofs.SignLaws.{holds_as, sized-nearest}
use Rattle.wide.proofs.signed.rounded_signed.Goals as goal

pub returns : goal.returns
returns c =
    let s = c.args.s in
    holds_as c.with_sign.ensures (ap (sized s.below) c.rounded.ensures.number ∙ sized-nearest s.below _ _ c.requires.0)
