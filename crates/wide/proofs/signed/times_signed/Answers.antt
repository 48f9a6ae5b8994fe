use Rattle.std.proofs.Common.{ap, ◌∙◌}
use Rattle.wide.specs.Signs.{sized}
use Rattle.wide.proofs.SignLaws.{holds_as, sized-times}
use Rattle.wide.proofs.signed.times_signed.Goals as goal

pub returns : goal.returns
returns c =
    let s = c.args.s in
    holds_as c.with_sign.ensures (ap (sized s.below) c.times.ensures.number ∙ sized-times s.below _ _)
