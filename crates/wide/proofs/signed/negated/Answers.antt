use Rattle.wide.specs.Numbers.{value}
use Rattle.wide.proofs.SignLaws.{holds_as, sized_not}
use Rattle.wide.proofs.signed.negated.Goals as goal

pub returns : goal.returns
returns c =
    let s = c.args.s in
    holds_as c.with_sign.ensures (sized_not s.below (value s.size))
