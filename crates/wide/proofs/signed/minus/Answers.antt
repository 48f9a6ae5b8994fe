use Rattle.std.proofs.Common.{false, ap, ◌∙◌}
use Rattle.wide.specs.Numbers.{value}
use Rattle.wide.specs.Signs.{sized}
use Rattle.wide.proofs.SignLaws.{holds_as, minus_sized}
use Rattle.wide.proofs.signed.minus.Goals as goal

pub returns-then-s : goal.returns-then-s
returns-then-s c =
    let s = c.args in
    rw c.if-s.true
    (holds_as c.with_sign.ensures (ap (sized false) c.add.ensures.number ∙ minus_sized (value s.a) (value s.s.size)))

pub returns-else-s : goal.returns-else-s
returns-else-s c = rw c.if-s.false c.difference.ensures
