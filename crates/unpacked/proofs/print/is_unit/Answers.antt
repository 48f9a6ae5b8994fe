use Rattle.unpacked.proofs.Numbers.{other_kind, stock-kind}
use Rattle.unpacked.proofs.print.is_unit.Goals as goal

pub returns-then-kind-ne2 : goal.returns-then-kind-ne2
returns-then-kind-ne2 c = other_kind _ _ c.if-kind-ne2.true

pub returns : goal.returns
returns c = stock-kind _ _ c.if-kind-ne2.false
