use Rattle.std.proofs.Common.{arith}
use Rattle.wide.proofs.Laws.{order-low, order-high}
use Rattle.wide.proofs.less.Goals as goal

-- By the upper words, and where they are equal by the lower. Assumes nothing.
pub returns-then-a-b : goal.returns-then-a-b
returns-then-a-b c =
    order-low c.args.a c.args.b c.if-a-b.true

pub returns-else-a-b : goal.returns-else-a-b
returns-else-a-b c =
    order-high c.args.a c.args.b (omega arith) (omega arith) c.if-a-b.false
