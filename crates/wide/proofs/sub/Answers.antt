use Rattle.std.proofs.Common.{◌<◌, arith}
use Rattle.wide.proofs.Laws.{high_le, high_lt, sub-plain, sub_borrow}
use Rattle.wide.proofs.sub.Goals as goal

pub overflow_sub-result-then-a-b : goal.overflow_sub-result-then-a-b
overflow_sub-result-then-a-b c = omega (arith, (let borrowed' : c.args.b.hi < c.args.a.hi = high_lt _ _ c.if-a-b.true c.requires in borrowed'))

pub overflow_sub-result-then-a-b-2 : goal.overflow_sub-result-then-a-b-2
overflow_sub-result-then-a-b-2 c = omega (arith, (let borrowed' : c.args.b.hi < c.args.a.hi = high_lt _ _ c.if-a-b.true c.requires in borrowed'))

pub overflow_sub-result-else-a-b-2 : goal.overflow_sub-result-else-a-b-2
overflow_sub-result-else-a-b-2 c =
    high_le c.args.a c.args.b (omega arith) c.requires

pub returns-then-a-b : goal.returns-then-a-b
returns-then-a-b c =
    sub_borrow c.args.a c.args.b (omega arith) c.if-a-b.true c.requires

pub returns-else-a-b : goal.returns-else-a-b
returns-else-a-b c =
    sub-plain c.args.a c.args.b (omega arith) c.if-a-b.false c.requires
