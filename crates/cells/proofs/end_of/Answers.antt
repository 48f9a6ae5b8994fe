use Rattle.std.proofs.Common.{◌≡◌, subst, length, arith}
use Rattle.cells.specs.Cells.{EndAt}
use Rattle.cells.proofs.Splits.{end_here, end-past, end_more}
use Rattle.cells.proofs.end_of.Goals as goal

pub returns-then-text-k : goal.returns-then-text-k
returns-then-text-k c = end_here _ _ _ _ c.loop-k.invariant c.loop-k-test.true c.if-text-k.true

pub loop-k-preserved : goal.loop-k-preserved
loop-k-preserved c = end_more _ _ _ _ c.loop-k.invariant c.loop-k-test.true c.if-text-k.false

pub returns : goal.returns
returns c =
    let at_end : c.loop-k.k ≡ length c.args.text.now = omega (arith, c.loop-k.invariant.inside, c.loop-k-test.false) in
    subst (EndAt _ _ _) at_end (end-past _ _ _ _ c.loop-k.invariant c.loop-k-test.false)
