use Rattle.std.proofs.Common.{◌<◌, sym, arith}
use Rattle.form.proofs.Search.{first-zero, first_more, first_found}
use Rattle.form.proofs.first.Goals as goal

pub loop-i-init : goal.loop-i-init
loop-i-init g c p h = first-zero p

pub returns-then-test : goal.returns-then-test
returns-then-test g c p h =
    let here : c.loop-i.i < c.args.n = omega arith in
    sym (first_found p c.loop-i.i c.args.n (c.loop-i.invariant p h) (sym (h c.loop-i.i _ here c.if-test.ensures)) here)

pub loop-i-preserved : goal.loop-i-preserved
loop-i-preserved g c p h =
    first_more p c.loop-i.i (c.loop-i.invariant p h) (sym (h c.loop-i.i _ (omega arith) c.if-test.ensures))
