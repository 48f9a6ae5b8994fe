use mathlib.Core.Path.{sym, ◌∙◌}
use borrow.Author.Tests.{not-true, not-false}
use Rattle.texts.proofs.Lines.{look-past, look_here, look-end}
use native.Mathlib.Omega.{arith}
use mathlib.Core.Path.{ap}
use mathlib.Core.Bool.{not}
use Rattle.texts.proofs.first_line.Goals as goal

pub returns-then-not-is_passed : goal.returns-then-not-is_passed
returns-then-not-is_passed c =
    let e = c.next_line-line.ensures in
    let h = c.loop-from.invariant in (
      look_here _ _ _ h _ e (sym c.is_passed.ensures ∙ not-true _ (ap not c.if-not-is_passed.true)),
      record { ordered = e.ordered; inside = e.inside; within = e.within; counted = omega (arith, h.counted, e.onward); some = omega arith },
    )

pub loop-from-preserved : goal.loop-from-preserved
loop-from-preserved c =
    look-past _ _ _ c.loop-from.invariant _ c.next_line-line.ensures (sym c.is_passed.ensures ∙ not-false _ (ap not c.if-not-is_passed.false))

pub returns : goal.returns
returns c =
    let h = c.loop-from.invariant in
    (look-end _ _ _ h c.loop-from-test.false, tt)
