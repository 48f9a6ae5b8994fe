use mathlib.Core.Path.{sym, ◌∙◌}
use borrow.Author.Tests.{not-true, not-false}
use Rattle.texts.proofs.Lines.{seek_past, seek_more, seek_here, seek_end}
use mathlib.Core.Path.{ap}
use mathlib.Core.Bool.{not}
use Rattle.texts.proofs.row_line.Goals as goal

pub returns-then-left-eq0 : goal.returns-then-left-eq0
returns-then-left-eq0 c =
    let other = sym c.is_passed.ensures ∙ not-true _ (ap not c.if-not-is_passed.true) in
    seek_here _ _ _ _ _ _ _ _ c.loop-from.invariant _ c.next_line-line.ensures other c.if-left-eq0.true

pub loop-from-preserved-else-left-eq0 : goal.loop-from-preserved-else-left-eq0
loop-from-preserved-else-left-eq0 c =
    let other = sym c.is_passed.ensures ∙ not-true _ (ap not c.if-not-is_passed.true) in
    seek_more _ _ _ _ _ _ _ _ c.loop-from.invariant _ c.next_line-line.ensures other c.if-left-eq0.false

pub loop-from-preserved : goal.loop-from-preserved
loop-from-preserved c =
    seek_past _ _ _ _ _ _ _ _ c.loop-from.invariant _ c.next_line-line.ensures (sym c.is_passed.ensures ∙ not-false _ (ap not c.if-not-is_passed.false))

pub returns : goal.returns
returns c = seek_end _ _ _ _ _ _ _ _ c.loop-from.invariant c.loop-from-test.false
