use mathlib.Core.Path.{sym, ◌∙◌}
use Rattle.form.proofs.EachKind.{kinds_are}
use Rattle.form.proofs.Search.{first-zero, first_more}
use Rattle.lists.proofs.Places.{row_found, row_spared}
use borrow.Author.Rules.{rules}
use native.Mathlib.Omega.{arith}
use Rattle.lists.proofs.first_row_in.Goals as goal

pub overflow_cast-kind : goal.overflow_cast-kind
overflow_cast-kind c = let k = kinds_are in search rules

pub returns-then-spares : goal.returns-then-spares
returns-then-spares c =
    let a = c.args in
    row_spared a.number a.edition a.kind a.rows.now a.start (sym c.spares.ensures ∙ c.if-spares.true)

pub loop-j-init : goal.loop-j-init
loop-j-init c = (search rules, first-zero _)

pub returns-then-row_breaks : goal.returns-then-row_breaks
returns-then-row_breaks c =
    let v = c.loop-j in
    let a = c.args in
    row_found _ _ a.start v.j v.invariant.1 (sym c.row_breaks.ensures ∙ c.if-row_breaks.true) (omega (arith, c.count-n.ensures.0))

pub loop-j-preserved : goal.loop-j-preserved
loop-j-preserved c =
    (search rules, first_more _ _ c.loop-j.invariant.1 (sym c.row_breaks.ensures ∙ c.if-row_breaks.false))
