use mathlib.Core.Path.{sym, ◌∙◌}
use Rattle.form.proofs.Search.{first-zero, first_more}
use Rattle.lists.proofs.Places.{row_found}
use borrow.Author.Rules.{rules}
use native.Mathlib.Omega.{arith}
use Rattle.lists.proofs.first_above_in.Goals as goal

pub loop-j-init : goal.loop-j-init
loop-j-init c = (search rules, first-zero _)

pub returns-then-above_fields : goal.returns-then-above_fields
returns-then-above_fields c =
    let v = c.loop-j in
    row_found _ _ c.args.start v.j v.invariant.1 (sym c.above_fields.ensures ∙ c.if-above_fields.true) (omega (arith, c.count-n.ensures.0))

pub loop-j-preserved : goal.loop-j-preserved
loop-j-preserved c =
    (search rules, first_more _ _ c.loop-j.invariant.1 (sym c.above_fields.ensures ∙ c.if-above_fields.false))
