use mathlib.Core.Path.{sym, ◌∙◌}
use Rattle.form.proofs.Search.{first-zero, first_more}
use Rattle.lists.proofs.Places.{row_found}
use borrow.Author.Rules.{rules}
use native.Mathlib.Omega.{arith}
use Rattle.lists.proofs.first_bad_id.Goals as goal

pub loop-j-init : goal.loop-j-init
loop-j-init c = (search rules, first-zero _)

pub returns-then-bad_id : goal.returns-then-bad_id
returns-then-bad_id c =
    let v = c.loop-j in
    row_found _ _ c.args.start v.j v.invariant.1 (sym c.bad_id.ensures ∙ c.if-bad_id.true) (omega (arith, c.count-n.ensures.0))

pub loop-j-preserved : goal.loop-j-preserved
loop-j-preserved c =
    (search rules, first_more _ _ c.loop-j.invariant.1 (sym c.bad_id.ensures ∙ c.if-bad_id.false))
