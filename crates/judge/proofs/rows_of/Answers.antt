use mathlib.Core.Path.{sym}
use Rattle.form.proofs.Counting.{count_none, count-more}
use borrow.Author.Rules.{rules}
use Rattle.judge.proofs.rows_of.Goals as goal

pub loop-b-init : goal.loop-b-init
loop-b-init c = (search rules, search rules, sym (count_none _ _))

pub loop-b-preserved : goal.loop-b-preserved
loop-b-preserved c =
    let l = c.loop-b in
    let a = c.args in
    (search rules, search rules, cc (count-more a.kind a.bytes.now l.b))
