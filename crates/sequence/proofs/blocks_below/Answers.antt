use mathlib.Core.Path.{sym}
use Rattle.form.proofs.Counting.{blocks_none, blocks_more}
use borrow.Author.Rules.{rules}
use Rattle.sequence.proofs.blocks_below.Goals as goal

pub loop-a-init : goal.loop-a-init
loop-a-init c = (search rules, search rules, sym (blocks_none _ _))

pub loop-a-preserved : goal.loop-a-preserved
loop-a-preserved c =
    let l = c.loop-a in
    let g = c.args in
    (search rules, search rules, cc (blocks_more g.kind g.bytes.now l.a))
