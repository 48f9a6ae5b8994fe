use mathlib.Core.Path.{◌∙◌}
use lib.Dec.{lit≤}
use Rattle.form.specs.Sums.{sum_of, scattered_part}
use Rattle.form.specs.Verdict.{counts_of}
use Rattle.form.proofs.EachKind.{kinds_are}
use Rattle.standing.proofs.Rows.{Stands, kind_row}
use Rattle.standing.proofs.Accepted.{few_rows}
use Rattle.totals.proofs.Accepted.{next, whole}
use Rattle.sums.proofs.Parts.{stock-near}
use borrow.Author.Rules.{rules}
use native.Mathlib.Omega.{arith}
use Rattle.sums.proofs.count_scattered.Goals as goal

pub loop-i-init : goal.loop-i-init
unfolding sum_of
loop-i-init c = (search rules, search rules, search rules)

pub row_start-requires : goal.row_start-requires
row_start-requires c =
    let b = c.args.bytes.now in
    omega (arith, c.requires.first_value, stock-near b (counts_of b) c.requires.formed, few_rows b (counts_of b) c.requires.formed 2)

pub scattered_at-scattered-requires : goal.scattered_at-scattered-requires
scattered_at-scattered-requires c = (let row' : Stands c.args.bytes.now 2 c.loop-i.i c.row_start.result = kind_row c.args.bytes.now (counts_of c.args.bytes.now) c.requires.formed 2 (lit≤ tt) (omega (arith, kinds_are)) c.requires.first_value.0 (omega (arith, c.requires.first_value.1)) c.row_start.ensures in row').inside

pub overflow_add-scattered : goal.overflow_add-scattered
overflow_add-scattered c =
    let b = c.args.bytes.now in
    omega (arith, c.requires.first_value, few_rows b (counts_of b) c.requires.formed 2)

pub loop-i-preserved : goal.loop-i-preserved
loop-i-preserved c =
    let l = c.loop-i in
    (search rules, omega (arith, l.invariant.1, c.scattered_at-scattered.ensures.1), next scattered_part (let row' : Stands c.args.bytes.now 2 c.loop-i.i c.row_start.result = kind_row c.args.bytes.now (counts_of c.args.bytes.now) c.requires.formed 2 (lit≤ tt) (omega (arith, kinds_are)) c.requires.first_value.0 (omega (arith, c.requires.first_value.1)) c.row_start.ensures in row') l.invariant.2 c.scattered_at-scattered.ensures.0)

pub returns : goal.returns
returns c =
    let b = c.args.bytes.now in
    c.loop-i.invariant.2 ∙ whole b (counts_of b) c.requires.formed scattered_part 2 c.loop-i.i (lit≤ tt) (omega (arith, kinds_are)) (omega (arith, c.requires.first_value.1))
