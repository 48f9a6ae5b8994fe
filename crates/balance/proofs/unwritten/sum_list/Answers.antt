use Prim.Native.Nat.{◌+◌}
use mathlib.Core.Path.{◌≡◌, sym, ap, ◌∙◌}
use lib.ListN.{length}
use Rattle.form.specs.Records.{rows_below}
use Rattle.form.specs.Sums.{sum_of}
use Rattle.filing.specs.Lists.{rows_in, row_of, filed_list}
use Rattle.wide.proofs.Laws.{is_as}
use Rattle.balance.specs.Wood.{wood_part}
use Rattle.lists.proofs.KindRows.{rows_next, rows_all, sum_more}
use borrow.Author.Rules.{rules}
use native.Mathlib.Omega.{arith}
use Rattle.balance.proofs.unwritten.sum_list.Goals as goal

pub loop-j-init : goal.loop-j-init
unfolding sum_of rows_below
loop-j-init c = (search rules, c.of-sum.ensures, omega (arith, c.of-sum.ensures.number))

pub loop-j-preserved : goal.loop-j-preserved
loop-j-preserved c =
    let a = c.args in
    let turn = sum_more (wood_part a.kind) (rows_below (filed_list a.kind a.rows.now) a.kind c.loop-j.j) (row_of a.kind a.rows.now c.loop-j.j) in
    let next = rows_next a.kind a.rows.now c.loop-j.j (omega (arith, c.count-n.ensures, c.loop-j-test.true)) in (
      search rules,
      is_as c.add-sum.ensures ((λ i. c.loop-j.invariant.1.number i + c.part_in.ensures.0.number i) ∙ sym turn ∙ ap (sum_of (wood_part a.kind)) (sym next)),
      omega (arith, c.add-sum.ensures.number, c.loop-j.invariant, c.part_in.ensures.1),
    )

pub returns : goal.returns
returns c =
    let e : c.loop-j.j ≡ rows_in c.args.kind (length c.args.rows.now) = omega (arith, c.count-n.ensures, c.loop-j.invariant.0, c.loop-j-test.false) in
    (is_as c.loop-j.invariant.1 (ap (sum_of (wood_part c.args.kind)) (rows_all c.args.kind c.args.rows.now c.loop-j.j e)), omega (arith, c.loop-j.invariant.2, e, c.requires))
