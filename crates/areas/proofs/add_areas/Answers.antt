use Prim.Native.Nat.{◌<◌}
use mathlib.Core.Path.{◌∙◌}
use lib.Dec.{lit<}
use Rattle.form.proofs.EachKind.{kinds_are}
use lib.ListN.{length}
use Rattle.filing.specs.Lists.{rows_in}
use Rattle.areas.proofs.Sums.{sums_none, sums-more, sums_all}
use native.Mathlib.Omega.{arith}
use Rattle.areas.proofs.add_areas.Goals as goal

pub count-n-requires : goal.count-n-requires
count-n-requires c = (lit< tt, omega (arith, kinds_are))

pub loop-j-init : goal.loop-j-init
loop-j-init c = (omega arith, sums_none _ _, omega arith, omega arith)

pub loop-j-preserved : goal.loop-j-preserved
loop-j-preserved c =
    let a = c.args in
    let h : c.loop-j.j < rows_in 7 (length a.rows.now) = omega (arith, c.count-n.ensures, c.loop-j-test.true) in (
      omega (arith, c.loop-j-test.true),
      sums-more a.soil a.rows.now c.loop-j.j h c.loop-j.invariant.1 c.add_row-sums.ensures.value,
      omega (arith, c.loop-j.invariant, c.add_row-sums.ensures.result_bound),
      omega (arith, c.loop-j.invariant, c.add_row-sums.ensures.result_bound),
    )

pub returns : goal.returns
returns c =
    let a = c.args in
    c.loop-j.invariant.1 ∙ sums_all a.soil a.rows.now c.loop-j.j (omega (arith, c.count-n.ensures, c.loop-j.invariant.0, c.loop-j-test.false))
