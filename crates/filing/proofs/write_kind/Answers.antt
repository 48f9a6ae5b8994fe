use Prim.Native.Nat.{◌+◌}
use native.Mathlib.Nat.{zero-add}
use Rattle.filing.specs.Lists.{filed_list}
use Rattle.filing.proofs.Stores.{filling_more, filling_all}
use Rattle.filing.proofs.Parts.{length_block}
use Rattle.form.proofs.Fields.{kind-numbers}
use native.Mathlib.Omega.{arith}
use Rattle.filing.proofs.write_kind.Goals as goal

pub nonzero_div-m : goal.nonzero_div-m
nonzero_div-m c =
    omega (arith, c.numbers.ensures.0, kind-numbers c.args.kind c.requires.kind_nonzero.0 c.requires.kind_nonzero.1)

pub loop-b-preserved : goal.loop-b-preserved
loop-b-preserved c =
    let a = c.args in
    let v = c.loop-b in
    filling_more v.invariant c.loop-b-test.true (rw (zero-add v.b) c.write_block.ensures)
    (omega (arith, length_block (filed_list a.kind a.rows.now) a.edition a.start a.n (0 + v.b)))

pub returns : goal.returns
returns c = rw (← c.numbers.ensures.0) (filling_all c.loop-b.invariant c.loop-b-test.false)
