use native.Mathlib.Omega.{arith}
use Rattle.filing.specs.Lists.{filed_list}
use Rattle.filing.proofs.Stores.{filling_more, filling_all}
use Rattle.filing.proofs.Parts.{length_on}
use Rattle.filing.proofs.write_records.Goals as goal

pub loop-i-preserved : goal.loop-i-preserved
loop-i-preserved c =
    let a = c.args in
    let v = c.loop-i in (
      filling_more v.invariant.0 (omega (arith, c.loop-i-test.true)) c.write_place.ensures
          (rw (length_on (filed_list a.kind a.rows.now))),
      omega arith,
    )

pub returns : goal.returns
returns c = filling_all c.loop-i.invariant.0 c.loop-i-test.false
