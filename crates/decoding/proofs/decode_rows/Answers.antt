use Prim.Native.Nat.{ℕ, ◌+◌}
use mathlib.Core.Path.{sym, ap, ◌∙◌}
use native.Mathlib.Nat.{mul-add}
use Rattle.form.specs.Layout.{numbers_of}
use Rattle.filing.specs.Tables.{row_on}
use Rattle.filing.proofs.Stores.{filling_more, filling_all}
use Rattle.filing.proofs.Parts.{length-row_on}
use native.Mathlib.Omega.{arith}
use Rattle.decoding.proofs.decode_rows.Goals as goal

pub loop-i-preserved : goal.loop-i-preserved
unfolding row_on
loop-i-preserved c =
    let a = c.args in
    let v = c.loop-i in
    let w = c.numbers-m.ensures.0 ∙ sym (length-row_on a.kind a.bytes.now _) in
    let place = mul-add (numbers_of a.kind) v.i 1 in
    (filling_more v.invariant.0 c.loop-i-test.true c.decode_row.ensures (ap (λ (x : ℕ). v.to + x) w), omega arith)

pub returns : goal.returns
returns c = filling_all c.loop-i.invariant.0 c.loop-i-test.false
