use Prim.Native.Nat.{◌+◌, ◌-◌, ◌≤◌, ◌<◌}
use mathlib.Core.Path.{◌≡◌}
use Rattle.form.specs.Layout.{numbers_of}
use Rattle.form.proofs.Fields.{ends_40, Readable, field_readable}
use Rattle.reasons.proofs.Above.{seeking_none, seeking_in, seeking_found, seeking_more, seeking_all}
use native.Mathlib.Omega.{arith}
use Rattle.reasons.proofs.row_reasons.first_above.Goals as goal

pub loop-i-init : goal.loop-i-init
loop-i-init c = seeking_none (ends_40 c.args.kind)

pub overflow_add-k : goal.overflow_add-k
overflow_add-k c = omega (arith, (let inside' : c.loop-i.k + c.field-f.result.zeros + c.field-f.result.width ≤ 40 = rw c.field-f.ensures (seeking_in c.loop-i.invariant (let counted' : c.loop-i.i < numbers_of c.args.kind = rw c.numbers-n.ensures.0 at c.loop-i-test.true in counted')) in inside'))

pub overflow_add-at : goal.overflow_add-at
overflow_add-at c = omega (arith, (let inside' : c.loop-i.k + c.field-f.result.zeros + c.field-f.result.width ≤ 40 = rw c.field-f.ensures (seeking_in c.loop-i.invariant (let counted' : c.loop-i.i < numbers_of c.args.kind = rw c.numbers-n.ensures.0 at c.loop-i-test.true in counted')) in inside'))

pub number_at-value-requires : goal.number_at-value-requires
number_at-value-requires c = let w = (let fits' : Readable c.field-f.result.width = rw c.field-f.ensures (field_readable c.args.kind c.loop-i.i (let counted' : c.loop-i.i < numbers_of c.args.kind = rw c.numbers-n.ensures.0 at c.loop-i-test.true in counted')) in fits') in (w.0, w.1, w.2, omega (arith, (let inside' : c.loop-i.k + c.field-f.result.zeros + c.field-f.result.width ≤ 40 = rw c.field-f.ensures (seeking_in c.loop-i.invariant (let counted' : c.loop-i.i < numbers_of c.args.kind = rw c.numbers-n.ensures.0 at c.loop-i-test.true in counted')) in inside')))

pub returns-then-f-value : goal.returns-then-f-value
returns-then-f-value c =
    seeking_found c.loop-i.invariant (let counted' : c.loop-i.i < numbers_of c.args.kind = rw c.numbers-n.ensures.0 at c.loop-i-test.true in counted') c.field-f.ensures c.number_at-value.ensures c.if-f-value.true

pub overflow_add-k-in-loop-i : goal.overflow_add-k-in-loop-i
overflow_add-k-in-loop-i c = omega (arith, (let inside' : c.loop-i.k + c.field-f.result.zeros + c.field-f.result.width ≤ 40 = rw c.field-f.ensures (seeking_in c.loop-i.invariant (let counted' : c.loop-i.i < numbers_of c.args.kind = rw c.numbers-n.ensures.0 at c.loop-i-test.true in counted')) in inside'))

pub loop-i-preserved : goal.loop-i-preserved
loop-i-preserved c =
    seeking_more c.loop-i.invariant (let counted' : c.loop-i.i < numbers_of c.args.kind = rw c.numbers-n.ensures.0 at c.loop-i-test.true in counted') c.field-f.ensures c.number_at-value.ensures c.if-f-value.false

pub returns : goal.returns
returns c =
    let w = c.loop-i.invariant in
    let n = c.numbers-n in
    let e : c.loop-i.i ≡ n.result = omega (arith, w.within, n.ensures.0) in
    rw e at (seeking_all w (omega (arith, n.ensures.0)))
