use Prim.Native.Nat.{◌+◌, ◌≤◌, ◌<◌}
use mathlib.Core.Path.{refl}
use Rattle.form.specs.Layout.{numbers_of, stray_from}
use Rattle.form.proofs.Fields.{ends_40, looking_none, looking_in, looking_end, looking_more, looking_all}
use native.Mathlib.Omega.{arith}
use Rattle.blocks.proofs.stray_fields.Goals as goal

pub loop-i-init : goal.loop-i-init
loop-i-init c = looking_none (ends_40 c.args.kind)

pub overflow_add-at : goal.overflow_add-at
overflow_add-at c = omega (arith, (let inside' : c.loop-i.k + c.field-f.result.zeros + c.field-f.result.width ≤ 40 = rw c.field-f.ensures (looking_in c.loop-i.invariant (let counted' : c.loop-i.i < numbers_of c.args.kind = rw c.numbers-n.ensures.0 at c.loop-i-test.true in counted')) in inside'))

pub stray_in-stray-requires : goal.stray_in-stray-requires
stray_in-stray-requires c = omega (arith, (let inside' : c.loop-i.k + c.field-f.result.zeros + c.field-f.result.width ≤ 40 = rw c.field-f.ensures (looking_in c.loop-i.invariant (let counted' : c.loop-i.i < numbers_of c.args.kind = rw c.numbers-n.ensures.0 at c.loop-i-test.true in counted')) in inside'))

pub overflow_add-k : goal.overflow_add-k
overflow_add-k c = omega (arith, (let inside' : c.loop-i.k + c.field-f.result.zeros + c.field-f.result.width ≤ 40 = rw c.field-f.ensures (looking_in c.loop-i.invariant (let counted' : c.loop-i.i < numbers_of c.args.kind = rw c.numbers-n.ensures.0 at c.loop-i-test.true in counted')) in inside'))

pub overflow_add-k-in-loop-i : goal.overflow_add-k-in-loop-i
overflow_add-k-in-loop-i c = omega (arith, (let inside' : c.loop-i.k + c.field-f.result.zeros + c.field-f.result.width ≤ 40 = rw c.field-f.ensures (looking_in c.loop-i.invariant (let counted' : c.loop-i.i < numbers_of c.args.kind = rw c.numbers-n.ensures.0 at c.loop-i-test.true in counted')) in inside'))

pub loop-i-preserved : goal.loop-i-preserved
unfolding stray_from
loop-i-preserved c =
    looking_more c.loop-i.invariant _ (let counted' : c.loop-i.i < numbers_of c.args.kind = rw c.numbers-n.ensures.0 at c.loop-i-test.true in counted') c.field-f.ensures (λ l. rw c.stray_in-stray.ensures)

pub overflow_add-at-2 : goal.overflow_add-at-2
overflow_add-at-2 c = omega (arith, looking_end c.loop-i.invariant)

pub overflow_sub-k : goal.overflow_sub-k
overflow_sub-k c = omega (arith, looking_end c.loop-i.invariant)

pub stray_in-requires : goal.stray_in-requires
stray_in-requires c = omega (arith, looking_end c.loop-i.invariant)

pub returns : goal.returns
unfolding stray_from
returns c = looking_all c.loop-i.invariant (omega arith) (rw c.stray_in.ensures refl)
