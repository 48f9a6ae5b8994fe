use Prim.Native.Nat.{◌+◌, ◌-◌, ◌≤◌, ◌<◌}
use mathlib.Core.Path.{refl}
use Rattle.form.specs.Layout.{numbers_of}
use Rattle.form.proofs.Fields.{ends_40, looking_none, looking_in, looking_more, looking_all}
use Rattle.faults.specs.Faults.{zero_from}
use native.Mathlib.Omega.{arith}
use Rattle.faults.proofs.due_in_record.Goals as goal

pub loop-i-init : goal.loop-i-init
loop-i-init c = looking_none (ends_40 c.args.kind)

pub overflow_add-due : goal.overflow_add-due
overflow_add-due c = omega (arith, (let inside' : c.loop-i.at + c.field-f.result.zeros + c.field-f.result.width ≤ 40 = rw c.field-f.ensures (looking_in c.loop-i.invariant (let counted' : c.loop-i.i < numbers_of c.args.kind = rw c.numbers-n.ensures.0 at c.loop-i-test.true in counted')) in inside'))

pub overflow_add-at : goal.overflow_add-at
overflow_add-at c = omega (arith, (let inside' : c.loop-i.at + c.field-f.result.zeros + c.field-f.result.width ≤ 40 = rw c.field-f.ensures (looking_in c.loop-i.invariant (let counted' : c.loop-i.i < numbers_of c.args.kind = rw c.numbers-n.ensures.0 at c.loop-i-test.true in counted')) in inside'))

pub overflow_add-at-in-loop-i : goal.overflow_add-at-in-loop-i
overflow_add-at-in-loop-i c = omega (arith, (let inside' : c.loop-i.at + c.field-f.result.zeros + c.field-f.result.width ≤ 40 = rw c.field-f.ensures (looking_in c.loop-i.invariant (let counted' : c.loop-i.i < numbers_of c.args.kind = rw c.numbers-n.ensures.0 at c.loop-i-test.true in counted')) in inside'))

pub loop-i-preserved : goal.loop-i-preserved
unfolding zero_from
loop-i-preserved c =
    looking_more c.loop-i.invariant _ (let counted' : c.loop-i.i < numbers_of c.args.kind = rw c.numbers-n.ensures.0 at c.loop-i-test.true in counted') c.field-f.ensures (λ l. refl)

pub returns : goal.returns
unfolding zero_from
returns c = looking_all c.loop-i.invariant (omega arith) refl
