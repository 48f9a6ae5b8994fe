use Prim.Native.Nat.{◌+◌, ◌≤◌, ◌<◌}
use mathlib.Core.Path.{refl, sym, ◌∙◌}
use mathlib.Core.Bool.{or-false}
use Rattle.form.specs.Layout.{above_limit, row_from, numbers_of}
use Rattle.form.proofs.Fields.{ends_40, Readable, field_readable, looking_none, looking_in, looking_more, looking_all}
use native.Mathlib.Omega.{arith}
use Rattle.records.proofs.above_fields.Goals as goal

pub loop-i-init : goal.loop-i-init
loop-i-init c = looking_none (ends_40 c.args.kind)

pub overflow_add-k : goal.overflow_add-k
overflow_add-k c = omega (arith, (let inside' : c.loop-i.k + c.field-f.result.zeros + c.field-f.result.width ≤ 40 = rw c.field-f.ensures (looking_in c.loop-i.invariant (let counted' : c.loop-i.i < numbers_of c.args.kind = rw c.numbers-n.ensures.0 at c.loop-i-test.true in counted')) in inside'))

pub overflow_add-at : goal.overflow_add-at
overflow_add-at c = omega (arith, (let inside' : c.loop-i.k + c.field-f.result.zeros + c.field-f.result.width ≤ 40 = rw c.field-f.ensures (looking_in c.loop-i.invariant (let counted' : c.loop-i.i < numbers_of c.args.kind = rw c.numbers-n.ensures.0 at c.loop-i-test.true in counted')) in inside'))

pub number_at-requires : goal.number_at-requires
number_at-requires c = let w = (let fits' : Readable c.field-f.result.width = rw c.field-f.ensures (field_readable c.args.kind c.loop-i.i (let counted' : c.loop-i.i < numbers_of c.args.kind = rw c.numbers-n.ensures.0 at c.loop-i-test.true in counted')) in fits') in (w.0, w.1, w.2, omega (arith, (let inside' : c.loop-i.k + c.field-f.result.zeros + c.field-f.result.width ≤ 40 = rw c.field-f.ensures (looking_in c.loop-i.invariant (let counted' : c.loop-i.i < numbers_of c.args.kind = rw c.numbers-n.ensures.0 at c.loop-i-test.true in counted')) in inside')))

pub overflow_add-k-in-loop-i : goal.overflow_add-k-in-loop-i
overflow_add-k-in-loop-i c = omega (arith, (let inside' : c.loop-i.k + c.field-f.result.zeros + c.field-f.result.width ≤ 40 = rw c.field-f.ensures (looking_in c.loop-i.invariant (let counted' : c.loop-i.i < numbers_of c.args.kind = rw c.numbers-n.ensures.0 at c.loop-i-test.true in counted')) in inside'))

pub loop-i-preserved : goal.loop-i-preserved
unfolding above_limit row_from
loop-i-preserved c =
    looking_more c.loop-i.invariant _ (let counted' : c.loop-i.i < numbers_of c.args.kind = rw c.numbers-n.ensures.0 at c.loop-i-test.true in counted') c.field-f.ensures (λ l. rw c.number_at.ensures refl)

pub returns : goal.returns
unfolding above_limit
returns c = sym (or-false _) ∙ looking_all c.loop-i.invariant (omega arith) refl
