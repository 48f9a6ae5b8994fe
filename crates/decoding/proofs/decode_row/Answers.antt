use Prim.Native.Nat.{◌+◌, ◌≤◌, ◌<◌}
use lib.ListN.{length}
use Rattle.form.specs.Layout.{layout, numbers_of}
use Rattle.form.proofs.Fields.{ends_40, field_in, Readable, field_readable}
use Rattle.filing.proofs.Fields.{decoding_none, decoding_more, decoding_all}
use native.Mathlib.Omega.{arith}
use Rattle.decoding.proofs.decode_row.Goals as goal

pub loop-i-init : goal.loop-i-init
loop-i-init c = decoding_none (ends_40 c.args.kind)

pub overflow_add-k : goal.overflow_add-k
overflow_add-k c = omega (arith, (let inside' : let v = c.loop-i in let f = c.field-f.result in (v.k + f.zeros + f.width ≤ 40) × (c.args.to + v.i < length v.room) = let v = c.loop-i in let a = c.args in let i = (let counted' : c.loop-i.i < numbers_of c.args.kind = rw c.numbers-n.ensures.0 at c.loop-i-test.true in counted') in (rw c.field-f.ensures (field_in v.k v.i (layout a.kind) i v.invariant.left), omega (arith, v.invariant.same)) in inside'))

pub overflow_add-at : goal.overflow_add-at
overflow_add-at c = omega (arith, (let inside' : let v = c.loop-i in let f = c.field-f.result in (v.k + f.zeros + f.width ≤ 40) × (c.args.to + v.i < length v.room) = let v = c.loop-i in let a = c.args in let i = (let counted' : c.loop-i.i < numbers_of c.args.kind = rw c.numbers-n.ensures.0 at c.loop-i-test.true in counted') in (rw c.field-f.ensures (field_in v.k v.i (layout a.kind) i v.invariant.left), omega (arith, v.invariant.same)) in inside'))

pub number_at-requires : goal.number_at-requires
number_at-requires c = let w = (let fits' : Readable c.field-f.result.width = rw c.field-f.ensures (field_readable c.args.kind c.loop-i.i (let counted' : c.loop-i.i < numbers_of c.args.kind = rw c.numbers-n.ensures.0 at c.loop-i-test.true in counted')) in fits') in (w.0, w.1, w.2, omega (arith, (let inside' : let v = c.loop-i in let f = c.field-f.result in (v.k + f.zeros + f.width ≤ 40) × (c.args.to + v.i < length v.room) = let v = c.loop-i in let a = c.args in let i = (let counted' : c.loop-i.i < numbers_of c.args.kind = rw c.numbers-n.ensures.0 at c.loop-i-test.true in counted') in (rw c.field-f.ensures (field_in v.k v.i (layout a.kind) i v.invariant.left), omega (arith, v.invariant.same)) in inside')))

pub overflow_add-k-in-loop-i : goal.overflow_add-k-in-loop-i
overflow_add-k-in-loop-i c = omega (arith, (let inside' : let v = c.loop-i in let f = c.field-f.result in (v.k + f.zeros + f.width ≤ 40) × (c.args.to + v.i < length v.room) = let v = c.loop-i in let a = c.args in let i = (let counted' : c.loop-i.i < numbers_of c.args.kind = rw c.numbers-n.ensures.0 at c.loop-i-test.true in counted') in (rw c.field-f.ensures (field_in v.k v.i (layout a.kind) i v.invariant.left), omega (arith, v.invariant.same)) in inside'))

pub loop-i-preserved : goal.loop-i-preserved
loop-i-preserved c =
    decoding_more c.loop-i.invariant (let counted' : c.loop-i.i < numbers_of c.args.kind = rw c.numbers-n.ensures.0 at c.loop-i-test.true in counted') c.field-f.ensures c.number_at.ensures

pub returns : goal.returns
returns c = decoding_all c.loop-i.invariant (omega arith)
