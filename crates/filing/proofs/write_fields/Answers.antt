use Prim.Native.Nat.{◌+◌, ◌≤◌, ◌<◌}
use mathlib.Core.Path.{sym}
use lib.ListN.{length}
use lib.Seq.{get_or-drop}
use Rattle.form.specs.Layout.{layout, numbers_of}
use Rattle.form.proofs.Fields.{ends_40, field_in, Readable, field_readable}
use Rattle.filing.proofs.Fields.{encoding_none, encoding_more, encoding_all}
use native.Mathlib.Omega.{arith}
use Rattle.filing.proofs.write_fields.Goals as goal

pub loop-i-init : goal.loop-i-init
loop-i-init c = encoding_none (ends_40 c.args.kind)

pub clear-requires : goal.clear-requires
clear-requires c = omega (arith, (let inside' : let v = c.loop-i in let a = c.args in let f = c.field-f.result in (v.k + f.zeros + f.width ≤ 40) × (a.from + v.i < length a.rows.now) × (a.to + (v.k + f.zeros + f.width) ≤ length v.out) = let v = c.loop-i in let i = (let counted' : c.loop-i.i < numbers_of c.args.kind = rw c.numbers-n.ensures.0 at c.loop-i-test.true in counted') in let e = rw (← c.field-f.ensures) at (field_in v.k v.i (layout c.args.kind) i v.invariant.left) in (e, omega arith, omega (arith, v.invariant.same)) in inside'))

pub put_number-requires : goal.put_number-requires
put_number-requires c =
    let w = (let fits' : Readable c.field-f.result.width = rw c.field-f.ensures (field_readable c.args.kind c.loop-i.i (let counted' : c.loop-i.i < numbers_of c.args.kind = rw c.numbers-n.ensures.0 at c.loop-i-test.true in counted')) in fits') in
    (w.0, w.1, w.2, omega (arith, (let inside' : let v = c.loop-i in let a = c.args in let f = c.field-f.result in (v.k + f.zeros + f.width ≤ 40) × (a.from + v.i < length a.rows.now) × (a.to + (v.k + f.zeros + f.width) ≤ length v.out) = let v = c.loop-i in let i = (let counted' : c.loop-i.i < numbers_of c.args.kind = rw c.numbers-n.ensures.0 at c.loop-i-test.true in counted') in let e = rw (← c.field-f.ensures) at (field_in v.k v.i (layout c.args.kind) i v.invariant.left) in (e, omega arith, omega (arith, v.invariant.same)) in inside'), c.clear.auto))

pub loop-i-preserved : goal.loop-i-preserved
loop-i-preserved c =
    let a = c.args in
    encoding_more c.loop-i.invariant (let counted' : c.loop-i.i < numbers_of c.args.kind = rw c.numbers-n.ensures.0 at c.loop-i-test.true in counted') c.field-f.ensures
    (sym (get_or-drop a.from a.rows.now c.loop-i.i 0))
    c.clear.ensures
    c.put_number.ensures

pub returns : goal.returns
returns c =
    encoding_all c.loop-i.invariant (omega arith) c.clear-2.ensures
