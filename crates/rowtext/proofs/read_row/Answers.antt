use Prim.Native.Nat.{◌<◌}
use mathlib.Core.Path.{◌≡◌, sym, ◌∙◌}
use native.Mathlib.Omega.{arith}
use Rattle.form.specs.Layout.{numbers_of}
use Rattle.rowtext.specs.Said.{said_at}
use Rattle.rowtext.proofs.Reading.{reading_none, reading_says, reading_wrong, reading_all, reading_more}
use Rattle.rowtext.proofs.read_row.Goals as goal

pub loop-i-init : goal.loop-i-init
loop-i-init c =
    let a = c.args in
    reading_none a.sep a.kind a.line.now a.room.now a.at 0 c.next_field-name.result c.next_field-name.ensures

pub returns-in-Err : goal.returns-in-Err
returns-in-Err c =
    let a = c.args in
    let v = c.loop-i in let said = reading_wrong a.sep a.kind a.line.now a.room.now a.at v.room v.from v.unit v.i v.invariant _ (let one_more' : c.loop-i.i < numbers_of c.args.kind = omega (arith, c.loop-i-test.true, c.numbers-n.ensures.0) in one_more') (sym (let said_here' : let a = c.args in c.say_cell.result ≡ said_at a.sep a.kind a.line.now c.loop-i.i = let a = c.args in let v = c.loop-i in reading_says a.sep a.kind a.line.now a.room.now a.at v.room v.from v.unit v.i v.invariant c.next_field-field.result c.next_field-field.ensures c.say_cell.ensures in said_here') ∙ c.in-Err.is) in record { value = said.0; room_after = said.1 }

pub loop-i-preserved : goal.loop-i-preserved
loop-i-preserved c =
    let a = c.args in
    let v = c.loop-i in
    reading_more a.sep a.kind a.line.now a.room.now a.at v.room v.from v.unit v.i v.invariant _
    (sym (let said_here' : let a = c.args in c.say_cell.result ≡ said_at a.sep a.kind a.line.now c.loop-i.i = let a = c.args in let v = c.loop-i in reading_says a.sep a.kind a.line.now a.room.now a.at v.room v.from v.unit v.i v.invariant c.next_field-field.result c.next_field-field.ensures c.say_cell.ensures in said_here') ∙ c.in-Ok.is)
    c.next_field-field.result
    c.next_unit-unit.result
    (let one_more' : c.loop-i.i < numbers_of c.args.kind = omega (arith, c.loop-i-test.true, c.numbers-n.ensures.0) in one_more')
    c.next_field-field.ensures
    c.next_unit-unit.ensures

pub returns : goal.returns
returns c =
    let a = c.args in
    let v = c.loop-i in let said = reading_all a.sep a.kind a.line.now a.room.now a.at v.room v.from v.unit v.i v.invariant (omega (arith, c.loop-i-test.false, c.numbers-n.ensures.0)) in record { value = said.0; room_after = said.1 }
