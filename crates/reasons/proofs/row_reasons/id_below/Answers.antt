use Prim.Native.Nat.{◌-◌}
use mathlib.Core.Path.{refl}
use Rattle.form.specs.Records.{filed}
use Rattle.reasons.proofs.Rows.{id_parts, id_there}
use Rattle.reasons.proofs.row_reasons.id_below.Goals as goal

pub overflow_sub-place : goal.overflow_sub-place
overflow_sub-place c = (id_parts (filed c.args.bytes.now) c.args.place c.requires.1).1

pub returns : goal.returns
returns c =
    let s = c.args.bytes.now in
    let h = id_parts (filed s) c.args.place c.requires.1 in
    let before = id_there s (c.args.place - 1) (rw h.2 h.0) c.row_start.ensures c.four_at-before.ensures in
    rw (c.row_named-row.ensures, before) refl
