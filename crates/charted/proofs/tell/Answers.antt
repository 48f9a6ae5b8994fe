use mathlib.Core.Path.{sym, subst, ◌∙◌}
use mathlib.Core.Bool.{not}
use lib.Dec.{T}
use lib.Ieee.{Float, is_nan}
use lib.ListN.{length}
use Rattle.std.proofs.lemmas.Result.{err_from_is_err_and}
use Rattle.form.proofs.Order.{short_room, long_room}
use Rattle.charted.proofs.Bits.{figured, number, refused_out, code_out, short_out, done_out}
use Rattle.charted.proofs.tell.Goals as goal

pub returns-in_err-d-clause-value : goal.returns-in_err-d-clause-value
returns-in_err-d-clause-value c =
    let p = err_from_is_err_and c.from_residual.result c.from_residual.ensures.1 in
    rw (p.1, p.2) (refused_out _ c.args.code c.args.room.now _ _ (sym c.subtotals.ensures ∙ c.in_err-d.was)).0

pub returns-in_err-d-clause-room_after : goal.returns-in_err-d-clause-room_after
returns-in_err-d-clause-room_after c = (refused_out _ c.args.code c.args.room.now _ _ (sym c.subtotals.ensures ∙ c.in_err-d.was)).1

pub returns-then-code-gt2 : goal.returns-then-code-gt2
returns-then-code-gt2 c =
    let f = figured _ _ (sym c.subtotals.ensures ∙ c.in_ok-d.was) in
    let said = code_out _ _ _ _ f c.if-code-gt2.true in
    record { value = said.0; room_after = said.1 }

pub returns-in_err-room_for-clause-value : goal.returns-in_err-room_for-clause-value
returns-in_err-room_for-clause-value c =
    let short = short_room 8 (length c.args.room.now) c.room_for.ensures c.in_err-room_for.was in
    let p = err_from_is_err_and c.from_residual-in_err-room_for.result c.from_residual-in_err-room_for.ensures.1 in
    let f = figured _ _ (sym c.subtotals.ensures ∙ c.in_ok-d.was) in
    rw (p.1, p.2, short.1) (short_out _ _ _ _ f c.if-code-gt2.false short.0).0

pub returns-in_err-room_for-clause-room_after : goal.returns-in_err-room_for-clause-room_after
returns-in_err-room_for-clause-room_after c =
    let short = short_room 8 (length c.args.room.now) c.room_for.ensures c.in_err-room_for.was in
    let f = figured _ _ (sym c.subtotals.ensures ∙ c.in_ok-d.was) in
    (short_out _ _ _ _ f c.if-code-gt2.false short.0).1

pub float_to_bits-by_code : goal.float_to_bits-by_code
float_to_bits-by_code c =
    let f = figured _ _ (sym c.subtotals.ensures ∙ c.in_ok-d.was) in
    subst (λ (x : Float). T (not (is_nan x))) (sym c.by_code.ensures) (number _ c.args.code _ f)

pub put_bits-requires : goal.put_bits-requires
put_bits-requires c = long_room 8 _ c.room_for.ensures c.in_ok-room_for.was

pub returns : goal.returns
returns c =
    let a = c.args in
    let room = long_room 8 (length a.room.now) c.room_for.ensures c.in_ok-room_for.was in
    let f = figured _ _ (sym c.subtotals.ensures ∙ c.in_ok-d.was) in
    let said = done_out a.bytes.now a.code a.room.now _ _ _ f c.if-code-gt2.false room c.by_code.ensures c.put_bits.ensures in
    record { value = said.0; room_after = said.1 }
