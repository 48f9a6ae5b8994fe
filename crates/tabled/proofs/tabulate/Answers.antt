use lib.ListN.{length}
use Rattle.std.proofs.lemmas.Result.{err_from_is_err_and}
use Rattle.form.proofs.Order.{short_room, long_room}
use Rattle.worksheets.proofs.Accepted.{told}
use Rattle.tabled.proofs.Numbers.{refused_out, short_out, done_out}
use Rattle.tabled.proofs.tabulate.Goals as goal

pub returns-in_err-f-clause-value : goal.returns-in_err-f-clause-value
returns-in_err-f-clause-value c =
    let p = err_from_is_err_and c.from_residual.result c.from_residual.ensures.1 in
    rw (p.1, p.2) (refused_out c.args.bytes.now c.args.room.now _ _ (told c.args.bytes.now c.figures.ensures c.in_err-f.was)).0

pub returns-in_err-room_for-clause-value : goal.returns-in_err-room_for-clause-value
returns-in_err-room_for-clause-value c =
    let a = c.args in
    let short = short_room _ (length a.room.now) c.room_for.ensures c.in_err-room_for.was in
    let p = err_from_is_err_and c.from_residual-in_err-room_for.result c.from_residual-in_err-room_for.ensures.1 in
    rw (p.1, p.2, short.1) (short_out a.bytes.now a.room.now _ (told a.bytes.now c.figures.ensures c.in_ok-f.was) short.0).0

pub put_numbers-requires : goal.put_numbers-requires
put_numbers-requires c = long_room _ _ c.room_for.ensures c.in_ok-room_for.was

pub returns : goal.returns
returns c =
    let a = c.args in
    let room = long_room _ (length a.room.now) c.room_for.ensures c.in_ok-room_for.was in
    let said = done_out a.bytes.now a.room.now _ _ _ (told a.bytes.now c.figures.ensures c.in_ok-f.was) room c.put_numbers.ensures.written_at in
    record { value = said.0; room_after = said.1 }
