use mathlib.Core.Path.{refl}
use lib.ListN.{length}
use Rattle.std.proofs.lemmas.Result.{err_from_is_err_and}
use Rattle.form.proofs.Order.{too_short_lem, long_enough, short_room, long_room}
use Rattle.filing.proofs.Stores.{sets-front}
use Rattle.worksheets.specs.Sheets.{standard, parameter_numbers}
use Rattle.offered.proofs.tell.Goals as goal

pub returns-in_err-room_for-clause-value : goal.returns-in_err-room_for-clause-value
returns-in_err-room_for-clause-value c =
    let short = short_room 6 (length c.args.room.now) c.room_for.ensures c.in_err-room_for.was in
    let p = err_from_is_err_and c.from_residual.result c.from_residual.ensures.1 in
    rw (p.1, p.2, short.1, too_short_lem 6 c.args.room.now short.0) refl

pub returns-in_err-room_for-clause-room_after : goal.returns-in_err-room_for-clause-room_after
returns-in_err-room_for-clause-room_after c =
    let short = short_room 6 (length c.args.room.now) c.room_for.ensures c.in_err-room_for.was in
    rw (too_short_lem 6 c.args.room.now short.0) refl

pub returns : goal.returns
returns c =
    let room = c.args.room.now in
    let long = long_room 6 (length room) c.room_for.ensures c.in_ok-room_for.was in
    record {
      value = rw (long_enough 6 room long) refl;
      room_after = rw (long_enough 6 room long, c.defaults-p.ensures) (sets-front room (parameter_numbers standard) long);
    }
