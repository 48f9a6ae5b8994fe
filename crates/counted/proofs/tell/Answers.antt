use mathlib.Core.Path.{sym, ◌∙◌}
use lib.ListN.{length}
use native.Mathlib.Omega.{arith}
use Rattle.std.proofs.lemmas.Result.{err_from_is_err_and}
use Rattle.form.proofs.EachKind.{kinds_are}
use Rattle.form.proofs.Order.{short_room, long_room}
use Rattle.counted.proofs.Rooms.{refused_out, short_out, done_out}
use Rattle.counted.proofs.tell.Goals as goal

pub returns-in_err-c-clause-value : goal.returns-in_err-c-clause-value
returns-in_err-c-clause-value c =
    let p = err_from_is_err_and c.from_residual.result c.from_residual.ensures.1 in
    rw (p.1, p.2) (refused_out c.args.bytes.now c.args.counts.now _ _ (sym c.judge.ensures ∙ c.in_err-c.was)).0

pub returns-in_err-c-clause-counts_after : goal.returns-in_err-c-clause-counts_after
returns-in_err-c-clause-counts_after c = (refused_out c.args.bytes.now c.args.counts.now _ _ (sym c.judge.ensures ∙ c.in_err-c.was)).1

pub returns-in_err-room_for-clause-value : goal.returns-in_err-room_for-clause-value
returns-in_err-room_for-clause-value c =
    let a = c.args in
    let short = short_room _ (length a.counts.now) c.room_for.ensures c.in_err-room_for.was in
    let p = err_from_is_err_and c.from_residual-in_err-room_for.result c.from_residual-in_err-room_for.ensures.1 in
    rw (p.1, p.2, short.1) (short_out a.bytes.now a.counts.now _ (sym c.judge.ensures ∙ c.in_ok-c.was) (omega (arith, kinds_are, short.0))).0

pub returns-in_err-room_for-clause-counts_after : goal.returns-in_err-room_for-clause-counts_after
returns-in_err-room_for-clause-counts_after c =
    let a = c.args in
    let short = short_room _ (length a.counts.now) c.room_for.ensures c.in_err-room_for.was in
    (short_out a.bytes.now a.counts.now _ (sym c.judge.ensures ∙ c.in_ok-c.was) (omega (arith, kinds_are, short.0))).1

pub put_counts-requires : goal.put_counts-requires
put_counts-requires c = omega (arith, kinds_are, long_room _ _ c.room_for.ensures c.in_ok-room_for.was)

pub returns : goal.returns
returns c =
    let a = c.args in
    let room = long_room _ (length a.counts.now) c.room_for.ensures c.in_ok-room_for.was in
    let said = done_out a.bytes.now a.counts.now _ _ (sym c.judge.ensures ∙ c.in_ok-c.was) (omega (arith, kinds_are, room)) c.put_counts.ensures in
    record { value = said.0; counts_after = said.1 }
