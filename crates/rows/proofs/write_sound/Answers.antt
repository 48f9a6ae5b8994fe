use mathlib.Core.Path.{◌≡◌, refl, sym, ◌∙◌}
use Prim.Native.Nat.{◌*◌, ◌≤◌}
use lib.ListN.{length}
use Rattle.std.proofs.lemmas.Result.{err_from_is_err_and}
use Rattle.form.proofs.Order.{short_room, long_room}
use Rattle.rows.specs.Writing.{written}
use Rattle.filing.specs.Lists.{cut}
use Rattle.rows.proofs.Return.{written-long, no_room, all_done, on_front}
use Rattle.rows.proofs.write_sound.Goals as goal

pub returns-in_err-room_for-clause-value : goal.returns-in_err-room_for-clause-value
returns-in_err-room_for-clause-value c =
    let a = c.args in
    let long = written-long a.edition _ a.lengths.now a.rows.now c.requires c.blocks_in-n.ensures.0 in
    let short = short_room (512 * c.blocks_in-n.result) (length a.room.now) c.room_for.ensures c.in_err-room_for.was in
    let p = err_from_is_err_and c.from_residual.result c.from_residual.ensures.1 in
    rw (p.1, p.2, short.1) (no_room a.edition a.lengths.now a.rows.now a.room.now long short.0)

pub write_blocks-requires-clause-n_value : goal.write_blocks-requires-clause-n_value
write_blocks-requires-clause-n_value c = (c.blocks_in-n.ensures.0, c.blocks_in-n.ensures.1, long_room _ _ c.room_for.ensures c.in_ok-room_for.was)

pub returns : goal.returns
returns c =
    let a = c.args in
    let long = written-long a.edition _ a.lengths.now a.rows.now c.requires c.blocks_in-n.ensures.0 in
    let room : 512 * c.blocks_in-n.result ≤ length a.room.now = long_room _ _ c.room_for.ensures c.in_ok-room_for.was in
    record {
      value = all_done a.edition a.lengths.now a.rows.now a.room.now long room;
      room_after = on_front a.edition a.lengths.now a.rows.now a.room.now long room c.write_blocks.ensures;
    }
