use native.Mathlib.Omega.{arith}
use Rattle.phrases.proofs.Room.{straight_out}
use Rattle.phrases.proofs.put_short.Goals as goal

pub returns-clause-room_after : goal.returns-clause-room_after
returns-clause-room_after c =
    (straight_out c.args.text.now c.args.room.now _ _ c.put.ensures (omega arith)).1
