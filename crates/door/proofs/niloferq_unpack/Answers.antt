use mathlib.Core.Path.{sym, subst}
use Rattle.door.specs.Door.{InPlace}
use Rattle.door.proofs.Codes.{in_place, unpack_bounded}
use Rattle.door.proofs.niloferq_unpack.Goals as goal

pub code_of-requires : goal.code_of-requires
code_of-requires c =
    let a = c.args in
    subst InPlace (sym c.unpack.ensures.value) (in_place _ (unpack_bounded a.bytes.now a.room.now a.size.now))
