use mathlib.Core.Path.{sym, subst}
use Rattle.door.specs.Door.{InPlace}
use Rattle.door.proofs.Codes.{in_place, write_bounded}
use Rattle.door.proofs.niloferq_write.Goals as goal

pub code_of-requires : goal.code_of-requires
code_of-requires c =
    let a = c.args in
    subst InPlace (sym c.write.ensures.value) (in_place _ (write_bounded a.edition a.rows.now a.lengths.now a.room.now a.size.now))
