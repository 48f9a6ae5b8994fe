use mathlib.Core.Path.{sym, subst}
use Rattle.door.specs.Door.{InPlace}
use Rattle.door.proofs.Codes.{in_place, heaviest-bounded}
use Rattle.door.proofs.niloferq_heaviest.Goals as goal

pub code_of-requires : goal.code_of-requires
code_of-requires c =
    let a = c.args in
    subst InPlace (sym c.tell.ensures.value) (in_place _ (heaviest-bounded a.bytes.now a.room.now a.code))
