use mathlib.Core.Path.{sym, subst}
use Rattle.door.specs.Door.{InPlace}
use Rattle.door.proofs.Codes.{in_place, figures-bounded}
use Rattle.door.proofs.niloferq_figures.Goals as goal

pub code_of-requires : goal.code_of-requires
code_of-requires c =
    let a = c.args in
    subst InPlace (sym c.tabulate.ensures.value) (in_place _ (figures-bounded a.bytes.now a.room.now))
