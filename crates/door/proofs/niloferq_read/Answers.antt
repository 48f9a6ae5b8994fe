use mathlib.Core.Path.{sym, subst}
use Rattle.door.specs.Door.{InPlace}
use Rattle.door.proofs.Codes.{in_place, read-bounded}
use Rattle.door.proofs.niloferq_read.Goals as goal

pub code_of-requires : goal.code_of-requires
code_of-requires c =
    let a = c.args in
    subst InPlace (sym c.read.ensures.value) (in_place _ (read-bounded a.bytes.now a.rows.now a.counts.now))
