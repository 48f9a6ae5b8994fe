use mathlib.Core.Path.{sym, subst}
use Rattle.door.specs.Texts.{PackInPlace}
use Rattle.door.proofs.Codes.{pack_in_place}
use Rattle.door.proofs.niloferq_pack.Goals as goal

pub code_of_text-requires : goal.code_of_text-requires
code_of_text-requires c =
    let a = c.args in
    subst PackInPlace (sym c.pack.ensures.value) (pack_in_place a.text.now a.room.now a.size.now)
