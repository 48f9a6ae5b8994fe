use mathlib.Core.Path.{sym, subst}
use Rattle.door.specs.Door.{InPlace}
use Rattle.door.proofs.Codes.{in_place, judge_bounded}
use Rattle.door.proofs.niloferq_judge.Goals as goal

pub code_of-requires : goal.code_of-requires
code_of-requires c =
    let a = c.args in
    subst InPlace (sym c.tell.ensures.value) (in_place _ (judge_bounded a.bytes.now a.counts.now))
