use Prim.Native.Nat.{ℕ, ◌+◌}
use mathlib.Core.Path.{ap, ◌∙◌}
use mathlib.Core.List.{List}
use lib.ListN.{set, get_or, length-set}
use Rattle.phrases.proofs.Room.{put_more}
use native.Mathlib.Omega.{arith}
use Rattle.phrases.proofs.text.put.Goals as goal

pub loop-i-preserved : goal.loop-i-preserved
loop-i-preserved c =
    let l = c.loop-i in
    let a = c.args in (
      simp length-set l.invariant.0,
      ap (λ (x : List ℕ). set x (a.at + l.i) (get_or a.text.now l.i 0)) l.invariant.1 ∙ put_more a.out.now a.text.now a.at l.i (omega arith),
    )
