use Prim.Native.Nat.{◌-◌}
use mathlib.Core.Path.{◌≡◌, ◌∙◌}
use Rattle.form.proofs.EachKind.{kinds_are}
use Rattle.counted.proofs.Rooms.{handing_more, handing_all}
use native.Mathlib.Omega.{arith}
use Rattle.counted.proofs.put_counts.Goals as goal

pub bounds-room-k : goal.bounds-room-k
bounds-room-k c = omega (arith, kinds_are, c.requires, c.loop-k.invariant.same)

pub loop-k-smaller : goal.loop-k-smaller
loop-k-smaller c = omega (arith, kinds_are)

pub loop-k-preserved : goal.loop-k-preserved
loop-k-preserved c =
    let v = c.loop-k in
    handing_more v.invariant (omega (arith, kinds_are, c.loop-k-test.true)) c.held_at.ensures

pub returns : goal.returns
returns c = handing_all c.loop-k.invariant (omega (arith, kinds_are, c.loop-k-test.false)) (omega (arith, kinds_are, c.requires))
