use Prim.Native.Nat.{◌≤◌}
use mathlib.Core.Path.{◌≡◌}
use Rattle.form.specs.Block.{blocks_below}
use Rattle.sequence.proofs.blocks_below.Given as goal

abbrev pub invariant-loop-a : goal.invariant-loop-a
invariant-loop-a l = (l.a ≤ l.b) × (l.n ≤ l.a) × (l.n ≡ blocks_below l.kind l.bytes l.a)
