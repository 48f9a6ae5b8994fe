use Prim.Native.Nat.{suc, ◌+◌, ◌*◌, ◌≤◌}
use mathlib.Core.Path.{◌≡◌}
use lib.ListN.{length, drop}
use Rattle.form.proofs.EachKind.{KindsAre}
use Rattle.lists.specs.Rules.{blocks_from}
use Rattle.lists.proofs.blocks_in.Given as goal

abbrev pub invariant-loop-k : goal.invariant-loop-k
invariant-loop-k l = KindsAre × (l.k ≤ length l.lengths) × (l.n ≤ 3 * l.k) × (l.n + blocks_from (suc l.k) (drop l.k l.lengths) ≡ blocks_from 1 l.lengths)
