use Prim.Native.Nat.{◌≤◌}
use mathlib.Core.Path.{◌≡◌}
use mathlib.Core.Bool.{false}
use Rattle.form.specs.First.{any}
use Rattle.form.specs.Block.{stray_record}
use Rattle.blocks.proofs.stray_records.Given as goal

abbrev pub invariant-loop-r : goal.invariant-loop-r
invariant-loop-r l = (l.r ≤ 12) × (any (stray_record l.bytes l.b) l.r ≡ false)
