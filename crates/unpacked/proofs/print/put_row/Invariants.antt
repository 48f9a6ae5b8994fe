use Prim.Native.Nat.{◌+◌, ◌*◌, ◌≤◌}
use mathlib.Core.Path.{◌≡◌}
use lib.ListN.{length}
use Rattle.decimal.specs.Digits.{WrittenAt}
use Rattle.unpacked.proofs.Lines.{tail_to}
use Rattle.unpacked.proofs.print.put_row.Given as goal

abbrev pub invariant-loop-i : goal.invariant-loop-i
invariant-loop-i l =
    (l.i ≤ length l.row) × (length l.out ≡ length l.initial.out) × WrittenAt (tail_to l.kind l.row l.i) l.initial.out l.out l.initial.to l.to × (l.to ≤ l.initial.to + 12 * l.i)
