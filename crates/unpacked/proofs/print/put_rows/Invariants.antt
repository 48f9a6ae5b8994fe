use Prim.Native.Nat.{◌+◌, ◌*◌, ◌≤◌}
use mathlib.Core.Path.{◌≡◌}
use lib.ListN.{length}
use Rattle.cells.specs.Lines.{ended}
use Rattle.decimal.specs.Digits.{WrittenAt}
use Rattle.unpacked.specs.Unpacked.{row_lines_to}
use Rattle.unpacked.specs.Rooms.{row_room}
use Rattle.unpacked.proofs.print.put_rows.Given as goal

abbrev pub invariant-loop-i : goal.invariant-loop-i
invariant-loop-i l =
    (l.i ≤ l.n) × (length l.out ≡ length l.initial.out) × WrittenAt (ended (row_lines_to l.kind l.rows l.i)) l.initial.out l.out l.at l.to × (l.to ≤ l.at + row_room l.kind * l.i)
