use Prim.Native.Nat.{suc, ◌+◌, ◌≤◌}
use mathlib.Core.Path.{◌≡◌}
use lib.ListN.{length}
use Rattle.form.specs.Layout.{kinds}
use Rattle.form.specs.Standing.{start_block}
use Rattle.form.proofs.EachKind.{KindsAre}
use Rattle.rows.specs.Reading.{lists_from}
use Rattle.cells.specs.Lines.{ended}
use Rattle.decimal.specs.Digits.{WrittenAt}
use Rattle.unpacked.specs.Unpacked.{lists_lines}
use Rattle.unpacked.specs.Rooms.{kinds_room}
use Rattle.unpacked.proofs.put_kinds.Given as goal

abbrev pub invariant-loop-k : goal.invariant-loop-k
invariant-loop-k l =
    KindsAre
    × (l.k ≤ kinds)
    × (l.first ≡ start_block (suc l.k) l.bytes)
    × (length l.out ≡ length l.initial.out)
    × WrittenAt (ended (lists_lines 1 (lists_from l.bytes 1 l.k))) l.initial.out l.out l.at l.to
    × (l.to ≤ l.at + kinds_room l.k)
