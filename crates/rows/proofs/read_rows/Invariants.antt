use Prim.Native.Nat.{suc}
use mathlib.Core.Path.{◌≡◌}
use lib.ListN.{length}
use Rattle.form.specs.Layout.{kinds}
use Rattle.form.specs.Standing.{start_block}
use Rattle.form.proofs.EachKind.{KindsAre}
use Rattle.filing.proofs.Stores.{Filling}
use Rattle.rows.specs.Reading.{rows_of, area_to}
use Rattle.rows.proofs.read_rows.Given as goal

abbrev pub invariant-loop-k : goal.invariant-loop-k
invariant-loop-k l =
    KindsAre × Filling (rows_of l.bytes) 1 kinds l.initial.room 0 l.room l.to l.k × (l.to ≡ length (area_to l.bytes l.k)) × (l.first ≡ start_block (suc l.k) l.bytes)
