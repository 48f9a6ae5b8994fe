use Prim.Native.Nat.{◌+◌, ◌*◌}
use mathlib.Core.Path.{◌≡◌}
use Rattle.form.specs.Layout.{numbers_of}
use Rattle.filing.specs.Tables.{row_on}
use Rattle.filing.proofs.Stores.{Filling}
use Rattle.decoding.proofs.decode_rows.Given as goal

abbrev pub invariant-loop-i : goal.invariant-loop-i
invariant-loop-i l = (Filling (row_on l.kind l.bytes) l.place l.n l.initial.room l.start l.room l.to l.i) × (l.to ≡ l.start + numbers_of l.kind * l.i)
