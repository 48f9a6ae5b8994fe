use Prim.Native.Nat.{◌+◌, ◌*◌}
use mathlib.Core.Path.{◌≡◌}
use Rattle.filing.specs.Lists.{filed_list}
use Rattle.filing.specs.Written.{record_on}
use Rattle.filing.proofs.Stores.{Filling}
use Rattle.filing.proofs.write_records.Given as goal

abbrev pub invariant-loop-i : goal.invariant-loop-i
invariant-loop-i l = (Filling (record_on (filed_list l.kind l.rows)) l.place 12 l.initial.out l.to l.out l.at l.i) × (l.at ≡ l.to + 40 * l.i)
