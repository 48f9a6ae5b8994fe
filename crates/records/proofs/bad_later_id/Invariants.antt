use Prim.Native.Nat.{◌+◌, ◌-◌, ◌*◌, ◌≤◌}
use mathlib.Core.Path.{◌≡◌}
use Rattle.std.specs.Prelude.{None}
use Rattle.form.specs.First.{first}
use Rattle.form.specs.Bytes.{number}
use Rattle.form.specs.Block.{record_at}
use Rattle.form.specs.Records.{filed, bad_id}
use Rattle.records.proofs.bad_later_id.Given as goal

abbrev pub invariant-loop-r : goal.invariant-loop-r
invariant-loop-r l =
    (1 ≤ l.r)
    × (l.r ≤ 12)
    × (first (λ i. bad_id (filed l.bytes) (12 * l.b + i)) l.r ≡ None)
    × (l.last ≡ number 4 l.bytes (record_at l.b (l.r - 1)))
