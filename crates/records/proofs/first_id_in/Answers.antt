use Prim.Native.Nat.{◌+◌, ◌*◌}
use mathlib.Core.Path.{◌≡◌, sym, ◌∙◌}
use mathlib.Core.Bool.{true}
use native.Mathlib.Nat.{add-zero}
use native.Mathlib.Omega.{arith}
use Rattle.form.specs.Records.{filed, bad_id}
use Rattle.form.proofs.Search.{first-zero, first_found}
use Rattle.records.proofs.first_id_in.Goals as goal

pub returns-then-bad_first_id : goal.returns-then-bad_first_id
returns-then-bad_first_id c =
    let a = c.args in
    let z : bad_id (filed a.bytes.now) (12 * a.b + 0) ≡ true = rw add-zero (sym c.bad_first_id.ensures ∙ c.if-bad_first_id.true) in
    sym (first_found _ 0 12 (first-zero _) z (omega arith))
