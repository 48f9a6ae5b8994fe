use Prim.Native.Nat.{ℕ, ◌*◌}
use mathlib.Core.Path.{◌≡◌, sym, ap, ◌∙◌}
use Rattle.form.specs.Records.{filed, bad_id}
use Rattle.form.proofs.Places.{id_none, id_first}
use native.Mathlib.Omega.{arith}
use Rattle.records.proofs.bad_first_id.Goals as goal

pub returns-then-b-lt1 : goal.returns-then-b-lt1
returns-then-b-lt1 c =
    let a = c.args in
    let z : a.b ≡ 0 = omega arith in
    sym (ap (λ (n : ℕ). bad_id (filed a.bytes.now) (12 * n)) z ∙ id_none a.bytes.now)

pub returns : goal.returns
returns c = let a = c.args in cc (id_first a.bytes.now a.b (omega arith))
