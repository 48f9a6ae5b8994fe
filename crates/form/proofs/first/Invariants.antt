use Rattle.std.specs.Prelude.{◌≡◌, ℕ, Bool, ◌<◌, None}
use Rattle.form.specs.First.{first}
use Rattle.form.proofs.first.Given as goal

abbrev pub invariant-loop-i : goal.invariant-loop-i
invariant-loop-i g l =
    (p : ℕ → Bool) → ((i : ℕ) (r : Bool) → i < l.n → goal.F-post g l.test i r → r ≡ p i) → first p l.i ≡ None
