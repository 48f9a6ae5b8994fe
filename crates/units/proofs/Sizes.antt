-- How large a product with a sign is, so that the next step has room. Assumes nothing.
use Prim.Native.Nat.{ℕ, ◌*◌}
use mathlib.Core.Path.{◌≡◌, sym, ap, ◌∙◌}
use lib.IntN.{pos, ◌*ℤ◌}
use Rattle.wide.specs.Numbers.{value}
use Rattle.wide.specs.Signs.{amount, Holds}
use Rattle.wide.specs.declared.signed.Signed.{Signed}
use Rattle.wide.proofs.SignLaws.{size_is, size-amount, size-times}

pub size_scaled : {s : Signed} (t : Signed) (k : ℕ) → Holds s (amount t *ℤ pos k) → value s.size ≡ value t.size * k
size_scaled {s} t k h = size_is s _ h ∙ size-times (amount t) k ∙ ap (λ (n : ℕ). n * k) (sym (size-amount t))
