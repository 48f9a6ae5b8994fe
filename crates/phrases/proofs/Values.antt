-- The values of lines, at a place. Assumes nothing.
--     amount_at    the integer of value i
use Prim.Native.Nat.{ℕ, zero, suc, ◌<◌}
use mathlib.Core.Path.{◌≡◌, refl}
use mathlib.Core.List.{List, [], ◌∷◌}
use native.Mathlib.Omega.{arith}
use lib.IntN.{pos}
use lib.ListN.{length, get_or}
use Rattle.std.specs.Prelude.{slice_index_or}
use Rattle.wide.specs.declared.signed.Signed.{Signed}
use Rattle.wide.specs.Signs.{amount}
use Rattle.phrases.specs.Lines.{amounts}

pub amount_at : (zs : List Signed) (i : ℕ) (d : Signed) → i < length zs → amount (slice_index_or zs i d) ≡ get_or (amounts zs) i (pos 0)
amount_at [] i d h = absurd (omega arith)
amount_at (z ∷ zs) zero d h = refl
amount_at (z ∷ zs) (suc i) d h = amount_at zs i d (omega arith)
