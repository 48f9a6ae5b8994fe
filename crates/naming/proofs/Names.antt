-- Words that are short, and numbers that are no kind. Assumes nothing.
--     short_in       a word of some words that are all short is short
--     no_name        a number that is no kind has no field with a name
use Prim.Native.Nat.{ℕ, zero, suc, ◌≤◌}
use mathlib.Core.Path.{◌≡◌, refl, ap}
use mathlib.Core.Bool.{Bool, true, ◌&&◌}
use mathlib.Core.List.{List, [], ◌∷◌}
use native.Mathlib.Omega.{arith}
use borrow.Author.Tests.{leb-true}
use lib.Dec.{leb}
use lib.ListN.{length, get_or, get_or-eq_default}
use Rattle.form.proofs.Tests.{and-true}
use Rattle.form.proofs.EachKind.{NoneOf, beyond}
use Rattle.naming.specs.Names.{field_names, field_name}

unfoldable pub all_short : ℕ → List (List ℕ) → Bool
all_short n [] = true
all_short n (w ∷ ws) = leb (length w) n && all_short n ws

pub short_in : (n : ℕ) (ws : List (List ℕ)) → all_short n ws ≡ true → (i : ℕ) → length (get_or ws i []) ≤ n
unfolding all_short
short_in n [] e i = omega arith
short_in n (w ∷ ws) e zero = leb-true (length w) n (and-true (leb (length w) n) (all_short n ws) e).0
short_in n (w ∷ ws) e (suc i) = short_in n ws (and-true (leb (length w) n) (all_short n ws) e).1 i

-- another number is no kind
pub no_name : (k i : ℕ) → NoneOf 8 k → field_name k i ≡ []
no_name zero i e = refl
no_name (suc k) i e = ap (λ (n : List (List ℕ)). get_or n i []) (get_or-eq_default field_names [] {n = k} (not_le (λ h. beyond 8 (suc k) e h (omega arith))))
  where
    not_le : (suc k ≤ 8 → ⊥) → 8 ≤ k
    not_le g = omega arith
