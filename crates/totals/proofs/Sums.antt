-- Sums over the first rows of a list. Assumes nothing.
--     sum-next, sum_all    how a loop over the rows goes on by one, and ends
--     sum_le, sum_below    how large a sum is
use Prim.Native.Nat.{ℕ, zero, suc, ◌+◌, ◌*◌, ◌<◌, ◌≤◌}
use mathlib.Core.Path.{◌≡◌, ap}
use mathlib.Core.List.{List, [], ◌∷◌}
use native.Mathlib.Numerals.{add-one}
use native.Mathlib.Omega.{arith}
use lib.ListN.{length, take, get_or}
use lib.Seq.{take_all}
use Rattle.form.specs.Sums.{sum_of}

module _ (f : List ℕ → ℕ) where
  sum-suc : (rs : List (List ℕ)) (i : ℕ) → i < length rs → sum_of f (take (suc i) rs) ≡ sum_of f (take i rs) + f (get_or rs i [])
  unfolding sum_of
  sum-suc [] i l = absurd (omega arith)
  sum-suc (r ∷ rs) zero l = omega arith
  sum-suc (r ∷ rs) (suc i) l = omega (arith, sum-suc rs i (omega arith))

  pub sum-next : (rs : List (List ℕ)) (i : ℕ) → i < length rs → sum_of f (take (i + 1) rs) ≡ sum_of f (take i rs) + f (get_or rs i [])
  sum-next rs i l = rw add-one (sum-suc rs i l)

  pub sum_all : (rs : List (List ℕ)) (i : ℕ) → length rs ≤ i → sum_of f (take i rs) ≡ sum_of f rs
  sum_all rs i l = ap (sum_of f) (take_all i rs l)

  pub sum_le : (rs : List (List ℕ)) (i : ℕ) → sum_of f (take i rs) ≤ sum_of f rs
  unfolding sum_of
  sum_le rs zero = omega arith
  sum_le [] (suc i) = omega arith
  sum_le (r ∷ rs) (suc i) = omega (arith, sum_le rs i)

  pub sum_below : (b : ℕ) (rs : List (List ℕ)) → ((j : ℕ) → j < length rs → f (get_or rs j []) ≤ b) → sum_of f rs ≤ b * length rs
  unfolding sum_of
  sum_below b [] h = omega arith
  sum_below b (r ∷ rs) h = omega (arith, h 0 (omega arith), sum_below b rs (λ j l. h (suc j) (omega arith)))
