-- Lengths added up, and lists in lent room. Assumes nothing.
--     total-set, get_d_total      one length replaced; one length is at most all of them
--     sum_to, total_few           the lengths added up are at most their bounds added up
--     stored-behind              a list stored behind the used part of an area
use Prim.Native.Nat.{ℕ, zero, suc, ◌+◌, ◌<◌, ◌≤◌}
use mathlib.Core.Path.{◌≡◌, ap, ◌∙◌}
use mathlib.Core.List.{List, [], ◌∷◌, ◌++◌}
use native.Mathlib.Omega.{arith}
use lib.ListN.{length, take, drop, get_or, set, length-append}
use lib.Seq.{sets, sets-eq, take_at, length-take-le}
use Rattle.filing.specs.Lists.{total}

pub total-set : (ls : List ℕ) (j v : ℕ) → j < length ls → total (set ls j v) + get_or ls j 0 ≡ total ls + v
unfolding total
total-set [] j v h = absurd (omega arith)
total-set (n ∷ ns) zero v h = omega arith
total-set (n ∷ ns) (suc j) v h = omega (arith, total-set ns j v (omega arith))

pub get_d_total : (ls : List ℕ) (j : ℕ) → get_or ls j 0 ≤ total ls
unfolding total
get_d_total [] j = omega arith
get_d_total (n ∷ ns) zero = omega arith
get_d_total (n ∷ ns) (suc j) = omega (arith, get_d_total ns j)

abbrev pub sum_to : (ℕ → ℕ) → ℕ → ℕ
sum_to f zero = 0
sum_to f (suc n) = f 0 + sum_to (λ i. f (suc i)) n

pub total_few : (f : ℕ → ℕ) (ls : List ℕ) → ((i : ℕ) → get_or ls i 0 ≤ f i) → total ls ≤ sum_to f (length ls)
unfolding total
total_few f [] h = omega arith
total_few f (n ∷ ns) h = omega (arith, h 0, total_few (λ i. f (suc i)) ns (λ i. h (suc i)))

pub stored-behind : (a : List ℕ) (used m : ℕ) (ns : List ℕ) → length ns ≡ m → used + m ≤ length a → take (used + m) (sets a used ns) ≡ take used a ++ ns
stored-behind a used m ns e h =
    let f : length (take used a ++ ns) ≡ used + m = omega (arith, length-append (take used a) ns, length-take-le used a (omega arith), e) in
    ap (take (used + m)) (sets-eq ns a used (omega (arith, e))) ∙ take_at (take used a ++ ns) (drop (used + length ns) a) (used + m) f
