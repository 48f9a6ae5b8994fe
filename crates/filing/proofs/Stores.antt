-- Lent memory, stored to part by part. Assumes nothing.
--     sets_append, sets_then    one part stored behind another
--     sets-front    what is stored at the front; sets-read    what was stored, read again
--     Filling     parts, each a function of its number, one after the other, as a loop stores them
use Prim.Native.Nat.{ℕ, zero, suc, ◌+◌, ◌-◌, ◌*◌, ◌≤◌, ◌<◌}
use mathlib.Core.Path.{◌≡◌, refl, sym, ◌∙◌}
use mathlib.Core.List.{List, [], ◌∷◌, ◌++◌, append_assoc}
use native.Mathlib.Nat.{add-zero, add-suc, suc-add, mul-suc, mul-zero}
use native.Mathlib.Omega.{arith}
use lib.ListN.{length, take, drop, set, length-append}
use lib.Seq.{sets, sets-eq, length-sets, length-take-le, drop_at, take_at}
use Rattle.filing.specs.Written.{zeros, in_turn}

pub sets_append : (d : List ℕ) (i : ℕ) (x y : List ℕ) → sets d i (x ++ y) ≡ sets (sets d i x) (i + length x) y
sets_append d i [] y = rw add-zero
sets_append d i (a ∷ x) y = rw (add-suc i (length x), ← suc-add i (length x)) (sets_append (set d i a) (suc i) x y)

pub sets_then : {d₁ d₂ : List ℕ} {p : ℕ} (d : List ℕ) (to : ℕ) (x y : List ℕ)
    → d₁ ≡ sets d to x → d₂ ≡ sets d₁ p y → p ≡ to + length x → d₂ ≡ sets d to (x ++ y)
sets_then d to x y e f q = f ∙ rw (e, q) (sym (sets_append d to x y))

pub sets-front : (d x : List ℕ) → length x ≤ length d → sets d 0 x ≡ x ++ drop (length x) d
sets-front d x h =
    let z : 0 + length x ≡ length x = omega arith in
    rw z at (sets-eq x d 0 (omega arith))

pub sets-read : (d : List ℕ) (to : ℕ) (x : List ℕ) {n : ℕ} → length x ≡ n → to + n ≤ length d → take n (drop to (sets d to x)) ≡ x
sets-read d to x {n} e h =
    let t : length (take to d) ≡ to = length-take-le to d (omega arith) in
    let rest : List ℕ = drop (to + length x) d in
    let s : sets d to x ≡ take to d ++ (x ++ rest) = sets-eq x d to (omega arith) ∙ append_assoc (take to d) x rest in
    rw (s, drop_at (take to d) (x ++ rest) to t, take_at x rest n e)

-- ---- parts, one after the other

pub length_turns : (f : ℕ → List ℕ) (w : ℕ) → ((k : ℕ) → length (f k) ≡ w) → (i n : ℕ) → length (in_turn f i n) ≡ w * n
unfolding in_turn
length_turns f w e i zero = rw (mul-zero w)
length_turns f w e i (suc n) = simp (length-append, e i, length_turns f w e (suc i) n, mul-suc) (omega arith)

-- n zeros are n parts
pub zeros_turn : (i n : ℕ) → in_turn (λ k. 0 ∷ []) i n ≡ zeros n
unfolding in_turn
zeros_turn i zero = refl
zeros_turn i (suc n) = rw (zeros_turn (suc i) n)

-- the first k of `count` parts of f stand from to₀ on, and the next goes to `to`
pub record Filling (f : ℕ → List ℕ) (first count : ℕ) (d₀ : List ℕ) (to₀ : ℕ) (d : List ℕ) (to k : ℕ) : Type 0 where
  pub within : k ≤ count
  pub same : length d ≡ length d₀
  pub whole : sets d to (in_turn f (first + k) (count - k)) ≡ sets d₀ to₀ (in_turn f first count)

module _ {f : ℕ → List ℕ} {first count : ℕ} where
  pub filling_none : {d : List ℕ} {to : ℕ} → Filling f first count d to d to 0
  filling_none = let z : count - 0 ≡ count = omega arith in record { within = omega arith; same = refl; whole = rw (z, add-zero first) }

  module _ {d₀ : List ℕ} {to₀ : ℕ} {d : List ℕ} {to k : ℕ} where
    pub filling_more : {d₁ : List ℕ} {to₁ : ℕ} → Filling f first count d₀ to₀ d to k → k < count
        → d₁ ≡ sets d to (f (first + k)) → to₁ ≡ to + length (f (first + k)) → Filling f first count d₀ to₀ d₁ to₁ (k + 1)
    unfolding in_turn
    filling_more r h e t =
        let c : count - k ≡ suc (count - (k + 1)) = omega arith in
        let n : first + (k + 1) ≡ suc (first + k) = omega arith in
        record { within = omega arith; same = rw (e, length-sets) r.same; whole = rw (e, t, n) (rw (c, sets_append) at r.whole) }

    pub filling_all : Filling f first count d₀ to₀ d to k → count ≤ k → d ≡ sets d₀ to₀ (in_turn f first count)
    unfolding in_turn
    filling_all r h = let n : count - k ≡ 0 = omega arith in rw n at r.whole
