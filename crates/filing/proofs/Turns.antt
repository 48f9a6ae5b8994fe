-- Parts of one length, one after the other. Assumes nothing.
--     turn_stands, turns_stand    part k of what stands; a whole whose parts stand
--     turn_part       part k, cut out of the whole
use Prim.Native.Nat.{ℕ, zero, suc, ◌+◌, ◌*◌, ◌<◌}
use mathlib.Core.Path.{◌≡◌, refl, ap}
use mathlib.Core.List.{List}
use native.Mathlib.Nat.{zero-add, add-zero, mul-suc, mul-zero}
use native.Mathlib.Omega.{arith}
use lib.ListN.{length, take, drop}
use lib.Seq.{take_at}
use Rattle.filing.specs.Written.{in_turn}
use Rattle.filing.proofs.Stands.{Stands, stands-whole, stands-left, stands_right, stands-join}

module _ (f : ℕ → List ℕ) (w : ℕ) (long : (k : ℕ) → length (f k) ≡ w) (s : List ℕ) where
  -- part k of what stands
  pub turn_stands : (n i p k : ℕ) → k < n → Stands s p (in_turn f i n) → Stands s (p + w * k) (f (i + k))
  unfolding in_turn
  turn_stands zero i p k h st = absurd (omega arith)
  turn_stands (suc n) i p zero h st =
      let q : p + w * 0 ≡ p = omega (arith, mul-zero w) in
      rw (q, add-zero i) (stands-left (f i) (in_turn f (suc i) n) st)
  turn_stands (suc n) i p (suc k) h st =
      let q : p + w * suc k ≡ p + w + w * k = omega (arith, mul-suc w k) in
      let j : i + suc k ≡ suc i + k = omega arith in
      rw (q, j) (turn_stands n (suc i) (p + w) k (omega arith) (stands_right (f i) (in_turn f (suc i) n) (ap (λ (x : ℕ). p + x) (long i)) st))

  -- a whole whose parts stand
  pub turns_stand : (n i p : ℕ) → ((k : ℕ) → k < n → Stands s (p + w * k) (f (i + k))) → Stands s p (in_turn f i n)
  unfolding in_turn
  turns_stand zero i p h = record { rest = drop p s; is = refl }
  turns_stand (suc n) i p h =
      let z : p + w * 0 ≡ p = omega (arith, mul-zero w) in
      stands-join (f i) (in_turn f (suc i) n) {q = p + w} (ap (λ (x : ℕ). p + x) (long i))
      (rw (z, add-zero i) at (h 0 (omega arith)))
      (turns_stand n (suc i) (p + w)
      (λ k l.
      let q : p + w + w * k ≡ p + w * suc k = omega (arith, mul-suc w k) in
      let j : suc i + k ≡ i + suc k = omega arith in
      rw (q, j) (h (suc k) (omega arith))))

pub turn_part : (f : ℕ → List ℕ) (w : ℕ) → ((k : ℕ) → length (f k) ≡ w) → (n i k : ℕ) → k < n → take w (drop (w * k) (in_turn f i n)) ≡ f (i + k)
turn_part f w long n i k h =
    let st = turn_stands f w long (in_turn f i n) n i 0 k h (stands-whole (in_turn f i n)) in
    rw (rw (zero-add (w * k)) at st.is) (take_at (f (i + k)) st.rest w (long (i + k)))
