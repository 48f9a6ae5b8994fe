-- Laws of `first` and `any`. Assumes nothing.
--     first-zero, first_more, first_found    what a loop over the places needs: where it begins, goes on by one, and finds
--     first_at, first_none    what a spot says of the test; first_is, first_is_none    and the other way
--     any_none, any_each      a test that holds at no place
--     part_none, part_found   the same by parts of w places, for a loop over blocks
use Prim.Native.Nat.{ℕ, zero, suc, ◌+◌, ◌-◌, ◌*◌, ◌<◌, ◌≤◌}
use mathlib.Core.Path.{◌≡◌, refl, sym, subst}
use mathlib.Core.Bool.{Bool, true, false, cond, ◌||◌, or-true}
use mathlib.Core.Logic.{⊎_elim}
use native.Mathlib.Nat.{mul-le-mul_left, le_of_suc-le-suc, not-suc-le-zero, eq-or-lt_of_le}
use native.Mathlib.Decide.{dec_lt}
use native.Mathlib.Numerals.{add-one}
use native.Mathlib.Omega.{arith}
use Rattle.form.specs.First.{first, any, or_else}
use Rattle.form.proofs.Tests.{or_none}
use Rattle.std.specs.Prelude.{None, Option, Some}

module _ (p : ℕ → Bool) where
  pub first-zero : first p 0 ≡ None
  unfolding first
  first-zero = refl

  pub first_more : (i : ℕ) → first p i ≡ None → p i ≡ false → first p (i + 1) ≡ None
  unfolding first
  first_more i none fails = rw (add-one, none, fails)

  pub first_found : (i n : ℕ) → first p i ≡ None → p i ≡ true → i < n → first p n ≡ Some i
  unfolding first
  first_found i zero none holds l = absurd (not-suc-le-zero l)
  first_found i (suc n) none holds l =
      ⊎_elim
      (λ e. subst (λ (k : ℕ). first p (suc k) ≡ Some i) e (rw (none, holds)))
      (λ lt. let e : first p n ≡ Some i = first_found i n none holds lt in rw e)
      (eq-or-lt_of_le (le_of_suc-le-suc l))

  -- what a spot says of the test, below n
  abbrev pub Says : ℕ → Option ℕ → Type 0
  Says n (Some i) = (i < n) × (p i ≡ true) × ((k : ℕ) → k < i → p k ≡ false)
  Says n None = (k : ℕ) → k < n → p k ≡ false

  step : (n : ℕ) (s : Option ℕ) (b : Bool) → Says n s → p n ≡ b → Says (suc n) (or_else s (cond b (Some n) None))
  step n (Some i) b h e = (omega arith, h.1, h.2)
  step n None true h e = (omega arith, e, h)
  step n None false h e =
      λ k l. ⊎_elim (λ q. subst (λ (m : ℕ). p m ≡ false) (sym q) e) (λ lt. h k lt) (eq-or-lt_of_le (le_of_suc-le-suc l))

  pub first_says : (n : ℕ) → Says n (first p n)
  unfolding first
  first_says zero = λ k l. absurd (not-suc-le-zero l)
  first_says (suc n) = step n (first p n) (p n) (first_says n) refl

  pub first_at : {n i : ℕ} → first p n ≡ Some i → (i < n) × (p i ≡ true) × ((k : ℕ) → k < i → p k ≡ false)
  first_at {n} {i} e = subst (Says n) e (first_says n)

  pub first_none : {n : ℕ} → first p n ≡ None → (k : ℕ) → k < n → p k ≡ false
  first_none {n} e = subst (Says n) e (first_says n)

  pub first_is_none : (n : ℕ) → ((k : ℕ) → k < n → p k ≡ false) → first p n ≡ None
  first_is_none zero h = first-zero
  first_is_none (suc n) h = rw (← add-one n) (first_more n (first_is_none n (λ k l. h k (omega arith))) (h n (omega arith)))

  pub first_is : (n i : ℕ) → i < n → p i ≡ true → ((k : ℕ) → k < i → p k ≡ false) → first p n ≡ Some i
  first_is n i l e h = first_found i n (first_is_none i h) e l

  -- found nowhere below m, and failing from m on
  pub first_rest : (m n : ℕ) → first p m ≡ None → ((k : ℕ) → m ≤ k → k < n → p k ≡ false) → first p n ≡ None
  first_rest m n none h = first_is_none n (λ k l. go k l (dec_lt k m))
    where
      go : (k : ℕ) → k < n → Dec (k < m) → p k ≡ false
      go k l (yes lt) = first_none none k lt
      go k l (no ge) = h k (omega arith) l

  -- the test fails at each place of the first b parts of w places, and at the next m
  in_part : (w b m : ℕ) → first p (w * b) ≡ None → ((i : ℕ) → i < m → p (w * b + i) ≡ false) → (k : ℕ) → k < w * b + m → p k ≡ false
  in_part w b m none h =
      first_none (first_rest (w * b) (w * b + m) none (λ k g l. let e : w * b + (k - w * b) ≡ k = omega arith in rw e at (h (k - w * b) (omega arith))))

module _ (p : ℕ → Bool) where
  pub any_more : (i : ℕ) → any p i ≡ false → p i ≡ false → any p (i + 1) ≡ false
  unfolding any
  any_more i none fails = rw (add-one, none, fails)

  pub any_found : (i n : ℕ) → p i ≡ true → i < n → any p n ≡ true
  unfolding any
  any_found i zero holds l = absurd (not-suc-le-zero l)
  any_found i (suc n) holds l =
      ⊎_elim
      (λ e. subst (λ (k : ℕ). (any p k || p k) ≡ true) e (rw holds (or-true (any p i))))
      (λ lt. let e : any p n ≡ true = any_found i n holds lt in rw e)
      (eq-or-lt_of_le (le_of_suc-le-suc l))

-- two tests that agree at each place
pub first_same : (p q : ℕ → Bool) (n : ℕ) → ((k : ℕ) → k < n → p k ≡ q k) → first p n ≡ first q n
unfolding first
first_same p q zero h = refl
first_same p q (suc n) h = rw (first_same p q n (λ k l. h k (omega arith)), h n (omega arith))

-- a test that holds nowhere below n fails at each place there; and the other way
pub any_none : (p : ℕ → Bool) (n : ℕ) → ((i : ℕ) → i < n → p i ≡ false) → any p n ≡ false
unfolding any
any_none p zero h = refl
any_none p (suc n) h = rw (any_none p n (λ i l. h i (omega arith)), h n (omega arith))

pub any_each : (p : ℕ → Bool) (n : ℕ) → any p n ≡ false → (i : ℕ) → i < n → p i ≡ false
unfolding any
any_each p zero e i l = absurd (not-suc-le-zero l)
any_each p (suc n) e i l =
    ⊎_elim
    (λ q. rw q (or_none (any p n) (p n) e).1)
    (λ lt. any_each p n (or_none (any p n) (p n) e).0 i lt)
    (eq-or-lt_of_le (le_of_suc-le-suc l))

module _ (p : ℕ → Bool) (w b : ℕ) (none : first p (w * b) ≡ None) where
  -- nor at a place of part b: none below the next part
  pub part_none : first (λ r. p (w * b + r)) w ≡ None → first p (w * (b + 1)) ≡ None
  part_none here = first_is_none p (w * (b + 1)) (λ k l. in_part p w b w none (first_none (λ r. p (w * b + r)) here) k (omega arith))

  -- the lowest place of part b is the lowest of all
  pub part_found : (n r : ℕ) → first (λ i. p (w * b + i)) w ≡ Some r → b < n → first p (w * n) ≡ Some (w * b + r)
  part_found n r here l =
      let h = first_at (λ i. p (w * b + i)) here in
      let le : w * (b + 1) ≤ w * n = mul-le-mul_left w (omega arith) in
      first_is p (w * n) (w * b + r) (omega arith) h.1 (in_part p w b r none h.2)
