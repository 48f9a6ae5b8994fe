-- The search for the first row of the lowest uneven soil type, over plain numbers. Assumes nothing.
--     Lowly            what is known after the first j rows: nothing lower is uneven, and this is the first row of its type
--     lowly_none, lowly-more, lowly-end    before the first row, one row more, and what was found in the end
use Prim.Native.Nat.{ℕ, ◌+◌, ◌^◌, ◌≤◌, ◌<◌}
use mathlib.Core.Path.{◌≡◌, refl, sym, ap, ◌∙◌}
use mathlib.Core.Bool.{Bool, true, false, not, ◌&&◌, and-false, true≢false}
use native.Mathlib.Decide.{dec_lt, ℕ_discrete}
use native.Mathlib.Omega.{arith}
use borrow.Author.Tests.{lt-ltb, le-ltb}
use lib.Dec.{ltb}
use Rattle.form.specs.First.{first, any}
use Rattle.std.specs.Prelude.{None, Some}
use Rattle.form.proofs.Search.{first_is, first_is_none, any_none, any_found}

-- the types of n rows, and which types are uneven
module _ (type : ℕ → ℕ) (odd : ℕ → Bool) (n : ℕ) where
  -- after the first j rows: the lowest uneven type and its first row, or a type above all and no row
  pub record Lowly (j soil row : ℕ) : Type 0 where
    pub below : (i : ℕ) → i < j → type i < soil → odd (type i) ≡ false
    pub found : row < n → (row < j) × (soil ≡ type row) × (odd soil ≡ true)
    pub before : row < n → (i : ℕ) → i < row → type i ≡ soil → ⊥
    pub none : n ≤ row → soil ≡ 2 ^ 32

  pub lowly_none : Lowly 0 (2 ^ 32) n
  lowly_none = record {
    below = λ i l. absurd (omega arith);
    found = λ l. absurd (omega arith);
    before = λ l. absurd (omega arith);
    none = λ l. refl;
  }

  module _ {j soil row : ℕ} (s : Lowly j soil row) (h : j < n) where
    -- the row is of a lower type that is uneven
    pub lowly_found : type j < soil → odd (type j) ≡ true → Lowly (j + 1) (type j) j
    lowly_found l e = record {
      below = λ i m g. s.below i (late i m g) (omega arith);
      found = λ m. (omega arith, refl, e);
      before = λ m i k q. true≢false (sym e ∙ sym (ap odd q) ∙ s.below i k (omega arith));
      none = λ m. absurd (omega arith);
    }
      where
        late : (i : ℕ) → i < j + 1 → type i < type j → i < j
        late i m g = go (ℕ_discrete i j)
          where
            go : Dec (i ≡ j) → i < j
            go (yes q) = absurd (let e : type i ≡ type j = ap type q in omega arith)
            go (no q) = omega arith

    -- or it is not
    pub lowly_kept : (type j < soil → odd (type j) ≡ false) → Lowly (j + 1) soil row
    lowly_kept g = record {
      below = λ i m l. go i m l (ℕ_discrete i j);
      found = λ m. let f = s.found m in (omega arith, f.1, f.2);
      before = s.before;
      none = s.none;
    }
      where
        go : (i : ℕ) → i < j + 1 → type i < soil → Dec (i ≡ j) → odd (type i) ≡ false
        go i m l (yes q) = let e : type i ≡ type j = ap type q in rw e (g (omega arith))
        go i m l (no q) = s.below i (omega arith) l

  -- a lower type that is uneven, and the lowest that is
  abbrev lower : ℕ → Bool
  lower t = any (λ i. ltb (type i) t && odd (type i)) n

  abbrev test : ℕ → Bool
  test i = odd (type i) && not (lower (type i))

  -- the rows were all looked at
  module _ {soil row : ℕ} (s : Lowly n soil row) (small : (i : ℕ) → i < n → type i < 2 ^ 32) where
    fails : (t i : ℕ) → t ≤ soil → i < n → (ltb (type i) t && odd (type i)) ≡ false
    fails t i h l = go (dec_lt (type i) t)
      where
        go : Dec (type i < t) → (ltb (type i) t && odd (type i)) ≡ false
        go (yes g) = rw (s.below i l (omega arith), and-false (ltb (type i) t))
        go (no g) = rw (le-ltb (type i) t (omega arith))

    pub lowly_at : row < n → first test n ≡ Some row
    lowly_at h =
        let f = s.found h in
        first_is test n row h
        (rw (← f.1, f.2, any_none (λ i. ltb (type i) soil && odd (type i)) n (λ i l. fails soil i (omega arith) l)) refl)
        (λ k l. go k l (dec_lt (type k) soil) (ℕ_discrete (type k) soil))
      where
        go : (k : ℕ) → k < row → Dec (type k < soil) → Dec (type k ≡ soil) → test k ≡ false
        go k l (yes g) b = rw (s.below k (omega arith) g) refl
        go k l (no g) (yes q) = absurd (s.before h k l q)
        go k l (no g) (no q) =
            let f = s.found h in
            let here : (ltb (type row) (type k) && odd (type row)) ≡ true = rw (← f.1, lt-ltb soil (type k) (omega arith), f.2) refl in
            rw (any_found (λ i. ltb (type i) (type k) && odd (type i)) row n here h, and-false (odd (type k))) refl

    pub lowly_nowhere : n ≤ row → first test n ≡ None
    lowly_nowhere h = first_is_none test n (λ k l. rw (s.below k l (omega (arith, s.none h, small k l))) refl)
