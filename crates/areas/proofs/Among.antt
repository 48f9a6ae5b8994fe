-- The rows of a kind and the places that they stand at, of any records. Assumes nothing.
--     row_from     each row stands at a place; row-among, what stands at a place of the kind is one of them
use Prim.Native.Nat.{ℕ, zero, suc, ◌<◌}
use mathlib.Core.Path.{◌≡◌, refl, ap, ◌∙◌}
use mathlib.Core.Bool.{Bool, true, false, cond, ◌&&◌}
use mathlib.Core.List.{List, [], ◌∷◌, ◌++◌, append-nil}
use native.Mathlib.Decide.{dec_lt, ℕ_discrete}
use native.Mathlib.Omega.{arith}
use borrow.Author.Tests.{eq-eqb, eqb-true}
use lib.Dec.{eqb}
use lib.ListN.{length, get_or, length-append, get_or-append}
use Rattle.form.specs.Records.{Filed, rows_below}
use Rattle.form.proofs.Tests.{and-true}

last_of : (xs : List (List ℕ)) (x : List ℕ) → get_or (xs ++ (x ∷ [])) (length xs) [] ≡ x
last_of [] x = refl
last_of (y ∷ xs) x = last_of xs x

module _ (f : Filed) (k : ℕ) where
  -- row i of the kind, among the first n places, stands at place j
  pub record Among (n i j : ℕ) : Type 0 where
    pub below : j < n
    pub used : f.used j ≡ true
    pub kind : f.kind j ≡ k
    pub index : i < length (rows_below f k n)
    pub row : get_or (rows_below f k n) i [] ≡ f.row j

  -- one place more, whatever stands there
  module _ (n : ℕ) where
    step : (b : Bool) → (f.used n && eqb (f.kind n) k) ≡ b → rows_below f k (suc n) ≡ rows_below f k n ++ cond b (f.row n ∷ []) []
    unfolding rows_below
    step b e = rw e

    later : {i j : ℕ} → Among n i j → Among (suc n) i j
    unfolding rows_below
    later {i} {j} a =
        let more = cond (f.used n && eqb (f.kind n) k) (f.row n ∷ []) [] in
        record {
          below = omega (arith, a.below);
          used = a.used;
          kind = a.kind;
          index = omega (arith, a.index, length-append (rows_below f k n) more);
          row = get_or-append (rows_below f k n) more [] i a.index ∙ a.row;
        }

    here : f.used n ≡ true → f.kind n ≡ k → Among (suc n) (length (rows_below f k n)) n
    here u e =
        let s = step true (rw (u, eq-eqb (f.kind n) k e) refl) in
        record {
          below = omega arith;
          used = u;
          kind = e;
          index = omega (arith, ap length s, length-append (rows_below f k n) (f.row n ∷ []));
          row = ap (λ (x : List (List ℕ)). get_or x (length (rows_below f k n)) []) s ∙ last_of (rows_below f k n) (f.row n);
        }

  pub row-among : (n j : ℕ) → j < n → f.used j ≡ true → f.kind j ≡ k → (i : ℕ) × Among n i j
  row-among zero j h u e = absurd (omega arith)
  row-among (suc n) j h u e = go (ℕ_discrete j n) (λ l. row-among n j l u e)
    where
      go : Dec (j ≡ n) → (j < n → (i : ℕ) × Among n i j) → (i : ℕ) × Among (suc n) i j
      go (yes q) r = (length (rows_below f k n), rw q (here n (rw (← q) u) (rw (← q) e)))
      go (no q) r = let a = r (omega arith) in (a.0, later n a.1)

  none_there : (i : ℕ) → i < length (rows_below f k zero) → ⊥
  unfolding rows_below
  none_there i h = omega arith

  pub row_from : (n i : ℕ) → i < length (rows_below f k n) → (j : ℕ) × Among n i j
  row_from zero i h = absurd (none_there i h)
  row_from (suc n) i h = go (f.used n && eqb (f.kind n) k) refl (dec_lt i (length (rows_below f k n))) (λ l. row_from n i l)
    where
      go : (b : Bool) → (f.used n && eqb (f.kind n) k) ≡ b → Dec (i < length (rows_below f k n)) → (i < length (rows_below f k n) → (j : ℕ) × Among n i j) → (j : ℕ) × Among (suc n) i j
      go b e (yes l) r = let a = r l in (a.0, later n a.1)
      go true e (no l) r =
          let a = and-true (f.used n) (eqb (f.kind n) k) e in
          let q : i ≡ length (rows_below f k n) = omega (arith, h, ap length (step n true e), length-append (rows_below f k n) (f.row n ∷ [])) in
          (n, rw q (here n a.0 (eqb-true (f.kind n) k a.1)))
      go false e (no l) r = absurd (l (omega (arith, h, ap length (step n false e ∙ append-nil (rows_below f k n)))))
