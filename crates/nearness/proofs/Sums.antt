-- Rows added in order from zero, each sum rounded to a double. Assumes nothing.
--     sum_near    the bound of demand 3, where each row's double is two roundings off
--     sum_le      row by row no lower, no lower in all
use mathlib.Core.Path.{◌≡◌, subst}
use mathlib.Core.List.{List, [], ◌∷◌, Forall₂}
use Prim.Native.Nat.{ℕ, suc, ◌+◌, ◌*◌, ◌≤◌, ◌<◌, zero-le}
use native.Mathlib.Nat.{add-zero, le_refl, add-le-add}
use native.Mathlib.Omega.{arith}
use lib.Dec.{lit≤}
use lib.ListN.{length, get_or}
use lib.Ieee.{Float, binary64, add}
use Rattle.form.specs.Sums.{sum_of}
use Rattle.doubles.specs.Double.{double}
use Rattle.nearness.specs.Near.{Near}
use Rattle.nearness.specs.NoLower.{NoLower}
use Rattle.doubles.specs.Subtotals.{add_rows}
use Rattle.nearness.proofs.Rounding.{rnd, rnd_mono}
use Rattle.nearness.proofs.Wholes.{Holds, holds_more, double-holds, add_holds, in_order}
use Rattle.nearness.proofs.Errors.{Off, off_self, off_more, off_add, off_rnd, off_near}

-- a fact of each row of a list
abbrev pub Each : (List ℕ → Type 0) → List (List ℕ) → Type 0
Each P rs = (i : ℕ) → i < length rs → P (get_or rs i [])

-- the whole number that a running sum of doubles is
unfoldable pub sum_value : (List ℕ → ℕ) → ℕ → List (List ℕ) → ℕ
sum_value v t [] = t
sum_value v t (r ∷ rs) = sum_value v (rnd (t + v r)) rs

-- a row's double x is the whole number v, two roundings off the exact e; adding it to zero rounds nothing
pub record Part (x : Float) (v e : ℕ) : Type 0 where
  pub holds : Holds 164 x v
  pub first-exact : rnd (0 + v) ≡ v
  pub off : Off 2 v e

module _ (x : List ℕ → Float) (v e : List ℕ → ℕ) where
  abbrev pub Parts : List (List ℕ) → Type 0
  Parts rs = Each (λ r. Part (x r) (v r) (e r)) rs

  first : (r : List ℕ) (rs : List (List ℕ)) → Parts (r ∷ rs) → Part (x r) (v r) (e r)
  first r rs p = p 0 (omega arith)

  rest : (r : List ℕ) (rs : List (List ℕ)) → Parts (r ∷ rs) → Parts rs
  rest r rs p i l = p (suc i) (omega arith)

  -- each sum has at most two binary digits more
  adds_hold : (rs : List (List ℕ)) {m : ℕ} {y : Float} {t : ℕ} → 164 ≤ m → m + length rs * 2 ≤ 1000 → Holds m y t → Parts rs → Holds (m + length rs * 2) (add_rows x y rs) (sum_value v t rs)
  unfolding add_rows sum_value
  adds_hold [] {m} {y} {t} h l s p = subst (λ (k : ℕ). Holds k y t) (omega arith) s
  adds_hold (r ∷ rs) {m} {y} {t} h l s p =
      let q : suc (suc m) + length rs * 2 ≡ m + suc (length rs) * 2 = omega arith in
      subst (λ (k : ℕ). Holds k (add_rows x (add binary64 y (x r)) rs) (sum_value v (rnd (t + v r)) rs)) q
      (adds_hold rs (omega arith) (omega arith) (add_holds (omega arith) s (holds_more h (first r rs p).holds)) (rest r rs p))

  -- each sum is one rounding more
  adds_off : (rs : List (List ℕ)) {j t s : ℕ} → 2 ≤ j → j + length rs ≤ 65 → Off j t s → Parts rs → Off (j + length rs) (sum_value v t rs) (s + sum_of e rs)
  unfolding sum_value sum_of
  adds_off [] {j} {t} {s} h l o p = simp add-zero o
  adds_off (r ∷ rs) {j} {t} {s} h l o p =
      let q : suc j + length rs ≡ j + suc (length rs) = omega arith in
      let a : s + e r + sum_of e rs ≡ s + (e r + sum_of e rs) = omega arith in
      rw (← q, ← a) (adds_off rs (omega arith) (omega arith) (off_rnd (omega arith) (off_add o (off_more h (first r rs p).off))) (rest r rs p))

  -- but the first: adding to zero is exact
  sum_off : (rs : List (List ℕ)) → length rs ≤ 32 → Parts rs → Off (suc (length rs)) (sum_value v 0 rs) (sum_of e rs)
  unfolding sum_value sum_of
  sum_off [] l p = off_self 1 0
  sum_off (r ∷ rs) l p =
      let q : 2 + length rs ≡ suc (suc (length rs)) = omega arith in
      rw ((first r rs p).first-exact, ← q) (adds_off rs (lit≤ tt) (omega arith) (first r rs p).off (rest r rs p))

  sum-holds : (rs : List (List ℕ)) → length rs ≤ 32 → Parts rs → Holds (164 + length rs * 2) (add_rows x (double 0) rs) (sum_value v 0 rs)
  sum-holds rs l p = adds_hold rs (le_refl 164) (omega arith) (holds_more (lit≤ tt) (double-holds 0 zero-le)) p

  pub sum_near : (rs : List (List ℕ)) → length rs ≤ 32 → Parts rs → Near (length rs) (add_rows x (double 0) rs) (sum_of e rs)
  sum_near rs l p = off_near (length rs) (add_rows x (double 0) rs) (sum_value v 0 rs) (sum_of e rs) (omega arith) (sum-holds rs l p).whole (sum_off rs l p)

  adds_mono : {rs qs : List (List ℕ)} (t u : ℕ) → t ≤ u → Forall₂ (λ r q. v r ≤ v q) rs qs → sum_value v t rs ≤ sum_value v u qs
  unfolding sum_value
  adds_mono t u h Forall₂.nil = h
  adds_mono t u h (Forall₂.cons {a} {b} g more) = adds_mono (rnd (t + v a)) (rnd (u + v b)) (rnd_mono (add-le-add h g)) more

  pub sum_le : (rs qs : List (List ℕ)) → length rs ≤ 32 → length qs ≤ 32 → Parts rs → Parts qs → Forall₂ (λ r q. v r ≤ v q) rs qs
      → NoLower (add_rows x (double 0) rs) (add_rows x (double 0) qs)
  sum_le rs qs l k p q h =
      let a = (sum-holds rs l p).whole in
      let b = (sum-holds qs k q).whole in
      let m = adds_mono 0 0 zero-le h in
      record {
        first = sum_value v 0 rs;
        second = sum_value v 0 qs;
        first-whole = a;
        second-whole = b;
        at_least = m;
        compared = in_order (add_rows x (double 0) rs) (add_rows x (double 0) qs) (sum_value v 0 rs) (sum_value v 0 qs) a b m;
      }
