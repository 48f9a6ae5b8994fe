-- Rows of a kind that stand one after the other, with none of them elsewhere. Assumes nothing.
--     line-rows      they are the rows of the kind
--     formed_line    so do the rows of each kind of a return that can be read row by row
use Prim.Native.Nat.{ℕ, zero, suc, ◌+◌, ◌-◌, ◌/◌, ◌%◌, ◌<◌, ◌≤◌, min}
use mathlib.Core.Path.{◌≡◌, refl, sym, ap, ◌∙◌}
use mathlib.Core.Bool.{Bool, true, false, cond, ◌&&◌, true≢false}
use mathlib.Core.List.{List}
use native.Mathlib.Decide.{dec_lt}
use native.Mathlib.Omega.{arith}
use borrow.Author.Tests.{lt-ltb, ltb-true, eq-eqb, eqb-true}
use lib.Dec.{eqb}
use Rattle.form.specs.Layout.{kinds}
use Rattle.form.specs.Block.{blocks, count_of}
use Rattle.form.specs.Records.{Filed, filed, filed_rows}
use Rattle.form.specs.Verdict.{row_count, Formed}
use Rattle.form.specs.Standing.{start_block, start_place, rows_from}
use Rattle.form.specs.declared.Counts.{Counts}
use Rattle.form.proofs.Tests.{and-true}
use Rattle.standing.proofs.Stand.{at_start, count_in}
use Rattle.standing.proofs.StandRows.{tally, in_line}
use Rattle.standing.proofs.Accepted.{in_order, lies}

-- n rows of kind k, from place p on
pub record Line (f : Filed) (k p n : ℕ) : Type 0 where
  pub inside : (i : ℕ) → i < n → p + i < f.places
  pub used : (i : ℕ) → i < n → f.used (p + i) ≡ true
  pub kind : (i : ℕ) → i < n → f.kind (p + i) ≡ k
  pub only : (j : ℕ) → j < f.places → f.used j ≡ true → f.kind j ≡ k → (p ≤ j) × (j < p + n)

module _ {f : Filed} {k p n : ℕ} (l : Line f k p n) where
  -- a place from p on, of the n
  in_it : (m : ℕ) → p ≤ m → m < p + n → (f.used m && eqb (f.kind m) k) ≡ true
  in_it m h g =
      let e : p + (m - p) ≡ m = omega arith in
      rw (rw e at (l.used (m - p) (omega arith)), rw e at (l.kind (m - p) (omega arith)), eq-eqb k k refl)

  tallied : (m : ℕ) → m ≤ f.places → tally f k m ≡ min m (p + n) - p
  unfolding tally
  tallied zero h = omega arith
  tallied (suc m) h = go (f.used m && eqb (f.kind m) k) refl (dec_lt m p) (dec_lt m (p + n)) (tallied m (omega arith))
    where
      go : (b : Bool) → (f.used m && eqb (f.kind m) k) ≡ b → Dec (m < p) → Dec (m < p + n) → tally f k m ≡ min m (p + n) - p
          → tally f k m + cond b 1 0 ≡ min (suc m) (p + n) - p
      go true e x y q =
          let a = and-true (f.used m) (eqb (f.kind m) k) e in
          let o = l.only m h a.0 (eqb-true (f.kind m) k a.1) in
          omega arith
      go false e (yes x) y q = omega arith
      go false e (no x) (yes y) q = absurd (true≢false (sym (in_it m (omega arith) y) ∙ e))
      go false e (no x) (no y) q = omega arith

  enough : Dec (0 < n) → min f.places (p + n) - p ≡ n
  enough (yes h) = omega (arith, l.inside (n - 1) (omega arith))
  enough (no h) = omega arith

  pub line-rows : filed_rows f k ≡ rows_from f p n
  line-rows =
      in_line f k p f.places
      (λ j h e.
      let a = and-true (f.used j) (eqb (f.kind j) k) e in
      let o = l.only j h a.0 (eqb-true (f.kind j) k a.1) in
      omega (arith, tallied j (omega arith)))
      ∙ ap (rows_from f p) (tallied f.places (omega arith) ∙ enough (dec_lt 0 n))

module _ (s : List ℕ) (c : Counts) (acc : Formed s c) (k : ℕ) (h : k < kinds) where
  -- a place of row i, by block and position
  at : (i : ℕ) → ((start_place (suc k) s + i) / 12 ≡ start_block (suc k) s + i / 12) × ((start_place (suc k) s + i) % 12 ≡ i % 12)
  at i = (omega arith, omega arith)

  pub formed_line : Line (filed s) (suc k) (start_place (suc k) s) (row_count (suc k) s)
  formed_line = record {
    inside = λ i l. omega (arith, (lies s c acc (suc k) i (omega arith) h l).below);
    used = λ i l. let y = lies s c acc (suc k) i (omega arith) h l in rw ((at i).0, (at i).1) (lt-ltb (i % 12) (count_of s (start_block (suc k) s + i / 12)) y.used);
    kind = λ i l. let y = lies s c acc (suc k) i (omega arith) h l in rw (at i).0 y.kind;
    only = λ j l u q.
        let o = in_order s c acc in
        let b : j / 12 < blocks s = omega arith in
        let m = ltb-true (j % 12) (count_of s (j / 12)) u in
        let a = at_start s o (suc k) (j / 12) b q in
        let w = count_in s o (suc k) (j / 12) b q in
        (omega (arith, a), omega (arith, a, w, m));
  }
