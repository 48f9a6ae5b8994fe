-- The rules over records behind others, and over the places of a list. Assumes nothing.
--     front, back     a rule over records behind others: in front as over the first, behind as over the second
--     unused          an unused place breaks no rule
--     first-kinds     the lowest place among the lists of a kind and those after it
--     row_found, row-clean, row_spared    the lowest row of a list, tried one after the other or passed over
--     rows-first      the lowest place of a list is that of its lowest row
use Prim.Native.Nat.{ℕ, zero, suc, ◌+◌, ◌-◌, ◌*◌, ◌≤◌, ◌<◌}
use mathlib.Core.Path.{◌≡◌, refl, sym, ap, ap₂, subst, ◌∙◌}
use mathlib.Core.Bool.{Bool, true, false, cond, and-false}
use mathlib.Core.List.{List, [], ◌∷◌}
use mathlib.Core.Logic.{⊎_elim}
use native.Mathlib.Nat.{zero-add, add_assoc, add-sub_cancel_left, eq-zero-or-pos}
use native.Mathlib.Decide.{dec_lt}
use native.Mathlib.Omega.{arith}
use lib.Dec.{ltb, eqb}
use lib.ListN.{length, get_or, drop}
use lib.Seq.{drop-cons}
use borrow.Author.Tests.{lt-ltb, le-ltb, ne_eqb}
use Rattle.form.specs.First.{or_else, first}
use Rattle.form.specs.Records.{Filed, RowTest, bad_id, broken_by, test_numbered, test_of}
use Rattle.form.specs.Steps.{passed_over}
use Rattle.std.specs.Prelude.{None, Option, Some}
use Rattle.form.proofs.Search.{first_at, first_none, first_is, first_is_none, first_found, first_rest}
use Rattle.filing.specs.Lists.{Lists, rows_in, row_of, blocks_of, filed_list, behind, filed_from}
use Rattle.form.proofs.Tests.{either}
use Rattle.form.proofs.Spared.{spared_row}
use Rattle.lists.specs.Rules.{shifted, first_of}

-- ---- a record's rules read only what stands at its place and, for its id, at the place before

module _ (f g : Filed) (k : ℕ) (kinds : (j : ℕ) → f.kind j ≡ k) (above : (i : ℕ) → k < g.kind i) where
  -- in front: the records of f
  front_id : (j : ℕ) → j < f.places → bad_id (behind f g) j ≡ bad_id f j
  unfolding behind bad_id
  front_id j h = let p : j - 1 < f.places = omega arith in simp (lt-ltb j f.places h, lt-ltb (j - 1) f.places p)

  front-row : (e : ℕ) (t : RowTest) (j : ℕ) → j < f.places → broken_by (behind f g) e t j ≡ broken_by f e t j
  unfolding behind broken_by
  front-row e t j h = simp (lt-ltb j f.places h)

  -- a place behind f is one of g
  past : (i : ℕ) → (ltb (f.places + i) f.places ≡ false) × (f.places + i - f.places ≡ i)
  past i = (le-ltb (f.places + i) f.places (omega arith), add-sub_cancel_left f.places i)

  -- behind: the records of g, the first of which has no record of its kind before it
  back_id : (i : ℕ) → bad_id (behind f g) (f.places + i) ≡ bad_id g i
  unfolding behind bad_id
  back_id zero =
      ⊎_elim
      (λ e. simp ((past 0).0, (past 0).1, le-ltb 0 (f.places + 0) (omega arith), and-false))
      (λ h.
      let before : ℕ = f.places + 0 - 1 in
      let d = ne_eqb k (g.kind 0) (λ e. omega (arith, above 0)) in
      simp ((past 0).0, (past 0).1, lt-ltb before f.places (omega arith), kinds before, d, and-false))
      (eq-zero-or-pos f.places)
  back_id (suc i) =
      let b : f.places + suc i - 1 ≡ f.places + i = omega arith in
      let s : suc i - 1 ≡ i = omega arith in
      simp (b, (past i).0, (past (suc i)).0, (past i).1, (past (suc i)).1, s, lt-ltb 0 (f.places + suc i) (omega arith), lt-ltb 0 (suc i) (omega arith))

  back_row : (e : ℕ) (t : RowTest) (i : ℕ) → broken_by (behind f g) e t (f.places + i) ≡ broken_by g e t i
  unfolding behind broken_by
  back_row e t i = rw ((past i).0, (past i).1)

  front : (n e j : ℕ) → j < f.places → test_of n e (behind f g) j ≡ test_of n e f j
  front n e j h = ap₂ (λ (x y : Bool). cond (eqb n 5) x y) (front_id j h) (front-row e (test_numbered n) j h)

  back : (n e i : ℕ) → test_of n e (behind f g) (f.places + i) ≡ test_of n e g i
  back n e i = ap₂ (λ (x y : Bool). cond (eqb n 5) x y) (back_id i) (back_row e (test_numbered n) i)

-- an unused place breaks no rule
pub unused : (f : Filed) (n e j : ℕ) → f.used j ≡ false → test_of n e f j ≡ false
unfolding bad_id broken_by
unused f n e j u = rw u (either (λ (x : Bool). x ≡ false) (eqb n 5) (λ t. refl) (λ t. refl))

-- ---- the lowest place, part by part

module _ (p p₁ p₂ : ℕ → Bool) (a m : ℕ) (front : (j : ℕ) → j < a → p j ≡ p₁ j) (back : (i : ℕ) → p (a + i) ≡ p₂ i) where
  -- the first a places fail, and the next n
  both : (n : ℕ) → ((j : ℕ) → j < a → p₁ j ≡ false) → ((i : ℕ) → i < n → p₂ i ≡ false) → (k : ℕ) → k < a + n → p k ≡ false
  both n h₁ h₂ k l = go (dec_lt k a)
    where
      go : Dec (k < a) → p k ≡ false
      go (yes lt) = front k lt ∙ h₁ k lt
      go (no ge) =
          let e : a + (k - a) ≡ k = omega arith in
          subst (λ (i : ℕ). p i ≡ false) e (back (k - a) ∙ h₂ (k - a) (omega arith))

  pub first-parts : first p (a + m) ≡ or_else (first p₁ a) (shifted a (first p₂ m))
  first-parts = go (first p₁ a) (first p₂ m) refl refl
    where
      go : (s t : Option ℕ) → first p₁ a ≡ s → first p₂ m ≡ t → first p (a + m) ≡ or_else s (shifted a t)
      go (Some i) t e₁ e₂ =
          let h = first_at p₁ e₁ in
          first_is p (a + m) i (omega arith) (front i h.0 ∙ h.1) (λ k l. front k (omega arith) ∙ h.2 k l)
      go None (Some i) e₁ e₂ =
          let h = first_at p₂ e₂ in
          first_is p (a + m) (a + i) (omega arith) (back i ∙ h.1) (both i (first_none p₁ e₁) h.2)
      go None None e₁ e₂ = first_is_none p (a + m) (both m (first_none p₁ e₁) (first_none p₂ e₂))

first-behind : (n e : ℕ) (f g : Filed) (k : ℕ) → ((j : ℕ) → f.kind j ≡ k) → ((i : ℕ) → k < g.kind i)
    → first_of n e (behind f g) ≡ or_else (first_of n e f) (shifted f.places (first_of n e g))
unfolding behind
first-behind n e f g k kinds above =
    first-parts (test_of n e (behind f g)) (test_of n e f) (test_of n e g) f.places g.places
    (front f g k kinds above n e) (back f g k kinds above n e)

shift_else : (a : ℕ) (s t : Option ℕ) → shifted a (or_else s t) ≡ or_else (shifted a s) (shifted a t)
shift_else a (Some i) t = refl
shift_else a None t = refl

shift_shift : (a b : ℕ) (s : Option ℕ) → shifted a (shifted b s) ≡ shifted (a + b) s
shift_shift a b (Some i) = ap (λ (n : ℕ). Some n) (sym (add_assoc a b i))
shift_shift a b None = refl

pub shift_zero : (s : Option ℕ) → shifted 0 s ≡ s
shift_zero (Some i) = ap (λ (n : ℕ). Some n) (zero-add i)
shift_zero None = refl

-- the lists of a kind and those after it have no lower kind
pub kinds_from : (k : ℕ) (l : Lists) (j : ℕ) → k ≤ (filed_from k l).kind j
unfolding filed_from filed_list behind
kinds_from k [] j = omega arith
kinds_from k (r ∷ l) j =
    either (λ (x : ℕ). k ≤ x) (ltb j (filed_list k r).places) (λ t. omega arith) (λ t. omega (arith, kinds_from (suc k) l (j - (filed_list k r).places)))

-- the lowest place among the lists from one on, the first of them standing at `start`
module _ (n e : ℕ) (l : Lists) (i start : ℕ) (h : i < length l) where
  pub first-kinds : shifted start (first_of n e (filed_from (suc i) (drop i l)))
      ≡ or_else (shifted start (first_of n e (filed_list (suc i) (get_or l i []))))
      (shifted (start + 12 * blocks_of (suc i) (length (get_or l i []))) (first_of n e (filed_from (suc (suc i)) (drop (suc i) l))))
  unfolding filed_from filed_list
  first-kinds =
      let r = get_or l i [] in
      let f = filed_list (suc i) r in
      let g = filed_from (suc (suc i)) (drop (suc i) l) in
      rw (drop-cons l i [] h)
      (ap (shifted start) (first-behind n e f g (suc i) (λ j. refl) (λ j. kinds_from (suc (suc i)) (drop (suc i) l) j))
      ∙ shift_else start (first_of n e f) (shifted f.places (first_of n e g))
      ∙ ap (or_else (shifted start (first_of n e f))) (shift_shift start f.places (first_of n e g)))

-- the lowest row, tried one after the other
module _ (p : ℕ → Bool) (m start j : ℕ) (so_far : first p j ≡ None) where
  pub row_found : p j ≡ true → j < m → Some (start + j) ≡ shifted start (first p m)
  row_found b l = ap (shifted start) (sym (first_found p j m so_far b l))

  pub row-clean : m ≤ j → None ≡ shifted start (first p m)
  row-clean h = ap (shifted start) (sym (first_rest p j m so_far (λ k g o. absurd (omega arith))))

-- a kind that is passed over
pub row_spared : (n e kind : ℕ) (r : List ℕ) (start : ℕ) → passed_over n e kind ≡ true
    → None ≡ shifted start (first (λ j. test_numbered n e kind (row_of kind r j)) (rows_in kind (length r)))
row_spared n e kind r start h = ap (shifted start) (sym (first_is_none _ (rows_in kind (length r)) (λ j l. spared_row n e kind (row_of kind r j) h)))

-- the lowest place of a list is that of its lowest row
module _ (n e kind : ℕ) (r : List ℕ) where
  rows_inside : rows_in kind (length r) ≤ (filed_list kind r).places
  unfolding filed_list
  rows_inside = omega arith

  behind-rows : (k : ℕ) → rows_in kind (length r) ≤ k → test_of n e (filed_list kind r) k ≡ false
  unfolding filed_list
  behind-rows k h = unused (filed_list kind r) n e k (le-ltb k (rows_in kind (length r)) h)

  pub rows-first : (p : ℕ → Bool) → ((j : ℕ) → j < rows_in kind (length r) → p j ≡ test_of n e (filed_list kind r) j)
      → first p (rows_in kind (length r)) ≡ first_of n e (filed_list kind r)
  rows-first p same = go (first p (rows_in kind (length r))) refl
    where
      go : (s : Option ℕ) → first p (rows_in kind (length r)) ≡ s → s ≡ first_of n e (filed_list kind r)
      go (Some i) q =
          let h = first_at p q in
          sym (first_is (test_of n e (filed_list kind r)) (filed_list kind r).places i (omega (arith, h.0, rows_inside))
          (sym (same i h.0) ∙ h.1) (λ k l. sym (same k (omega (arith, h.0))) ∙ h.2 k l))
      go None q =
          sym (first_rest (test_of n e (filed_list kind r)) (rows_in kind (length r)) (filed_list kind r).places
          (first_is_none (test_of n e (filed_list kind r)) (rows_in kind (length r)) (λ k l. sym (same k l) ∙ first_none p q k l)) (λ k m o. behind-rows k m))
