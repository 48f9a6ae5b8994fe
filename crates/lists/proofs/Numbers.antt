-- The rules over the records of one list, by the list's own numbers. Assumes nothing.
use Prim.Native.Nat.{ℕ, suc, ◌+◌, ◌-◌, ◌*◌, ◌%◌, ◌≤◌, ◌<◌}
use mathlib.Core.Path.{◌≡◌, refl, sym, ap, ap₂, ◌∙◌}
use mathlib.Core.Bool.{Bool, true, false, not, ◌&&◌, ◌||◌, and-false, or_assoc}
use mathlib.Core.List.{List, [], ◌∷◌}
use native.Mathlib.Nat.{add-zero}
use native.Mathlib.Numerals.{add-one}
use native.Mathlib.Omega.{arith}
use lib.Dec.{ltb, leb, eqb}
use lib.ListN.{length, get_or, drop, drop_of_length-le}
use lib.Seq.{get_or-take, get_or-drop, drop-cons, drop-drop}
use borrow.Author.Tests.{lt-ltb, le-leb, eq-eqb, ne_eqb, ltb-false, eqb-true, not-false}
use Rattle.form.specs.Layout.{field, Layout, kinds, parameters_kind, layout, numbers_of, above_limit, field_at}
use Rattle.form.specs.Edition.{last_kind, known}
use Rattle.form.specs.Records.{RowTest, id_of, scattered_trees, overspent, bad_id, broken_by, test_numbered}
use Rattle.form.proofs.Tests.{and_rest, or_none, either}
use Rattle.form.proofs.EachKind.{parameters-kind}
use Rattle.filing.specs.Lists.{total, rows_in, row_of, blocks_of, filed_list}
use Rattle.lists.specs.Rules.{bad_list, bad_lengths, not_allowed, bad_at, Good, blocks_from}

-- number i of row j
pub number_in : (kind : ℕ) (r : List ℕ) (j i : ℕ) → i < numbers_of kind → get_or (row_of kind r j) i 0 ≡ get_or r (numbers_of kind * j + i) 0
number_in kind r j i h = get_or-take (numbers_of kind) (drop (numbers_of kind * j) r) i 0 h ∙ get_or-drop (numbers_of kind * j) r i 0

module _ (kind : ℕ) (r : List ℕ) (j : ℕ) (used : j < rows_in kind (length r)) where
  pub id_later : {n : ℕ} → n ≡ numbers_of kind → 0 < n → 0 < kind → kind ≤ kinds → (kind ≡ parameters_kind → ⊥) → 0 < j
      → bad_id (filed_list kind r) j ≡ leb (get_or r (n * j) 0) (get_or r (n * (j - 1)) 0)
  unfolding bad_id filed_list
  id_later {n} e p k₀ top k₄ j₀ =
      let at : (i : ℕ) → id_of (row_of kind r i) ≡ get_or r (n * i) 0 =
      λ i. number_in kind r i 0 (omega arith) ∙ rw (e, add-zero (numbers_of kind * i)) in
      simp (lt-ltb j (rows_in kind (length r)) used, lt-ltb 0 kind k₀, le-leb kind kinds top, ne_eqb kind parameters_kind k₄, lt-ltb 0 j j₀, eq-eqb kind kind refl)
      (ap₂ (λ (x y : ℕ). leb x y) (at j) (at (j - 1)))

pub id_parameters : (r : List ℕ) (j : ℕ) → bad_id (filed_list parameters_kind r) j ≡ false
unfolding bad_id filed_list
id_parameters r j = simp and-false

pub id_none : (kind : ℕ) (r : List ℕ) → bad_id (filed_list kind r) 0 ≡ false
unfolding bad_id filed_list
id_none kind r = simp and-false

-- a rule of one row, of a row of the list
pub row_of_lem : (e : ℕ) (t : RowTest) (kind : ℕ) (r : List ℕ) (j : ℕ) → j < rows_in kind (length r) → broken_by (filed_list kind r) e t j ≡ t e kind (row_of kind r j)
unfolding broken_by filed_list
row_of_lem e t kind r j used = rw (lt-ltb j (rows_in kind (length r)) used)

module _ (r : List ℕ) (j : ℕ) where
  number : (i : ℕ) → i < 15 → get_or (row_of 1 r j) i 0 ≡ get_or (drop (15 * j) r) i 0
  number i h = get_or-take 15 (drop (15 * j) r) i 0 h

  pub fractions_of : overspent (row_of 1 r j) ≡ overspent (drop (15 * j) r)
  fractions_of = rw (number 4 (omega arith), number 7 (omega arith), number 13 (omega arith))

-- ---- the rules of one row by their numbers

module _ (n e kind : ℕ) (row : List ℕ) where
  -- 7 is about conversion rows alone
  pub no_conversion : (n ≡ 6 → ⊥) → (n ≡ 14 → ⊥) → (kind ≡ 1 → ⊥) → test_numbered n e kind row ≡ false
  no_conversion h i k =
      rw (ne_eqb n 6 h, ne_eqb n 14 i)
      (either (λ (t : RowTest). t e kind row ≡ false) (eqb n 7) (λ q. rw (ne_eqb kind 1 k)) (λ q. refl))

-- 14 is about stock rows alone
pub no_stock : (e kind : ℕ) (row : List ℕ) → (kind ≡ 2 → ⊥) → scattered_trees e kind row ≡ false
no_stock e kind row h = rw (ne_eqb kind 2 h) (and-false (eqb e 3))

-- ---- the limits, field by field

pub above_step : (l : Layout) (r : List ℕ) (i : ℕ) → i < length l
    → above_limit (drop i l) (drop i r) ≡ (ltb (field_at l i).limit (get_or r i 0) || above_limit (drop (i + 1) l) (drop (i + 1) r))
unfolding above_limit
above_step l r i h =
    rw (drop-cons l i (field 0 0 0) h, get_or-drop i r 0 0, add-zero i, drop-drop 1 i r, add-one i)

pub above-end : (l : Layout) (r : List ℕ) (i : ℕ) → length l ≤ i → above_limit (drop i l) (drop i r) ≡ false
unfolding above_limit
above-end l r i h = rw (drop_of_length-le l h)

-- in a turn over the fields: number i of row j against its limit, behind what the fields before it said
module _ (kind : ℕ) (r : List ℕ) (j i : ℕ) {n lim : ℕ} (h : i < numbers_of kind) (en : n ≡ numbers_of kind) (el : lim ≡ (field_at (layout kind) i).limit) (above : Bool)
    (so_far : (above || above_limit (drop i (layout kind)) (drop i (row_of kind r j))) ≡ above_limit (layout kind) (row_of kind r j)) where
  here : above_limit (drop i (layout kind)) (drop i (row_of kind r j))
      ≡ (ltb lim (get_or r (n * j + i) 0) || above_limit (drop (i + 1) (layout kind)) (drop (i + 1) (row_of kind r j)))
  here = above_step (layout kind) (row_of kind r j) i h ∙ rw (number_in kind r j i h, ← en, ← el)

  pub above-next : (above || ltb lim (get_or r (n * j + i) 0) || above_limit (drop (i + 1) (layout kind)) (drop (i + 1) (row_of kind r j)))
      ≡ above_limit (layout kind) (row_of kind r j)
  above-next = or_assoc above _ _ ∙ ap (λ (b : Bool). above || b) (sym here) ∙ so_far

-- ---- lists that 10 finds no fault with

list_facts : (kind n : ℕ) → bad_list kind n ≡ false → (n % numbers_of kind ≡ 0) × (rows_in kind n ≤ 32) × ((eqb kind parameters_kind && not (eqb (rows_in kind n) 1)) ≡ false)
unfolding bad_list
list_facts kind n e =
    let f = or_none (not (eqb (n % numbers_of kind) 0) || ltb 32 (rows_in kind n)) (eqb kind parameters_kind && not (eqb (rows_in kind n) 1)) e in
    let g = or_none (not (eqb (n % numbers_of kind) 0)) (ltb 32 (rows_in kind n)) f.0 in
    (eqb-true (n % numbers_of kind) 0 (not-false _ g.0), ltb-false 32 (rows_in kind n) g.1, f.1)

pub lengths_each : (lengths : List ℕ) (m : ℕ) → bad_lengths lengths m ≡ false → length lengths ≡ kinds
unfolding bad_lengths
lengths_each lengths m e = eqb-true (length lengths) kinds (not-false _ (or_none (not (eqb (length lengths) kinds)) _ e).0)

pub good : (e : ℕ) (lengths : List ℕ) (m : ℕ) → ((p : ℕ) → p < suc kinds → bad_at e lengths m p ≡ false) → Good lengths m
unfolding bad_lengths
good e lengths m g =
    let z = or_none (not (eqb (length lengths) kinds)) _ (or_none (not (known e)) _ (g 0 (omega arith))).1 in
    let h : (k : ℕ) → k < kinds → bad_list (suc k) (get_or lengths k 0) ≡ false = λ k l. (or_none (not_allowed e (suc k) (get_or lengths k 0)) _ (g (suc k) (omega arith))).1 in
    record {
      each = eqb-true (length lengths) kinds (not-false _ z.0);
      all = eqb-true (total lengths) m (not-false _ z.1);
      whole = λ k l. (list_facts (suc k) (get_or lengths k 0) (h k l)).0;
      few = λ k l. (list_facts (suc k) (get_or lengths k 0) (h k l)).1;
      one = eqb-true (rows_in parameters_kind (get_or lengths (parameters_kind - 1) 0)) 1 (not-false _ (list_facts parameters_kind (get_or lengths (parameters_kind - 1) 0) (h (parameters_kind - 1) parameters-kind)).2);
    }

-- the edition is one that there is, and has the kinds that there are rows of
pub edition_good : (e : ℕ) (lengths : List ℕ) (m : ℕ) → ((p : ℕ) → p < suc kinds → bad_at e lengths m p ≡ false) → known e ≡ true
edition_good e lengths m g = not-false _ (or_none (not (known e)) _ (g 0 (omega arith))).0

pub kind_good : (e : ℕ) (lengths : List ℕ) (m : ℕ) → ((p : ℕ) → p < suc kinds → bad_at e lengths m p ≡ false) → (k : ℕ) → k < kinds
    → last_kind e < suc k → get_or lengths k 0 ≡ 0
unfolding not_allowed
kind_good e lengths m g k l h =
    eqb-true (get_or lengths k 0) 0 (not-false _ (and_rest _ _ (lt-ltb (last_kind e) (suc k) h) (or_none (not_allowed e (suc k) (get_or lengths k 0)) _ (g (suc k) (omega arith))).0))

-- ---- the blocks that the lists take

module _ (ns : List ℕ) (n k : ℕ) (h : k < length ns) (so_far : n + blocks_from (suc k) (drop k ns) ≡ blocks_from 1 ns) where
  pub blocks-next : n + blocks_of (suc k) (get_or ns k 0) + blocks_from (suc (k + 1)) (drop (k + 1) ns) ≡ blocks_from 1 ns
  unfolding blocks_from
  blocks-next = rw (add-one k) (omega (arith, rw (drop-cons ns k 0 h) at so_far))

pub blocks_end : (ns : List ℕ) (n k : ℕ) → length ns ≤ k → n + blocks_from (suc k) (drop k ns) ≡ blocks_from 1 ns → n ≡ blocks_from 1 ns
unfolding blocks_from
blocks_end ns n k h so_far = omega (arith, rw (drop_of_length-le ns h) at so_far)

blocks_few : (ns : List ℕ) (k : ℕ) → ((i : ℕ) → i < length ns → rows_in (k + i) (get_or ns i 0) ≤ 32) → blocks_from k ns ≤ 3 * length ns
unfolding blocks_from
blocks_few [] k h = omega arith
blocks_few (n ∷ ns) k h =
    let here : rows_in k n ≤ 32 = rw (add-zero k) at (h 0 (omega arith)) in
    let more = blocks_few ns (suc k) (λ i l. let e : suc k + i ≡ k + suc i = omega arith in rw e (h (suc i) (omega arith))) in
    omega arith

-- three blocks of a kind at most
pub good_few : (lengths : List ℕ) (m : ℕ) → Good lengths m → blocks_from 1 lengths ≤ 3 * kinds
good_few lengths m g =
    omega (arith, g.each, blocks_few lengths 1 (λ i l. let e : 1 + i ≡ suc i = omega arith in rw e (g.few i (omega (arith, g.each)))))
