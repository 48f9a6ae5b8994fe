-- Which row stands at a place, kind by kind. Assumes nothing.
--     Finding              what the loop knows: the place is behind the first k kinds; find_none, found, find_more, find_all
--     used-before          the place before one of the same kind is used too
--     part_of              a part of a part
use Prim.Native.Nat.{ℕ, zero, suc, ◌+◌, ◌-◌, ◌*◌, ◌≤◌, ◌<◌}
use mathlib.Core.Path.{◌≡◌, refl, sym, ap, ◌∙◌}
use mathlib.Core.Bool.{true, cond, false≢true}
use mathlib.Core.List.{List, [], ◌∷◌}
use native.Mathlib.Nat.{zero-add}
use native.Mathlib.Numerals.{add-one}
use native.Mathlib.Decide.{dec_lt}
use native.Mathlib.Omega.{arith}
use borrow.Author.Tests.{lt-ltb, le-ltb, ltb-true}
use lib.Dec.{ltb}
use lib.ListN.{length, get_or, take, drop, drop_of_length-le}
use lib.Seq.{take-take, take-nil, drop-cons, drop-drop}
use Rattle.form.specs.Layout.{kinds, numbers_of}
use Rattle.form.specs.Records.{Filed}
use Rattle.filing.specs.Lists.{Lists, cut, total, rows_in, row_of, blocks_of, filed_list, behind, filed_from, filed_lists}
use Rattle.filing.proofs.Cut.{cut-length, cut_at, cut-long, total_none, total-next, total-part}
use Rattle.filing.proofs.Parts.{row_in}
use Rattle.filing.proofs.Alike.{Same, front-alike, back_alike}
use Rattle.lists.specs.Rules.{Good}
use Rattle.lists.proofs.Places.{kinds_from}
use Rattle.clashes.specs.Stands.{index_from, row_index, Stands}

-- ---- a part of a part

pub part_of : (n a m : ℕ) (l : List ℕ) → a + n ≤ m → take n (drop a (take m l)) ≡ take n (drop a l)
part_of n zero m l h = take-take n m l (omega arith)
part_of n (suc a) m [] h = rw (take-nil m) refl
part_of n (suc a) zero (x ∷ l) h = absurd (omega arith)
part_of n (suc a) (suc m) (x ∷ l) h = part_of n a m l (omega arith)

-- row j of a list that lies in an area, of m numbers from `from` on
row-part : (kind : ℕ) (area : List ℕ) (from m j : ℕ) → j < rows_in kind m → row_of kind (take m (drop from area)) j ≡ take (numbers_of kind) (drop (from + numbers_of kind * j) area)
row-part kind area from m j h =
    let n = numbers_of kind in
    part_of n (n * j) m (drop from area) (row_in n j m h) ∙ ap (take n) (drop-drop (n * j) from area)

-- ---- records behind others

module _ {f : Filed} {p : ℕ} (a b : Filed) {q : ℕ} (s : Same f p (behind a b) q) where
  in_front : q < a.places → Same f p a q
  in_front h =
      let t : Same (behind a b) q a q = rw zero-add at ((front-alike a b).at q h) in
      record { used = s.used ∙ t.used; kind = s.kind ∙ t.kind; row = λ u. s.row u ∙ t.row (sym s.used ∙ u) }

  in_back : {i : ℕ} → a.places ≤ q → i ≡ q - a.places → Same f p b i
  in_back {i} h e =
      let o : a.places + i ≡ q = omega arith in
      let t : Same (behind a b) q b i = rw (o, zero-add i) at ((back_alike a b (suc i)).at i (omega arith)) in
      record { used = s.used ∙ t.used; kind = s.kind ∙ t.kind; row = λ u. s.row u ∙ t.row (sym s.used ∙ u) }

-- ---- the loop over the kinds: the place is one of those from `start` on, behind the first k kinds; their numbers end at `from`, and `before` rows are theirs

pub record Finding (lengths area : List ℕ) (p from start before k : ℕ) : Type 0 where
  pub within : k ≤ kinds
  pub at : from ≡ total (take k lengths)
  pub low : start ≤ 36 * k
  pub few : before ≤ 32 * k
  pub past : start ≤ p
  pub same : Same (filed_lists (cut lengths area)) p (filed_from (suc k) (drop k (cut lengths area))) (p - start)
  pub index : row_index lengths p ≡ before + index_from (suc k) (drop k lengths) (p - start)

itself : (f : Filed) (p q : ℕ) → p ≡ q → Same f p f q
itself f p q e = record { used = ap f.used e; kind = ap f.kind e; row = λ u. ap f.row e }

pub find_none : (lengths area : List ℕ) (p : ℕ) → Finding lengths area p 0 0 0 0
find_none lengths area p =
    let z : p ≡ p - 0 = omega arith in
    record {
      within = omega arith;
      at = sym (total_none lengths);
      low = omega arith;
      few = omega arith;
      past = omega arith;
      same = itself (filed_lists (cut lengths area)) p (p - 0) z;
      index = ap (row_index lengths) z ∙ sym (zero-add (row_index lengths (p - 0)));
    }

module _ {lengths area : List ℕ} {p from start before k m : ℕ} (g : Good lengths (length area)) (s : Finding lengths area p from start before k) (h : k < kinds)
    (em : m ≡ get_or lengths k 0) where
  in_lengths : k < length lengths
  in_lengths = omega (arith, g.each)

  -- the kind's list
  abbrev list : List ℕ
  list = get_or (cut lengths area) k []

  list_is : list ≡ take m (drop from area)
  list_is = rw (em, s.at) (cut_at lengths area k in_lengths)

  list-long : length list ≡ m
  list-long = cut-long lengths area (omega (arith, g.all)) k in_lengths ∙ sym em

  abbrev others : Filed
  others = filed_from (suc (suc k)) (drop (suc k) (cut lengths area))

  places : (filed_list (suc k) list).places ≡ 12 * blocks_of (suc k) m
  unfolding filed_list
  places = ap (λ (n : ℕ). 12 * blocks_of (suc k) n) list-long

  opened : Same (filed_lists (cut lengths area)) p (behind (filed_list (suc k) list) others) (p - start)
  unfolding filed_from
  opened = rw (drop-cons (cut lengths area) k [] (omega (arith, cut-length lengths area, in_lengths))) at s.same

  indexed : row_index lengths p ≡ before + cond (ltb (p - start) (12 * blocks_of (suc k) m)) (p - start)
      (rows_in (suc k) m + index_from (suc (suc k)) (drop (suc k) lengths) (p - start - 12 * blocks_of (suc k) m))
  unfolding index_from
  indexed = rw (drop-cons lengths k 0 in_lengths, ← em) at s.index

  -- how many rows and places the kind has, at most
  pub few_rows : rows_in (k + 1) m ≤ 32
  few_rows = rw (em, add-one k) (g.few k h)

  pub list-end : from + m ≤ length area
  list-end = omega (arith, g.all, total-next lengths k in_lengths, total-part lengths (k + 1), s.at)

  -- one of the kind's places, which is used: its row
  module _ (used : (filed_lists (cut lengths area)).used p ≡ true) (l : p - start < 12 * blocks_of (k + 1) m) where
    one : k + 1 ≡ suc k
    one = add-one k

    here : Same (filed_lists (cut lengths area)) p (filed_list (suc k) list) (p - start)
    here = in_front (filed_list (suc k) list) others opened (omega (arith, places, rw one at l))

    pub in_rows : p - start < rows_in (k + 1) m
    unfolding filed_list
    in_rows = rw one (ltb-true (p - start) (rows_in (suc k) m) (rw list-long at (sym here.used ∙ used)))

    pub row_inside : numbers_of (k + 1) * (p - start) + numbers_of (k + 1) ≤ m
    row_inside = row_in (numbers_of (k + 1)) (p - start) m in_rows

    pub found : {n : ℕ} → n ≡ numbers_of (k + 1)
        → Stands lengths area p (record { kind = k + 1; from = from + n * (p - start); index = before + (p - start) })
    unfolding filed_list
    found e =
        record {
          kind_there = one ∙ sym here.kind;
          known-kind = (omega arith, omega arith);
          inside = rw e (omega (arith, row_inside, list-end));
          row_there = rw e (sym (here.row used ∙ rw (one, list_is) (row-part (suc k) area from m (p - start) (rw one at in_rows))));
          index_there = sym (indexed ∙ rw (lt-ltb (p - start) (12 * blocks_of (suc k) m) (rw one at l)));
          few_before = omega (arith, in_rows, few_rows);
        }

  -- or it is behind them
  pub find_more : {next rows : ℕ} → next ≡ start + 12 * blocks_of (k + 1) m → next ≤ p → rows ≡ rows_in (k + 1) m → Finding lengths area p (from + m) next (before + rows) (k + 1)
  find_more {next} {rows} en l er =
      let n : next ≡ start + 12 * blocks_of (suc k) m = rw (add-one k) at en in
      let r : rows ≡ rows_in (suc k) m = rw (add-one k) at er in
      let few : rows_in (suc k) m ≤ 32 = rw (add-one k) at few_rows in
      let rest : p - next ≡ p - start - 12 * blocks_of (suc k) m = omega arith in
      record {
        within = omega arith;
        at = omega (arith, s.at, total-next lengths k in_lengths);
        low = omega (arith, s.low);
        few = omega (arith, s.few);
        past = l;
        same = rw (add-one k) (in_back (filed_list (suc k) list) others opened (omega (arith, places)) (omega (arith, places)));
        index = rw (add-one k, r, rest) (indexed ∙ rw (le-ltb (p - start) (12 * blocks_of (suc k) m) (omega arith)) (omega arith));
      }

-- behind the last kind no place is used
pub find_all : {lengths area : List ℕ} {p from start before k : ℕ} → Good lengths (length area) → Finding lengths area p from start before k → kinds ≤ k
    → (filed_lists (cut lengths area)).used p ≡ true → ⊥
unfolding filed_from
find_all {lengths} {area} {p} {from} {start} {before} {k} g s h u =
    let none : drop k (cut lengths area) ≡ [] = drop_of_length-le (cut lengths area) {i = k} (omega (arith, cut-length lengths area, g.each)) in
    false≢true (sym (rw none at s.same.used) ∙ u)

-- ---- a row of the same kind stands in the place before

pub used-before : (k : ℕ) (l : Lists) (p : ℕ) → (filed_from k l).used p ≡ true → 0 < p → (filed_from k l).kind (p - 1) ≡ (filed_from k l).kind p
    → (filed_from k l).used (p - 1) ≡ true
unfolding filed_from behind filed_list
used-before k [] p u z e = u
used-before k (r ∷ l) p u z e = go (dec_lt p n) (dec_lt (p - 1) n) (λ q a b c. used-before (suc k) l q a b c)
  where
    n : ℕ
    n = 12 * blocks_of k (length r)

    rest : Filed
    rest = filed_from (suc k) l

    go : Dec (p < n) → Dec (p - 1 < n) → ((q : ℕ) → rest.used q ≡ true → 0 < q → rest.kind (q - 1) ≡ rest.kind q → rest.used (q - 1) ≡ true)
        → (filed_from k (r ∷ l)).used (p - 1) ≡ true
    go (yes a) b more =
        let rows = ltb-true p (rows_in k (length r)) (rw (lt-ltb p n a) at u) in
        rw (lt-ltb (p - 1) n (omega arith)) (lt-ltb (p - 1) (rows_in k (length r)) (omega arith))
    go (no a) (yes b) more =
        let same : k ≡ rest.kind (p - n) = rw (lt-ltb (p - 1) n b, le-ltb p n (omega arith)) at e in
        absurd (omega (arith, kinds_from (suc k) l (p - n)))
    go (no a) (no b) more =
        let q : p - 1 - n ≡ p - n - 1 = omega arith in
        rw (le-ltb (p - 1) n (omega arith), q)
        (more (p - n) (rw (le-ltb p n (omega arith)) at u) (omega arith) (rw (le-ltb (p - 1) n (omega arith), le-ltb p n (omega arith), q) at e))
