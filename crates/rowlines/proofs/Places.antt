-- The row that would stand at a place is the one of the line with its number among the rows. Assumes nothing.
--     RowThere, row_there    by induction over the kinds
use Prim.Native.Nat.{ℕ, suc, ◌+◌, ◌-◌, ◌*◌, ◌/◌, ◌≤◌, ◌<◌}
use mathlib.Core.Path.{◌≡◌, sym, ap, subst, ◌∙◌}
use mathlib.Core.Bool.{true, cond, false≢true}
use mathlib.Core.List.{List, [], ◌∷◌}
use native.Mathlib.Nat.{add-zero, mul-div_cancel_left}
use native.Mathlib.Decide.{dec_lt}
use native.Mathlib.Omega.{arith}
use borrow.Author.Tests.{lt-ltb, le-ltb, ltb-true}
use lib.Dec.{ltb}
use lib.ListN.{length, get_or, take, drop, length-drop}
use lib.Seq.{get_or-drop, length-take-le}
use Rattle.form.specs.Layout.{kinds, numbers_of}
use Rattle.form.specs.Records.{Filed}
use Rattle.form.proofs.Fields.{kind-numbers}
use Rattle.filing.specs.Lists.{cut, rows_in, blocks_of, filed_list, behind, filed_from}
use Rattle.filing.proofs.Alike.{Same}
use Rattle.filing.proofs.Parts.{part-fits}
use Rattle.clashes.specs.Stands.{index_from}
use Rattle.clashes.proofs.Finding.{part_of}
use Rattle.texts.specs.Texts.{kind_in}
use Rattle.rowlines.proofs.Rising.{said_by, flat, many, Rising, Split, split}

-- records behind others: a place of the first, and one of the others
module _ (f g : Filed) (p : ℕ) where
  in_front : p < f.places → Same (behind f g) p f p
  unfolding behind
  in_front h = let o = lt-ltb p f.places h in record { used = rw o; kind = rw o; row = λ u. rw o }

  in_back : (q : ℕ) → f.places ≤ p → q ≡ p - f.places → Same (behind f g) p g q
  unfolding behind
  in_back q h e = let o = le-ltb p f.places h in record { used = rw (o, e); kind = rw (o, e); row = λ u. rw (o, e) }

module _ (sep : ℕ) where
  -- row j of the lines rs is the one at place p
  pub record RowThere (f : Filed) (p j : ℕ) (rs : List (List ℕ)) : Type 0 where
    pub inside : j < length rs
    pub kind : kind_in sep (get_or rs j []) ≡ f.kind p
    pub row : said_by sep (get_or rs j []) ≡ f.row p

  -- c rows stand before the others
  later : (f g : Filed) (p q c j : ℕ) (rs : List (List ℕ)) → Same f p g q → f.used p ≡ true → RowThere g q j (drop c rs) → RowThere f p (c + j) rs
  later f g p q c j rs s u w =
      let e = sym (get_or-drop c rs j []) in
      record {
        inside = omega (arith, w.inside, length-drop c rs);
        kind = ap (kind_in sep) e ∙ w.kind ∙ sym s.kind;
        row = ap (said_by sep) e ∙ w.row ∙ sym (s.row u);
      }

  -- the list of kind k, of n numbers, is the first; the rows of the other lists come behind its rows
  module _ (k n : ℕ) (ns : List ℕ) (rs : List (List ℕ)) (p : ℕ) (some : 0 < numbers_of k) (s : Split sep k (many sep k rs) rs) (en : n ≡ numbers_of k * many sep k rs)
      (u : (behind (filed_list k (take n (flat sep rs))) (filed_from (suc k) (cut ns (drop n (flat sep rs))))).used p ≡ true) where
    abbrev area : List ℕ
    area = flat sep rs

    abbrev c : ℕ
    c = many sep k rs

    abbrev own : Filed
    own = filed_list k (take n area)

    abbrev others : Filed
    others = filed_from (suc k) (cut ns (drop n area))

    long : length (take n area) ≡ n
    long = length-take-le n area (omega (arith, s.long, en))

    own_rows : rows_in k n ≡ c
    own_rows = ap (λ (x : ℕ). x / numbers_of k) en ∙ mul-div_cancel_left c some

    own_places : own.places ≡ 12 * blocks_of k n
    unfolding filed_list
    own_places = ap (λ (x : ℕ). 12 * blocks_of k x) long

    here : p < 12 * blocks_of k n → RowThere (behind own others) p p rs
    unfolding filed_list
    here h =
        let w = in_front own others p (omega (arith, h, own_places)) in
        let few : p < rows_in k (length (take n area)) = ltb-true p (rows_in k (length (take n area))) (sym w.used ∙ u) in
        let below : p < c = omega (arith, few, ap (rows_in k) long, own_rows) in
        let a = s.each p below in
        record {
          inside = omega (arith, below, s.inside);
          kind = a.0 ∙ sym w.kind;
          row = sym (w.row u ∙ part_of (numbers_of k) (numbers_of k * p) n area (omega (arith, part-fits (numbers_of k) p c below, en)) ∙ a.1);
        }

    behind_own : 12 * blocks_of k n ≤ p
        → (others.used (p - 12 * blocks_of k n) ≡ true → RowThere others (p - 12 * blocks_of k n) (index_from (suc k) ns (p - 12 * blocks_of k n)) (drop c rs))
        → RowThere (behind own others) p (rows_in k n + index_from (suc k) ns (p - 12 * blocks_of k n)) rs
    behind_own h more =
        let q : ℕ = p - 12 * blocks_of k n in
        let j : ℕ = index_from (suc k) ns q in
        let w = in_back own others p q (omega (arith, h, own_places)) (omega (arith, own_places)) in
        subst (λ (x : ℕ). RowThere (behind own others) p (x + j) rs) (sym own_rows) (later (behind own others) others p q c j rs w u (more (sym w.used ∙ u)))

  pub row_there : (k : ℕ) (ns : List ℕ) (rs : List (List ℕ)) (p : ℕ) → 0 < k → k + length ns ≤ suc kinds → Rising sep k rs
      → ((i : ℕ) → i < length ns → get_or ns i 0 ≡ numbers_of (k + i) * many sep (k + i) rs)
      → (filed_from k (cut ns (flat sep rs))).used p ≡ true → RowThere (filed_from k (cut ns (flat sep rs))) p (index_from k ns p) rs
  unfolding index_from filed_from cut
  row_there k [] rs p low high r each u = absurd (false≢true u)
  row_there k (n ∷ ns) rs p low high r each u =
      go (dec_lt p (12 * blocks_of k n)) (row_there (suc k) ns (drop (many sep k rs) rs) (p - 12 * blocks_of k n) (omega arith) (omega arith) s.above each_other)
    where
      s : Split sep k (many sep k rs) rs
      s = split sep k rs r

      some : 0 < numbers_of k
      some = kind-numbers k low (omega arith)

      en : n ≡ numbers_of k * many sep k rs
      en = rw (add-zero k) at (each 0 (omega arith))

      each_other : (i : ℕ) → i < length ns → get_or ns i 0 ≡ numbers_of (suc k + i) * many sep (suc k + i) (drop (many sep k rs) rs)
      each_other i h =
          let e : k + suc i ≡ suc k + i = omega arith in
          let a : get_or ns i 0 ≡ numbers_of (suc k + i) * many sep (suc k + i) rs = rw e at (each (suc i) (omega arith)) in
          a ∙ ap (λ (x : ℕ). numbers_of (suc k + i) * x) (sym (s.others (suc k + i) (omega arith)))

      -- what is left of the area are the numbers of the other rows
      left : flat sep (drop (many sep k rs) rs) ≡ drop n (flat sep rs)
      left = s.rest ∙ ap (λ (x : ℕ). drop x (flat sep rs)) (sym en)

      rest : List ℕ → Filed
      rest x = filed_from (suc k) (cut ns x)

      q : ℕ
      q = p - 12 * blocks_of k n

      go : Dec (p < 12 * blocks_of k n)
          → ((rest (flat sep (drop (many sep k rs) rs))).used q ≡ true
          → RowThere (rest (flat sep (drop (many sep k rs) rs))) q (index_from (suc k) ns q) (drop (many sep k rs) rs))
          → RowThere (behind (filed_list k (take n (flat sep rs))) (rest (drop n (flat sep rs)))) p
          (cond (ltb p (12 * blocks_of k n)) p (rows_in k n + index_from (suc k) ns q)) rs
      go (yes a) more = rw (lt-ltb p (12 * blocks_of k n) a) (here k n ns rs p some s en u a)
      go (no a) more =
          rw (le-ltb p (12 * blocks_of k n) (omega arith))
          (behind_own k n ns rs p some s en u (omega arith)
          (subst (λ (x : List ℕ). (rest x).used q ≡ true → RowThere (rest x) q (index_from (suc k) ns q) (drop (many sep k rs) rs)) left more))
