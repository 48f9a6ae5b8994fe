-- The rows so far, as the definitions have them. Assumes nothing.
--     kind-known                 a word names one of the kinds, or none
--     RowLine, row-said          a line that is a row: its tests passed
--     sound_none, sound-row, sound_step     of each kind at most 32 whole rows: before the first, with a row more, behind any line
--     sound-fits, sound-room, length-fits   so they fit the area, with a row more too, and each length fits
--     rows_after, step_rows       what a text says goes on behind a line
use Prim.Native.Nat.{ℕ, zero, suc, ◌+◌, ◌-◌, ◌*◌, ◌<◌, ◌≤◌}
use mathlib.Core.Path.{◌≡◌, refl, sym, ap, subst, ◌∙◌}
use mathlib.Core.Bool.{Bool, true, false, cond, not}
use mathlib.Core.List.{List, [], ◌∷◌}
use native.Mathlib.Omega.{arith}
use native.Mathlib.Nat.{mul-zero, mul-suc, mul-le-mul_left}
use lib.Dec.{eqb, ltb, leb, lit≤}
use lib.ListN.{length, get_or, set, replicate, length-set, length-append, length-replicate}
use lib.Seq.{get_or-set_same, get_or-set_other}
use borrow.Author.Tests.{eq-eqb, ne_eqb, eqb-true, eqb-false, ltb-false, leb-false}
use Rattle.std.specs.Prelude.{Result, Ok, Err}
use Rattle.form.specs.Layout.{kinds, numbers_of}
use Rattle.filing.specs.Lists.{total}
use Rattle.cells.specs.Cells.{cell_at, found_in, same_word}
use Rattle.columns.specs.Columns.{named_from, kind_named}
use Rattle.rowtext.specs.Said.{numbers_said, row_said}
use Rattle.rowtext.specs.declared.RowFault.{RowFault}
use Rattle.rowtext.proofs.Laws.{first-length}
use Rattle.heads.specs.Heads.{is_passed, edition_word}
use Rattle.heads.specs.declared.TextFault.{TextFault}
use Rattle.texts.specs.Texts.{Sofar, nothing, TextRead, faulty, kind_in, count_of, checked_row, checked_kind, checked, with_row, after_line, unless_fault, rows_from}
use Rattle.texts.specs.Steps.{Step, onward, stopped, step_by, line_step, area_room, Sound}
use Rattle.texts.proofs.Small.{AllSmall, append_small, zeros-small, row_small}
use Rattle.texts.proofs.Adding.{total-set, get_d_total, sum_to, total_few}

-- ---- the kind that a word names

named_few : (k : ℕ) (ns : List (List ℕ)) (word : List ℕ) → named_from (suc k) ns word ≤ k + length ns
unfolding named_from
named_few k [] word = omega arith
named_few k (n ∷ ns) word = by (same_word n word) (named_few (suc k) ns word)
  where
    by : (q : Bool) → named_from (suc (suc k)) ns word ≤ suc k + length ns → cond q (suc k) (named_from (suc (suc k)) ns word) ≤ k + suc (length ns)
    by true h = omega arith
    by false h = omega arith

pub kind-known : (word : List ℕ) → kind_named word ≤ kinds
unfolding kinds
kind-known word = named_few 0 _ word

-- ---- a line that is a row

-- a test that failed, since the answer is no fault
pass : (b : Bool) (f : TextFault) {x : Result ℕ TextFault} {k : ℕ} → cond b (Err f) x ≡ Ok k → (b ≡ false) × (x ≡ Ok k)
pass true f e = let z : ◌≡◌ {A = ℕ} 0 1 = cc in absurd (omega arith)
pass false f e = (refl, e)

row-whole : (n kind : ℕ) (r : Result (Unit {0}) RowFault) {k : ℕ} → checked_row n kind r ≡ Ok k → (k ≡ kind) × (r ≡ Ok tt)
row-whole n kind (Ok done) e = (cc, refl)
row-whole n kind (Err f) e = let z : ◌≡◌ {A = ℕ} 0 1 = cc in absurd (omega arith)

pub record RowLine (sep : ℕ) (st : Sofar) (l : List ℕ) : Type 0 where
  pub some : 0 < kind_in sep l
  pub known : kind_in sep l ≤ kinds
  pub order : st.kind ≤ kind_in sep l
  pub few : count_of st (kind_in sep l) < 32
  pub whole : row_said sep (kind_in sep l) l ≡ Ok tt

pub row-said : (sep : ℕ) (st : Sofar) (n : ℕ) (l : List ℕ) {k : ℕ} → checked sep st n l ≡ Ok k → (k ≡ kind_in sep l) × RowLine sep st l
unfolding checked checked_kind
row-said sep st n l e =
    let kind = kind_in sep l in
    let a = pass (same_word edition_word (cell_at sep 0 l)) _ e in
    let b = pass (eqb kind 0) _ a.1 in
    let c = pass (ltb kind st.kind) _ b.1 in
    let d = pass (leb 32 (count_of st kind)) _ c.1 in
    let f = pass (not (eqb (found_in sep l) (numbers_of kind))) _ d.1 in
    let w = row-whole n kind (row_said sep kind l) f.1 in
    let z : kind ≡ 0 → ⊥ = eqb-false kind 0 b.0 in (
      w.0,
      record {
        some = omega (arith, z);
        known = kind-known (cell_at sep 0 l);
        order = ltb-false kind st.kind c.0;
        few = leb-false 32 (count_of st kind) d.0;
        whole = w.1;
      },
    )

-- ---- of each kind at most 32 whole rows

pub sound_none : Sound nothing
unfolding kinds total
sound_none = record {
  rows_at = λ k. 0;
  known = lit≤ tt;
  each = refl;
  sum = refl;
  parts = λ k. zeros 8 k ∙ sym (mul-zero (numbers_of (suc k)));
  few = λ k. lit≤ tt;
  last = λ k e. refl;
  later = λ k h. refl;
  small = λ i. zeros-small 0 i;
}
  where
    zeros : (n k : ℕ) → get_or {A = ℕ} (replicate n 0) k 0 ≡ 0
    zeros zero k = refl
    zeros (suc n) zero = refl
    zeros (suc n) (suc k) = zeros n k

module _ (st : Sofar) (s : Sound st) (kind : ℕ) (a : 0 < kind) (b : kind ≤ kinds) (o : st.kind ≤ kind) (f : count_of st kind < 32) where
  -- the kind's place among the lengths
  abbrev j : ℕ
  j = kind - 1

  is_kind : suc j ≡ kind
  is_kind = omega arith

  -- what there is of the kind so far
  so_far : s.rows_at j ≡ count_of st kind
  so_far = by (eqb kind st.kind) refl
    where
      by : (q : Bool) → eqb kind st.kind ≡ q → s.rows_at j ≡ cond q st.count 0
      by true e = s.last j (is_kind ∙ eqb-true kind st.kind e)
      by false e = let n : kind ≡ st.kind → ⊥ = eqb-false kind st.kind e in s.later j (omega (arith, is_kind, n))

  module _ (numbers : List ℕ) (m : length numbers ≡ numbers_of kind) (w : AllSmall numbers) where
    abbrev ls : List ℕ
    ls = st.lengths

    abbrev v : ℕ
    v = get_or ls j 0 + length numbers

    inside : j < length ls
    inside = omega (arith, is_kind, s.each)

    abbrev rows_then : ℕ → ℕ
    rows_then k = cond (eqb k j) (suc (count_of st kind)) (s.rows_at k)

    here : v ≡ numbers_of (suc j) * suc (count_of st kind)
    here =
        let p = s.parts j ∙ ap (λ (x : ℕ). numbers_of (suc j) * x) so_far in
        let q = ap numbers_of is_kind in
        omega (arith, p, m, q, mul-suc (numbers_of (suc j)) (count_of st kind))

    part_then : (k : ℕ) → get_or (set ls j v) k 0 ≡ numbers_of (suc k) * rows_then k
    part_then k = by (eqb k j) refl
      where
        by : (q : Bool) → eqb k j ≡ q → get_or (set ls j v) k 0 ≡ numbers_of (suc k) * cond q (suc (count_of st kind)) (s.rows_at k)
        by true e =
            let i = eqb-true k j e in
            ap (λ (x : ℕ). get_or (set ls j v) x 0) i
            ∙ get_or-set_same ls j v 0 inside
            ∙ here
            ∙ ap (λ (x : ℕ). numbers_of (suc x) * suc (count_of st kind)) (sym i)
        by false e = get_or-set_other ls j k v 0 (eqb-false k j e) ∙ s.parts k

    pub sound-row : Sound (with_row kind st numbers)
    sound-row = record {
      rows_at = rows_then;
      known = b;
      each = length-set ls j v ∙ s.each;
      sum = omega (arith, total-set ls j v inside, s.sum, length-append st.area numbers);
      parts = part_then;
      few = λ k. few_then (eqb k j) k;
      last = λ k e. let i : k ≡ j = omega (arith, is_kind, e) in ap (λ (q : Bool). cond q (suc (count_of st kind)) (s.rows_at k)) (eq-eqb k j i);
      later = λ k h.
          let n = ne_eqb k j (λ z. omega (arith, is_kind, z, h)) in
          ap (λ (q : Bool). cond q (suc (count_of st kind)) (s.rows_at k)) n ∙ s.later k (omega (arith, o, h));
      small = append_small st.area numbers s.small w;
    }
      where
        few_then : (q : Bool) (k : ℕ) → cond q (suc (count_of st kind)) (s.rows_at k) ≤ 32
        few_then true k = f
        few_then false k = s.few k

-- so they fit
abbrev most : ℕ → ℕ
most i = numbers_of (suc i) * 32

whole_room : (n : ℕ) → n ≡ kinds → sum_to most n ≡ area_room
unfolding kinds
whole_room n e = ap (sum_to most) e

pub sound-fits : (st : Sofar) → Sound st → length st.area ≤ area_room
sound-fits st s = omega (arith, total_few most st.lengths each_few, whole_room (length st.lengths) s.each, s.sum)
  where
    each_few : (i : ℕ) → get_or st.lengths i 0 ≤ most i
    each_few i = subst (λ (x : ℕ). x ≤ most i) (sym (s.parts i)) (mul-le-mul_left (numbers_of (suc i)) (s.few i))

pub length-fits : (st : Sofar) → Sound st → (k : ℕ) → get_or st.lengths k 0 ≤ area_room
length-fits st s k = omega (arith, get_d_total st.lengths k, s.sum, sound-fits st s)

pub sound-room : (st : Sofar) → Sound st → (kind : ℕ) → 0 < kind → kind ≤ kinds → st.kind ≤ kind → count_of st kind < 32
    → length st.area + numbers_of kind ≤ area_room
sound-room st s kind a b o f =
    let row : List ℕ = replicate (numbers_of kind) 0 in
    let n : length row ≡ numbers_of kind = length-replicate (numbers_of kind) 0 in
    omega (arith, sound-fits _ (sound-row st s kind a b o f row n (zeros-small (numbers_of kind))), length-append st.area row, n)

-- ---- a line by itself

pub sound_step : (sep : ℕ) (st st' : Sofar) (n : ℕ) (l : List ℕ) → Sound st → line_step sep st n l ≡ onward st' → Sound st'
unfolding line_step
sound_step sep st st' n l s e = by (is_passed sep l) (checked sep st n l) refl e
  where
    by : (p : Bool) (c : Result ℕ TextFault) → checked sep st n l ≡ c → cond p (onward st) (step_by c (after_line sep st l)) ≡ onward st' → Sound st'
    by true c q g = let z : st ≡ st' = cc in subst (λ (x : Sofar). Sound x) z s
    by false (Ok k) q g =
        let r = (row-said sep st n l q).1 in
        let z : after_line sep st l ≡ st' = cc in
        let m = first-length sep (kind_in sep l) l (numbers_of (kind_in sep l)) in
        subst (λ (x : Sofar). Sound x) z (sound-row st s (kind_in sep l) r.some r.known r.order r.few (numbers_said sep (kind_in sep l) l) m (row_small sep (kind_in sep l) l))
    by false (Err f) q g = let z : ◌≡◌ {A = ℕ} 0 1 = cc in absurd (omega arith)

-- what a text says from a line on, by what is known behind that line
abbrev pub rows_after : ℕ → ℕ → ℕ → Step → List (List ℕ) → TextRead
rows_after e sep n (onward st) ls = rows_from e sep n st ls
rows_after e sep n (stopped f) ls = faulty f

pub step_rows : (e sep n : ℕ) (st : Sofar) (l : List ℕ) (ls : List (List ℕ)) → rows_from e sep n st (l ∷ ls) ≡ rows_after e sep (suc n) (line_step sep st (suc n) l) ls
unfolding rows_from line_step
step_rows e sep n st l ls = by (is_passed sep l) (checked sep st (suc n) l)
  where
    by : (p : Bool) (c : Result ℕ TextFault)
        → cond p (rows_from e sep (suc n) st ls) (unless_fault c (rows_from e sep (suc n) (after_line sep st l) ls))
        ≡ rows_after e sep (suc n) (cond p (onward st) (step_by c (after_line sep st l))) ls
    by true c = refl
    by false (Ok k) = refl
    by false (Err f) = refl
