-- The lengths of a text's lists are those of its rows, kind by kind. Assumes nothing.
--     Listed, lists-said     the kinds of the rows never fall, and each list has the numbers of as many rows as there are lines of its kind; all lists have all numbers
use Prim.Native.Nat.{ℕ, suc, ◌+◌, ◌-◌, ◌*◌, ◌≤◌, ◌<◌}
use mathlib.Core.Path.{◌≡◌, refl, sym, ap, ◌∙◌}
use mathlib.Core.Bool.{Bool, true, false, cond}
use mathlib.Core.List.{List, [], ◌∷◌}
use native.Mathlib.Nat.{mul-zero, mul-suc}
use native.Mathlib.Omega.{arith}
use borrow.Author.Tests.{eqb-true, eqb-false}
use lib.Dec.{eqb}
use lib.ListN.{length, get_or, set, length-set, length-append}
use lib.Seq.{get_or-set_same, get_or-set_other}
use Rattle.std.specs.Prelude.{Result, Ok, Err}
use Rattle.form.specs.Layout.{kinds, numbers_of}
use Rattle.filing.specs.Lists.{total}
use Rattle.rowtext.proofs.Laws.{first-length}
use Rattle.heads.specs.Heads.{is_passed}
use Rattle.heads.specs.declared.TextFault.{TextFault}
use Rattle.texts.specs.Texts.{Sofar, rows, kind_in, checked, after_line, unless_fault, rows_from}
use Rattle.texts.proofs.Adding.{total-set}
use Rattle.texts.proofs.Rows.{row-said}
use Rattle.rowlines.proofs.Rising.{rows_of, said_by, flat, many, Rising}

-- one row more, of a kind: m rows of kind i + 1 behind it, and x numbers of that kind in all
one_more : (before numbers : List ℕ) (kind i m x : ℕ) → 0 < kind → kind ≤ length before → length numbers ≡ numbers_of kind
    → x ≡ get_or (set before (kind - 1) (get_or before (kind - 1) 0 + length numbers)) i 0 + numbers_of (suc i) * m
    → x ≡ get_or before i 0 + numbers_of (suc i) * cond (eqb kind (suc i)) (suc m) m
one_more before numbers kind i m x low high long e = by (eqb kind (suc i)) refl
  where
    by : (q : Bool) → eqb kind (suc i) ≡ q → x ≡ get_or before i 0 + numbers_of (suc i) * cond q (suc m) m
    by true q =
        let k : kind ≡ suc i = eqb-true kind (suc i) q in
        let s : kind - 1 ≡ i = omega arith in
        let here : x ≡ get_or (set before i (get_or before i 0 + length numbers)) i 0 + numbers_of (suc i) * m = rw s at e in
        let same = get_or-set_same before i (get_or before i 0 + length numbers) 0 (omega arith) in
        omega (arith, here, same, long, ap numbers_of k, mul-suc (numbers_of (suc i)) m)
    by false q =
        let n : kind ≡ suc i → ⊥ = eqb-false kind (suc i) q in
        let v : ℕ = get_or before (kind - 1) 0 + length numbers in
        e ∙ ap (λ (t : ℕ). t + numbers_of (suc i) * m) (get_or-set_other before (kind - 1) i v 0 (λ z. n (omega (arith, z, low))))

-- of rows behind others: k is below every kind that may come, and there are lists of lengths `before` already
pub record Listed (sep : ℕ) (lengths : List ℕ) (k : ℕ) (before : List ℕ) (rs : List (List ℕ)) : Type 0 where
  pub each : length lengths ≡ kinds
  pub rising : Rising sep k rs
  pub counts : (i : ℕ) → get_or lengths i 0 ≡ get_or before i 0 + numbers_of (suc i) * many sep (suc i) rs
  pub sum : total lengths ≡ total before + length (flat sep rs)

module _ {e : ℕ} {lengths area : List ℕ} where
  pub lists-said : (edition sep n : ℕ) (st : Sofar) (ls : List (List ℕ)) (k : ℕ) → length st.lengths ≡ kinds → ((j : ℕ) → 0 < j → st.kind ≤ j → k ≤ j)
      → rows_from edition sep n st ls ≡ rows e lengths area → Listed sep lengths k st.lengths (rows_of sep ls)
  unfolding rows_from rows_of many flat
  lists-said edition sep n st [] k each low q =
      let z : st.lengths ≡ lengths = cc in
      record {
        each = ap length (sym z) ∙ each;
        rising = tt;
        counts = λ i. let g = ap (λ (x : List ℕ). get_or x i 0) z in omega (arith, g, mul-zero (numbers_of (suc i)));
        sum = omega (arith, ap total z);
      }
  lists-said edition sep n st (l ∷ ls) k each low q =
      by (is_passed sep l) (checked sep st (suc n) l) refl q (lists-said edition sep (suc n) st ls k each low)
      (λ a. lists-said edition sep (suc n) (after_line sep st l) ls (kind_in sep l) a (λ j x y. y))
    where
      by : (p : Bool) (c : Result ℕ TextFault) → checked sep st (suc n) l ≡ c
          → cond p (rows_from edition sep (suc n) st ls) (unless_fault c (rows_from edition sep (suc n) (after_line sep st l) ls)) ≡ rows e lengths area
          → (rows_from edition sep (suc n) st ls ≡ rows e lengths area → Listed sep lengths k st.lengths (rows_of sep ls))
          → (length (after_line sep st l).lengths ≡ kinds → rows_from edition sep (suc n) (after_line sep st l) ls ≡ rows e lengths area
          → Listed sep lengths (kind_in sep l) (after_line sep st l).lengths (rows_of sep ls))
          → Listed sep lengths k st.lengths (cond p (rows_of sep ls) (l ∷ rows_of sep ls))
      by true c h g over more = over g
      by false (Ok m) h g over more =
          let kind = kind_in sep l in
          let r = (row-said sep st (suc n) l h).1 in
          let w = more (length-set st.lengths (kind - 1) (get_or st.lengths (kind - 1) 0 + length (said_by sep l)) ∙ each) g in
          record {
            each = w.each;
            rising = (low kind r.some r.order, w.rising);
            counts = λ i.
                one_more st.lengths (said_by sep l) kind i (many sep (suc i) (rows_of sep ls)) (get_or lengths i 0) r.some (omega (arith, r.known, each))
                (first-length sep kind l (numbers_of kind)) (w.counts i);
            sum =
                let more_numbers = total-set st.lengths (kind - 1) (get_or st.lengths (kind - 1) 0 + length (said_by sep l)) (omega (arith, r.some, r.known, each)) in
                omega (arith, w.sum, more_numbers, length-append (said_by sep l) (flat sep (rows_of sep ls)));
          }
      by false (Err f) h g over more = let z : ◌≡◌ {A = ℕ} 0 1 = cc in absurd (omega arith)
