-- The first field above its limit, and the loop that looks for it. Assumes nothing.
--     Seeking                what the loop knows: none so far
--     above_there            a row with a field above its limit: which is the first, what it is and what it may be
use Prim.Native.Nat.{ℕ, zero, suc, ◌+◌, ◌<◌, ◌≤◌}
use mathlib.Core.Path.{◌≡◌, refl, sym, ◌∙◌}
use mathlib.Core.Bool.{Bool, true, false, cond, ◌||◌, false≢true}
use mathlib.Core.List.{List, [], ◌∷◌}
use native.Mathlib.Nat.{add-zero, zero-add, add-suc, suc-add}
use native.Mathlib.Numerals.{add-one}
use native.Mathlib.Omega.{arith}
use borrow.Author.Tests.{ltb-true, ltb-false, lt-ltb, le-ltb}
use lib.Dec.{ltb}
use lib.ListN.{length, get_or, drop, drop_of_length-le}
use lib.Seq.{drop-cons}
use Rattle.form.specs.Bytes.{number}
use Rattle.form.specs.declared.Field.{Field}
use Rattle.form.specs.Layout.{field, Layout, field_at, row_from, above_limit}
use Rattle.form.proofs.Fields.{ends, field_in}
use Rattle.reasons.specs.declared.row_reasons.Above.{Above}
use Rattle.reasons.specs.Above.{above, above_from, FirstAbove}

-- ---- the loop over a record's fields: none above its limit among the first i, which end k bytes in

pub record Seeking (s : List ℕ) (at : ℕ) (l : Layout) (k i : ℕ) : Type 0 where
  pub within : i ≤ length l
  pub left : ends k (drop i l) ≤ 40
  pub whole : above_from i (drop i l) (row_from k (drop i l) s at) ≡ above_from 0 l (row_from 0 l s at)

module _ {s : List ℕ} {at : ℕ} {l : Layout} where
  pub seeking_none : ends 0 l ≤ 40 → Seeking s at l 0 0
  seeking_none h = record { within = omega arith; left = h; whole = refl }

  module _ {k i : ℕ} (d : Seeking s at l k i) where
    pub seeking_in : i < length l → k + (field_at l i).zeros + (field_at l i).width ≤ 40
    seeking_in h = field_in k i l h d.left

    module _ {f : Field} {v : ℕ} (h : i < length l) (e : f ≡ field_at l i) (q : v ≡ number f.width s (at + (k + f.zeros))) where
      next : drop i l ≡ f ∷ drop (i + 1) l
      next = rw (add-one i, e) (drop-cons l i (field 0 0 0) h)

      pub seeking_found : f.limit < v → above i v f.limit ≡ above_from 0 l (row_from 0 l s at)
      unfolding above_from row_from
      seeking_found t = rw (next, ← q, lt-ltb f.limit v t) at d.whole

      pub seeking_more : v ≤ f.limit → Seeking s at l (k + f.zeros + f.width) (i + 1)
      unfolding above_from row_from ends
      seeking_more t = record { within = omega arith; left = rw next at d.left; whole = rw (add-one i) (rw (next, ← q, le-ltb f.limit v t, add-one i) at d.whole) }

    pub seeking_all : length l ≤ i → above i 0 0 ≡ above_from 0 l (row_from 0 l s at)
    unfolding above_from
    seeking_all h = rw (drop_of_length-le l h) at d.whole

-- ---- what it says of a row

-- by the fields from number i on
record Found (i : ℕ) (l : Layout) (r : List ℕ) (a : Above) : Type 0 where
  index : ℕ
  numbered : a.field ≡ i + index
  there : index < length l
  value_is : a.value ≡ get_or r index 0
  limit_is : a.limit ≡ (field_at l index).limit
  high : a.limit < a.value
  none_before : (k : ℕ) → k < index → get_or r k 0 ≤ (field_at l k).limit

behind : (r : List ℕ) (j : ℕ) → get_or (drop 1 r) j 0 ≡ get_or r (suc j) 0
behind [] j = refl
behind (x ∷ r) j = refl

module _ (i : ℕ) (f : Field) (l : Layout) (r : List ℕ) where
  found_first : ltb f.limit (get_or r 0 0) ≡ true → Found i (f ∷ l) r (above i (get_or r 0 0) f.limit)
  found_first e = record {
    index = 0;
    numbered = sym (add-zero i);
    there = omega arith;
    value_is = refl;
    limit_is = refl;
    high = ltb-true f.limit (get_or r 0 0) e;
    none_before = λ k h. absurd (omega arith);
  }

  found_later : {a : Above} → ltb f.limit (get_or r 0 0) ≡ false → Found (suc i) l (drop 1 r) a → Found i (f ∷ l) r a
  found_later {a} e w = record {
    index = suc w.index;
    numbered = w.numbered ∙ suc-add i w.index ∙ sym (add-suc i w.index);
    there = omega (arith, w.there);
    value_is = w.value_is ∙ behind r w.index;
    limit_is = w.limit_is;
    high = w.high;
    none_before = kept;
  }
    where
      kept : (k : ℕ) → k < suc w.index → get_or r k 0 ≤ (field_at (f ∷ l) k).limit
      kept zero h = ltb-false f.limit (get_or r 0 0) e
      kept (suc k) h = rw (← behind r k) (w.none_before k (omega arith))

found_from : (i : ℕ) (l : Layout) (r : List ℕ) → above_limit l r ≡ true → Found i l r (above_from i l r)
unfolding above_limit above_from
found_from i [] r e = absurd (false≢true e)
found_from i (f ∷ l) r e = by_test (ltb f.limit (get_or r 0 0)) refl e (λ h. found_from (suc i) l (drop 1 r) h)
  where
    by_test : (t : Bool) → ltb f.limit (get_or r 0 0) ≡ t → (t || above_limit l (drop 1 r)) ≡ true
        → (above_limit l (drop 1 r) ≡ true → Found (suc i) l (drop 1 r) (above_from (suc i) l (drop 1 r)))
        → Found i (f ∷ l) r (cond t (above i (get_or r 0 0) f.limit) (above_from (suc i) l (drop 1 r)))
    by_test true q h w = found_first i f l r q
    by_test false q h w = found_later i f l r q (w h)

pub above_there : (l : Layout) (r : List ℕ) → above_limit l r ≡ true → FirstAbove l r (above_from 0 l r)
above_there l r e =
    let w = found_from 0 l r e in
    let z : (above_from 0 l r).field ≡ w.index = w.numbered ∙ zero-add w.index in
    record {
      field_there = rw z w.there;
      value_there = rw z w.value_is;
      limit_there = rw z w.limit_is;
      too_high = w.high;
      first = rw z w.none_before;
    }
