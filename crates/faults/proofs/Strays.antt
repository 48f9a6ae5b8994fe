-- Where zero is due by the offset is where rule 4 has it by records and fields. Assumes nothing.
--     none_stray     a block with no stray byte at any offset has none by rule 4; stray_there, one with such a byte has one
use Prim.Native.Nat.{ℕ, ◌+◌, ◌-◌, ◌*◌, ◌/◌, ◌%◌, ◌<◌, ◌≤◌}
use mathlib.Core.Path.{◌≡◌, refl, ap, ◌∙◌}
use mathlib.Core.Bool.{Bool, true, false, cond, not, ◌&&◌, ◌||◌, or-true, false≢true}
use mathlib.Core.List.{List, [], ◌∷◌}
use native.Mathlib.Nat.{add_assoc}
use native.Mathlib.Omega.{arith}
use borrow.Author.Tests.{lt-ltb, le-ltb, le-leb, lt-leb, ltb-true, ltb-false, leb-true, leb-false}
use lib.Dec.{ltb, leb, eqb}
use Rattle.form.specs.First.{any}
use Rattle.form.specs.Bytes.{byte_at, stray_in}
use Rattle.form.specs.Layout.{Layout, layout, stray_from}
use Rattle.form.specs.Block.{kind_of, count_of, record_at, stray_record, stray}
use Rattle.form.proofs.Tests.{and-true, and_rest, either}
use Rattle.form.proofs.Search.{any_none, any_found}
use Rattle.form.proofs.Fields.{ends, ends_from, ends_40}
use Rattle.faults.specs.Faults.{zero_from, zero_due, stray_byte}

-- ---- in a record
module _ (s : List ℕ) (at : ℕ) where
  -- where zero is due, there is one
  abbrev Zeros : (ℕ → Bool) → Type 0
  Zeros due = (k : ℕ) → k < 40 → due k ≡ true → not (eqb (byte_at s (at + k)) 0) ≡ false

  zeros_in : (k n : ℕ) → ((i : ℕ) → i < n → not (eqb (byte_at s (at + (k + i))) 0) ≡ false) → stray_in s (at + k) n ≡ false
  unfolding stray_in
  zeros_in k n h = any_none _ n (λ i l. rw (add_assoc at k i) (h i l))

  none_from : (k : ℕ) (l : Layout) → ends k l ≤ 40 → Zeros (zero_from k l) → stray_from k l s at ≡ false
  unfolding stray_from zero_from ends
  none_from k [] e h = zeros_in k (40 - k) (λ i l. h (k + i) (omega arith) (le-leb k (k + i) (omega arith)))
  none_from k (f ∷ l) e h =
      let m = k + f.zeros + f.width in
      let le : m ≤ 40 = omega (arith, e, ends_from m l) in
      let here : stray_in s (at + k) f.zeros ≡ false =
      zeros_in k f.zeros (λ i q. h (k + i) (omega arith) (rw (le-leb k (k + i) (omega arith), lt-ltb (k + i) (k + f.zeros) (omega arith)))) in
      rw here (none_from m l e (λ j q t. h j q (rw t (or-true (leb k j && ltb j (k + f.zeros))))))

-- ---- in a block
module _ (s : List ℕ) (b : ℕ) (none : (i : ℕ) → i < 512 → stray_byte s b i ≡ false) where
  zero_at : (i : ℕ) → i < 512 → zero_due s b i ≡ true → not (eqb (byte_at s (512 * b + i)) 0) ≡ false
  zero_at i l d = and_rest (zero_due s b i) _ d (none i l)

  -- byte k of record r
  offset : (r k : ℕ) → record_at b r + k ≡ 512 * b + (8 + 40 * r + k)
  offset r k = omega arith

  module _ (r : ℕ) (l : r < 12) where
    used_due : (k : ℕ) → k < 40 → ltb r (count_of s b) ≡ true → zero_from 0 (layout (kind_of s b)) k ≡ true → zero_due s b (8 + 40 * r + k) ≡ true
    unfolding zero_due
    used_due k h u d =
        let e : (8 + 40 * r + k - 8) / 40 ≡ r = omega arith in
        let q : (8 + 40 * r + k - 8) % 40 ≡ k = omega arith in
        rw (le-ltb (8 + 40 * r + k) 8 (omega arith), lt-leb 488 (8 + 40 * r + k) (omega arith), e, q, u, d)

    unused_due : (k : ℕ) → k < 40 → ltb r (count_of s b) ≡ false → zero_due s b (8 + 40 * r + k) ≡ true
    unfolding zero_due
    unused_due k h u =
        let e : (8 + 40 * r + k - 8) / 40 ≡ r = omega arith in
        rw (le-ltb (8 + 40 * r + k) 8 (omega arith), lt-leb 488 (8 + 40 * r + k) (omega arith), e, u)

    record_zero : (k : ℕ) → k < 40 → zero_due s b (8 + 40 * r + k) ≡ true → not (eqb (byte_at s (record_at b r + k)) 0) ≡ false
    record_zero k h d = rw (offset r k) (zero_at (8 + 40 * r + k) (omega arith) d)

    no_stray : (u : Bool) → ltb r (count_of s b) ≡ u → stray_record s b r ≡ false
    unfolding stray_record stray_in
    no_stray true u = rw u (none_from s (record_at b r) 0 (layout (kind_of s b)) (ends_40 (kind_of s b)) (λ k h d. record_zero k h (used_due k h u d)))
    no_stray false u = rw u (any_none _ 40 (λ k h. record_zero k h (unused_due k h u)))

  behind : (i : ℕ) → i < 20 → zero_due s b (488 + i) ≡ true
  unfolding zero_due
  behind i l = rw (le-ltb (488 + i) 8 (omega arith), le-leb 488 (488 + i) (omega arith), lt-ltb (488 + i) 508 (omega arith))

  no_stray-behind : stray_in s (512 * b + 488) 20 ≡ false
  unfolding stray_in
  no_stray-behind = any_none _ 20 (λ i l. rw (add_assoc (512 * b) 488 i) (zero_at (488 + i) (omega arith) (behind i l)))

  pub none_stray : stray s b ≡ false
  unfolding stray
  none_stray = rw (any_none (stray_record s b) 12 (λ r l. no_stray r l (ltb r (count_of s b)) refl), no_stray-behind)

-- ---- and the other way: such a byte is one by rule 4

-- among the n bytes from k on
in_found : (s : List ℕ) (at k n j : ℕ) → k ≤ j → j < k + n → not (eqb (byte_at s (at + j)) 0) ≡ true → stray_in s (at + k) n ≡ true
unfolding stray_in
in_found s at k n j h l e =
    let q : at + k + (j - k) ≡ at + j = omega arith in
    any_found (λ i. not (eqb (byte_at s (at + k + i)) 0)) (j - k) n (ap (λ (x : ℕ). not (eqb (byte_at s x) 0)) q ∙ e) (omega arith)

from_found : (s : List ℕ) (at k : ℕ) (l : Layout) (j : ℕ) → j < 40 → zero_from k l j ≡ true → not (eqb (byte_at s (at + j)) 0) ≡ true → stray_from k l s at ≡ true
unfolding stray_from zero_from
from_found s at k [] j h d e = let g = leb-true k j d in in_found s at k (40 - k) j g (omega arith) e
from_found s at k (f ∷ l) j h d e = by (leb k j && ltb j (k + f.zeros)) refl d (λ r. from_found s at (k + f.zeros + f.width) l j h r e)
  where
    by : (t : Bool) → (leb k j && ltb j (k + f.zeros)) ≡ t → (t || zero_from (k + f.zeros + f.width) l j) ≡ true
        → (zero_from (k + f.zeros + f.width) l j ≡ true → stray_from (k + f.zeros + f.width) l s at ≡ true)
        → (stray_in s (at + k) f.zeros || stray_from (k + f.zeros + f.width) l s at) ≡ true
    by true q z more =
        let g = and-true (leb k j) (ltb j (k + f.zeros)) q in
        rw (in_found s at k f.zeros j (leb-true k j g.0) (ltb-true j (k + f.zeros) g.1) e)
    by false q z more = rw (more z) (or-true (stray_in s (at + k) f.zeros))

module _ (s : List ℕ) (b i : ℕ) (l : i < 512) (e : not (eqb (byte_at s (512 * b + i)) 0) ≡ true) where
  -- the byte by its record, where it is in one
  in_record : 8 ≤ i → not (eqb (byte_at s (record_at b ((i - 8) / 40) + (i - 8) % 40)) 0) ≡ true
  in_record h =
      let q : record_at b ((i - 8) / 40) + (i - 8) % 40 ≡ 512 * b + i = omega arith in
      ap (λ (x : ℕ). not (eqb (byte_at s x) 0)) q ∙ e

  one_record : i < 488 → stray_record s b ((i - 8) / 40) ≡ true → stray s b ≡ true
  unfolding stray
  one_record h t = rw (any_found (stray_record s b) ((i - 8) / 40) 12 t (omega arith))

  behind-records : 488 ≤ i → i < 508 → stray s b ≡ true
  unfolding stray
  behind-records h m = rw (in_found s (512 * b) 488 20 i h (omega arith) e) (or-true (any (stray_record s b) 12))

  used : ltb ((i - 8) / 40) (count_of s b) ≡ true → zero_from 0 (layout (kind_of s b)) ((i - 8) % 40) ≡ true → 8 ≤ i → stray_record s b ((i - 8) / 40) ≡ true
  unfolding stray_record
  used u d h = rw u (from_found s (record_at b ((i - 8) / 40)) 0 (layout (kind_of s b)) ((i - 8) % 40) (omega arith) d (in_record h))

  unused : ltb ((i - 8) / 40) (count_of s b) ≡ false → 8 ≤ i → stray_record s b ((i - 8) / 40) ≡ true
  unfolding stray_record stray_in
  unused u h = rw u (any_found (λ k. not (eqb (byte_at s (record_at b ((i - 8) / 40) + k)) 0)) ((i - 8) % 40) 40 (in_record h) (omega arith))

  by_offset : zero_due s b i ≡ true → stray s b ≡ true
  unfolding zero_due
  by_offset =
      either (λ (z : Bool). z ≡ true → stray s b ≡ true) (ltb i 8) (λ q d. absurd (false≢true d)) (λ q.
      either (λ (z : Bool). z ≡ true → stray s b ≡ true) (leb 488 i) (λ g d. behind-records (leb-true 488 i g) (ltb-true i 508 d)) (λ g.
      either (λ (z : Bool). z ≡ true → stray s b ≡ true) (ltb ((i - 8) / 40) (count_of s b))
      (λ u d. one_record (leb-false 488 i g) (used u d (ltb-false i 8 q)))
      (λ u d. one_record (leb-false 488 i g) (unused u (ltb-false i 8 q)))))

pub stray_there : (s : List ℕ) (b i : ℕ) → i < 512 → stray_byte s b i ≡ true → stray s b ≡ true
stray_there s b i l e = let h = and-true (zero_due s b i) _ e in by_offset s b i l h.1 h.0
