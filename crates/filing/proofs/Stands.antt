-- What stands at a place in a list of bytes: numbers, zeros and records, written and read. Assumes nothing.
--     stands-left, stands_right, stands-join    parts of what stands, and a whole from its parts
--     number_read, zeros-read, record_read      what stands as it is written is read as it was given
--     number-stands, zeros_stand, record_stands    what is read stands as it would be written
use Prim.Native.Nat.{ℕ, zero, suc, ◌+◌, ◌-◌, ◌*◌, ◌/◌, ◌%◌, ◌^◌, ◌<◌, ◌≤◌}
use mathlib.Core.Path.{◌≡◌, refl, sym, ap, ap₂, ◌∙◌}
use mathlib.Core.Bool.{false}
use mathlib.Core.List.{List, [], ◌∷◌, ◌++◌, append_assoc, append-nil}
use native.Mathlib.Nat.{add-zero, pow-suc}
use native.Mathlib.Omega.{arith}
use lib.ListN.{length, get_or, take, drop, length-append, length-drop, length-replicate, get_or-replicate, take-append-drop, get_or-append}
use lib.Seq.{length-take-le, take_all, take_at, drop-cons, drop-drop, drop_at, get_or-take, get_or-drop, ext_get_or}
use borrow.Author.Tests.{eqb-true, eq-eqb, not-false}
use Rattle.form.specs.Bytes.{byte_at, number, stray_in}
use Rattle.form.specs.Layout.{Layout, row_from, stray_from}
use Rattle.form.proofs.Fields.{ends, ends_from}
use Rattle.form.proofs.Tests.{or_none}
use Rattle.form.proofs.Search.{any_none, any_each}
use Rattle.filing.specs.Written.{zeros, record_from}
use Rattle.form.specs.Bytes.{little_endian}

-- ---- parts

pub record Stands (s : List ℕ) (p : ℕ) (x : List ℕ) : Type 0 where
  pub rest : List ℕ
  pub is : drop p s ≡ x ++ rest

pub stands-whole : (s : List ℕ) → Stands s 0 s
stands-whole s = record { rest = []; is = sym (append-nil s) }

module _ {s : List ℕ} {p : ℕ} where
  pub stands-left : (x y : List ℕ) → Stands s p (x ++ y) → Stands s p x
  stands-left x y h = record { rest = y ++ h.rest; is = h.is ∙ append_assoc x y h.rest }

  pub stands_right : (x y : List ℕ) {q : ℕ} → p + length x ≡ q → Stands s p (x ++ y) → Stands s q y
  stands_right x y e h =
      record {
        rest = h.rest;
        is = rw (← e, ← drop-drop (length x) p s, h.is, append_assoc x y h.rest) (drop_at x (y ++ h.rest) (length x) refl);
      }

  pub stands-join : (x y : List ℕ) {q : ℕ} → p + length x ≡ q → Stands s p x → Stands s q y → Stands s p (x ++ y)
  stands-join x y {q} e h g =
      let d : drop q s ≡ h.rest =
      rw (← e, ← drop-drop (length x) p s, h.is) (drop_at x h.rest (length x) refl) in
      record { rest = g.rest; is = h.is ∙ ap (λ (t : List ℕ). x ++ t) (sym d ∙ g.is) ∙ sym (append_assoc x y g.rest) }

  pub stands_at : (x : List ℕ) (i : ℕ) → i < length x → Stands s p x → byte_at s (p + i) ≡ get_or x i 0
  stands_at x i l h = sym (get_or-drop p s i 0) ∙ ap (λ (t : List ℕ). get_or t i 0) h.is ∙ get_or-append x h.rest 0 i l

-- what stands in front and is as long as the whole is the whole
pub stands_all : (s x : List ℕ) → length s ≡ length x → Stands s 0 x → s ≡ x
stands_all s x e h = sym (take_all (length x) s (omega arith)) ∙ ap (take (length x)) h.is ∙ take_at x h.rest (length x) refl

pub stands_each : (s : List ℕ) (p : ℕ) (x : List ℕ) → p + length x ≤ length s → ((i : ℕ) → i < length x → byte_at s (p + i) ≡ get_or x i 0) → Stands s p x
stands_each s p x l h =
    let n = length x in
    let long : length (take n (drop p s)) ≡ n = length-take-le n (drop p s) (rw length-drop (omega arith)) in
    let same = ext_get_or 0 (take n (drop p s)) x long (λ i m. get_or-take n (drop p s) i 0 (rw long at m) ∙ get_or-drop p s i 0 ∙ h i (rw long at m)) in
    record { rest = drop n (drop p s); is = sym (take-append-drop n (drop p s)) ∙ ap (λ (y : List ℕ). y ++ drop n (drop p s)) same }

-- ---- a number

-- each element is a byte
abbrev pub Bytes : List ℕ → Type 0
Bytes s = (i : ℕ) → i < length s → byte_at s i < 256

pub length_le : (w v : ℕ) → length (little_endian w v) ≡ w
unfolding little_endian
length_le zero v = refl
length_le (suc w) v = ap suc (length_le w (v / 256))

pub number_read : (w : ℕ) {v : ℕ} (s : List ℕ) (p : ℕ) → v < 256 ^ w → Stands s p (little_endian w v) → number w s p ≡ v
unfolding number little_endian
number_read zero s p l h = omega arith
number_read (suc w) {v} s p l h =
    let b : byte_at s p ≡ v % 256 = rw (add-zero p) at (stands_at (v % 256 ∷ little_endian w (v / 256)) 0 (omega arith) h) in
    let lt : v / 256 < 256 ^ w = omega (arith, pow-suc 256 w) in
    let r = number_read w s (p + 1) lt (stands_right (v % 256 ∷ []) (little_endian w (v / 256)) refl h) in
    omega arith

pub number-stands : (w : ℕ) (s : List ℕ) (p : ℕ) → Bytes s → p + w ≤ length s → Stands s p (little_endian w (number w s p))
unfolding number little_endian
number-stands zero s p b l = record { rest = drop p s; is = refl }
number-stands (suc w) s p b l =
    let n : ℕ = number w s (p + 1) in
    let byte = b p (omega arith) in
    let low : (byte_at s p + 256 * n) % 256 ≡ byte_at s p = omega arith in
    let high : (byte_at s p + 256 * n) / 256 ≡ n = omega arith in
    rw (low, high)
    (stands-join (byte_at s p ∷ []) (little_endian w n) {q = p + 1} refl
    (record { rest = drop (suc p) s; is = drop-cons s p 0 (omega arith) })
    (number-stands w s (p + 1) b (omega arith)))

-- ---- zeros

pub length-zeros : (n : ℕ) → length (zeros n) ≡ n
length-zeros n = length-replicate n 0

pub zeros-read : (n : ℕ) (s : List ℕ) (p : ℕ) → Stands s p (zeros n) → stray_in s p n ≡ false
unfolding stray_in
zeros-read n s p h =
    any_none _ n
    (λ i l.
    let e : byte_at s (p + i) ≡ 0 = stands_at (zeros n) i (rw (length-zeros n) l) h ∙ get_or-replicate n i 0 0 l in
    rw (eq-eqb (byte_at s (p + i)) 0 e))

pub zeros_stand : (n : ℕ) (s : List ℕ) (p : ℕ) → p + n ≤ length s → stray_in s p n ≡ false → Stands s p (zeros n)
unfolding stray_in
zeros_stand n s p l h =
    stands_each s p (zeros n) (rw (length-zeros n) l)
    (λ i m.
    let lt : i < n = rw (length-zeros n) at m in
    eqb-true (byte_at s (p + i)) 0 (not-false _ (any_each _ n h i lt)) ∙ sym (get_or-replicate n i 0 0 lt))

-- ---- a record

-- each number of a row fits the width of its field
unfoldable pub Fits : Layout → List ℕ → Type 0
Fits [] r = Unit {0}
Fits (f ∷ l) r = (get_or r 0 0 < 256 ^ f.width) × Fits l (drop 1 r)

pub length_record : (k : ℕ) (l : Layout) (r : List ℕ) → ends k l ≤ 40 → length (record_from k l r) ≡ 40 - k
unfolding record_from ends
length_record k [] r h = length-zeros (40 - k)
length_record k (f ∷ l) r h =
    let n : ℕ = k + f.zeros + f.width in
    simp (length-append, length-zeros, length_le, length_record n l (drop 1 r) h) (omega (arith, ends_from n l))

pub record_read : (k : ℕ) (l : Layout) (r s : List ℕ) (at : ℕ) → Fits l r → length r ≡ length l → Stands s (at + k) (record_from k l r)
    → (row_from k l s at ≡ r) × (stray_from k l s at ≡ false)
unfolding record_from row_from stray_from Fits
record_read k [] [] s at f e h = (refl, zeros-read (40 - k) s (at + k) h)
record_read k [] (v ∷ r) s at f e h = absurd (let z : ◌≡◌ {A = ℕ} 0 1 = omega arith in omega arith)
record_read k (g ∷ l) [] s at f e h = absurd (let z : ◌≡◌ {A = ℕ} 0 1 = omega arith in omega arith)
record_read k (g ∷ l) (v ∷ r) s at f e h =
    let z : List ℕ = zeros g.zeros in
    let n : List ℕ = little_endian g.width v in
    let k' : ℕ = k + g.zeros + g.width in
    let rest : List ℕ = record_from k' l r in
    let nh : Stands s (at + (k + g.zeros)) (n ++ rest) = stands_right z (n ++ rest) (omega (arith, length-zeros g.zeros)) h in
    let rh : Stands s (at + k') rest = stands_right n rest (omega (arith, length_le g.width v)) nh in
    let more = record_read k' l r s at f.1 (omega arith) rh in (
      ap₂ (λ (x : ℕ) (y : List ℕ). x ∷ y) (number_read g.width s (at + (k + g.zeros)) f.0 (stands-left n rest nh)) more.0,
      rw (zeros-read g.zeros s (at + k) (stands-left z (n ++ rest) h)) more.1,
    )

pub record_stands : (k : ℕ) (l : Layout) (s : List ℕ) (at : ℕ) → ends k l ≤ 40 → Bytes s → at + 40 ≤ length s → stray_from k l s at ≡ false
    → Stands s (at + k) (record_from k l (row_from k l s at))
unfolding record_from row_from stray_from ends
record_stands k [] s at h b m e = zeros_stand (40 - k) s (at + k) (omega arith) e
record_stands k (g ∷ l) s at h b m e =
    let k' : ℕ = k + g.zeros + g.width in
    let below = ends_from k' l in
    let z : List ℕ = zeros g.zeros in
    let v : ℕ = number g.width s (at + (k + g.zeros)) in
    let n : List ℕ = little_endian g.width v in
    let clean = or_none (stray_in s (at + k) g.zeros) (stray_from k' l s at) e in
    stands-join z (n ++ record_from k' l (row_from k' l s at)) {q = at + (k + g.zeros)} (omega (arith, length-zeros g.zeros))
    (zeros_stand g.zeros s (at + k) (omega arith) clean.0)
    (stands-join n (record_from k' l (row_from k' l s at)) {q = at + k'} (omega (arith, length_le g.width v))
    (number-stands g.width s (at + (k + g.zeros)) b (omega arith))
    (record_stands k' l s at h b m clean.1))
