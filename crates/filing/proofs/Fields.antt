-- A row's fields one after the other, decoded and encoded, as the loops over them go. Assumes nothing.
use Prim.Native.Nat.{ℕ, suc, ◌+◌, ◌-◌, ◌≤◌, ◌<◌}
use mathlib.Core.Path.{◌≡◌, refl, sym, ap, ◌∙◌}
use mathlib.Core.List.{List, [], ◌∷◌, ◌++◌}
use native.Mathlib.Nat.{add-zero}
use native.Mathlib.Numerals.{add-one}
use native.Mathlib.Omega.{arith}
use lib.ListN.{length, get_or, take, drop, set, length-set, drop_of_length-le}
use lib.Seq.{sets, length-sets, drop-cons, drop-drop, get_or-drop}
use Rattle.form.specs.Bytes.{number}
use Rattle.form.specs.Layout.{field, Layout, field_at, row_from}
use Rattle.form.specs.declared.Field.{Field}
use Rattle.form.proofs.Fields.{ends, field_in}
use Rattle.filing.specs.Written.{zeros, record_from}
use Rattle.form.specs.Bytes.{little_endian}
use Rattle.filing.proofs.Stands.{length_le, length-zeros}
use Rattle.filing.proofs.Stores.{sets_append}

pub length-row : (k : ℕ) (l : Layout) (s : List ℕ) (at : ℕ) → length (row_from k l s at) ≡ length l
unfolding row_from
length-row k [] s at = refl
length-row k (f ∷ l) s at = ap suc (length-row (k + f.zeros + f.width) l s at)

-- a record has the numbers of its row, whatever stands behind the row
pub record_take : (k : ℕ) (l : Layout) (r : List ℕ) → record_from k l (take (length l) r) ≡ record_from k l r
unfolding record_from
record_take k [] r = refl
record_take k (f ∷ l) [] = refl
record_take k (f ∷ l) (v ∷ r) =
    ap (λ (x : List ℕ). zeros f.zeros ++ (little_endian f.width v ++ x)) (record_take (k + f.zeros + f.width) l r)

-- ---- decoding

pub record Decoding (l : Layout) (s : List ℕ) (at : ℕ) (room₀ : List ℕ) (to : ℕ) (room : List ℕ) (k i : ℕ) : Type 0 where
  pub within : i ≤ length l
  pub same : length room ≡ length room₀
  pub left : ends k (drop i l) ≤ 40
  pub whole : sets room (to + i) (row_from k (drop i l) s at) ≡ sets room₀ to (row_from 0 l s at)

module _ {l : Layout} {s : List ℕ} {at : ℕ} where
  pub decoding_none : {room : List ℕ} {to : ℕ} → ends 0 l ≤ 40 → Decoding l s at room to room 0 0
  decoding_none h = record { within = omega arith; same = refl; left = h; whole = rw add-zero }

  module _ {room₀ : List ℕ} {to : ℕ} {room : List ℕ} {k i : ℕ} where
    pub decoding_more : {f : Field} {v : ℕ} → Decoding l s at room₀ to room k i → i < length l → f ≡ field_at l i → v ≡ number f.width s (at + (k + f.zeros))
        → Decoding l s at room₀ to (set room (to + i) v) (k + f.zeros + f.width) (i + 1)
    unfolding row_from ends
    decoding_more {f} {v} d h e ev =
        let j : to + (i + 1) ≡ suc (to + i) = omega arith in
        record {
          within = omega arith;
          same = length-set room (to + i) v ∙ d.same;
          left = rw (add-one i, e) (rw (drop-cons l i (field 0 0 0) h) at d.left);
          whole = rw (j, add-one i, ev, e) (rw (drop-cons l i (field 0 0 0) h) at d.whole);
        }

    pub decoding_all : Decoding l s at room₀ to room k i → length l ≤ i → room ≡ sets room₀ to (row_from 0 l s at)
    unfolding row_from
    decoding_all d h = rw (drop_of_length-le l h) at d.whole

-- ---- encoding

pub record Encoding (l : Layout) (r out₀ : List ℕ) (to : ℕ) (out : List ℕ) (k i : ℕ) : Type 0 where
  pub within : i ≤ length l
  pub same : length out ≡ length out₀
  pub end : k ≤ 40
  pub left : ends k (drop i l) ≤ 40
  pub whole : sets out (to + k) (record_from k (drop i l) (drop i r)) ≡ sets out₀ to (record_from 0 l r)

module _ {l : Layout} {r : List ℕ} where
  pub encoding_none : {out : List ℕ} {to : ℕ} → ends 0 l ≤ 40 → Encoding l r out to out 0 0
  encoding_none h = record { within = omega arith; same = refl; end = omega arith; left = h; whole = rw add-zero }

  module _ {out₀ : List ℕ} {to : ℕ} {out : List ℕ} {k i : ℕ} where
    pub encoding_more : {f : Field} {v : ℕ} {out₁ out₂ : List ℕ} → Encoding l r out₀ to out k i → i < length l → f ≡ field_at l i → v ≡ get_or r i 0
        → out₁ ≡ sets out (to + k) (zeros f.zeros) → out₂ ≡ sets out₁ (to + k + f.zeros) (little_endian f.width v)
        → Encoding l r out₀ to out₂ (k + f.zeros + f.width) (i + 1)
    unfolding record_from ends
    encoding_more {f} {v} {out₁} {out₂} d h e ev e₁ e₂ =
        let z = f.zeros in
        let w = f.width in
        let rest : List ℕ = record_from (k + z + w) (drop (suc i) l) (drop (suc i) r) in
        let u : get_or (drop i r) 0 0 ≡ v = get_or-drop i r 0 0 ∙ rw (add-zero i) (sym ev) in
        let p : to + (k + z + w) ≡ to + k + z + w = omega arith in
        let all : sets out (to + k) (zeros z ++ (little_endian w v ++ rest)) ≡ sets out₀ to (record_from 0 l r) =
        rw e (rw (drop-cons l i (field 0 0 0) h, u, drop-drop 1 i r, add-one i) at d.whole) in
        record {
          within = omega arith;
          same = rw (e₂, length-sets, e₁, length-sets) d.same;
          end = rw e (field_in k i l h d.left);
          left = rw (add-one i, e) (rw (drop-cons l i (field 0 0 0) h) at d.left);
          whole = rw (add-one i, p, e₂, e₁) (rw (sets_append, length-zeros z, sets_append, length_le w v) at all);
        }

    pub encoding_all : {out₁ : List ℕ} → Encoding l r out₀ to out k i → length l ≤ i → out₁ ≡ sets out (to + k) (zeros (40 - k))
        → out₁ ≡ sets out₀ to (record_from 0 l r)
    unfolding record_from
    encoding_all d h e = e ∙ rw (drop_of_length-le l h) at d.whole
