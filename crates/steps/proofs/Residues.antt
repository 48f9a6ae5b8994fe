-- Two returns whose blocks of every kind but 8 are alike, but for the number of blocks and the edition in their headers and their checks: they have the same rows of those kinds.
-- Assumes nothing, not even that they are accepted.
--     but_for_crops    the rows of such a kind
--     other_sheets     rows that agree in every kind but 8 have the same figures but for those of crops
use Prim.Native.Nat.{ℕ, zero, suc, ◌+◌, ◌-◌, ◌*◌, ◌/◌, ◌%◌, ◌<◌, ◌≤◌}
use mathlib.Core.Path.{◌≡◌, refl, sym, ap, ap₂, subst, ◌∙◌}
use mathlib.Core.Bool.{Bool, true, false, cond, ◌&&◌}
use mathlib.Core.List.{List, [], ◌∷◌, ◌++◌, append-nil}
use native.Mathlib.Nat.{add-zero, add-suc}
use native.Mathlib.Decide.{dec_lt, ℕ_discrete}
use native.Mathlib.Omega.{arith}
use borrow.Author.Tests.{ne_eqb}
use lib.Dec.{ltb, eqb}
use Rattle.form.specs.Bytes.{byte_at, number}
use Rattle.form.specs.Layout.{Layout, layout, row_from}
use Rattle.form.specs.Block.{blocks, kind_of, count_of, record_at}
use Rattle.form.specs.Records.{Filed, filed, rows_below}
use Rattle.form.specs.Verdict.{rows}
use Rattle.form.proofs.Fields.{ends, ends_40, field_in}
use Rattle.crops.specs.declared.Crops.{Crops}
use Rattle.worksheets.specs.Sheets.{Rows, figures_of}
use Rattle.worksheets.specs.declared.sheets.Figures.{Figures}

-- ---- numbers and rows of bytes that are the same

number_same : (w : ℕ) (s t : List ℕ) (at : ℕ) → ((i : ℕ) → i < w → byte_at s (at + i) ≡ byte_at t (at + i)) → number w s at ≡ number w t at
unfolding number
number_same zero s t at h = refl
number_same (suc w) s t at h =
    let low : byte_at s at ≡ byte_at t at = rw (add-zero at) at (h 0 (omega arith)) in
    let high = number_same w s t (at + 1) (λ i l. let e : at + 1 + i ≡ at + suc i = omega arith in rw e (h (suc i) (omega arith))) in
    ap₂ (λ (x y : ℕ). x + 256 * y) low high

row_same : (k : ℕ) (l : Layout) (s t : List ℕ) (at : ℕ) → ends k l ≤ 40 → ((i : ℕ) → i < 40 → byte_at s (at + i) ≡ byte_at t (at + i)) → row_from k l s at ≡ row_from k l t at
unfolding row_from ends
row_same k [] s t at e h = refl
row_same k (f ∷ l) s t at e h =
    let inside = field_in k 0 (f ∷ l) (omega arith) e in
    ap₂ (λ (x : ℕ) (y : List ℕ). x ∷ y)
    (number_same f.width s t (at + (k + f.zeros)) (λ i q. let p : at + (k + f.zeros) + i ≡ at + (k + f.zeros + i) = omega arith in rw p (h (k + f.zeros + i) (omega arith))))
    (row_same (k + f.zeros + f.width) l s t at e h)

-- ---- rows of a kind, place by place

-- what a place adds to them
abbrev added : Filed → ℕ → ℕ → List (List ℕ)
added f k j = cond (f.used j && eqb (f.kind j) k) (f.row j ∷ []) []

another : (b : Bool) {e : Bool} (r : List (List ℕ)) → e ≡ false → cond (b && e) r [] ≡ []
another true r q = rw q refl
another false r q = refl

-- places of other kinds add none
past : (f : Filed) (k n d : ℕ) → ((j : ℕ) → n ≤ j → j < n + d → added f k j ≡ []) → rows_below f k (n + d) ≡ rows_below f k n
unfolding rows_below
past f k n zero h = rw (add-zero n) refl
past f k n (suc d) h =
    rw (add-suc n d, h (n + d) (omega arith) (omega arith)) (append-nil (rows_below f k (n + d)) ∙ past f k n d (λ j a b. h j a (omega arith)))

alike : (f g : Filed) (k n : ℕ) → ((j : ℕ) → j < n → added f k j ≡ added g k j) → rows_below f k n ≡ rows_below g k n
unfolding rows_below
alike f g k zero h = refl
alike f g k (suc n) h = ap₂ (λ (x y : List (List ℕ)). x ++ y) (alike f g k n (λ j l. h j (omega arith))) (h n (omega arith))

-- ---- the blocks: `same b` says that block b is alike, by its first four offsets and its offsets from 8 to 507
module _ (s t : List ℕ) (same : ℕ → Type 0) (head : (b i : ℕ) → same b → i < 4 → byte_at s (512 * b + i) ≡ byte_at t (512 * b + i))
    (body : (b i : ℕ) → same b → 8 ≤ i → i < 508 → byte_at s (512 * b + i) ≡ byte_at t (512 * b + i)) where
  kinds_same : (b : ℕ) → same b → kind_of s b ≡ kind_of t b
  kinds_same b a = rw (add-zero (512 * b)) at (head b 0 a (omega arith))

  rows_same : (j : ℕ) → same (j / 12) → (filed s).row j ≡ (filed t).row j
  rows_same j a =
      let b = j / 12 in
      let r = j % 12 in
      ap (λ (k : ℕ). row_from 0 (layout k) s (record_at b r)) (kinds_same b a)
      ∙ row_same 0 (layout (kind_of t b)) s t (record_at b r) (ends_40 (kind_of t b))
      (λ i l. let e : record_at b r + i ≡ 512 * b + (8 + 40 * r + i) = omega arith in rw e (body b (8 + 40 * r + i) a (omega arith) (omega arith)))

  added_same : (k j : ℕ) → same (j / 12) → added (filed s) k j ≡ added (filed t) k j
  added_same k j a =
      let count = head (j / 12) 1 a (omega arith) in
      let kind = kinds_same (j / 12) a in
      let row = rows_same j a in
      λ i. cond (ltb (j % 12) (count i) && eqb (kind i) k) (row i ∷ []) []

  module _ (one : (b : ℕ) → b < blocks s → (kind_of s b ≡ 8 → ⊥) → (b < blocks t) × same b)
      (other : (b : ℕ) → b < blocks t → (kind_of t b ≡ 8 → ⊥) → (b < blocks s) × same b) (k : ℕ) (not8 : k ≡ 8 → ⊥) where
    -- a block of kind 8 adds none of another kind
    none_of : (u : List ℕ) (j : ℕ) → kind_of u (j / 12) ≡ 8 → added (filed u) k j ≡ []
    none_of u j e = another ((filed u).used j) ((filed u).row j ∷ []) (ne_eqb _ _ (λ q. not8 (sym q ∙ e)))

    -- in both
    both : (j : ℕ) → j / 12 < blocks s → j / 12 < blocks t → added (filed s) k j ≡ added (filed t) k j
    both j a c = go (ℕ_discrete (kind_of s (j / 12)) 8) (ℕ_discrete (kind_of t (j / 12)) 8)
      where
        go : Dec (kind_of s (j / 12) ≡ 8) → Dec (kind_of t (j / 12) ≡ 8) → added (filed s) k j ≡ added (filed t) k j
        go (yes p) (yes q) = none_of s j p ∙ sym (none_of t j q)
        go (no p) q = added_same k j (one (j / 12) a p).1
        go (yes p) (no q) = added_same k j (other (j / 12) c q).1

    -- behind the last block of t
    s_longer : (j : ℕ) → j / 12 < blocks s → blocks t ≤ j / 12 → added (filed s) k j ≡ []
    s_longer j a c = go (ℕ_discrete (kind_of s (j / 12)) 8)
      where
        go : Dec (kind_of s (j / 12) ≡ 8) → added (filed s) k j ≡ []
        go (yes p) = none_of s j p
        go (no p) = absurd (omega (arith, (one (j / 12) a p).0))

    t_longer : (j : ℕ) → j / 12 < blocks t → blocks s ≤ j / 12 → added (filed t) k j ≡ []
    t_longer j a c = go (ℕ_discrete (kind_of t (j / 12)) 8)
      where
        go : Dec (kind_of t (j / 12) ≡ 8) → added (filed t) k j ≡ []
        go (yes p) = none_of t j p
        go (no p) = absurd (omega (arith, (other (j / 12) a p).0))

    pub but_for_crops : rows k s ≡ rows k t
    but_for_crops = go (dec_lt (blocks s) (blocks t))
      where
        go : Dec (blocks s < blocks t) → rows k s ≡ rows k t
        go (yes l) =
            let e : 12 * blocks s + 12 * (blocks t - blocks s) ≡ 12 * blocks t = omega arith in
            alike (filed s) (filed t) k (12 * blocks s) (λ j q. both j (omega arith) (omega arith))
            ∙ sym (past (filed t) k (12 * blocks s) (12 * (blocks t - blocks s)) (λ j a b. t_longer j (omega arith) (omega arith)))
            ∙ ap (rows_below (filed t) k) e
        go (no l) =
            let e : 12 * blocks t + 12 * (blocks s - blocks t) ≡ 12 * blocks s = omega arith in
            sym (ap (rows_below (filed s) k) e)
            ∙ past (filed s) k (12 * blocks t) (12 * (blocks s - blocks t)) (λ j a b. s_longer j (omega arith) (omega arith))
            ∙ alike (filed s) (filed t) k (12 * blocks t) (λ j q. both j (omega arith) (omega arith))

-- ---- the figures

-- some figures, with the crops of others
abbrev with_crops : Figures → Crops → Figures
with_crops f c = record {
  stocks = f.stocks;
  conversion = f.conversion;
  thinner = f.thinner;
  gases = f.gases;
  abandoned = f.abandoned;
  savannas = f.savannas;
  soils = f.soils;
  scattered = f.scattered;
  matter = f.matter;
  crops = c;
}

pub other_sheets : (a b : Rows) → ((k : ℕ) → k < 7 → a (suc k) ≡ b (suc k)) → figures_of a ≡ with_crops (figures_of b) (figures_of a).crops
other_sheets a b h =
    let one = h 0 (omega arith) in
    let two = h 1 (omega arith) in
    let three = h 2 (omega arith) in
    let four = h 3 (omega arith) in
    let five = h 4 (omega arith) in
    let six = h 5 (omega arith) in
    let seven = h 6 (omega arith) in
    rw (one, two, three, four, five, six, seven)
