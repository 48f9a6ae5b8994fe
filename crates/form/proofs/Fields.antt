-- The fields of the kinds, and the loops over a record's fields. Assumes nothing.
--     told               a function of a field's number is the layout's, by one test that the checker computes
--     no_kind            a number that is no kind has no fields; few_numbers, kind-numbers, how many a kind has
--     ends_40            every record ends in its 40 bytes; field_in, and so does each of its fields; field_readable, in 1, 2 or 4 bytes
--     Looking            what a loop over the fields has found so far; straying, limiting, of a record's zero bytes, and of its limits
use Prim.Native.Nat.{ℕ, zero, suc, ◌+◌, ◌≤◌, ◌<◌}
use mathlib.Core.Path.{◌≡◌, refl, ap, ◌∙◌}
use mathlib.Core.Bool.{Bool, true, false, not, ◌&&◌, ◌||◌, or_assoc}
use mathlib.Core.List.{List, [], ◌∷◌}
use native.Mathlib.Numerals.{add-one}
use native.Mathlib.Omega.{arith}
use borrow.Author.Tests.{leb-true, ltb-true, eqb-true, eqb-false, not-true, not-false}
use lib.Dec.{ltb, leb, eqb}
use lib.ListN.{length, drop, drop_of_length-le, get_or-eq_default}
use lib.Seq.{drop-cons}
use Rattle.form.specs.First.{any}
use Rattle.form.specs.Layout.{Field, field, Layout, layouts, kinds, layout, field_at, numbers_of, row_from, stray_from, above_limit}
use Rattle.form.proofs.Tests.{and-true}
use Rattle.form.proofs.Search.{any_each}
use Rattle.form.proofs.EachKind.{each_layout}

-- ---- by its number

unfoldable pub same : Field → Field → Bool
same f g = eqb f.zeros g.zeros && (eqb f.width g.width && eqb f.limit g.limit)

same_true : (f g : Field) → same f g ≡ true → f ≡ g
unfolding same
same_true f g e =
    let x = and-true (eqb f.zeros g.zeros) _ e in
    let y = and-true (eqb f.width g.width) _ x.1 in
    ap (λ (z : ℕ). field z f.width f.limit) (eqb-true f.zeros g.zeros x.0)
    ∙ ap (λ (w : ℕ). field g.zeros w f.limit) (eqb-true f.width g.width y.0)
    ∙ ap (λ (m : ℕ). field g.zeros g.width m) (eqb-true f.limit g.limit y.1)

-- a field that is told otherwise than the layout has it
unfoldable pub mistold : (ℕ → Field) → Layout → ℕ → Bool
mistold t l i = not (same (t i) (field_at l i))

pub told : (t : ℕ → Field) (l : Layout) → any (mistold t l) (length l) ≡ false → (i : ℕ) → i < length l → t i ≡ field_at l i
unfolding mistold
told t l e i h = same_true (t i) (field_at l i) (not-false _ (any_each (mistold t l) (length l) e i h))

-- ---- of every kind

-- a number that is no kind has no fields
pub no_kind : (kind : ℕ) → (kind ≤ kinds → 0 < kind → ⊥) → layout kind ≡ []
unfolding kinds
no_kind zero h = refl
no_kind (suc k) h = get_or-eq_default layouts [] {n = k} (not_lt (λ l. h l (omega arith)))
  where
    not_lt : (suc k ≤ length layouts → ⊥) → length layouts ≤ k
    not_lt g = omega arith

-- a row has at most 16 numbers, and one at least if its kind is one
pub few_numbers : (kind : ℕ) → numbers_of kind ≤ 16
few_numbers kind = leb-true (numbers_of kind) 16 (each_layout (λ l. leb (length l) 16) refl refl kind)

pub some_numbers : (k : ℕ) → k < kinds → 0 < numbers_of (suc k)
unfolding any kinds
some_numbers k h = ltb-true 0 (numbers_of (suc k)) (not-false _ (any_each (λ k. not (ltb 0 (numbers_of (suc k)))) kinds refl k h))

pub kind-numbers : (kind : ℕ) → 0 < kind → kind ≤ kinds → 0 < numbers_of kind
kind-numbers zero lo hi = absurd (omega arith)
kind-numbers (suc k) lo hi = some_numbers k hi

-- where the last field ends
unfoldable pub ends : ℕ → Layout → ℕ
ends k [] = k
ends k (f ∷ l) = ends (k + f.zeros + f.width) l

pub ends_from : (k : ℕ) (l : Layout) → k ≤ ends k l
unfolding ends
ends_from k [] = omega arith
ends_from k (f ∷ l) = omega (arith, ends_from (k + f.zeros + f.width) l)

-- every record ends in its 40 bytes
pub ends_40 : (kind : ℕ) → ends 0 (layout kind) ≤ 40
unfolding ends
ends_40 kind = leb-true (ends 0 (layout kind)) 40 (each_layout (λ l. leb (ends 0 l) 40) refl refl kind)

-- the next field has its place in the record
pub field_in : (k i : ℕ) (l : Layout) → i < length l → ends k (drop i l) ≤ 40 → k + (field_at l i).zeros + (field_at l i).width ≤ 40
unfolding ends
field_in k i l h e =
    let f = field_at l i in
    omega (arith, rw (drop-cons l i (field 0 0 0) h) at e, ends_from (k + f.zeros + f.width) (drop (suc i) l))

-- a number stands in one, two or four bytes
abbrev pub Readable : ℕ → Type 0
Readable w = (0 < w) × (w ≤ 4) × (w ≡ 3 → ⊥)

readable_width : ℕ → Bool
readable_width w = ltb 0 w && (leb w 4 && not (eqb w 3))

readable_width_lem : (w : ℕ) → readable_width w ≡ true → Readable w
unfolding readable_width
readable_width_lem w e =
    let x = and-true (ltb 0 w) _ e in
    let y = and-true (leb w 4) _ x.1 in
    (ltb-true 0 w x.0, leb-true w 4 y.0, eqb-false w 3 (not-true _ y.1))

readable : Layout → Bool
readable [] = true
readable (f ∷ l) = readable_width f.width && readable l

readable_at : (l : Layout) (i : ℕ) → i < length l → readable l ≡ true → Readable (field_at l i).width
unfolding readable
readable_at [] i h e = absurd (omega arith)
readable_at (f ∷ l) zero h e = readable_width_lem f.width (and-true (readable_width f.width) (readable l) e).0
readable_at (f ∷ l) (suc i) h e = readable_at l i (omega arith) (and-true (readable_width f.width) (readable l) e).1

pub field_readable : (kind i : ℕ) → i < numbers_of kind → Readable (field_at (layout kind) i).width
unfolding readable readable_width
field_readable kind i h = readable_at (layout kind) i h (each_layout readable refl refl kind)

-- ---- a loop over a record's fields: what a test of the fields from byte k on says is found among the first i, which end k bytes in

pub record Looking (g : ℕ → Layout → Bool) (l : Layout) (found : Bool) (k i : ℕ) : Type 0 where
  pub within : i ≤ length l
  pub left : ends k (drop i l) ≤ 40
  pub whole : (found || g k (drop i l)) ≡ g 0 l

module _ {g : ℕ → Layout → Bool} {l : Layout} where
  pub looking_none : ends 0 l ≤ 40 → Looking g l false 0 0
  looking_none h = record { within = omega arith; left = h; whole = refl }

  module _ {found : Bool} {k i : ℕ} (d : Looking g l found k i) where
    pub looking_in : i < length l → k + (field_at l i).zeros + (field_at l i).width ≤ 40
    looking_in h = field_in k i l h d.left

    pub looking_end : k ≤ 40
    looking_end = omega (arith, d.left, ends_from k (drop i l))

    pub looking_more : {f : Field} (x : Bool) → i < length l → f ≡ field_at l i
        → ((m : Layout) → g k (f ∷ m) ≡ (x || g (k + f.zeros + f.width) m)) → Looking g l (found || x) (k + f.zeros + f.width) (i + 1)
    unfolding ends
    looking_more {f} x h e q =
        let c : drop i l ≡ f ∷ drop (i + 1) l = rw (add-one i, e) (drop-cons l i (field 0 0 0) h) in
        record { within = omega arith; left = rw c at d.left; whole = or_assoc found x _ ∙ rw (c, q (drop (i + 1) l)) at d.whole }

    pub looking_all : {x : Bool} → length l ≤ i → g k [] ≡ x → (found || x) ≡ g 0 l
    looking_all h q = rw (drop_of_length-le l h, q) at d.whole

-- for zero bytes
abbrev pub straying : List ℕ → ℕ → ℕ → Layout → Bool
straying s at k l = stray_from k l s at

-- for a number above its limit
abbrev pub limiting : List ℕ → ℕ → ℕ → Layout → Bool
limiting s at k l = above_limit l (row_from k l s at)
