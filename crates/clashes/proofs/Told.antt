-- The values that a row's number tells, and the lines that they make. Assumes nothing.
--     number-there, id_there    a number of the row that stands at a place, where it lies in the area
--     here                 the row that is named, and its numbers
--     Seeking              none above its limit among the first i numbers
--     soil_told            the values of 13; told_5 to told_13, the lines by the number
use Prim.Native.Nat.{ℕ, ◌+◌, ◌-◌, ◌≤◌, ◌<◌}
use mathlib.Core.Path.{◌≡◌, refl, sym, ap, ◌∙◌}
use mathlib.Core.List.{List, ◌∷◌}
use native.Mathlib.Nat.{add-zero}
use native.Mathlib.Numerals.{add-one}
use native.Mathlib.Omega.{arith}
use borrow.Author.Tests.{lt-ltb, le-ltb}
use lib.ListN.{length, get_or, take, drop, length-drop, drop_of_length-le}
use lib.Seq.{get_or-take, get_or-drop, drop-cons, length-take-le}
use Rattle.form.specs.Layout.{field, Layout, layout, numbers_of, field_at}
use Rattle.form.specs.Records.{Filed, filed_rows, id_of}
use Rattle.form.specs.Sums.{soil_type}
use Rattle.form.specs.declared.Field.{Field}
use Rattle.form.proofs.Fields.{kind-numbers}
use Rattle.filing.specs.Lists.{cut, filed_lists}
use Rattle.areas.specs.Areas.{areas_of}
use Rattle.areas.specs.declared.Areas.{Areas}
use Rattle.phrases.specs.Lines.{lines_text}
use Rattle.reasons.specs.declared.Row.{Row}
use Rattle.reasons.specs.declared.Reason.{Reason}
use Rattle.reasons.specs.declared.Reason.TheVariants.{IdBelow, SoilUneven}
use Rattle.reasons.specs.Above.{above, above_from}
use Rattle.reasons.specs.Reasons.{limit_by, fractions_by, soil_by, trees_by}
use Rattle.naming.specs.RowLines.{row_lines}
use Rattle.clashes.specs.declared.Whereabouts.{Whereabouts}
use Rattle.clashes.specs.Stands.{Stands}
use Rattle.wording.specs.Wording.{value_lines}
use Rattle.clashes.specs.Clashes.{wood_clash, Here, clash_of, clash_lines}

-- ---- the row at a place

module _ {lengths area : List ℕ} {p : ℕ} {w : Whereabouts} (s : Stands lengths area p w) where
  pub some_numbers : 0 < numbers_of w.kind
  some_numbers = kind-numbers w.kind s.known-kind.0 s.known-kind.1

  pub id_there : get_or area w.from 0 ≡ id_of ((filed_lists (cut lengths area)).row p)
  id_there =
      sym (ap (λ (i : ℕ). get_or area i 0) (add-zero w.from))
      ∙ sym (get_or-drop w.from area 0 0)
      ∙ sym (get_or-take (numbers_of w.kind) (drop w.from area) 0 0 some_numbers)
      ∙ ap id_of s.row_there

  -- its numbers, as the code cuts them
  pub part-long : {n : ℕ} → n ≡ numbers_of w.kind → length (take (w.from + n - w.from) (drop w.from area)) ≡ numbers_of w.kind
  part-long {n} e =
      let z : w.from + n - w.from ≡ numbers_of w.kind = omega arith in
      rw z (length-take-le (numbers_of w.kind) (drop w.from area) (rw length-drop (omega (arith, s.inside))))

  pub here : {n i : ℕ} → n ≡ numbers_of w.kind → i ≡ get_or area w.from 0
      → Here (filed_lists (cut lengths area)) (record { place = p; kind = w.kind; id = i }) (take (w.from + n - w.from) (drop w.from area))
  here {n} {i} e q =
      let z : w.from + n - w.from ≡ numbers_of w.kind = omega arith in
      let k = s.kind_there in
      let d : i ≡ id_of ((filed_lists (cut lengths area)).row p) = q ∙ id_there in
      record {
        named = λ j. record { place = p; kind = k j; id = d j };
        numbers = rw z s.row_there;
        whole = part-long e;
      }

-- ---- the loop over a row's numbers: none above its limit among the first i

pub record Seeking (l : Layout) (r : List ℕ) (i : ℕ) : Type 0 where
  pub within : i ≤ length l
  pub left : above_from i (drop i l) (drop i r) ≡ above_from 0 l r

pub seeking_none : (l : Layout) (r : List ℕ) → Seeking l r 0
seeking_none l r = record { within = omega arith; left = refl }

module _ {l : Layout} {r : List ℕ} {i : ℕ} (d : Seeking l r i) where
  module _ {f : Field} (h : i < length l) (long : length r ≡ length l) (e : f ≡ field_at l i) where
    next : drop i l ≡ f ∷ drop (i + 1) l
    next = rw (add-one i, e) (drop-cons l i (field 0 0 0) h)

    next-number : drop i r ≡ get_or r i 0 ∷ drop (i + 1) r
    next-number = rw (add-one i) (drop-cons r i 0 (omega arith))

    pub seeking_found : f.limit < get_or r i 0 → above i (get_or r i 0) f.limit ≡ above_from 0 l r
    unfolding above_from
    seeking_found t = rw (next, next-number, lt-ltb f.limit (get_or r i 0) t) at d.left

    pub seeking_more : get_or r i 0 ≤ f.limit → Seeking l r (i + 1)
    unfolding above_from
    seeking_more t = record { within = omega arith; left = rw (add-one i) (rw (next, next-number, le-ltb f.limit (get_or r i 0) t, add-one i) at d.left) }

  pub seeking_all : length l ≤ i → above i 0 0 ≡ above_from 0 l r
  unfolding above_from
  seeking_all h = rw (drop_of_length-le l h) at d.left

-- ---- by the number

-- 13's values, by the type that the code read
pub soil_told : (w : Row) (soils : List (List ℕ)) (ns : List ℕ) {t : ℕ} {a : Areas} → t ≡ soil_type ns → a ≡ areas_of soils t
    → SoilUneven w t a.now a.then ≡ soil_by w soils (soil_type ns)
soil_told w soils ns e q = rw (q, e) refl

-- how many numbers the row has, by its kind
pub long_here : {f : Filed} {w : Row} {ns : List ℕ} → Here f w ns → (k : ℕ) → f.kind w.place ≡ k → length ns ≡ numbers_of k
long_here h k e = h.whole ∙ ap numbers_of (ap (λ (x : Row). x.kind) h.named ∙ e)

pub told_12 : (edition : ℕ) (f : Filed) (p : ℕ) {n : ℕ} → n ≡ 12 → lines_text (value_lines (wood_clash f)) ≡ lines_text (clash_lines edition f n p)
unfolding clash_of
told_12 edition f p q = rw q refl

-- a reason's lines are those that the number has at the row's place
abbrev Told : ℕ → Filed → Row → ℕ → Reason → Type 0
Told edition f w n r = lines_text (row_lines r) ≡ lines_text (clash_lines edition f n w.place)

module _ (edition : ℕ) (f : Filed) {w : Row} {ns : List ℕ} (h : Here f w ns) {n : ℕ} {r : Reason} where
  pub told_5 : n ≡ 5 → r ≡ IdBelow w (id_of (f.row (w.place - 1))) → Told edition f w n r
  unfolding clash_of
  told_5 q e = rw (e, q) (ap (λ (x : Row). lines_text (row_lines (IdBelow x (id_of (f.row (w.place - 1)))))) h.named)

  pub told_6 : n ≡ 6 → r ≡ limit_by w (above_from 0 (layout w.kind) ns) → Told edition f w n r
  unfolding clash_of
  told_6 q e =
      rw (e, q, h.numbers) (ap (λ (x : Row). lines_text (row_lines (limit_by x (above_from 0 (layout x.kind) (f.row w.place))))) h.named)

  pub told_7 : n ≡ 7 → r ≡ fractions_by w ns → Told edition f w n r
  unfolding clash_of
  told_7 q e = rw (e, q, h.numbers) (ap (λ (x : Row). lines_text (row_lines (fractions_by x (f.row w.place)))) h.named)

  pub told_14 : n ≡ 14 → r ≡ trees_by w ns edition → Told edition f w n r
  unfolding clash_of
  told_14 q e = rw (e, q, h.numbers) (ap (λ (x : Row). lines_text (row_lines (trees_by x (f.row w.place) edition))) h.named)

  pub told_13 : n ≡ 13 → r ≡ soil_by w (filed_rows f 7) (soil_type ns) → Told edition f w n r
  unfolding clash_of
  told_13 q e = rw (e, q, h.numbers) (ap (λ (x : Row). lines_text (row_lines (soil_by x (filed_rows f 7) (soil_type (f.row w.place))))) h.named)
