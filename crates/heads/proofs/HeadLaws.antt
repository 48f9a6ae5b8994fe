-- The first line that counts, as the code takes it apart. Assumes nothing.
--     found_few                  there are no more fields than bytes
--     short-word, short_quoted, quote_first, quote_last, quote_word    whether the word stands at a place, by the tests
--     behind-word, behind_quoted, behind_none    what stands behind it
--     separator_none, separator_is, separator_by    the separator at a place, and that of a line
--     head_none, head_by_fields  what `head_of` answers
use Prim.Native.Nat.{ℕ, suc, ◌+◌, ◌<◌, ◌≤◌}
use mathlib.Core.Path.{◌≡◌, sym, ap, ◌∙◌}
use mathlib.Core.Bool.{Bool, true, false, cond, ◌&&◌}
use mathlib.Core.List.{List, [], ◌∷◌}
use native.Mathlib.Omega.{arith}
use native.Mathlib.Nat.{add-zero}
use lib.Dec.{eqb}
use lib.ListN.{length, take, drop, get_or, length-take, length-drop, get_or-eq_default}
use lib.Seq.{get_or-drop, drop-drop, drop-length}
use borrow.Author.Tests.{eq-eqb, ne_eqb}
use Rattle.std.specs.Prelude.{Some, None, Result, Err}
use Rattle.cells.specs.Lines.{part, onto}
use Rattle.cells.specs.Cells.{fields_of, front_off, cleaned, cell_at, is_empty, up_to_last, found_in, same_word}
use Rattle.cells.proofs.Parts.{part-rest}
use Rattle.cells.proofs.Tests.{and_off}
use Rattle.cells.proofs.WordLaws.{other_length}
use Rattle.numerals.specs.Numerals.{read_number}
use Rattle.numerals.specs.declared.NumberFault.{NumberFault}
use Rattle.heads.specs.Heads.{fault, edition_word, is_separator, behind_edition, is_quoted_word, separator_at, separator_in, head_by, head_behind, head_of}
use Rattle.heads.specs.declared.Fault.TheVariants as F

-- counted up to the last that is not empty, there are no more than there are, and these are no more than the separators and one
module _ (sep : ℕ) where
  counted_few : (fs : List (List ℕ)) → up_to_last sep fs ≤ length fs
  unfolding up_to_last
  counted_few [] = omega arith
  counted_few (f ∷ fs) = by (is_empty (cleaned sep f) && eqb (up_to_last sep fs) 0) (counted_few fs)
    where
      by : (q : Bool) → up_to_last sep fs ≤ length fs → cond q 0 (suc (up_to_last sep fs)) ≤ suc (length fs)
      by true h = omega arith
      by false h = omega arith

  onto_few : (b n : ℕ) (ps : List (List ℕ)) → length ps ≤ suc n → length (onto b ps) ≤ suc (suc n)
  onto_few b n [] h = omega arith
  onto_few b n (p ∷ ps) h = omega arith

  fields_few : (l : List ℕ) → length (fields_of sep l) ≤ suc (length l)
  unfolding fields_of
  fields_few [] = omega arith
  fields_few (b ∷ bs) = by (eqb b sep) (fields_few bs)
    where
      by : (q : Bool) → length (fields_of sep bs) ≤ suc (length bs) → length (cond q ([] ∷ fields_of sep bs) (onto b (fields_of sep bs))) ≤ suc (suc (length bs))
      by true h = omega arith
      by false h = onto_few b (length bs) (fields_of sep bs) h

  pub found_few : (l : List ℕ) → found_in sep l ≤ length l
  found_few l = omega (arith, counted_few (drop 1 (fields_of sep l)), length-drop 1 (fields_of sep l), fields_few l)

-- the word at a place
pub short-word : (l : List ℕ) (at : ℕ) → length l < at + 7 → false ≡ same_word edition_word (take 7 (drop at l))
short-word l at h = other_length edition_word (take 7 (drop at l)) (λ e. omega (arith, e, length-take 7 (drop at l), length-drop at l))

-- the byte at a place, and one further on
pub byte_here : (l : List ℕ) (at : ℕ) → get_or (drop at l) 0 0 ≡ get_or l at 0
byte_here l at = get_or-drop at l 0 0 ∙ ap (λ (k : ℕ). get_or l k 0) (add-zero at)

module _ (l : List ℕ) (at : ℕ) where
  abbrev word : Bool
  word = same_word edition_word (part 1 8 (drop at l))

  no_last : eqb (get_or (drop at l) 8 0) 34 ≡ false → false ≡ is_quoted_word (drop at l)
  no_last e = sym (ap (λ (t : Bool). eqb (get_or (drop at l) 0 0) 34 && word && t) e ∙ and_off (eqb (get_or (drop at l) 0 0) 34 && word))

  pub short_quoted : length l < at + 9 → false ≡ is_quoted_word (drop at l)
  short_quoted h = no_last (ap (λ (b : ℕ). eqb b 34) (get_or-eq_default (drop at l) 0 {n = 8} (omega (arith, length-drop at l))))

  pub quote_first : (get_or l at 0 ≡ 34 → ⊥) → false ≡ is_quoted_word (drop at l)
  quote_first n = sym (ap (λ (t : Bool). t && word && eqb (get_or (drop at l) 8 0) 34) (ne_eqb (get_or (drop at l) 0 0) 34 (λ z. n (sym (byte_here l at) ∙ z))))

  pub quote_last : (get_or l (at + 8) 0 ≡ 34 → ⊥) → false ≡ is_quoted_word (drop at l)
  quote_last n = no_last (ne_eqb (get_or (drop at l) 8 0) 34 (λ z. n (sym (get_or-drop at l 8 0) ∙ z)))

  pub quote_word : get_or l at 0 ≡ 34 → get_or l (at + 8) 0 ≡ 34 → {r : Bool} → r ≡ same_word edition_word (take 7 (drop (at + 1) l)) → r ≡ is_quoted_word (drop at l)
  quote_word e f r =
      r
      ∙ ap (λ (x : List ℕ). same_word edition_word (take 7 x)) (sym (drop-drop 1 at l))
      ∙ sym (by word (eq-eqb (get_or (drop at l) 0 0) 34 (byte_here l at ∙ e)) (eq-eqb (get_or (drop at l) 8 0) 34 (get_or-drop at l 8 0 ∙ f)))
    where
      by : (w : Bool) {a b : Bool} → a ≡ true → b ≡ true → (a && w && b) ≡ w
      by true {b = b} p q = ap (λ (t : Bool). t && true && b) p ∙ q
      by false {b = b} p q = ap (λ (t : Bool). t && false && b) p

-- what stands behind the word, by what stands there
module _ (l : List ℕ) (at : ℕ) where
  pub behind-word : true ≡ same_word edition_word (take 7 (drop at l)) → drop (at + 7) l ≡ behind_edition (drop at l)
  unfolding behind_edition
  behind-word e = rw (← e) (sym (drop-drop 7 at l))

  module _ (n : false ≡ same_word edition_word (take 7 (drop at l))) where
    pub behind_quoted : true ≡ is_quoted_word (drop at l) → drop (at + 9) l ≡ behind_edition (drop at l)
    unfolding behind_edition
    behind_quoted e = rw (← n, ← e) (sym (drop-drop 9 at l))

    pub behind_none : false ≡ is_quoted_word (drop at l) → drop (length l) l ≡ behind_edition (drop at l)
    unfolding behind_edition
    behind_none e = rw (← n, ← e) (drop-length l)

-- the separator at a place, and that of a line
pub separator_none : (l : List ℕ) (at : ℕ) → at ≡ length l → None ≡ separator_at (drop at l)
unfolding separator_at
separator_none l at e = sym (ap (λ (k : ℕ). separator_at (drop k l)) e ∙ ap separator_at (drop-length l))

pub separator_is : (l : List ℕ) (at : ℕ) {q : Bool} → q ≡ is_separator (get_or l at 0) → cond q (Some (get_or l at 0)) None ≡ separator_at (drop at l)
unfolding separator_at
separator_is l at e = ap (λ (t : Bool). cond t (Some (get_or l at 0)) None) e ∙ ap (λ (b : ℕ). cond (is_separator b) (Some b) None) (sym (byte_here l at))

module _ (l : List ℕ) (word behind at : ℕ) where
  pub separator_by : part word (length l) l ≡ front_off 44 (part 0 (length l) l) → drop behind l ≡ behind_edition (drop word l)
      → part at (length l) l ≡ front_off 9 (part behind (length l) l) → separator_at (drop at l) ≡ separator_in l
  unfolding separator_in
  separator_by e f g =
      ap separator_at (sym (part-rest at l) ∙ g ∙ ap (front_off 9) (part-rest behind l ∙ f))
      ∙ ap (λ (x : List ℕ). separator_at (front_off 9 (behind_edition x))) (sym (part-rest word l) ∙ e ∙ ap (front_off 44) (part-rest 0 l))

-- what is answered
module _ (n : ℕ) (l : List ℕ) where
  pub head_none : None ≡ separator_in l → Err (fault n F.Edition) ≡ head_of n l
  unfolding head_of
  head_none e = ap (head_behind n l) e

  pub head_by_fields : {sep : ℕ} → Some sep ≡ separator_in l → {k : ℕ} {d : Result ℕ NumberFault} → k ≡ found_in sep l → d ≡ read_number false 0 (cell_at sep 1 l)
      → head_by n sep k d ≡ head_of n l
  unfolding head_of
  head_by_fields {sep} e {d = d} f g = ap (λ (j : ℕ). head_by n sep j d) f ∙ ap (head_by n sep (found_in sep l)) g ∙ ap (head_behind n l) e
