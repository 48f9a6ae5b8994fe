-- What is asked of a line and of a word, byte by byte. Assumes nothing.
--     no_mark_by                 a text with another first byte than the mark's
--     all_fillers                a line is empty just where all its bytes are what is left of empty cells
--     note_by                    a line by the byte at which its blanks end, and the next
--     other_length, other_letter, same_letter, all_letters    the turns of a loop that compares words
--     word_is, is_word           a word is this one just where it is the same once its letters are made small
use Prim.Native.Nat.{ℕ, suc, ◌+◌, ◌<◌, ◌≤◌}
use mathlib.Core.Path.{◌≡◌, refl, sym, ap, ◌∙◌}
use mathlib.Core.Bool.{Bool, true, false, cond, ◌&&◌, ◌||◌, false≢true}
use mathlib.Core.List.{List, [], ◌∷◌, map}
use native.Mathlib.Omega.{arith}
use native.Mathlib.Nat.{add-zero}
use lib.Dec.{eqb}
use lib.ListN.{length, drop, get_or, drop_of_length-le}
use lib.Seq.{get_or-drop}
use borrow.Author.Tests.{eq-eqb, ne_eqb, eqb-true}
use Rattle.std.specs.List.{list_all}
use Rattle.cells.specs.Lines.{part, text_start, without_mark}
use Rattle.cells.specs.Cells.{front_off, is_filler, is_empty_line, begins_note, is_note, small, same_word}
use Rattle.cells.proofs.Parts.{opened, part-rest}
use Rattle.cells.proofs.Tests.{and_off}

pub no_mark_by : (l : List ℕ) → (get_or l 0 0 ≡ 239 → ⊥) → without_mark l ≡ l
unfolding text_start
no_mark_by l n = ap (λ (t : Bool). drop (cond (t && eqb (get_or l 1 0) 187 && eqb (get_or l 2 0) 191) 3 0) l) (ne_eqb (get_or l 0 0) 239 n)

pub all_fillers : (line : List ℕ) → list_all is_filler line ≡ is_empty_line line
unfolding is_empty_line
all_fillers [] = refl
all_fillers (b ∷ l) = ap (λ (t : Bool). is_filler b && t) (all_fillers l)

pub note_by : (sep at : ℕ) (line : List ℕ) → part at (length line) line ≡ front_off sep (part 0 (length line) line)
    → is_note sep line ≡ (eqb (get_or line at 0) 35 || (eqb (get_or line at 0) 34 && eqb (get_or line (at + 1) 0) 35))
unfolding begins_note
note_by sep at line e =
    let f : front_off sep line ≡ drop at line = ap (front_off sep) (sym (part-rest 0 line)) ∙ sym e ∙ part-rest at line in
    let b : get_or (drop at line) 0 0 ≡ get_or line at 0 = get_or-drop at line 0 0 ∙ ap (λ (k : ℕ). get_or line k 0) (add-zero at) in
    ap begins_note f
    ∙ ap (λ (x : ℕ). eqb x 35 || (eqb x 34 && eqb (get_or (drop at line) 1 0) 35)) b
    ∙ ap (λ (x : ℕ). eqb (get_or line at 0) 35 || (eqb (get_or line at 0) 34 && eqb x 35)) (get_or-drop at line 1 0)

pub other_length : (w l : List ℕ) → (length w ≡ length l → ⊥) → false ≡ same_word w l
unfolding same_word
other_length [] [] n = absurd (n refl)
other_length [] (b ∷ l) n = refl
other_length (a ∷ w) [] n = refl
other_length (a ∷ w) (b ∷ l) n = sym (ap (λ (t : Bool). eqb a (small b) && t) (sym (other_length w l (λ e. n (ap suc e)))) ∙ and_off (eqb a (small b)))

module _ (w l : List ℕ) (k : ℕ) (n : length w ≡ length l) (e : same_word (drop k w) (drop k l) ≡ same_word w l) where
  pub all_letters : length w ≤ k → true ≡ same_word w l
  unfolding same_word
  all_letters h =
      let v = drop_of_length-le w {i = k} h in
      let m = drop_of_length-le l {i = k} (omega arith) in
      sym (ap (λ (x : List ℕ). same_word x (drop k l)) v ∙ ap (same_word []) m) ∙ e

  module _ (h : k < length w) where
    both : same_word (drop k w) (drop k l) ≡ (eqb (get_or w k 0) (small (get_or l k 0)) && same_word (drop (k + 1) w) (drop (k + 1) l))
    unfolding same_word
    both = ap (λ (x : List ℕ). same_word x (drop k l)) (opened w k h) ∙ ap (same_word (get_or w k 0 ∷ drop (k + 1) w)) (opened l k (omega arith))

    pub other_letter : (b : ℕ) → b ≡ small (get_or l k 0) → (get_or w k 0 ≡ b → ⊥) → false ≡ same_word w l
    other_letter b f g = sym (both ∙ rw (ne_eqb (get_or w k 0) (small (get_or l k 0)) (λ z. g (z ∙ sym f)))) ∙ e

    pub same_letter : (b : ℕ) → b ≡ small (get_or l k 0) → get_or w k 0 ≡ b → same_word (drop (k + 1) w) (drop (k + 1) l) ≡ same_word w l
    same_letter b f g = sym (both ∙ rw (eq-eqb (get_or w k 0) (small (get_or l k 0)) (g ∙ f))) ∙ e

pub word_is : (w l : List ℕ) → same_word w l ≡ true → w ≡ map small l
unfolding same_word
word_is [] [] e = refl
word_is [] (b ∷ l) e = absurd (false≢true e)
word_is (a ∷ w) [] e = absurd (false≢true e)
word_is (a ∷ w) (b ∷ l) e = by (eqb a (small b)) refl e (λ g. word_is w l g)
  where
    by : (q : Bool) → eqb a (small b) ≡ q → (q && same_word w l) ≡ true → (same_word w l ≡ true → w ≡ map small l) → a ∷ w ≡ small b ∷ map small l
    by true f g more = ap (λ (x : ℕ). x ∷ w) (eqb-true a (small b) f) ∙ ap (λ (x : List ℕ). small b ∷ x) (more g)
    by false f g more = absurd (false≢true g)

pub is_word : (l : List ℕ) → same_word (map small l) l ≡ true
unfolding same_word
is_word [] = refl
is_word (b ∷ l) = rw (eq-eqb (small b) (small b) refl) (is_word l)
