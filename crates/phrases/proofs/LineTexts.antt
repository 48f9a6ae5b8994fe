-- Lines by their names and numbers, as a text. Assumes nothing.
--     as_text                  a text that was written, by another definition of it
--     text_append, more-text   the lines of one list behind those of another
--     lines                    names and numbers, filled in; one_text, two_text: one and two of them
use Prim.Native.Nat.{ℕ}
use mathlib.Core.Path.{◌≡◌, refl, sym, subst}
use mathlib.Core.List.{List, [], ◌∷◌, ◌++◌, append-nil, append_assoc, map, flat_map}
use lib.IntN.{ℤ, pos}
use Rattle.decimal.specs.Digits.{marked, WrittenAt}
use Rattle.decimal.proofs.DigitLaws.{written-more}
use Rattle.phrases.specs.Lines.{Line, number_line, lines_text, spaces, filled_in, unsigned}
use Rattle.phrases.proofs.Filled.{filled-text}

pub as_text : {x y d e : List ℕ} {i j : ℕ} → x ≡ y → WrittenAt x d e i j → WrittenAt y d e i j
as_text {x} {y} {d} {e} {i} {j} q w = subst (λ (t : List ℕ). WrittenAt t d e i j) q w

pub text_append : (xs ys : List Line) → lines_text (xs ++ ys) ≡ lines_text xs ++ lines_text ys
unfolding lines_text
text_append [] ys = refl
text_append (x ∷ xs) ys = rw (text_append xs ys, append_assoc, append_assoc)

-- lines behind lines
pub more-text : (xs ys : List Line) {d e f : List ℕ} {i j k : ℕ} → WrittenAt (lines_text xs) d e i j → WrittenAt (lines_text ys) e f j k → WrittenAt (lines_text (xs ++ ys)) d f i k
more-text xs ys w v = as_text (sym (text_append xs ys)) (written-more w v)

-- a name and its number
pub record Item : Type 0 where
  pub name : List ℕ
  pub number : ℤ

abbrev pub item : List ℕ → ℕ → Item
item name n = record { name = name; number = pos n }

-- names and numbers, filled in, are their lines: no name has a space
pub lines : (xs : List Item) → spaces (flat_map (λ (x : Item). x.name) xs) ≡ 0
    → filled_in (flat_map (λ (x : Item). x.name ++ 32 ∷ []) xs) (map (λ (x : Item). x.number) xs) ≡ lines_text (map (λ (x : Item). record { name = x.name; value = marked x.number }) xs)
lines xs e = filled-text (λ (x : Item). x.name) (λ (x : Item). x.number) xs e

-- one line and two, by their names
pub one_text : (name : List ℕ) (n : ℕ) → spaces name ≡ 0 → filled_in (name ++ 32 ∷ []) (unsigned (n ∷ [])) ≡ lines_text (number_line name n ∷ [])
unfolding flat_map
one_text name n e = rw append-nil at (lines (item name n ∷ []) (rw append-nil e))

pub two_text : (x y : List ℕ) (m n : ℕ) → spaces (x ++ y) ≡ 0
    → filled_in (x ++ 32 ∷ (y ++ 32 ∷ [])) (unsigned (m ∷ n ∷ [])) ≡ lines_text (number_line x m ∷ number_line y n ∷ [])
unfolding flat_map
two_text x y m n e = rw (append-nil (y ++ 32 ∷ []), append_assoc x (32 ∷ []) (y ++ 32 ∷ [])) at (lines (item x m ∷ item y n ∷ []) (rw append-nil e))
