-- The digits at the front, byte by byte. Assumes nothing.
--     digits-next, digits-stop, digits-end    a loop's turn: one digit more, a byte that is none, the end
--     digit_above                             a digit is 48 or more
use Prim.Native.Nat.{ℕ, ◌+◌, ◌<◌, ◌≤◌}
use mathlib.Core.Path.{◌≡◌, sym, ap, ◌∙◌}
use mathlib.Core.Bool.{Bool, true, false, cond}
use mathlib.Core.List.{List, [], ◌∷◌}
use native.Mathlib.Numerals.{add-one}
use lib.ListN.{length, drop, get_or, drop_of_length-le}
use lib.Seq.{drop-cons}
use lib.Dec.{leb}
use borrow.Author.Tests.{leb-true}
use Rattle.numerals.specs.Numerals.{is_digit, digits_in}
use Rattle.numerals.proofs.Fronts.{both_true}

-- a byte and the bytes behind it
pub opened : (l : List ℕ) (k : ℕ) → k < length l → drop k l ≡ get_or l k 0 ∷ drop (k + 1) l
opened l k h = drop-cons l k 0 h ∙ ap (λ (n : ℕ). get_or l k 0 ∷ drop n l) (sym (add-one k))

pub digits-next : (l : List ℕ) (k : ℕ) → k < length l → is_digit (get_or l k 0) ≡ true → digits_in (drop k l) ≡ get_or l k 0 ∷ digits_in (drop (k + 1) l)
unfolding digits_in
digits-next l k h e = ap digits_in (opened l k h) ∙ ap (λ (t : Bool). cond t (get_or l k 0 ∷ digits_in (drop (k + 1) l)) []) e

pub digits-stop : (l : List ℕ) (k : ℕ) → k < length l → is_digit (get_or l k 0) ≡ false → digits_in (drop k l) ≡ []
unfolding digits_in
digits-stop l k h e = ap digits_in (opened l k h) ∙ ap (λ (t : Bool). cond t (get_or l k 0 ∷ digits_in (drop (k + 1) l)) []) e

pub digits-end : (l : List ℕ) (k : ℕ) → length l ≤ k → digits_in (drop k l) ≡ []
unfolding digits_in
digits-end l k h = ap digits_in (drop_of_length-le l {i = k} h)

pub digit_above : (b : ℕ) → is_digit b ≡ true → 48 ≤ b
unfolding is_digit
digit_above b e = leb-true 48 b (both_true (leb 48 b) (leb b 57) e).0
