-- Digits at the front of a text, with something behind them. Assumes nothing.
--     digit_first, none_first    a text by its first byte; zero_digit: a zero is a digit
--     all_append           digits in front of a text are among its digits; digits after digits are digits
--     mark_none            a mark is no digit
--     all_there            digits and nothing else, at least one; only_all: and the other way
--     digits-taken, digits_few    the digits at the front, as a chain takes them; no more than there are bytes
--     digits_again, front_and_rest    the digits at the front are digits; with what stands behind them they are the text
use Prim.Native.Nat.{ℕ, suc, ◌+◌, ◌<◌, ◌≤◌}
use mathlib.Core.Path.{◌≡◌, refl, sym, ap, subst, ◌∙◌}
use mathlib.Core.Bool.{Bool, true, false, cond, ◌&&◌, ◌||◌}
use mathlib.Core.List.{List, [], ◌∷◌, ◌++◌, append-nil}
use native.Mathlib.Omega.{arith}
use lib.ListN.{length, take, drop, drop_of_length-le}
use lib.Dec.{eqb, ltb}
use borrow.Author.Tests.{lt-ltb, ltb-true, eq-eqb, eqb-true}
use native.Mathlib.Numerals.{one-add}
use Rattle.std.specs.List.{prefix_len}
use Rattle.numerals.specs.Numerals.{is_digit, is_mark, digits_in, behind_digits, AllDigits, only_digits}

pub both_true : (p q : Bool) → (p && q) ≡ true → (p ≡ true) × (q ≡ true)
both_true true q e = (refl, e)
both_true false q e = let z : ◌≡◌ {A = ℕ} 0 1 = cc in absurd (omega arith)

pub zero_digit : is_digit 48 ≡ true
unfolding is_digit
zero_digit = refl

-- a list that begins with a digit, or with another byte
pub digit_first : (b : ℕ) (l : List ℕ) → is_digit b ≡ true → digits_in (b ∷ l) ≡ b ∷ digits_in l
unfolding digits_in
digit_first b l e = ap (λ (t : Bool). cond t (b ∷ digits_in l) []) e

pub none_first : (b : ℕ) (l : List ℕ) → is_digit b ≡ false → digits_in (b ∷ l) ≡ []
unfolding digits_in
none_first b l e = ap (λ (t : Bool). cond t (b ∷ digits_in l) []) e

-- where a list is digits, its first byte is one and so are the others
first_of : (b : ℕ) (l : List ℕ) → AllDigits (b ∷ l) → (is_digit b ≡ true) × AllDigits l
first_of b l all = by (is_digit b) refl
  where
    by : (t : Bool) → is_digit b ≡ t → (is_digit b ≡ true) × AllDigits l
    by true e = (e, let f : b ∷ digits_in l ≡ b ∷ l = sym (digit_first b l e) ∙ all in cc)
    by false e =
        let f : [] ≡ b ∷ l = sym (none_first b l e) ∙ all in
        let z : ◌≡◌ {A = ℕ} 0 1 = cc in
        absurd (omega arith)

pub all_append : (a t : List ℕ) → AllDigits a → digits_in (a ++ t) ≡ a ++ digits_in t
all_append [] t h = refl
all_append (b ∷ a) t h =
    let f = first_of b a h in
    digit_first b (a ++ t) f.0 ∙ ap (λ (x : List ℕ). b ∷ x) (all_append a t f.1)

-- a point is no digit, and a comma is none
pub mark_none : (commas : Bool) (m : ℕ) → is_mark commas m ≡ true → is_digit m ≡ false
unfolding is_mark is_digit
mark_none commas m e = by commas (eqb m 46) (eqb m 44) refl refl e
  where
    by : (c p q : Bool) → eqb m 46 ≡ p → eqb m 44 ≡ q → (p || (c && q)) ≡ true → is_digit m ≡ false
    by c true q f g e = ap is_digit (eqb-true m 46 f)
    by true false true f g e = ap is_digit (eqb-true m 44 g)
    by true false false f g e = absurd (let z : ◌≡◌ {A = ℕ} 0 1 = cc in omega arith)
    by false false q f g e = absurd (let z : ◌≡◌ {A = ℕ} 0 1 = cc in omega arith)

pub all_there : (a : List ℕ) → AllDigits a → 0 < length a → only_digits a ≡ true
all_there a h l =
    ap (λ (x : List ℕ). ltb 0 (length x) && eqb (length x) (length a)) h
    ∙ ap (λ (t : Bool). t && eqb (length a) (length a)) (lt-ltb 0 (length a) l)
    ∙ eq-eqb (length a) (length a) refl

-- the digits at the front are digits, and with what stands behind them they are the whole
by_first : (P : List ℕ → Type 0) (b : ℕ) (l : List ℕ) → (is_digit b ≡ true → P (b ∷ digits_in l)) → (is_digit b ≡ false → P []) → P (digits_in (b ∷ l))
by_first P b l yes-one no_one = by (is_digit b) refl
  where
    by : (t : Bool) → is_digit b ≡ t → P (digits_in (b ∷ l))
    by true e = subst P (sym (digit_first b l e)) (yes-one e)
    by false e = subst P (sym (none_first b l e)) (no_one e)

pub digits_again : (l : List ℕ) → AllDigits (digits_in l)
unfolding digits_in
digits_again [] = refl
digits_again (b ∷ l) =
    by_first AllDigits b l (λ e. digit_first b (digits_in l) e ∙ ap (λ (x : List ℕ). b ∷ x) (digits_again l)) (λ e. refl)

pub front_and_rest : (l : List ℕ) → digits_in l ++ behind_digits l ≡ l
unfolding digits_in
front_and_rest [] = refl
front_and_rest (b ∷ l) =
    by_first (λ (a : List ℕ). a ++ drop (length a) (b ∷ l) ≡ b ∷ l) b l (λ e. ap (λ (x : List ℕ). b ∷ x) (front_and_rest l)) (λ e. refl)

pub only_all : (l : List ℕ) → only_digits l ≡ true → AllDigits l × (0 < length l)
only_all l e =
    let h = both_true (ltb 0 (length (digits_in l))) (eqb (length (digits_in l)) (length l)) e in
    let some = ltb-true 0 (length (digits_in l)) h.0 in
    let n : length (digits_in l) ≡ length l = eqb-true (length (digits_in l)) (length l) h.1 in
    let none : behind_digits l ≡ [] = drop_of_length-le l {i = length (digits_in l)} (omega arith) in
    (sym (append-nil (digits_in l)) ∙ ap (λ (x : List ℕ). digits_in l ++ x) (sym none) ∙ front_and_rest l, omega arith)

-- the digits at the front, as a chain takes them
pub digits-taken : (l : List ℕ) → take (prefix_len is_digit l) l ≡ digits_in l
unfolding digits_in
digits-taken [] = refl
digits-taken (b ∷ l) = by (is_digit b) (digits-taken l)
  where
    by : (q : Bool) → take (prefix_len is_digit l) l ≡ digits_in l → take (cond q (1 + prefix_len is_digit l) 0) (b ∷ l) ≡ cond q (b ∷ digits_in l) []
    by true e = rw (one-add (prefix_len is_digit l)) (ap (λ (x : List ℕ). b ∷ x) e)
    by false e = refl

pub digits_few : (l : List ℕ) → length (digits_in l) ≤ length l
unfolding digits_in
digits_few [] = omega arith
digits_few (b ∷ l) = by (is_digit b) (digits_few l)
  where
    by : (q : Bool) → length (digits_in l) ≤ length l → length (cond q (b ∷ digits_in l) []) ≤ suc (length l)
    by true h = omega arith
    by false h = omega arith
