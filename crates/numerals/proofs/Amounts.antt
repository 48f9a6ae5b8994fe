-- What digits say. Assumes nothing.
--     worth                the number n with digits behind it: n times ten for each, and the number that they say
--     units-split          the units of a number with a mark: the digits before it by themselves, and those behind it by themselves
--     decimal-digits, decimal_some, value-decimal    the text of a number is digits, at least one, and says it
--     padded-digits, value-padded    its last digits, behind those of the rest, say the number again
use Prim.Native.Nat.{ℕ, zero, suc, ◌+◌, ◌-◌, ◌*◌, ◌/◌, ◌^◌, ◌<◌, ◌≤◌}
use mathlib.Core.Path.{◌≡◌, refl, sym, ap, ◌∙◌}
use mathlib.Core.Bool.{Bool, true, false, cond, ◌&&◌}
use mathlib.Core.List.{List, [], ◌∷◌, ◌++◌}
use native.Mathlib.Nat.{add-mul, mul_assoc, div-one, div-div-eq-div-mul, pow-succ'}
use lib.Pow.{pow-add}
use native.Mathlib.Omega.{arith}
use lib.ListN.{length, length-append}
use lib.Dec.{leb, eqb}
use borrow.Author.Tests.{le-leb, eqb-true, eqb-false}
use Rattle.decimal.specs.Digits.{digit_of, digits, decimal, padded}
use Rattle.numerals.specs.Numerals.{is_digit, digits_in, AllDigits, with_digits, value_of, units_of}
use Rattle.numerals.proofs.Shapes.{digits_on}
use Rattle.numerals.proofs.Fronts.{all_append}

-- ten times a number and a digit, times p
times_more : (n x p : ℕ) → (10 * n + x) * p ≡ n * (10 * p) + x * p
times_more n x p =
    let a = add-mul (10 * n) x p in
    let b = mul_assoc 10 n p in
    let d : n * (10 * p) ≡ 10 * (n * p) = omega arith in
    omega arith

pub worth : (n : ℕ) (l : List ℕ) → with_digits n l ≡ n * 10 ^ length l + value_of l
unfolding with_digits
worth n [] = omega arith
worth n (b ∷ l) =
    let x = b - 48 in
    let p = times_more n x (10 ^ length l) in
    let q = times_more 0 x (10 ^ length l) in
    let t : 10 ^ suc (length l) ≡ 10 * 10 ^ length l = pow-succ' 10 (length l) in
    let s = ap (λ (m : ℕ). n * m) t in
    omega (arith, worth (10 * n + x) l, worth (10 * 0 + x) l)

-- one digit behind others
pub digit_behind : (l : List ℕ) (n b : ℕ) → with_digits n (l ++ b ∷ []) ≡ 10 * with_digits n l + (b - 48)
unfolding with_digits
digit_behind l n b = digits_on n l (b ∷ [])

pub units-split : (d : ℕ) (a b : List ℕ) → length b ≤ d → units_of d a b ≡ value_of a * 10 ^ d + value_of b * 10 ^ (d - length b)
units-split d a b h =
    let p = 10 ^ (d - length b) in
    let e : value_of (a ++ b) ≡ value_of a * 10 ^ length b + value_of b = digits_on 0 a b ∙ worth (value_of a) b in
    let k : length b + (d - length b) ≡ d = omega arith in
    let t : 10 ^ length b * p ≡ 10 ^ d = sym (pow-add 10 (length b) (d - length b)) ∙ ap (λ (i : ℕ). 10 ^ i) k in
    ap (λ (n : ℕ). n * p) e
    ∙ add-mul (value_of a * 10 ^ length b) (value_of b) p
    ∙ ap (λ (n : ℕ). n + value_of b * p) (mul_assoc (value_of a) (10 ^ length b) p ∙ ap (λ (n : ℕ). value_of a * n) t)

-- the digits of a printed number
digit_is : (n : ℕ) → is_digit (digit_of n) ≡ true
unfolding is_digit
digit_is n =
    ap (λ (t : Bool). t && leb (digit_of n) 57) (le-leb 48 (digit_of n) (omega arith))
    ∙ le-leb (digit_of n) 57 (omega arith)

-- with a last digit they are digits still
last_on : (n : ℕ) (l : List ℕ) → AllDigits l → AllDigits (l ++ digit_of n ∷ [])
unfolding digits_in
last_on n l h =
    all_append l (digit_of n ∷ []) h
    ∙ ap (λ (t : Bool). l ++ cond t (digit_of n ∷ []) []) (digit_is n)

digits_are : (k : ℕ) (none : Bool) (n : ℕ) → AllDigits (digits k none n)
unfolding digits digits_in
digits_are zero none n = refl
digits_are (suc k) true n = refl
digits_are (suc k) false n = last_on n _ (digits_are k (eqb (n / 10) 0) (n / 10))

pub decimal-digits : (n : ℕ) → AllDigits (decimal n)
decimal-digits n = digits_are (suc n) false n

pub padded-digits : (k n : ℕ) → AllDigits (padded k n)
unfolding padded digits_in
padded-digits zero n = refl
padded-digits (suc k) n = last_on n _ (padded-digits k (n / 10))

pub decimal_some : (n : ℕ) → 0 < length (decimal n)
unfolding digits
decimal_some n = simp length-append (omega arith)

-- and what they say
value_none : (k n : ℕ) → value_of (digits k true n) ≡ 0
unfolding digits with_digits
value_none zero n = refl
value_none (suc k) n = refl

value-digits : (k n : ℕ) → n < k → value_of (digits k false n) ≡ n
unfolding digits
value-digits zero n h = absurd (omega arith)
value-digits (suc k) n h = by (eqb (n / 10) 0) refl (λ g. value-digits k (n / 10) g)
  where
    by : (t : Bool) → eqb (n / 10) 0 ≡ t → (n / 10 < k → value_of (digits k false (n / 10)) ≡ n / 10)
        → value_of (digits k (eqb (n / 10) 0) (n / 10) ++ digit_of n ∷ []) ≡ n
    by true e more =
        ap (λ (t : Bool). value_of (digits k t (n / 10) ++ digit_of n ∷ [])) e
        ∙ digit_behind (digits k true (n / 10)) 0 (digit_of n)
        ∙ omega (arith, value_none k (n / 10), eqb-true (n / 10) 0 e)
    by false e more =
        let z = eqb-false (n / 10) 0 e in
        ap (λ (t : Bool). value_of (digits k t (n / 10) ++ digit_of n ∷ [])) e
        ∙ digit_behind (digits k false (n / 10)) 0 (digit_of n)
        ∙ omega (arith, more (omega (arith, z)))

pub value-decimal : (n : ℕ) → value_of (decimal n) ≡ n
value-decimal n = value-digits (suc n) n (omega arith)

pub value-padded : (k n : ℕ) → with_digits (n / 10 ^ k) (padded k n) ≡ n
unfolding padded with_digits
value-padded zero n = div-one n
value-padded (suc k) n =
    let e : n / 10 ^ suc k ≡ n / 10 / 10 ^ k = ap (λ (p : ℕ). n / p) (pow-succ' 10 k) ∙ sym (div-div-eq-div-mul n 10 (10 ^ k)) in
    let f : with_digits (n / 10 ^ suc k) (padded k (n / 10)) ≡ n / 10 = ap (λ (q : ℕ). with_digits q (padded k (n / 10))) e ∙ value-padded k (n / 10) in
    digit_behind (padded k (n / 10)) (n / 10 ^ suc k) (digit_of n) ∙ omega (arith, f)
