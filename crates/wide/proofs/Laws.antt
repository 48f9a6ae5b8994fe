-- Laws of numbers in two words. Assumes nothing.
use Rattle.std.proofs.Common.{◌≡◌, ℕ, zero, suc, ◌+◌, ◌-◌, ◌*◌, ◌/◌, ◌%◌, ◌^◌, ◌<◌, ◌≤◌, eqb, ltb, sym, refl, ap, ◌∙◌, mod-lt, mul_comm, div-lt_iff_lt-mul, mul-pos, div-add-mod', arith, lit<, lit≤, le-ltb, lt-ltb, eq-eqb, ne_eqb}
use native.Mathlib.Decide.{dec_lt}
use native.Mathlib.Nat.{div-div-eq-div-mul, le-pred_of_lt}
use native.Mathlib.Numerals.{bound}
use lib.Arith.{digits_div, digits_mod, mod-mul}
use Rattle.wide.specs.Numbers.{value, words_of, Is}
use Rattle.wide.specs.declared.Wide.{Wide}

-- the words of a number are that number
pub value_words : (n : ℕ) → Is (words_of n) n
unfolding value words_of
value_words n = record { number = omega arith; word = omega arith }

-- and no other pair of words is
pub words : {w : Wide} {n : ℕ} → Is w n → w ≡ words_of n
unfolding value words_of
words {w} {n} h =
    let p : w.lo ≡ n % 2 ^ 64 = omega arith in
    let q : w.hi ≡ n / 2 ^ 64 = omega arith in
    λ i. record { lo = p i; hi = q i }

pub is_itself : {w : Wide} → w.lo < 2 ^ 64 → Is w (value w)
is_itself h = record { number = refl; word = h }

-- what is a number is its equal
pub is_as : {w : Wide} {m n : ℕ} → Is w m → m ≡ n → Is w n
is_as h e = record { number = h.number ∙ e; word = h.word }

-- nothing in the upper word, or something
pub value_low : (a : Wide) → a.hi ≡ 0 → value a ≡ a.lo
unfolding value
value_low a h = omega arith

pub value-high : (a : Wide) → (a.hi ≡ 0 → ⊥) → 2 ^ 64 ≤ value a
unfolding value
value-high a h = omega arith

-- the upper words of what has room
pub high_sum : (a b : Wide) → value a + value b < 2 ^ 120 → a.hi + b.hi < 2 ^ 56
unfolding value
high_sum a b h = omega arith

pub high_product : (a : Wide) (k : ℕ) → value a * k < 2 ^ 120 → a.hi * k < 2 ^ 56
unfolding value
high_product a k h = omega arith

-- the upper words of a difference, and the difference, without a borrow and with one
pub high_le : (a b : Wide) → a.lo < 2 ^ 64 → value b ≤ value a → b.hi ≤ a.hi
unfolding value
high_le a b f h = omega arith

pub sub-plain : (a b : Wide) → a.lo < 2 ^ 64 → b.lo ≤ a.lo → value b ≤ value a
    → Is (record { lo = a.lo - b.lo; hi = a.hi - b.hi }) (value a - value b)
unfolding value
sub-plain a b f t h = record { number = omega arith; word = omega arith }

pub high_lt : (a b : Wide) → a.lo < b.lo → value b ≤ value a → b.hi < a.hi
unfolding value
high_lt a b t h = omega arith

pub sub_borrow : (a b : Wide) → b.lo < 2 ^ 64 → a.lo < b.lo → value b ≤ value a
    → Is (record { lo = 2 ^ 64 - 1 - b.lo + a.lo + 1; hi = a.hi - b.hi - 1 }) (value a - value b)
unfolding value
sub_borrow a b f t h = record { number = omega arith; word = omega arith }

-- two tests that agree
same_test : (a b c d : ℕ) → (a < b → c < d) → (b ≤ a → d ≤ c) → ltb a b ≡ ltb c d
same_test a b c d f g = by (dec_lt a b)
  where
    by : Dec (a < b) → ltb a b ≡ ltb c d
    by (yes h) = lt-ltb a b h ∙ sym (lt-ltb c d (f h))
    by (no h) = le-ltb a b (omega arith) ∙ sym (le-ltb c d (g (omega arith)))

-- order goes by the upper words, and where they are equal by the lower
pub order-low : (a b : Wide) → a.hi ≡ b.hi → ltb a.lo b.lo ≡ ltb (value a) (value b)
unfolding value
order-low a b e = same_test a.lo b.lo (value a) (value b) (λ h. omega arith) (λ h. omega arith)

pub order-high : (a b : Wide) → a.lo < 2 ^ 64 → b.lo < 2 ^ 64 → (a.hi ≡ b.hi → ⊥) → ltb a.hi b.hi ≡ ltb (value a) (value b)
unfolding value
order-high a b fa fb n = same_test a.hi b.hi (value a) (value b) (λ h. omega arith) (λ h. omega arith)

-- zero is what is below one
pub below_one : (n : ℕ) → ltb n 1 ≡ eqb n 0
below_one n = by (dec_lt n 1)
  where
    by : Dec (n < 1) → ltb n 1 ≡ eqb n 0
    by (yes h) = lt-ltb n 1 h ∙ sym (eq-eqb n 0 (omega arith))
    by (no h) = le-ltb n 1 (omega arith) ∙ sym (ne_eqb n 0 (omega arith))

-- a product of two digits of 32 bits leaves a word room for a carry
pub digits_product : (m k : ℕ) → m < 2 ^ 32 → k < 2 ^ 32 → m * k ≤ 2 ^ 64 - 2 ^ 33 + 1
digits_product m k hm hk = grw (bound, le-pred_of_lt hm, le-pred_of_lt hk) (lit≤ tt)

pub halves_times : (n k : ℕ) → n < 2 ^ 64 → k < 2 ^ 32 → (n % 2 ^ 32 * k ≤ 2 ^ 64 - 2 ^ 33 + 1) × (n / 2 ^ 32 * k ≤ 2 ^ 64 - 2 ^ 33 + 1)
halves_times n k hn hk = (digits_product _ k (omega arith) hk, digits_product _ k (omega arith) hk)

-- the upper column of a product that has room
pub column_fits : (h q : ℕ) → h < 2 ^ 56 → q < 2 ^ 64 → h + q / 2 ^ 32 < 2 ^ 64
column_fits h q hh hq = omega arith

-- the columns p and q of a product by a digit
pub times-value : (a : Wide) (k p q : ℕ) → p ≡ a.lo % 2 ^ 32 * k → q ≡ a.lo / 2 ^ 32 * k + p / 2 ^ 32
    → Is (record { lo = q % 2 ^ 32 * 2 ^ 32 + p % 2 ^ 32; hi = a.hi * k + q / 2 ^ 32 }) (value a * k)
unfolding value
times-value a k p q ep eq = record { number = omega (arith, ap (λ (n : ℕ). n * k) (div-add-mod' a.lo (2 ^ 32))); word = omega arith }

-- a number that is q times d and r below d has the quotient q and the rest r
pub divided : (x d q r : ℕ) → r < d → q * d + r ≡ x → (q ≡ x / d) × (r ≡ x % d)
divided x d q r h e = (sym (digits_div q h) ∙ ap (λ (n : ℕ). n / d) e, sym (digits_mod q h) ∙ ap (λ (n : ℕ). n % d) e)

-- a step of long division by d, from n to a digit m of 32 bits: it fits a word, and its quotient is a digit
abbrev pub Step : ℕ → ℕ → ℕ → Type 0
Step n m d = (n % d * 2 ^ 32 + m < 2 ^ 64) × ((n % d * 2 ^ 32 + m) / d < 2 ^ 32)

pub step : (n m d : ℕ) → 0 < d → d < 2 ^ 32 → m < 2 ^ 32 → Step n m d
step n m d hd h hm = (
  omega (arith, mod-lt n hd),
  (div-lt_iff_lt-mul {k = d} {x = n % d * 2 ^ 32 + m} {y = 2 ^ 32} hd).1 (omega (arith, mod-lt n hd)),
)

-- the steps f and s of long division
pub divide_value : (x : Wide) (d f s : ℕ) → 0 < d → f ≡ x.hi % d * 2 ^ 32 + x.lo / 2 ^ 32 → s ≡ f % d * 2 ^ 32 + x.lo % 2 ^ 32
    → f / d * 2 ^ 32 + s / d < 2 ^ 64 → (Is (record { lo = f / d * 2 ^ 32 + s / d; hi = x.hi / d }) (value x / d)) × (s % d ≡ value x % d)
unfolding value
divide_value x d f s hd ef es h =
    let e = divided (x.lo + 2 ^ 64 * x.hi) d (f / d * 2 ^ 32 + s / d + 2 ^ 64 * (x.hi / d)) (s % d) (mod-lt s hd) (omega (arith, div-add-mod' f d, div-add-mod' s d, div-add-mod' x.hi d)) in
    (record { number = e.0; word = h }, e.1)

-- division by a product: by the one factor, and then by the other
rest_twice : (x a b : ℕ) → 0 < a → 0 < b → x / a % b * a + x % a ≡ x % (a * b)
rest_twice x a b ha hb = sym (mod-mul x hb ha) ∙ ap (λ (n : ℕ). x % n) (mul_comm b a)

pub quotient_thrice : (x a b c : ℕ) → x / a / b / c ≡ x / (a * b * c)
quotient_thrice x a b c = rw (div-div-eq-div-mul x a b, div-div-eq-div-mul x (a * b) c)

pub rest_thrice : (x a b c : ℕ) → 0 < a → 0 < b → 0 < c → (x / a / b % c * b + x / a % b) * a + x % a ≡ x % (a * b * c)
rest_thrice x a b c ha hb hc =
    omega (arith, rest_twice x (a * b) c (mul-pos ha hb) hc, rest_twice x a b ha hb, ap (λ (n : ℕ). n % c * (a * b)) (div-div-eq-div-mul x a b))

-- a product above zero has no factor that is zero
pub factors : (a b c : ℕ) → 0 < a * b * c → (0 < a) × (0 < b) × (0 < c)
factors zero b c h = omega arith
factors (suc a) zero c h = omega arith
factors (suc a) (suc b) zero h = omega arith
factors (suc a) (suc b) (suc c) h = omega arith

-- and factors of 32 bits have a product of 96
pub product_small : (a b c : ℕ) → a < 2 ^ 32 → b < 2 ^ 32 → c < 2 ^ 32 → a * b * c < 2 ^ 96
product_small a b c ha hb hc = grw (bound, le-pred_of_lt ha, le-pred_of_lt hb, le-pred_of_lt hc) (lit< tt)
