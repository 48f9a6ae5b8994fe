-- One number stands for all that are too large: a sum that goes on from it is too large as well. Assumes nothing.
--     capped-digits        digits behind a capped number
--     capped-times         a capped number times ten, some times; filled: one turn of a loop that does so
--     large_capped         what is said of a capped number is said of the number
--     digit_added, all_added    a loop that adds digits: one more, and no more
use Prim.Native.Nat.{ℕ, ◌+◌, ◌-◌, ◌*◌, ◌^◌, ◌<◌, ◌≤◌}
use mathlib.Core.Path.{◌≡◌, sym, ap, ◌∙◌}
use mathlib.Core.Bool.{Bool, cond}
use mathlib.Core.List.{List, [], ◌∷◌}
use native.Mathlib.Decide.{dec_lt}
use native.Mathlib.Nat.{mul-le-mul_right}
use native.Mathlib.Numerals.{add-one}
use native.Mathlib.Omega.{arith}
use borrow.Author.Tests.{lt-ltb, le-ltb}
use Rattle.std.specs.Prelude.{Ok, Err}
use Rattle.numerals.specs.Numerals.{with_digits, unless_large, capped}
use Rattle.numerals.specs.declared.NumberFault.TheVariants.{Large}

same_digits : (l : List ℕ) (m n : ℕ) → capped m ≡ capped n → capped (with_digits m l) ≡ capped (with_digits n l)
unfolding with_digits
same_digits [] m n e = e
same_digits (b ∷ l) m n e = same_digits l (10 * m + (b - 48)) (10 * n + (b - 48)) (more (b - 48))
  where
    more : (x : ℕ) → capped (10 * m + x) ≡ capped (10 * n + x)
    more x = omega (arith, e)

pub capped-digits : (l : List ℕ) (n : ℕ) → capped (with_digits (capped n) l) ≡ capped (with_digits n l)
capped-digits l n = same_digits l (capped n) n (omega arith)

-- a loop that adds digits to n: a digit more, and none
pub digit_added : {s l : List ℕ} {b x r : ℕ} (n : ℕ) → s ≡ b ∷ l → x ≡ b - 48 → r ≡ capped (10 * n + x) → capped (with_digits r l) ≡ capped (with_digits n s)
unfolding with_digits
digit_added {s} {l} {b} {x} {r} n o e f =
    ap (λ (m : ℕ). capped (with_digits m l)) f
    ∙ capped-digits l (10 * n + x)
    ∙ ap (λ (y : ℕ). capped (with_digits (10 * n + y) l)) e
    ∙ ap (λ (t : List ℕ). capped (with_digits n t)) (sym o)

pub all_added : {s : List ℕ} {n t : ℕ} → s ≡ [] → n ≤ 4294967296 → capped (with_digits n s) ≡ t → n ≡ t
unfolding with_digits
all_added {s} {n} {t} o h e = omega (arith, e, ap (λ (l : List ℕ). capped (with_digits n l)) o)

pub filled : (n k v r : ℕ) → v ≡ capped (n * 10 ^ k) → r ≡ capped (v * 10) → r ≡ capped (n * 10 ^ (k + 1))
filled n k v r e f =
    let t : 10 ^ (k + 1) ≡ 10 * 10 ^ k = ap (λ (i : ℕ). 10 ^ i) (add-one k) ∙ (omega arith) in
    let p = ap (λ (m : ℕ). n * m) t in
    omega arith

pub capped-times : (n p : ℕ) → 1 ≤ p → capped (capped n * p) ≡ capped (n * p)
capped-times n p h = by (dec_lt n 4294967296)
  where
    by : Dec (n < 4294967296) → capped (capped n * p) ≡ capped (n * p)
    by (yes l) =
        let e : capped n ≡ n = omega arith in
        ap (λ (m : ℕ). capped (m * p)) e
    by (no l) =
        let e : capped n ≡ 4294967296 = omega arith in
        let g : 4294967296 * p ≤ n * p = mul-le-mul_right p (omega arith) in
        let f : capped n * p ≡ 4294967296 * p = ap (λ (m : ℕ). m * p) e in
        omega arith

pub is_large : (n : ℕ) → 4294967295 < n → Err Large ≡ unless_large n
unfolding unless_large
is_large n h = ap (λ (t : Bool). cond t (Err Large) (Ok n)) (sym (lt-ltb 4294967295 n h))

pub is_units : (n : ℕ) → n ≤ 4294967295 → Ok n ≡ unless_large n
unfolding unless_large
is_units n h = ap (λ (t : Bool). cond t (Err Large) (Ok n)) (sym (le-ltb 4294967295 n h))

pub large_capped : (n : ℕ) → unless_large (capped n) ≡ unless_large n
large_capped n = by (dec_lt n 4294967296)
  where
    by : Dec (n < 4294967296) → unless_large (capped n) ≡ unless_large n
    by (yes l) =
        let e : capped n ≡ n = omega arith in
        ap unless_large e
    by (no l) = sym (is_large (capped n) (omega arith)) ∙ is_large n (omega arith)
