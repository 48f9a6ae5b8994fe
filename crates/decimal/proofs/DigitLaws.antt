-- Laws of decimal text and of text that is written to room. Assumes nothing.
use mathlib.Core.Path.{◌≡◌, refl, sym, ap, ◌∙◌}
use mathlib.Core.Bool.{Bool, true, false}
use mathlib.Core.List.{List, [], ◌∷◌, ◌++◌, append-nil, append_assoc}
use Prim.Native.Nat.{ℕ, zero, suc, ◌+◌, ◌*◌, ◌/◌, ◌%◌, ◌^◌, ◌<◌, ◌≤◌}
use native.Mathlib.Omega.{arith}
use native.Mathlib.Decide.{ℕ_discrete}
use native.Mathlib.Nat.{add-zero, add-suc, suc-add, div-add-mod', mod-lt, mul-pos}
use native.Mathlib.Numerals.{add-one}
use lib.ListN.{length, set, length-append}
use lib.Seq.{sets}
use borrow.Author.Tests.{eq-eqb, ne_eqb}
use Rattle.wide.specs.Numbers.{value}
use Rattle.wide.specs.Signs.{sized, amount, Canonical}
use Rattle.decimal.specs.Digits.{digit_of, digits, decimal, padded, sign_text, marked, WrittenAt}
use Rattle.wide.specs.declared.signed.Signed.{Signed}

-- text after text, and the room after one store
pub sets_append : (d : List ℕ) (i : ℕ) (s t : List ℕ) → sets d i (s ++ t) ≡ sets (sets d i s) (i + length s) t
sets_append d i [] t = rw add-zero
sets_append d i (a ∷ s) t = rw (add-suc i (length s), ← suc-add i (length s)) (sets_append (set d i a) (suc i) s t)

pub written_one : (room : List ℕ) (at v : ℕ) → WrittenAt (v ∷ []) room (set room at v) at (at + 1)
written_one room at v = record { room = refl; place = refl }

pub written-more : {s t d e f : List ℕ} {i j k : ℕ} → WrittenAt s d e i j → WrittenAt t e f j k → WrittenAt (s ++ t) d f i k
written-more {s} {t} {d} {e} {f} {i} {j} {k} p q = record {
  room = cc (p.room, p.place, q.room, sets_append d i s t);
  place = omega (arith, p.place, q.place, length-append s t);
}

-- where nothing is left there are no digits
digits_none : (k n : ℕ) → digits k true n ≡ []
unfolding digits
digits_none zero n = refl
digits_none (suc k) n = refl

-- steps beyond n change nothing
enough : (k m : ℕ) (b : Bool) (n : ℕ) → n < k → n < m → digits k b n ≡ digits m b n
unfolding digits
enough zero m b n h g = let z : ⊥ = omega arith in elim z [ ]
enough (suc k) zero b n h g = let z : ⊥ = omega arith in elim z [ ]
enough (suc k) (suc m) true n h g = refl
enough (suc k) (suc m) false zero h g = rw (digits_none k 0, digits_none m 0)
enough (suc k) (suc m) false (suc n) h g = rw (enough k m _ (suc n / 10) (omega arith) (omega arith))

-- n's digits are its last, after those of n / 10 where that is not zero
pub decimal-last : (n q : ℕ) → q ≡ n / 10 → q ≡ 0 → decimal n ≡ digit_of n ∷ []
unfolding digits
decimal-last n q e z = rw (eq-eqb (n / 10) 0 (sym e ∙ z), digits_none n (n / 10))

pub decimal-more : (n q : ℕ) → q ≡ n / 10 → (q ≡ 0 → ⊥) → decimal n ≡ decimal q ++ digit_of n ∷ []
unfolding digits
decimal-more n q e z = rw (e, ne_eqb (n / 10) 0 (omega (arith, z)), enough n (suc (n / 10)) false (n / 10) (omega (arith, z)) (omega arith))

-- one digit off n, which is r after q
record Shorter (k q r n : ℕ) : Type 0 where
  rest : r / 10 < 10 ^ k
  less : n / 10 ≡ q * 10 ^ k + r / 10
  last : n % 10 ≡ r % 10

shorter : (k q r n : ℕ) → r < 10 ^ suc k → n ≡ q * 10 ^ suc k + r → Shorter k q r n
shorter k q r n f e =
    let t : 10 ^ suc k ≡ 10 * 10 ^ k = omega arith in
    let p = ap (λ (m : ℕ). q * m) t in
    record { rest = omega arith; less = omega arith; last = omega arith }

-- n's digits are those of q and then k digits of r, where n is r after q
pub decimal-split : (k q r n : ℕ) → 0 < q → r < 10 ^ k → n ≡ q * 10 ^ k + r → decimal n ≡ decimal q ++ padded k r
unfolding padded
decimal-split zero q r n h f e = let z : n ≡ q = omega arith in rw (z, append-nil)
decimal-split (suc k) q r n h f e =
    let s = shorter k q r n f e in
    let t : 0 < 10 ^ k = omega arith in
    decimal-more n (n / 10) refl (λ z. omega (arith, mul-pos h t))
    ∙ rw (decimal-split k q (r / 10) (n / 10) h s.rest s.less, append_assoc, s.last)

pub padded-split : (j k q r n : ℕ) → r < 10 ^ k → n ≡ q * 10 ^ k + r → padded (j + k) n ≡ padded j q ++ padded k r
unfolding padded
padded-split j zero q r n f e = let z : n ≡ q = omega arith in rw (z, add-zero, append-nil)
padded-split j (suc k) q r n f e =
    let s = shorter k q r n f e in
    rw (add-suc j k, padded-split j k q (r / 10) (n / 10) s.rest s.less, append_assoc, s.last)

pub padded-length : (k n : ℕ) → length (padded k n) ≡ k
unfolding padded
padded-length zero n = refl
padded-length (suc k) n = simp length-append (omega (arith, padded-length k (n / 10)))

-- a number below 10 ^ suc k has at most suc k digits
pub decimal-length : (k n : ℕ) → n < 10 ^ suc k → length (decimal n) ≤ suc k
decimal-length zero n h = rw (decimal-last n _ refl (omega arith)) (omega arith)
decimal-length (suc k) n h = by (ℕ_discrete (n / 10) 0) (λ g. decimal-length k (n / 10) g)
  where
    by : Dec (n / 10 ≡ 0) → (n / 10 < 10 ^ suc k → length (decimal (n / 10)) ≤ suc k) → length (decimal n) ≤ suc (suc k)
    by (yes e) rest = rw (decimal-last n _ refl e) (omega arith)
    by (no e) rest = rw (decimal-more n _ refl e, length-append) (omega (arith, rest (omega arith)))

-- the sign stands in front of the size
sized-text : (n : ℕ) → 0 < n → marked (sized true n) ≡ 45 ∷ decimal n
sized-text zero h = let z : ⊥ = omega arith in elim z [ ]
sized-text (suc n) h = refl

pub marked-sign : (s : Signed) → Canonical s → marked (amount s) ≡ sign_text s.below ++ decimal (value s.size)
marked-sign s f = by s.below refl
  where
    by : (t : Bool) → s.below ≡ t → marked (amount s) ≡ sign_text s.below ++ decimal (value s.size)
    by true e = rw e (sized-text (value s.size) (f e))
    by false e = rw e

pub marked-length : (s : Signed) → Canonical s → length (marked (amount s)) ≡ length (sign_text s.below) + length (decimal (value s.size))
marked-length s f = ap length (marked-sign s f) ∙ length-append (sign_text s.below) (decimal (value s.size))

-- how many digits a small number has
pub digit_length : (n : ℕ) → n < 10 → length (decimal n) ≡ 1
digit_length n h = ap length (decimal-last n _ refl (omega arith))

-- a number of two digits has no zero in front
pub decimal_pair : (n : ℕ) → 10 ≤ n → n < 100 → decimal n ≡ padded 2 n
unfolding padded
decimal_pair n h g = decimal-more n (n / 10) refl (λ z. omega arith) ∙ rw (decimal-last (n / 10) (n / 10 / 10) refl (omega arith))

pub pair_length : (n : ℕ) → 10 ≤ n → n < 100 → length (decimal n) ≡ 2
pair_length n h g = ap length (decimal_pair n h g) ∙ padded-length 2 n

-- in the room: a digit, two digits, and a group after what stands above it
pub put_digit : (n d : ℕ) (room : List ℕ) (at : ℕ) → n < 10 → d ≡ 48 + n → WrittenAt (decimal n) room (set room at d) at (at + 1)
put_digit n d room at h e =
    let f : 48 + n % 10 ≡ d = omega arith in
    rw (decimal-last n _ refl (omega arith), f) (written_one room at d)

pub put_pair : (n a b : ℕ) (room : List ℕ) (at : ℕ) → n < 100 → a ≡ 48 + n / 10 → b ≡ 48 + n % 10
    → WrittenAt (padded 2 n) room (set (set room at a) (at + 1) b) at (at + 2)
unfolding padded
put_pair n a b room at h e f =
    let g : 48 + n / 10 % 10 ≡ a = omega arith in
    let i : 48 + n % 10 ≡ b = omega arith in
    rw (g, i) (record { room = rw add-one; place = refl })

ten_pos : (k : ℕ) → 0 < 10 ^ k
ten_pos zero = omega arith
ten_pos (suc k) = omega (arith, ten_pos k)

module _ (k n : ℕ) {q r : ℕ} (a : q ≡ n / 10 ^ k) (b : r ≡ n % 10 ^ k) where
  below : r < 10 ^ k
  below = omega (arith, mod-lt n (ten_pos k))

  whole : n ≡ q * 10 ^ k + r
  whole = omega (arith, div-add-mod' n (10 ^ k), ap (λ (x : ℕ). x * 10 ^ k) a)

  pub put_after : (j : ℕ) {before middle after : List ℕ} {at next last : ℕ}
      → WrittenAt (padded j q) before middle at next → WrittenAt (padded k r) middle after next last → WrittenAt (padded (j + k) n) before after at last
  put_after j v w = rw (padded-split j k q r n below whole) (written-more v w)

  pub write_after : {before middle after : List ℕ} {at next last : ℕ} → 0 < q
      → WrittenAt (decimal q) before middle at next → WrittenAt (padded k r) middle after next last → WrittenAt (decimal n) before after at last
  write_after h v w = rw (decimal-split k q r n h below whole) (written-more v w)

  pub length-after : 0 < q → length (decimal n) ≡ length (decimal q) + k
  length-after h = omega (arith, ap length (decimal-split k q r n h below whole), length-append (decimal q) (padded k r), padded-length k r)
