-- Fields as they are printed, and how long they are. Assumes nothing.
--     nothing               a text of no bytes is written where it is
--     last_none, last_more  the last digits of a number, one by one
--     no_decimals, some_decimals    what stands behind the whole part
--     number_short          a number of 32 bits has at most ten digits
--     whole-fits, as_printed        the two parts of a number, as the code has them; printed-short, together
--     unit-trees, unit-land         the unit's word
--     field-unit, field-number      a field
use Prim.Native.Nat.{ℕ, zero, suc, ◌+◌, ◌-◌, ◌/◌, ◌^◌, ◌<◌, ◌≤◌}
use mathlib.Core.Path.{◌≡◌, refl, sym, ap, ◌∙◌}
use mathlib.Core.Bool.{Bool, true, false, cond}
use mathlib.Core.List.{List, [], ◌∷◌, ◌++◌}
use native.Mathlib.Nat.{add-zero, one-le-pow}
use native.Mathlib.Omega.{arith}
use lib.ListN.{length, get_or, length-append}
use borrow.Author.Tests.{eq-eqb, ne_eqb}
use lib.Dec.{eqb}
use Rattle.form.specs.Records.{unit_code}
use Rattle.decimal.specs.Digits.{digit_of, decimal, padded, WrittenAt}
use Rattle.decimal.proofs.DigitLaws.{padded-length, decimal-length}
use Rattle.phrases.specs.Ascii.{codes}
use Rattle.numerals.specs.Written.{pointed, printed}
use Rattle.columns.specs.Columns.{decimals_of, is_unit}
use Rattle.unpacked.specs.Unpacked.{unit_word, field_text}

pub nothing : (d : List ℕ) (at : ℕ) → WrittenAt [] d d at at
nothing d at = record { room = refl; place = sym (add-zero at) }

pub last_none : (d n : ℕ) → d ≡ 0 → padded d n ≡ []
unfolding padded
last_none d n e = ap (λ (k : ℕ). padded k n) e

pub last_more : (d n : ℕ) → (d ≡ 0 → ⊥) → padded d n ≡ padded (d - 1) (n / 10) ++ digit_of n ∷ []
unfolding padded
last_more zero n h = absurd (h refl)
last_more (suc d) n h = let e : suc d - 1 ≡ d = omega arith in ap (λ (k : ℕ). padded k (n / 10) ++ digit_of n ∷ []) (sym e)

pub no_decimals : (d n : ℕ) → d ≡ 0 → pointed d n ≡ []
unfolding pointed
no_decimals d n e = ap (λ (k : ℕ). pointed k n) e

pub some_decimals : (d n : ℕ) → (d ≡ 0 → ⊥) → pointed d n ≡ 46 ∷ padded d n
unfolding pointed
some_decimals zero n h = absurd (h refl)
some_decimals (suc d) n h = refl

pub some_length : (d n : ℕ) → (d ≡ 0 → ⊥) → length (pointed d n) ≡ 1 + d
some_length d n h = ap length (some_decimals d n h) ∙ omega (arith, padded-length d n)

pointed-short : (d n : ℕ) → length (pointed d n) ≤ 1 + d
unfolding pointed
pointed-short zero n = omega arith
pointed-short (suc d) n = omega (arith, padded-length (suc d) n)

-- what a `match` on the decimals leaves for its last
pub four : (d : ℕ) → d ≤ 4 → (d ≡ 0 → ⊥) → (d ≡ 1 → ⊥) → (d ≡ 2 → ⊥) → (d ≡ 3 → ⊥) → d ≡ 4
four zero h a b c e = absurd (a refl)
four (suc zero) h a b c e = absurd (b refl)
four (suc (suc zero)) h a b c e = absurd (c refl)
four (suc (suc (suc zero))) h a b c e = absurd (e refl)
four (suc (suc (suc (suc zero)))) h a b c e = refl
four (suc (suc (suc (suc (suc d))))) h a b c e = absurd (omega arith)

-- a power of ten is no zero
pub power_some : (d p : ℕ) → p ≡ 10 ^ d → 0 < p
power_some d p e = omega (arith, e, one-le-pow d 10 (omega arith))

pub number_short : (v n : ℕ) → v ≡ n → n < 4294967296 → length (decimal v) ≤ 10
number_short v n e l = decimal-length 9 v (omega arith)

whole-short : (d n : ℕ) → d ≤ 4 → n < 4294967296 → length (decimal (n / 10 ^ d)) ≤ 10 - d
whole-short zero n h l = decimal-length 9 (n / 1) (omega arith)
whole-short (suc zero) n h l = decimal-length 8 (n / 10) (omega arith)
whole-short (suc (suc zero)) n h l = decimal-length 7 (n / 100) (omega arith)
whole-short (suc (suc (suc zero))) n h l = decimal-length 6 (n / 1000) (omega arith)
whole-short (suc (suc (suc (suc zero)))) n h l = decimal-length 5 (n / 10000) (omega arith)
whole-short (suc (suc (suc (suc (suc d))))) n h l = absurd (omega arith)

pub printed-short : (d n : ℕ) → d ≤ 4 → n < 4294967296 → length (printed d n) ≤ 11
printed-short d n h l = omega (arith, length-append (decimal (n / 10 ^ d)) (pointed d n), whole-short d n h l, pointed-short d n)

-- the whole part v, by the power p
module _ (d n p v : ℕ) (e : p ≡ 10 ^ d) (f : v ≡ n / p) where
  whole_is : v ≡ n / 10 ^ d
  whole_is = f ∙ ap (λ (q : ℕ). n / q) e

  pub whole-fits : d ≤ 4 → n < 4294967296 → length (decimal v) + length (pointed d n) ≤ 11
  whole-fits h l =
      omega (arith, ap (λ (k : ℕ). length (decimal k)) whole_is, whole-short d n h l, pointed-short d n)

  pub as_printed : decimal v ++ pointed d n ≡ printed d n
  as_printed = ap (λ (k : ℕ). decimal k ++ pointed d n) whole_is

pub unit-trees : (code : ℕ) → code ≡ 1 → codes "trees" ≡ unit_word code
unfolding unit_word
unit-trees code e = sym (ap (λ (t : Bool). cond t (codes "trees") (codes "land")) (eq-eqb code 1 e))

pub unit-land : (code : ℕ) → (code ≡ 1 → ⊥) → codes "land" ≡ unit_word code
unfolding unit_word
unit-land code e = sym (ap (λ (t : Bool). cond t (codes "trees") (codes "land")) (ne_eqb code 1 e))

-- whether a field is the unit
pub other_kind : (kind i : ℕ) → (kind ≡ 2 → ⊥) → false ≡ is_unit kind i
unfolding is_unit
other_kind kind i h = rw (ne_eqb kind 2 h)

pub stock-kind : (kind i : ℕ) → kind ≡ 2 → eqb i 1 ≡ is_unit kind i
unfolding is_unit
stock-kind kind i h = rw (eq-eqb kind 2 h)

module _ (kind : ℕ) (r : List ℕ) (i : ℕ) where
  pub field-unit : is_unit kind i ≡ true → unit_word (get_or r i 0) ≡ field_text kind r i
  unfolding field_text
  field-unit e = rw e

  pub field-number : is_unit kind i ≡ false → printed (decimals_of kind (unit_code r) i) (get_or r i 0) ≡ field_text kind r i
  unfolding field_text
  field-number e = rw e
