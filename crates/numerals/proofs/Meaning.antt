-- What the reader of numbers promises. Assumes nothing.
--     whole_parts, marked-parts    digits alone, and with a mark: the parts that are read
--     says-whole           digits alone: their number in units; says-marked: with a mark, what stands before it and what stands behind it
--     says_too_many        more digits behind the mark than decimals; says_large, says-marked_large: above 4,294,967,295
--     nothing_else         whatever is read as a number is a `Number`: digits, or digits, a mark and digits
--     zeros_in_front       zeros in front of a digit change nothing
--     reads_back           a printed number is read as the number
use Prim.Native.Nat.{ℕ, zero, suc, ◌+◌, ◌-◌, ◌*◌, ◌/◌, ◌^◌, ◌<◌, ◌≤◌}
use mathlib.Core.Path.{◌≡◌, refl, sym, ap, subst, ◌∙◌}
use mathlib.Core.Bool.{Bool, true, false, cond, ◌&&◌}
use mathlib.Core.List.{List, [], ◌∷◌, ◌++◌, append-nil}
use native.Mathlib.Nat.{mul-one, suc-add, sub-zero}
use native.Mathlib.Omega.{arith}
use lib.ListN.{length, drop, get_or, replicate, length-append, drop_of_length-le}
use lib.Seq.{drop-append-add, get_or-append_seam}
use lib.Dec.{ltb}
use borrow.Author.Tests.{lt-ltb, ltb-true}
use Rattle.std.specs.Prelude.{Result, Ok, Err}
use Rattle.decimal.specs.Digits.{decimal, padded}
use Rattle.decimal.proofs.DigitLaws.{padded-length}
use Rattle.numerals.specs.Numerals.{is_mark, digits_in, AllDigits, with_digits, value_of, behind_digits, only_digits, well_ended, is_number, behind_mark}
use Rattle.numerals.specs.Numerals.{unless_large, units_of, read_parts, read_number}
use Rattle.numerals.specs.Written.{Number, plain, parted, pointed, printed}
use Rattle.numerals.specs.declared.NumberFault.{NumberFault}
use Rattle.numerals.specs.declared.NumberFault.TheVariants.{NoNumber, ManyDecimals, Large}
use Rattle.numerals.proofs.Capped.{is_large, is_units}
use Rattle.numerals.proofs.Shapes.{ended, marked, digits_on, too_many, few_enough, no_number, by_parts}
use Rattle.numerals.proofs.Fronts.{both_true, zero_digit, digit_first, none_first, all_append, mark_none, all_there}
use Rattle.numerals.proofs.Fronts.{digits_again, front_and_rest, only_all}
use Rattle.numerals.proofs.Amounts.{units-split, decimal-digits, decimal_some, value-decimal, padded-digits, value-padded}

-- at least one digit and nothing else
module _ (commas : Bool) (d : ℕ) (a : List ℕ) (are : AllDigits a) (some : 0 < length a) where
  pub whole_parts : read_number commas d a ≡ read_parts d a []
  unfolding digits_in
  whole_parts =
      let n : length a ≡ length (digits_in a) = ap length (sym are) in
      let e : is_number commas a ≡ true = sym (ended commas a (length a) n refl) ∙ lt-ltb 0 (length a) some in
      by_parts commas d a e
      ∙ ap (λ (x : List ℕ). read_parts d x (digits_in (behind_mark a))) are
      ∙ ap (λ (x : List ℕ). read_parts d a (digits_in x)) (drop_of_length-le a {i = length (digits_in a) + 1} (omega (arith, n)))

  whole-units : read_number commas d a ≡ unless_large (value_of a * 10 ^ d)
  whole-units =
      whole_parts
      ∙ few_enough d a [] (omega arith)
      ∙ ap (λ (x : List ℕ). unless_large (value_of x * 10 ^ (d - 0))) (append-nil a)
      ∙ ap (λ (k : ℕ). unless_large (value_of a * 10 ^ k)) (sub-zero d)

  -- the number in units: times ten for each decimal
  pub says-whole : value_of a * 10 ^ d ≤ 4294967295 → read_number commas d a ≡ Ok (value_of a * 10 ^ d)
  says-whole h = whole-units ∙ sym (is_units _ h)

  pub says_large : 4294967295 < value_of a * 10 ^ d → read_number commas d a ≡ Err Large
  says_large h = whole-units ∙ sym (is_large _ h)

  -- a mark, and at least one digit behind it
  module _ (m : ℕ) (mark : is_mark commas m ≡ true) (b : List ℕ) (behind : AllDigits b) (some_behind : 0 < length b) where
    pub marked-parts : read_number commas d (a ++ m ∷ b) ≡ read_parts d a b
    marked-parts =
        let l = a ++ m ∷ b in
        let front : digits_in l ≡ a = all_append a (m ∷ b) are ∙ ap (λ (x : List ℕ). a ++ x) (none_first m b (mark_none commas m mark)) ∙ append-nil a in
        let long = length-append a (m ∷ b) in
        let there : is_mark commas (get_or l (length a) 0) ≡ true = ap (is_mark commas) (get_or-append_seam a m b 0) ∙ mark in
        let rest : drop (length a + 1) l ≡ b = drop-append-add a (m ∷ b) 1 in
        let only = sym (ap only_digits rest ∙ all_there b behind some_behind) in
        let e = marked commas l (length a) (ap length (sym front)) (λ z. omega (arith, z)) (omega arith) (λ z. omega (arith, z)) there only in
        by_parts commas d l (sym e)
        ∙ ap (λ (x : List ℕ). read_parts d x (digits_in (drop (length x + 1) l))) front
        ∙ ap (λ (x : List ℕ). read_parts d a (digits_in x)) rest
        ∙ ap (read_parts d a) behind

    pub says_too_many : d < length b → read_number commas d (a ++ m ∷ b) ≡ Err ManyDecimals
    says_too_many h = marked-parts ∙ sym (too_many d a b h)

    module _ (few : length b ≤ d) where
      marked-units : read_number commas d (a ++ m ∷ b) ≡ unless_large (value_of a * 10 ^ d + value_of b * 10 ^ (d - length b))
      marked-units = marked-parts ∙ few_enough d a b few ∙ ap unless_large (units-split d a b few)

      -- what stands before the mark in units, and what stands behind it, times ten for each decimal that is missing
      pub says-marked : value_of a * 10 ^ d + value_of b * 10 ^ (d - length b) ≤ 4294967295 →
          read_number commas d (a ++ m ∷ b) ≡ Ok (value_of a * 10 ^ d + value_of b * 10 ^ (d - length b))
      says-marked h = marked-units ∙ sym (is_units _ h)

      pub says-marked_large : 4294967295 < value_of a * 10 ^ d + value_of b * 10 ^ (d - length b) → read_number commas d (a ++ m ∷ b) ≡ Err Large
      says-marked_large h = marked-units ∙ sym (is_large _ h)

-- a field is such a number, or it is none
module _ (commas : Bool) (l : List ℕ) where
  by_ending : (t : List ℕ) → behind_digits l ≡ t → 0 < length (digits_in l) → well_ended commas t ≡ true → Number commas l
  by_ending [] e some h =
      let whole = sym (append-nil (digits_in l)) ∙ ap (λ (x : List ℕ). digits_in l ++ x) (sym e) ∙ front_and_rest l in
      subst (Number commas) whole (plain (digits_in l) (digits_again l) some)
  by_ending (m ∷ b) e some h =
      let mark = both_true (is_mark commas m) (only_digits b) h in
      let all = only_all b mark.1 in
      let whole = ap (λ (x : List ℕ). digits_in l ++ x) (sym e) ∙ front_and_rest l in
      subst (Number commas) whole (parted (digits_in l) m b (digits_again l) some mark.0 all.0 all.1)

  pub nothing_else : (d : ℕ) → (read_number commas d l ≡ Err NoNumber → ⊥) → Number commas l
  unfolding is_number
  nothing_else d read = by (is_number commas l) refl
    where
      by : (t : Bool) → is_number commas l ≡ t → Number commas l
      by true e =
          let h = both_true (ltb 0 (length (digits_in l))) (well_ended commas (behind_digits l)) e in
          by_ending (behind_digits l) refl (ltb-true 0 (length (digits_in l)) h.0) h.1
      by false e = absurd (read (sym (no_number commas d l e)))

-- a field by its digits at the front
abbrev read_by : Bool → ℕ → List ℕ → List ℕ → Result ℕ NumberFault
read_by commas d a l = cond (ltb 0 (length a) && well_ended commas (drop (length a) l)) (read_parts d a (digits_in (drop (length a + 1) l))) (Err NoNumber)

module _ (commas : Bool) (d : ℕ) where
  one_zero : (l : List ℕ) → 0 < length (digits_in l) → read_number commas d (48 ∷ l) ≡ read_number commas d l
  unfolding read_number is_number read_parts with_digits
  one_zero l h =
      let a = digits_in l in
      let ending = well_ended commas (behind_digits l) in
      let some = lt-ltb 0 (suc (length a)) (omega arith) ∙ sym (lt-ltb 0 (length a) h) in
      ap (λ (x : List ℕ). read_by commas d x (48 ∷ l)) (digit_first 48 l zero_digit)
      ∙ ap (λ (k : ℕ). cond (ltb 0 (suc (length a)) && ending) (read_parts d (48 ∷ a) (digits_in (drop k (48 ∷ l)))) (Err NoNumber)) (suc-add (length a) 1)
      ∙ ap (λ (t : Bool). cond (t && ending) (read_parts d a (digits_in (behind_mark l))) (Err NoNumber)) some

  zeros-count : (k : ℕ) (l : List ℕ) → length (digits_in (replicate k 48 ++ l)) ≡ k + length (digits_in l)
  zeros-count zero l = omega arith
  zeros-count (suc k) l = omega (arith, ap length (digit_first 48 (replicate k 48 ++ l) zero_digit), zeros-count k l)

  pub zeros_in_front : (k : ℕ) (l : List ℕ) → 0 < length (digits_in l) → read_number commas d (replicate k 48 ++ l) ≡ read_number commas d l
  zeros_in_front zero l h = refl
  zeros_in_front (suc k) l h = one_zero (replicate k 48 ++ l) (omega (arith, zeros-count k l)) ∙ zeros_in_front k l h

  -- n by its whole part and its last d digits
  back_parts : (n : ℕ) → n ≤ 4294967295 → read_parts d (decimal (n / 10 ^ d)) (padded d n) ≡ Ok n
  back_parts n h =
      let w = decimal (n / 10 ^ d) in
      let long = padded-length d n in
      let z : d - length (padded d n) ≡ 0 = omega arith in
      let v : value_of (w ++ padded d n) ≡ n =
      digits_on 0 w (padded d n) ∙ ap (λ (q : ℕ). with_digits q (padded d n)) (value-decimal (n / 10 ^ d)) ∙ value-padded d n in
      let u : units_of d w (padded d n) ≡ n = ap (λ (k : ℕ). value_of (w ++ padded d n) * 10 ^ k) z ∙ mul-one (value_of (w ++ padded d n)) ∙ v in
      few_enough d w (padded d n) (omega arith) ∙ ap unless_large u ∙ sym (is_units n h)

pub reads_back : (commas : Bool) (d n : ℕ) → n ≤ 4294967295 → read_number commas d (printed d n) ≡ Ok n
unfolding pointed padded is_mark
reads_back commas zero n h =
    ap (read_number commas 0) (append-nil (decimal (n / 1)))
    ∙ whole_parts commas 0 (decimal (n / 1)) (decimal-digits (n / 1)) (decimal_some (n / 1))
    ∙ back_parts commas 0 n h
reads_back commas (suc d) n h =
    let q = n / 10 ^ suc d in
    let long = padded-length (suc d) n in
    marked-parts commas (suc d) (decimal q) (decimal-digits q) (decimal_some q) 46 refl (padded (suc d) n) (padded-digits (suc d) n) (omega arith)
    ∙ back_parts commas (suc d) n h
