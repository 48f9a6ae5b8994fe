-- Whether a field is a number, by its digits at the front and what stands behind them; and its units. Assumes nothing.
--     no_digits, ended, no_mark, marked    the answers of `is_number`, test by test
--     too_many, few_enough, in_units       those of `read_parts`
--     at_the_end, behind_it                where the decimals start
--     no_number, by_parts                  the answers of `read_number`
use Prim.Native.Nat.{ℕ, ◌+◌, ◌-◌, ◌*◌, ◌^◌, ◌<◌, ◌≤◌}
use mathlib.Core.Path.{◌≡◌, refl, sym, ap, ◌∙◌}
use mathlib.Core.Bool.{Bool, true, false, cond, ◌&&◌, and-true}
use mathlib.Core.List.{List, [], ◌∷◌, ◌++◌}
use native.Mathlib.Nat.{one-le-pow}
use native.Mathlib.Omega.{arith}
use lib.ListN.{length, take, drop, get_or, length-drop, drop_of_length-le}
use lib.Seq.{take_all}
use lib.Dec.{ltb}
use borrow.Author.Tests.{lt-ltb, le-ltb}
use Rattle.std.specs.Prelude.{Result, Err}
use Rattle.numerals.specs.Numerals.{is_mark, digits_in, with_digits, value_of, only_digits, well_ended, is_number, behind_mark, capped}
use Rattle.numerals.specs.Numerals.{unless_large, units_of, read_parts, read_number}
use Rattle.numerals.specs.declared.NumberFault.{NumberFault}
use Rattle.numerals.specs.declared.NumberFault.TheVariants.{NoNumber, ManyDecimals}
use Rattle.numerals.proofs.Counting.{opened}
use Rattle.numerals.proofs.Capped.{capped-digits, capped-times, large_capped}

-- a part that goes on to the end, as the code lends it
pub all_from : (k : ℕ) (l : List ℕ) → take (length l - k) (drop k l) ≡ drop k l
all_from k l = take_all (length l - k) (drop k l) (omega (arith, length-drop k l))

module _ (commas : Bool) (l : List ℕ) (w : ℕ) (e : w ≡ length (digits_in l)) where
  pub no_digits : w ≡ 0 → false ≡ is_number commas l
  unfolding is_number
  no_digits z = sym (ap (λ (t : Bool). t && well_ended commas (drop (length (digits_in l)) l)) (le-ltb 0 (length (digits_in l)) (omega arith)))

  some_digits : (w ≡ 0 → ⊥) → is_number commas l ≡ well_ended commas (drop w l)
  unfolding is_number
  some_digits z =
      ap (λ (t : Bool). t && well_ended commas (drop (length (digits_in l)) l)) (lt-ltb 0 (length (digits_in l)) (omega (arith, z)))
      ∙ ap (λ (n : ℕ). well_ended commas (drop n l)) (sym e)

  pub ended : w ≡ length l → ltb 0 w ≡ is_number commas l
  unfolding is_number
  ended f =
      sym (and-true (ltb 0 w))
      ∙ ap (λ (t : List ℕ). ltb 0 w && well_ended commas t) (sym (drop_of_length-le l {i = w} (omega arith)))
      ∙ ap (λ (n : ℕ). ltb 0 n && well_ended commas (drop n l)) e

  module _ (z : w ≡ 0 → ⊥) (within : w ≤ length l) (f : w ≡ length l → ⊥) where
    inside : w < length l
    inside = omega (arith, f)

    pub no_mark : is_mark commas (get_or l w 0) ≡ false → false ≡ is_number commas l
    no_mark m = sym (some_digits z ∙ ap (well_ended commas) (opened l w inside) ∙ ap (λ (t : Bool). t && only_digits (drop (w + 1) l)) m)

    pub marked : is_mark commas (get_or l w 0) ≡ true → {r : Bool} → r ≡ only_digits (drop (w + 1) l) → r ≡ is_number commas l
    marked m g = g ∙ sym (some_digits z ∙ ap (well_ended commas) (opened l w inside) ∙ ap (λ (t : Bool). t && only_digits (drop (w + 1) l)) m)

-- digits after digits
pub digits_on : (n : ℕ) (a b : List ℕ) → with_digits n (a ++ b) ≡ with_digits (with_digits n a) b
unfolding with_digits
digits_on n [] b = refl
digits_on n (x ∷ a) b = digits_on (10 * n + (x - 48)) a b

module _ (d : ℕ) (a b : List ℕ) where
  pub too_many : d < length b → Err ManyDecimals ≡ read_parts d a b
  unfolding read_parts
  too_many h = sym (ap (λ (t : Bool). cond t (Err ManyDecimals) (unless_large (units_of d a b))) (lt-ltb d (length b) h))

  pub few_enough : length b ≤ d → read_parts d a b ≡ unless_large (units_of d a b)
  unfolding read_parts
  few_enough h = ap (λ (t : Bool). cond t (Err ManyDecimals) (unless_large (units_of d a b))) (le-ltb d (length b) h)

  -- as it is worked out: the digits before the mark, those behind it, the zeros, each capped
  pub in_units : (v w m u : ℕ) → v ≡ capped (with_digits 0 a) → w ≡ capped (with_digits v b) → m ≡ d - length b → u ≡ capped (w * 10 ^ m)
      → length b ≤ d → {r : Result ℕ NumberFault} → r ≡ unless_large u → r ≡ read_parts d a b
  in_units v w m u p q e f h g =
      let number = value_of (a ++ b) in
      let all : w ≡ capped number =
      q ∙ ap (λ (n : ℕ). capped (with_digits n b)) p ∙ capped-digits b (with_digits 0 a) ∙ ap capped (sym (digits_on 0 a b)) in
      let units : u ≡ capped (units_of d a b) =
      f
      ∙ ap (λ (n : ℕ). capped (n * 10 ^ m)) all
      ∙ capped-times number (10 ^ m) (one-le-pow m 10 (omega arith))
      ∙ ap (λ (i : ℕ). capped (number * 10 ^ i)) e in
      g ∙ ap unless_large units ∙ large_capped (units_of d a b) ∙ sym (few_enough h)

-- where the decimals start
module _ (l : List ℕ) (w : ℕ) (e : w ≡ length (digits_in l)) where
  pub at_the_end : w ≡ length l → drop w l ≡ behind_mark l
  at_the_end f = drop_of_length-le l {i = w} (omega arith) ∙ sym (drop_of_length-le l {i = length (digits_in l) + 1} (omega arith))

  pub behind_it : drop (w + 1) l ≡ behind_mark l
  behind_it = ap (λ (n : ℕ). drop (n + 1) l) e

module _ (commas : Bool) (d : ℕ) (l : List ℕ) where
  pub no_number : is_number commas l ≡ false → Err NoNumber ≡ read_number commas d l
  unfolding read_number
  no_number e = sym (ap (λ (t : Bool). cond t (read_parts d (digits_in l) (digits_in (behind_mark l))) (Err NoNumber)) e)

  pub by_parts : is_number commas l ≡ true → read_number commas d l ≡ read_parts d (digits_in l) (digits_in (behind_mark l))
  unfolding read_number
  by_parts e = ap (λ (t : Bool). cond t (read_parts d (digits_in l) (digits_in (behind_mark l))) (Err NoNumber)) e
