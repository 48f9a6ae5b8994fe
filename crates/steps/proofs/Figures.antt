-- So many parts of a mass that is held as words. Assumes nothing.
--     part, product, products    of a number, and of a product of two or of three
use Prim.Native.Nat.{ℕ, ◌*◌}
use mathlib.Core.Path.{◌≡◌, sym, ap, ◌∙◌}
use native.Mathlib.Nat.{mul_assoc}
use Rattle.wide.specs.Numbers.{value, words_of}
use Rattle.wide.proofs.Laws.{value_words}

pub part : (k n : ℕ) → k * value (words_of n) ≡ k * n
part k n = ap (λ (x : ℕ). k * x) (value_words n).number

pub product : (k c a : ℕ) → k * value (words_of (c * a)) ≡ k * c * a
product k c a = part k (c * a) ∙ sym (mul_assoc k c a)

pub products : (k c a b : ℕ) → k * value (words_of (c * a * b)) ≡ k * c * a * b
products k c a b = product k (c * a) b ∙ ap (λ (n : ℕ). n * b) (sym (mul_assoc k c a))
