-- Worked examples: the definitions compute. Assumes nothing.
use Rattle.std.specs.Prelude.{◌≡◌, ℕ, zero, suc, ◌+◌, ◌-◌, ◌*◌, ◌/◌, ◌^◌, pos, negsuc, refl}
use Rattle.wide.specs.Numbers.{value}
use Rattle.wide.specs.Rounding.{even_of, settled, nearest}
use Rattle.wide.specs.Signs.{nearest_z}

two_words : value (record { lo = 5; hi = 1 }) ≡ 2 ^ 64 + 5
unfolding value
two_words = refl

-- a half goes to the even neighbour, down or up, also where the divisor is above 2 ^ 64; and what is beside a half to the nearest
half_down : nearest 5 2 ≡ 2
unfolding settled even_of
half_down = refl

half_up : nearest 7 2 ≡ 4
unfolding settled even_of
half_up = refl

wide_half : nearest (105 * 10 ^ 18) (7 * 10 ^ 19) ≡ 2
unfolding settled even_of
wide_half = refl

above_half : nearest (35 * 10 ^ 18 + 1) (7 * 10 ^ 19) ≡ 1
unfolding settled
above_half = refl

below_half : nearest (105 * 10 ^ 18 - 1) (7 * 10 ^ 19) ≡ 1
unfolding settled
below_half = refl

-- below zero: five halves go to 2, seven to 4, a quarter to 0
half-below-zero : nearest_z (negsuc 4) 2 ≡ negsuc 1
unfolding settled even_of
half-below-zero = refl

half_up_below-zero : nearest_z (negsuc 6) 2 ≡ negsuc 3
unfolding settled even_of
half_up_below-zero = refl

-- why halves go to even: over d, each rest once under an even and once under an odd quotient, what the roundings of 0 to 2 d - 1 are too high by, in all
sum_below : (ℕ → ℕ) → ℕ → ℕ
sum_below f zero = 0
sum_below f (suc n) = sum_below f n + f n

-- the rule that was: a half away from zero
abbrev outward : ℕ → ℕ → ℕ
outward x d = (2 * x + d) / (2 * d)

even-sums : (sum_below (λ x. 10 * nearest x 10) 20 ≡ sum_below (λ x. x) 20) × (sum_below (λ x. 30 * nearest x 30) 60 ≡ sum_below (λ x. x) 60)
unfolding sum_below settled even_of
even-sums = (refl, refl)

outward-sums : (sum_below (λ x. 10 * outward x 10) 20 ≡ sum_below (λ x. x) 20 + 10) × (sum_below (λ x. 30 * outward x 30) 60 ≡ sum_below (λ x. x) 60 + 30)
unfolding sum_below
outward-sums = (refl, refl)

quarter_below-zero : nearest_z (negsuc 0) 4 ≡ pos 0
unfolding settled
quarter_below-zero = refl
