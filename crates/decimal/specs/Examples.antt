-- Worked examples: the definitions compute. Assumes nothing.
use Rattle.std.specs.Prelude.{◌≡◌, refl, [], ◌∷◌, ◌*◌, ◌^◌, negsuc, replicate}
use Rattle.decimal.specs.Digits.{digits, decimal, marked}

-- 0, 320000000000000000000 and -6 as text
nothing : decimal 0 ≡ 48 ∷ []
unfolding digits
nothing = refl

largest : decimal (32 * 10 ^ 19) ≡ 51 ∷ 50 ∷ replicate 19 48
unfolding digits
largest = refl

minus_six : marked (negsuc 5) ≡ 45 ∷ 54 ∷ []
unfolding digits
minus_six = refl
