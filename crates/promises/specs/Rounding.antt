-- "From now on every rounded tonne goes to the nearest, a half to the even neighbour, for both signs": what that is, said of a figure and its exact ratio without a word on
-- how it is worked out. Demand2 says it of each rounded figure.
use Rattle.std.specs.Prelude.{ℕ, ◌*◌, ◌%◌, ◌<◌, ◌≤◌, ◌≡◌, ℤ, pos, nat_abs, ◌-ℤ◌, ◌*ℤ◌}
use Rattle.std.proofs.Common.{◌∙◌, sym, subst}
use Rattle.wide.specs.Numbers.{value, words_of}
use Rattle.wide.specs.Rounding.{nearest}
use Rattle.wide.specs.Signs.{amount, signed_of, nearest_z}
use Rattle.wide.proofs.Laws.{value_words}
use Rattle.wide.proofs.SignLaws.{form-holds}
use Rattle.steps.proofs.Rounds.{none_nearer, even-half, only_one}

-- how far the whole number q is from x over d, counted in parts of d: from 500 over 300, 1 is 200 parts away and 2 is 100
abbrev pub far : ℤ → ℕ → ℤ → ℕ
far x d q = nat_abs (x -ℤ pos d *ℤ q)

-- q is x over d, rounded: no whole number is nearer to it; and if it stands at a half, which is half of d away from either neighbour, q is the even one
pub record Rounded (x : ℤ) (d : ℕ) (q : ℤ) : Type 0 where
  pub nearest : (z : ℤ) → far x d q ≤ far x d z
  pub even : 2 * far x d q ≡ d → nat_abs q % 2 ≡ 0

-- the program's rule rounds so
pub rounds : (x : ℤ) (d : ℕ) → 0 < d → Rounded x d (nearest_z x d)
rounds x d h = record { nearest = none_nearer x d h; even = even-half x d h }

-- also where the figure is held as words
pub rounds_net : (x : ℤ) (d : ℕ) → 0 < d → Rounded x d (amount (signed_of (nearest_z x d)))
rounds_net x d h = subst (Rounded x d) (sym (form-holds (nearest_z x d)).number) (rounds x d h)

pub rounds_plain : {m n : ℕ} (d : ℕ) → 0 < d → m ≡ n → Rounded (pos n) d (pos (value (words_of (nearest m d))))
rounds_plain {m} {n} d h e = subst (λ (k : ℕ). Rounded (pos k) d (pos (value (words_of (nearest m d))))) e (subst (λ (k : ℕ). Rounded (pos m) d (pos k)) (sym (value_words (nearest m d)).number) (rounds (pos m) d h))

-- and a ratio has one whole number that it is rounded to
pub rounded_one : (x : ℤ) (d : ℕ) → 0 < d → (q p : ℤ) → Rounded x d q → Rounded x d p → q ≡ p
rounded_one x d h q p a b = only_one x d h q a.nearest a.even ∙ sym (only_one x d h p b.nearest b.even)
