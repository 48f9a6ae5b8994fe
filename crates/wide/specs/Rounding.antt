-- THE rule of rounding: "every rounded tonne goes to the nearest, a half to the even neighbour, for both signs". Every rounded figure cites it. Assumes nothing.
use Rattle.std.specs.Prelude.{ℕ, ◌+◌, ◌*◌, ◌/◌, ◌%◌, cond, ◌==◌, nat_lt}

-- the even one of q and q + 1
unfoldable pub even_of : ℕ → ℕ
even_of q = cond (q % 2 == 0) q (q + 1)

-- a quotient q with the rest r of a division by d: down where twice the rest is below the divisor, up where it is above, and at a half to the even one
unfoldable pub settled : ℕ → ℕ → ℕ → ℕ
settled q r d = cond (nat_lt (2 * r) d) q (cond (nat_lt d (2 * r)) (q + 1) (even_of q))

-- x over d, rounded
abbrev pub nearest : ℕ → ℕ → ℕ
nearest x d = settled (x / d) (x % d) d
