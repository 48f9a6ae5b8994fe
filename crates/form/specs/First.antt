-- "the lowest place is given": the lowest place below n at which a test holds, or Nowhere.
use Rattle.std.specs.Prelude.{ℕ, zero, suc, Bool, false, cond, ◌||◌, None, Option, Some}

abbrev pub or_else : Option ℕ → Option ℕ → Option ℕ
or_else (Some i) t = Some i
or_else None t = t

unfoldable pub first : (ℕ → Bool) → ℕ → Option ℕ
first p zero = None
first p (suc n) = or_else (first p n) (cond (p n) (Some n) None)

-- the test holds at some place below n
unfoldable pub any : (ℕ → Bool) → ℕ → Bool
any p zero = false
any p (suc n) = any p n || p n
