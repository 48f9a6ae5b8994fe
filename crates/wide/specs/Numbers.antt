-- The number that a pair of words stands for. Assumes nothing.
use Rattle.std.specs.Prelude.{◌≡◌, ℕ, ◌+◌, ◌*◌, ◌/◌, ◌%◌, ◌^◌, ◌<◌}
use Rattle.wide.specs.declared.Wide.{Wide}

-- the upper word counts in units of 2 ^ 64
unfoldable pub value : Wide → ℕ
value w = w.lo + 2 ^ 64 * w.hi

-- the words of a number
unfoldable pub words_of : ℕ → Wide
words_of n = record { lo = n % 2 ^ 64; hi = n / 2 ^ 64 }

-- w is the number n, in its one form (`words`)
pub record Is (w : Wide) (n : ℕ) : Type 0 where
  pub number : value w ≡ n
  pub word : w.lo < 2 ^ 64
