-- "Little-endian": numbers in a list of bytes. Past the end every byte is 0, so that each definition speaks of every list.
use Rattle.std.specs.Prelude.{ℕ, zero, suc, ◌+◌, ◌*◌, ◌/◌, ◌%◌, Bool, not, List, [], ◌∷◌, get_or, eqb}
use Rattle.form.specs.First.{any}

abbrev pub byte_at : List ℕ → ℕ → ℕ
byte_at s at = get_or s at 0

-- the number in the w bytes from a place on, the lowest byte first
unfoldable pub number : ℕ → List ℕ → ℕ → ℕ
number zero s at = 0
number (suc w) s at = byte_at s at + 256 * number w s (at + 1)

-- the other way: the lowest w bytes of a number, the lowest first
unfoldable pub little_endian : ℕ → ℕ → List ℕ
little_endian zero v = []
little_endian (suc w) v = v % 256 ∷ little_endian w (v / 256)

-- "a non-zero byte" among the n from a place on
unfoldable pub stray_in : List ℕ → ℕ → ℕ → Bool
stray_in s at n = any (λ i. not (eqb (byte_at s (at + i)) 0)) n
