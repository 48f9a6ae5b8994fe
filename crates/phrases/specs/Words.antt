-- Words of a text, each with a space (32) behind it. Assumes nothing.
use Rattle.std.specs.Prelude.{ℕ, zero, suc, cond, drop, eqb, map, get_or}
use Rattle.std.specs.Borrow.{Bor}
use mathlib.Core.List.{List, [], ◌∷◌, ◌++◌, flat_map}

-- some words as such a text
abbrev pub spaced_out : List (List ℕ) → List ℕ
spaced_out words = flat_map (λ (w : List ℕ). w ++ 32 ∷ []) words

-- a text up to its first space
unfoldable pub up_to_space : List ℕ → List ℕ
up_to_space [] = []
up_to_space (b ∷ bs) = cond (eqb b 32) [] (b ∷ up_to_space bs)

-- where word i starts: behind i spaces, or at the end
unfoldable pub start_of : ℕ → List ℕ → ℕ
start_of i [] = 0
start_of zero (b ∷ bs) = 0
start_of (suc i) (b ∷ bs) = suc (start_of (cond (eqb b 32) i (suc i)) bs)

-- word i; past the last there is none
abbrev pub word_at : ℕ → List ℕ → List ℕ
word_at i s = up_to_space (drop (start_of i s) s)

-- word i of a list of them, each lent; past the last there is none
abbrev pub word_in : ℕ → List (Bor (List ℕ)) → List ℕ
word_in i words = get_or (map (λ (w : Bor (List ℕ)). w.now) words) i []
