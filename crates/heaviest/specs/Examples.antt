-- Answers that the checker computes. A row here is its id and one figure, which is taken as its part.
use Rattle.std.specs.Prelude.{ℕ, ◌≡◌, refl, List, [], ◌∷◌, get_or}
use Rattle.heaviest.specs.Named.{Named, NoRow, Row}
use Rattle.heaviest.specs.Heaviest.{heavier, heaviest_from, heaviest_in, named_of}

abbrev figure : List ℕ → ℕ
figure r = get_or r 1 0

abbrev short : ℕ → ℕ → List ℕ
short id part = id ∷ part ∷ []

-- the answer, opened for computing
unfoldable computed : List (List ℕ) → Named
unfolding heavier heaviest_from named_of
computed rs = named_of (heaviest_in figure rs)

-- the largest in the middle
middle : named_of (heaviest_in figure (short 3 10 ∷ short 5 70 ∷ short 8 69 ∷ [])) ≡ Row 5 70
unfolding computed
middle = refl

-- a tie: the lower id
tie : named_of (heaviest_in figure (short 3 10 ∷ short 5 70 ∷ short 8 70 ∷ [])) ≡ Row 5 70
unfolding computed
tie = refl

-- id 0 is an id, and its row is named
id_zero : named_of (heaviest_in figure (short 0 1 ∷ short 9 1 ∷ [])) ≡ Row 0 1
unfolding computed
id_zero = refl

-- all parts zero, and no rows at all
all_zero : named_of (heaviest_in figure (short 3 0 ∷ short 5 0 ∷ [])) ≡ NoRow
unfolding computed
all_zero = refl

no_rows : named_of (heaviest_in figure []) ≡ NoRow
unfolding computed
no_rows = refl
