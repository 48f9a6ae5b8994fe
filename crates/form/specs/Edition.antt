-- "6 edition": 1; 2, which has abandoned land, savannas, mineral soils and crop residues; 3, which "is otherwise edition 2" and has no scattered trees (14). The editions there
-- are, and the kinds that each allows. A new edition is a new entry.
use Rattle.std.specs.Prelude.{ℕ, Bool, [], ◌∷◌, get_or, ltb}

-- the last kind that an edition allows, from 1 on; another number is no edition and allows none
unfoldable pub last_kind : ℕ → ℕ
last_kind edition = get_or (0 ∷ 4 ∷ 8 ∷ 8 ∷ []) edition 0

-- an edition that there is
abbrev pub known : ℕ → Bool
known edition = ltb 0 (last_kind edition)
