-- What a turn of the program takes of its input. Assumes nothing.
use Rattle.std.specs.Prelude.{ℕ, ◌≡◌, List, take, drop, Option, None, Some}
use Rattle.cutting.specs.Cutting.{wanted_of}

-- of an input whose bytes are known, those that settle what comes next were taken, and the rest is left
abbrev pub TakesWanted : Option (List ℕ) → Option (List ℕ) → List ℕ → Type 0
TakesWanted None after seen = Unit {0}
TakesWanted (Some s) after seen = (seen ≡ take (wanted_of s) s) × (after ≡ Some (drop (wanted_of s) s))
