-- A text that was put into room. Assumes nothing.
use Rattle.std.specs.Prelude.{ℕ, ◌≤◌, List, length, Option, Some, None}

-- it is no longer than the room
abbrev pub Within : Option ℕ → List ℕ → Type 0
Within (Some n) room = n ≤ length room
Within None room = Unit {0}
