-- What is taken from an input whose bytes are known. Assumes nothing.
use Rattle.std.specs.Prelude.{ℕ, ◌<◌, List, length, take, Option}
use Rattle.std.specs.Io.KnownBytes.{Consumes, IsAtEnd}

-- the first n bytes of the room are the next n of the input, and no byte is left where the room has more than these
abbrev pub TakesAll : Option (List ℕ) → Option (List ℕ) → ℕ → List ℕ → Type 0
TakesAll before after n room = Consumes before after (take n room) × (n < length room → IsAtEnd after)
