-- A count of bytes at the front of a room. Assumes nothing.
use Rattle.std.specs.Prelude.{ℕ, ◌≡◌, ◌≤◌, List, length, take, Result, Ok, Err}
use Rattle.console.specs.declared.Unread.{Unread}

-- the room has as many, so that its first n are n
abbrev pub IsPrefixLen : ℕ → List ℕ → Type 0
IsPrefixLen n room = (n ≤ length room) × (n ≡ length (take n room))

-- how many bytes were taken, whether or not the input could be read to its end
abbrev pub taken : Result ℕ Unread → ℕ
taken (Ok n) = n
taken (Err unread) = unread.count
