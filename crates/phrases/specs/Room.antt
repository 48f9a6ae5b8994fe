-- A text put into lent room that may be too short for it. Assumes nothing.
use Rattle.std.specs.Prelude.{◌≡◌, ℕ, cond, List, ◌++◌, ◌≤◌, length, drop, ltb, Option, Some, None}
use Rattle.decimal.specs.Digits.{WrittenAt}

-- the text's length, or none where the room is too short for it
abbrev pub put_of : List ℕ → List ℕ → Option ℕ
put_of text room = cond (ltb (length room) (length text)) None (Some (length text))

-- the text at the front and the rest as it was; a room too short is unchanged
abbrev pub text_after : List ℕ → List ℕ → Option ℕ → List ℕ
text_after text room (Some n) = text ++ drop n room
text_after text room None = room

-- the text is in the room, or the room is too short for it and as it was; and the text has at most n bytes
pub record IsPut (n : ℕ) (text before after : List ℕ) (answer : Option ℕ) : Type 0 where
  pub value : answer ≡ put_of text before
  pub room : after ≡ text_after text before answer
  pub short : length text ≤ n

-- a call may be made on any room of n bytes or more, and writes the text to its front; no text of more bytes. `takes` says that it may be made,
-- and `gives` what it gives: from the room before, the place behind the text and the room after
pub record Writes (n : ℕ) (takes : List ℕ → Type 0) (gives : List ℕ → ℕ → List ℕ → Type 0) (text : List ℕ) : Type 0 where
  pub may_call : (room : List ℕ) → n ≤ length room → takes room
  pub written : (before after : List ℕ) (next : ℕ) → n ≤ length before → gives before next after → WrittenAt text before after 0 next × (length text ≤ n)
