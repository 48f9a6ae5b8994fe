-- What a program in C gets back: a number.
use Rattle.form.specs.Refusals.{Clean, Ruling, Refused}
use Rattle.std.specs.Prelude.{ℕ, ◌+◌, ◌*◌, ◌<◌, List, Option, Some, None, Err}
use Rattle.phrases.specs.Room.{put_of, text_after}
use Rattle.report.specs.Lines.{printed}

-- 0, or "1,000 times the refusal number plus the place"
abbrev pub code_of : Ruling → ℕ
code_of Clean = 0
code_of (Err r) = 1000 * r.number + r.place

-- a place that leaves the number to be read off
abbrev pub InPlace : Ruling → Type 0
InPlace Clean = Unit {0}
InPlace (Err r) = r.place < 1000

-- the room after the lines from C
abbrev pub lines_after : List ℕ → List ℕ → List ℕ
lines_after s room = text_after (printed s) room (put_of (printed s) room)

-- the lines from C: the text's length, which is never 0, or 0 for a room too short
abbrev pub size_of : Option ℕ → ℕ
size_of (Some n) = n
size_of None = 0
