-- §7: the explanation from C, a text as the lines are.
use Rattle.std.specs.Prelude.{ℕ, List}
use Rattle.phrases.specs.Room.{put_of, text_after}
use Rattle.explained.specs.Explained.{explained}

-- the room after the text: the text at the front, or as it was where it is too short
abbrev pub explain_after : List ℕ → List ℕ → List ℕ
explain_after s room = text_after (explained s) room (put_of (explained s) room)
