-- §10: the national line from C, a text as the lines are.
use Rattle.std.specs.Prelude.{ℕ, List}
use Rattle.phrases.specs.Room.{put_of, text_after}
use Rattle.national.specs.Nation.{printed_nation}

-- the room after the text: the text at the front, or as it was where it is too short
abbrev pub nation_after : List ℕ → List ℕ → List ℕ
nation_after s room = text_after (printed_nation s) room (put_of (printed_nation s) room)
