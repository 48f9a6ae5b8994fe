-- Rows as text from C: "0; the fault's number, 1 to 10 in the order of the words above; writing's code; last 9000".
use Rattle.std.specs.Prelude.{ℕ, ◌<◌, List, Result, Ok, Err}
use Rattle.phrases.specs.Room.{put_of, text_after}
use Rattle.heads.specs.Heads.{fault_number}
use Rattle.packing.specs.declared.NotPacked.{NotPacked}
use Rattle.packing.specs.declared.NotPacked.TheVariants.{Faulty, Refused}
use Rattle.objections.specs.Objections.{pack_why}
use Rattle.door.specs.Door.{code_of}

abbrev pub pack_code : Result (Unit {0}) NotPacked → ℕ
pack_code (Ok done) = 0
pack_code (Err (Faulty f)) = fault_number f.fault
pack_code (Err (Refused r)) = code_of (Err r)

-- a place that leaves the number to be read off
abbrev pub PackInPlace : Result (Unit {0}) NotPacked → Type 0
PackInPlace (Ok done) = Unit {0}
PackInPlace (Err (Faulty f)) = Unit {0}
PackInPlace (Err (Refused r)) = r.place < 1000

-- the room after the lines that say why not: the text at the front, or as it was where it is too short
abbrev pub why_after : List ℕ → List ℕ → List ℕ
why_after text room = text_after (pack_why text) room (put_of (pack_why text) room)
