-- A text packed: "every text of every length gets its return or one refusal", first the text's own fault, "then writing's own", and "last 9000". Assumes nothing.
use Rattle.form.specs.Refusals.{Clean, Ruling}
use Rattle.std.specs.Prelude.{ℕ, List, Result, Ok, Err}
use Rattle.handed.specs.Rows.{write_call, blocks_written, size_written}
use Rattle.texts.specs.Texts.{TextRead, rows, faulty, text_read}
use Rattle.packing.specs.declared.NotPacked.{NotPacked}
use Rattle.packing.specs.declared.NotPacked.TheVariants.{Faulty, Refused}

abbrev pub of_ruling : Ruling → Result (Unit {0}) NotPacked
of_ruling Clean = Ok tt
of_ruling (Err r) = Err (Refused r)

-- what the rows of a text are answered, into these rooms: what writing answers
abbrev pub packed_by : TextRead → List ℕ → List ℕ → Result (Unit {0}) NotPacked
packed_by (rows e lengths area) room size = of_ruling (write_call e area lengths room size)
packed_by (faulty f) room size = Err (Faulty f)

abbrev pub pack_call : List ℕ → List ℕ → List ℕ → Result (Unit {0}) NotPacked
pack_call text room size = packed_by (text_read text) room size

-- the rooms afterwards: "exactly the blocks at the front" and their number of bytes, or both as they were
abbrev pub bytes_by : TextRead → List ℕ → List ℕ → List ℕ
bytes_by (rows e lengths area) room size = blocks_written e area lengths room size
bytes_by (faulty f) room size = room

abbrev pub bytes_packed : List ℕ → List ℕ → List ℕ → List ℕ
bytes_packed text room size = bytes_by (text_read text) room size

abbrev pub size_by : TextRead → List ℕ → List ℕ → List ℕ
size_by (rows e lengths area) room size = size_written e area lengths room size
size_by (faulty f) room size = size

abbrev pub size_packed : List ℕ → List ℕ → List ℕ → List ℕ
size_packed text room size = size_by (text_read text) room size
