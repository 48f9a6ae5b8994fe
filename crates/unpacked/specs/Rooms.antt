-- Room that is always enough: a number has at most 10 digits and a point, a kind at most 32 rows. Assumes nothing.
use Rattle.std.specs.Prelude.{ℕ, zero, suc, ◌+◌, ◌*◌}
use Rattle.form.specs.Layout.{numbers_of}

-- a field without its comma: a number of 32 bits with at most four decimals, or a unit
abbrev pub field_room : ℕ
field_room = 11

-- a row's line: the kind's name, the fields with a comma before each, the line feed
unfoldable pub row_room : ℕ → ℕ
row_room kind = 11 + 12 * numbers_of kind

-- a kind's note with its line feed
abbrev pub note_room : ℕ
note_room = 300

abbrev pub kind_room : ℕ → ℕ
kind_room kind = note_room + row_room kind * 32

-- the kinds from 1 to k
unfoldable pub kinds_room : ℕ → ℕ
kinds_room zero = 0
kinds_room (suc k) = kinds_room k + kind_room (suc k)

-- the edition line with its line feed
abbrev pub edition_room : ℕ
edition_room = 19

-- the whole text
abbrev pub unpack_room : ℕ
unpack_room = 33500
