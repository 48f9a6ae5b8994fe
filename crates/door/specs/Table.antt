-- §6: the lookup in table 5-2 from C. "Refusals: country or zone number off the table, in that order." The paper gives them no number, so their codes are below any number's.
use Rattle.form.specs.Refusals.{Refused}
use Rattle.std.specs.Prelude.{ℕ, List, ℤ, Result, Ok, Err}
use Rattle.table52.specs.Lookup.{looked_up}
use Rattle.table52.specs.Lent.{told_of, room_after}
use Rattle.table52.specs.declared.OffTable.TheVariants.{Country, Zone}
use Rattle.table52.specs.declared.lent.NotTold.{NotTold}
use Rattle.table52.specs.declared.lent.NotTold.TheVariants.{NoEntry, Short}
use Rattle.door.specs.Door.{code_of}

-- 0, 1 for the country, 2 for the zone; last 9, place 0, for the room
abbrev pub table_code : Result (Unit {0}) NotTold → ℕ
table_code (Ok done) = 0
table_code (Err (NoEntry Country)) = 1
table_code (Err (NoEntry Zone)) = 2
table_code (Err Short) = code_of (Refused 9 0)

abbrev pub table_call : ℕ → ℕ → List ℤ → Result (Unit {0}) NotTold
table_call country zone room = told_of (looked_up country zone) room

-- the room afterwards: the entry at the front, or as it was
abbrev pub table_after : ℕ → ℕ → List ℤ → List ℤ
table_after country zone room = room_after (looked_up country zone) room
