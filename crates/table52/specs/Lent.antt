-- An entry in lent memory, for programs in C: "answers the three figures with the mark, or says which is not given".
use Rattle.std.specs.Prelude.{Bool, cond, List, [], ◌∷◌, ◌++◌, length, drop, ℤ, pos, ltb, Option, Some, None, Result, Ok, Err}
use Rattle.entries52.specs.declared.Entry.{Entry}
use Rattle.table52.specs.declared.OffTable.{OffTable}
use Rattle.table52.specs.declared.lent.NotTold.{NotTold}
use Rattle.table52.specs.declared.lent.NotTold.TheVariants.{NoEntry, Short}

-- whether a figure is given, and the figure: 1 and a zero are told apart from 0 and a zero
abbrev pub given_of : Option ℤ → ℤ
given_of (Some n) = pos 1
given_of None = pos 0

abbrev pub number_of : Option ℤ → ℤ
number_of (Some n) = n
number_of None = pos 0

abbrev pub mark_of : Bool → ℤ
mark_of m = cond m (pos 1) (pos 0)

-- an entry as numbers: two for each figure, then the mark
abbrev pub entry_numbers : Entry → List ℤ
entry_numbers e =
    given_of e.area1980 ∷ number_of e.area1980
    ∷ given_of e.area1990 ∷ number_of e.area1990
    ∷ given_of e.rate ∷ number_of e.rate
    ∷ mark_of e.marked
    ∷ []

-- the refusals of the lookup, and last the lent room too short
abbrev pub told_of : Result Entry OffTable → List ℤ → Result (Unit {0}) NotTold
told_of (Ok e) room = cond (ltb (length room) (length (entry_numbers e))) (Err Short) (Ok tt)
told_of (Err off) room = Err (NoEntry off)

-- the room with an entry's numbers at the front; later elements keep their values
abbrev pub with_entry : Entry → List ℤ → List ℤ
with_entry e room = entry_numbers e ++ drop (length (entry_numbers e)) room

-- the room afterwards: the entry at the front, or as it was
abbrev pub room_after : Result Entry OffTable → List ℤ → List ℤ
room_after (Ok e) room = cond (ltb (length room) (length (entry_numbers e))) room (with_entry e room)
room_after (Err off) room = room
