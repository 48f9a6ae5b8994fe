-- What the table has of an entry: "the three figures with the mark".
use Rattle.std.specs.Prelude.{ℕ, Bool, false, cond, ◌||◌, List, [], ◌∷◌, get_or, ℤ, pos, negsuc, eqb, Option, Some, None}
use Rattle.entries52.specs.declared.Entry.{Entry}
use Rattle.entries52.specs.Table.{Printed, none, table}

-- two areas that are given and equal
abbrev pub same_number : ℤ → ℤ → Bool
same_number (pos a) (pos b) = eqb a b
same_number (negsuc a) (negsuc b) = eqb a b
same_number (pos a) (negsuc b) = false
same_number (negsuc a) (pos b) = false

abbrev pub same_area : Option ℤ → Option ℤ → Bool
same_area (Some a) (Some b) = same_number a b
same_area (Some a) None = false
same_area None f = false

-- "A blank rate beside two equal areas is zero; every other blank is 'not given' and never zero."
abbrev pub rate_of : Option ℤ → Option ℤ → Option ℤ → Option ℤ
rate_of a b (Some r) = Some r
rate_of a b None = cond (same_area a b) (Some (pos 0)) None

-- "Entries of the source that break it are .. marked": their numbers, 6 * country + zone. None breaks it.
abbrev pub marked : List ℕ
marked = []

abbrev pub among : ℕ → List ℕ → Bool
among n [] = false
among n (m ∷ ms) = eqb n m || among n ms

-- the answer of entry n
abbrev pub entry_of : Printed → Bool → Entry
entry_of p m = record { area1980 = p.area1980; area1990 = p.area1990; rate = rate_of p.area1980 p.area1990 p.rate; marked = m }

abbrev pub entry_at : ℕ → Entry
entry_at n = entry_of (get_or table n none) (among n marked)
