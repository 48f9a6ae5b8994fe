-- "Every entry with all three figures obeys one rule: ten times the rate differs from the fall in area by at most 6 tenths."
use Rattle.std.specs.Prelude.{ℕ, suc, Bool, true, not, ◌&&◌, ◌||◌, List, [], ◌∷◌, ℤ, pos, nat_abs, ◌-ℤ◌, ◌*ℤ◌, T, leb, Option, Some, None}
use Rattle.entries52.specs.declared.Entry.{Entry}
use Rattle.entries52.specs.Table.{Printed, table}
use Rattle.entries52.specs.Entries.{entry_of, marked, among}

-- how far ten times the rate is from the fall in area
abbrev pub deviation : ℤ → ℤ → ℤ → ℕ
deviation a b r = nat_abs (pos 10 *ℤ r -ℤ (a -ℤ b))

-- where a figure is not given there is nothing to compare
abbrev pub near : Option ℤ → Option ℤ → Option ℤ → Bool
near (Some a) (Some b) (Some r) = leb (deviation a b r) 6
near (Some a) (Some b) None = true
near (Some a) None r = true
near None b r = true

-- an entry obeys the rule, or is marked
abbrev pub obeys : Entry → Bool
obeys e = e.marked || near e.area1980 e.area1990 e.rate

-- "Entries of the source that break it are .. marked", and no others: a mark on an entry that obeys the rule would take it out of the claim below
abbrev pub well_marked : Entry → Bool
well_marked e = not (e.marked && near e.area1980 e.area1990 e.rate)

-- a test of each element with its number, from n on
abbrev pub every : {A : Type 0} → (ℕ → A → Bool) → ℕ → List A → Bool
every f n [] = true
every f n (x ∷ xs) = f n x && every f (suc n) xs

abbrev pub obeys_at : ℕ → Printed → Bool
obeys_at n p = obeys (entry_of p (among n marked))

abbrev pub well_marked_at : ℕ → Printed → Bool
well_marked_at n p = well_marked (entry_of p (among n marked))

pub marks_shown : T (every well_marked_at 0 table)
unfolding table
marks_shown = tt

-- "the rule is shown for all the others together": one claim, computed over the whole table
pub rule_shown : T (every obeys_at 0 table)
unfolding table
rule_shown = tt
