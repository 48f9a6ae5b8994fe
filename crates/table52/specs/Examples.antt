-- Answers that the checker computes, one of each kind, and how much of the table is given.
use Rattle.std.specs.Prelude.{ℕ, ◌+◌, ◌≡◌, refl, false, List, [], ◌∷◌, pos, negsuc, length, Option, Some, None, ℤ, Ok, Err}
use Rattle.table52.specs.declared.OffTable.TheVariants.{Country, Zone}
use Rattle.entries52.specs.Table.{Printed, table, entries}
use Rattle.entries52.specs.Entries.{rate_of}
use Rattle.table52.specs.Lookup.{looked_up}

-- Angola, moist with a short dry season
angola : looked_up 0 1 ≡ Ok (record { area1980 = Some (pos 31233); area1990 = Some (pos 29045); rate = Some (pos 219); marked = false })
unfolding looked_up table
angola = refl

-- Rep. C. Africana, very moist: a blank rate beside two equal areas
level : looked_up 5 0 ≡ Ok (record { area1980 = Some (pos 7063); area1990 = Some (pos 7063); rate = Some (pos 0); marked = false })
unfolding looked_up table
level = refl

-- Guatemala, dry montane: the one area that is missing beside two figures
guatemala : looked_up 72 5 ≡ Ok (record { area1980 = Some (pos 240); area1990 = None; rate = Some (pos 24); marked = false })
unfolding looked_up table
guatemala = refl

-- Puerto Rico, moist with a long dry season: a forest that grows, with a rate of -20
puerto_rico : looked_up 83 2 ≡ Ok (record { area1980 = Some (pos 1307); area1990 = Some (pos 1506); rate = Some (negsuc 19); marked = false })
unfolding looked_up table
puerto_rico = refl

-- the last entry, and both numbers off the table, then the zone alone
venezuela : looked_up 89 5 ≡ Ok (record { area1980 = Some (pos 259); area1990 = Some (pos 178); rate = Some (pos 8); marked = false })
unfolding looked_up table
venezuela = refl

no_country : looked_up 90 6 ≡ Err Country
unfolding looked_up
no_country = refl

no_zone : looked_up 89 6 ≡ Err Zone
unfolding looked_up
no_zone = refl

-- 90 countries of 6 zones
whole : length table ≡ entries
unfolding table
whole = refl

-- the entries with all three figures
all_three : Option ℤ → Option ℤ → Option ℤ → ℕ
all_three (Some a) (Some b) (Some r) = 1
all_three (Some a) (Some b) None = 0
all_three (Some a) None r = 0
all_three None b r = 0

full : List Printed → ℕ
full [] = 0
full (p ∷ ps) = all_three p.area1980 p.area1990 (rate_of p.area1980 p.area1990 p.rate) + full ps

counted : full table ≡ 277
unfolding full all_three table
counted = refl
