-- The columns of worksheets 5-1, 5-2 and 5-4 that one substance becomes another by, each from those that it is made of. Every rounded tonne cites the one rule.
use Rattle.std.specs.Prelude.{ℕ, ◌+◌, ◌*◌, ℤ, pos, neg_ℤ, ◌-ℤ◌, ◌*ℤ◌}
use Rattle.wide.specs.Numbers.{value, words_of}
use Rattle.wide.specs.Rounding.{nearest}
use Rattle.wide.specs.Signs.{amount, signed_of, nearest_z}
use Rattle.totals.specs.Masses.{carbon}
use Rattle.totals.specs.declared.DryMatter.{DryMatter}
use Rattle.totals.specs.declared.Carbon.{Carbon}
use Rattle.units.specs.declared.NetDryMatter.{NetDryMatter}
use Rattle.units.specs.declared.NetCarbon.{NetCarbon}
use Rattle.units.specs.declared.NetCo2.{NetCo2}
use Rattle.units.specs.declared.Co2.{Co2}

-- a mass that may be below zero, and tonnes of CO2, by its number
abbrev pub net_dry_matter : ℤ → NetDryMatter
net_dry_matter z = record { 0 = signed_of z }

abbrev pub net_carbon : ℤ → NetCarbon
net_carbon z = record { 0 = signed_of z }

abbrev pub net_co2 : ℤ → NetCo2
net_co2 z = record { 0 = signed_of z }

abbrev pub co2 : ℕ → Co2
co2 n = record { 0 = words_of n }

-- 5-1: "M = 100K - L, signed" (10^-6 kt)
abbrev pub column_m : DryMatter → DryMatter → NetDryMatter
column_m k l = net_dry_matter (pos (100 * value k.0) -ℤ pos (value l.0))

-- "O = M x N (10^-9 kt C)"
abbrev pub column_o : NetDryMatter → ℕ → NetCarbon
column_o m n = net_carbon (amount m.0 *ℤ pos n)

-- "P = 100E - O" (10^-9 kt C)
abbrev pub column_p : Carbon → NetCarbon → NetCarbon
column_p e o = net_carbon (pos (100 * value e.0) -ℤ amount o.0)

-- "Q = 11P / 3,000,000 tonnes CO2, rounded"
abbrev pub column_q : NetCarbon → NetCo2
column_q p = net_co2 (nearest_z (pos 11 *ℤ amount p.0) 3000000)

-- "The reported figure is -Q: emissions are positive." (tonnes CO2)
abbrev pub reported : NetCo2 → NetCo2
reported q = net_co2 (neg_ℤ (amount q.0))

-- 5-2: "R is their sum", of on-site and off-site carbon; and R and decay together
abbrev pub sum_of_both : Carbon → Carbon → Carbon
sum_of_both a b = carbon (value a.0 + value b.0)

-- "CO2 = 11 x (R + decay) / 3,000,000,000 tonnes, rounded", of that carbon
abbrev pub co2_of : Carbon → Co2
co2_of c = co2 (nearest (11 * value c.0) 3000000000)

-- 5-4: "then CO2 by 11/3, rounded once": of an uptake in 10^-7 kt C, 11 times it over 30,000 (tonnes CO2)
abbrev pub uptake_co2 : Carbon → Co2
uptake_co2 u = co2 (nearest (11 * value u.0) 30000)
