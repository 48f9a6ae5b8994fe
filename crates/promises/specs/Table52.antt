-- §6. "A lookup by country and zone, each numbered from 0 in the document's order without totals, answers the three figures with the mark, or says which is not given.
-- Refusals: country or zone number off the table, in that order." The table itself is table52/specs/Table.
use Rattle.std.specs.Prelude.{ℕ, ◌+◌, ◌*◌, ◌≤◌, ◌<◌, ◌≡◌, refl, Bool, false, List, ℤ, pos, length, get_or, Option, Some, None, Ok, Err}
use Rattle.std.proofs.Common.{sym, ap, subst, ◌∙◌, lt-ltb, le-ltb}
use Rattle.entries52.specs.declared.Entry.{Entry}
use Rattle.table52.specs.declared.OffTable.TheVariants.{Country, Zone}
use Rattle.entries52.specs.Table.{Printed, none, table, countries, zones}
use Rattle.entries52.specs.Entries.{entry_of, entry_at}
use Rattle.table52.specs.Lookup.{looked_up}
use Rattle.entries52.specs.Rule.{deviation}
use Rattle.table52.specs.Lent.{given_of, number_of, with_entry}
use Rattle.table52.proofs.Answers.{no_country, no_zone, found, found_entry, zero-rate, blank_rate, told_one, room-kept}
use Rattle.table52.proofs.Rule.{rule-obeyed}
use Rattle.door.specs.Table.{table_code, table_call, table_after}

-- ---- the answer, for every country's and zone's number
pub country_off : (country zone : ℕ) → countries ≤ country → looked_up country zone ≡ Err Country
country_off = no_country

pub zone_off : (country zone : ℕ) → country < countries → zones ≤ zone → looked_up country zone ≡ Err Zone
zone_off = no_zone

pub looked_up_lem : (country zone : ℕ) → country < countries → zone < zones → looked_up country zone ≡ Ok (entry_at (zones * country + zone))
looked_up_lem = found

-- ---- the figures are the printed ones: "A blank rate beside two equal areas is zero; every other blank is 'not given' and never zero"
pub record AsPrinted (p : Printed) (e : Entry) : Type 0 where
  pub area_1980 : e.area1980 ≡ p.area1980
  pub area_1990 : e.area1990 ≡ p.area1990
  pub rate-given : (r : ℤ) → p.rate ≡ Some r → e.rate ≡ Some r
  pub rate-zero : (a : ℤ) → p.rate ≡ None → p.area1980 ≡ Some a → p.area1990 ≡ Some a → e.rate ≡ Some (pos 0)
  pub rate_blank : p.rate ≡ None → ((a : ℤ) → p.area1980 ≡ Some a → p.area1990 ≡ Some a → ⊥) → e.rate ≡ None

-- what is printed of a country in a zone: the table has six zones of each country, one country after the other
abbrev pub printed_at : ℕ → ℕ → Printed
printed_at country zone = get_or table (zones * country + zone) none

printed_entry : (p : Printed) (marked : Bool) → AsPrinted p (entry_of p marked)
printed_entry p marked = record {
  area_1980 = refl;
  area_1990 = refl;
  rate-given = λ r e. rw e;
  rate-zero = λ a. zero-rate p.area1980 p.area1990 p.rate a;
  rate_blank = blank_rate p.area1980 p.area1990 p.rate;
}

-- whatever entry is answered
module _ (country zone : ℕ) (e : Entry) (answer : looked_up country zone ≡ Ok e) where
  pub as_printed : AsPrinted (printed_at country zone) e
  as_printed = subst (AsPrinted (printed_at country zone)) (sym (found_entry country zone e answer)) (printed_entry (printed_at country zone) false)

  -- "Entries of the source that break it are .. marked": none breaks the rule below, and none is marked
  pub none_marked : e.marked ≡ false
  none_marked = ap (λ (x : Entry). x.marked) (found_entry country zone e answer)

  -- "ten times the rate differs from the fall in area by at most 6 tenths": so does every answer with all three figures
  pub rates_fit : (a b r : ℤ) → e.area1980 ≡ Some a → e.area1990 ≡ Some b → e.rate ≡ Some r → deviation a b r ≤ 6
  rates_fit a b r p q t =
      rule-obeyed country zone a b r (answer ∙ ap Ok (λ i. record { area1980 = p i; area1990 = q i; rate = t i; marked = none_marked i }))

-- ---- from C: the country, then the zone, last the room; and the entry's numbers at the front of the room
module _ (country zone : ℕ) (room : List ℤ) where
  pub c_country_off : countries ≤ country → table_code (table_call country zone room) ≡ 1
  c_country_off c = rw (no_country country zone c)

  pub c_zone_off : country < countries → zones ≤ zone → table_code (table_call country zone room) ≡ 2
  c_zone_off c z = rw (no_zone country zone c z)

  pub c_room-short : country < countries → zone < zones → length room < 7 → table_code (table_call country zone room) ≡ 9000
  c_room-short c z r = rw (found country zone c z, lt-ltb _ _ r)

  pub c_looked_up : country < countries → zone < zones → 7 ≤ length room
      → (table_code (table_call country zone room) ≡ 0) × (table_after country zone room ≡ with_entry (entry_at (zones * country + zone)) room)
  c_looked_up c z r = rw (found country zone c z, le-ltb _ _ r) (refl, refl)

  -- "nothing lent has changed"
  pub c_table_unchanged : (table_call country zone room ≡ Ok tt → ⊥) → table_after country zone room ≡ room
  c_table_unchanged n = room-kept (looked_up country zone) room n

-- a figure is known from its two numbers there: none that is given is taken for one that is not
pub told_apart : (f g : Option ℤ) → given_of f ≡ given_of g → number_of f ≡ number_of g → f ≡ g
told_apart = told_one
