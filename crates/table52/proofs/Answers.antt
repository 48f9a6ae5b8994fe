-- What the lookup answers, test by test. Assumes nothing.
--     no_country, no_zone, found    the three answers, by the country's and the zone's number; found_entry, an entry that is found is the table's
--     zero-rate, blank_rate     a blank rate beside two equal areas, and beside others
--     told_one        a figure is known from its two numbers in lent room
--     room-kept       the room after anything but an answer
use Rattle.std.specs.Prelude.{Option, Some, None, Result, Ok, Err}
use Prim.Native.Nat.{ℕ, ◌+◌, ◌*◌, ◌≤◌, ◌<◌}
use mathlib.Core.Path.{◌≡◌, refl, sym, ap}
use mathlib.Core.Bool.{Bool, true, false, cond, false≢true}
use mathlib.Core.List.{List}
use native.Mathlib.Decide.{dec_lt}
use native.Mathlib.Omega.{arith}
use lib.Dec.{ltb}
use lib.IntN.{ℤ, pos, negsuc, nat_abs}
use lib.ListN.{length}
use borrow.Author.Tests.{lt-ltb, le-ltb, eqb-true, eq-eqb}
use Rattle.entries52.specs.declared.Entry.{Entry}
use Rattle.table52.specs.declared.OffTable.{OffTable}
use Rattle.table52.specs.declared.OffTable.TheVariants.{Country, Zone}
use Rattle.table52.specs.declared.lent.NotTold.{NotTold}
use Rattle.table52.specs.declared.lent.NotTold.TheVariants.{Short}
use Rattle.entries52.specs.Table.{countries, zones}
use Rattle.entries52.specs.Entries.{same_number, rate_of, entry_at}
use Rattle.table52.specs.Lookup.{looked_up}
use Rattle.table52.specs.Lent.{given_of, number_of, with_entry, told_of, room_after}

module _ (country zone : ℕ) where
  pub no_country : countries ≤ country → looked_up country zone ≡ Err Country
  unfolding looked_up
  no_country h = rw (le-ltb _ _ h)

  pub no_zone : country < countries → zones ≤ zone → looked_up country zone ≡ Err Zone
  unfolding looked_up
  no_zone h z = rw (lt-ltb _ _ h, le-ltb _ _ z)

  pub found : country < countries → zone < zones → looked_up country zone ≡ Ok (entry_at (zones * country + zone))
  unfolding looked_up
  found h z = rw (lt-ltb _ _ h, lt-ltb _ _ z)

  pub found_entry : (e : Entry) → looked_up country zone ≡ Ok e → e ≡ entry_at (zones * country + zone)
  found_entry e a = go (dec_lt country countries) (dec_lt zone zones)
    where
      go : Dec (country < countries) → Dec (zone < zones) → e ≡ entry_at (zones * country + zone)
      go (yes h) (yes z) = let f = found h z in cc (a, f)
      go (yes h) (no z) = let n = no_zone h (omega arith) in cc (a, n)
      go (no h) z = let n = no_country (omega arith) in cc (a, n)

-- ---- a blank rate
same_equal : (a b : ℤ) → same_number a b ≡ true → a ≡ b
same_equal (pos a) (pos b) e = ap pos (eqb-true a b e)
same_equal (negsuc a) (negsuc b) e = ap negsuc (eqb-true a b e)
same_equal (pos a) (negsuc b) e = absurd (false≢true e)
same_equal (negsuc a) (pos b) e = absurd (false≢true e)

equal_same : (a : ℤ) → same_number a a ≡ true
equal_same (pos a) = eq-eqb a a refl
equal_same (negsuc a) = eq-eqb a a refl

pub zero-rate : (f g h : Option ℤ) (a : ℤ) → h ≡ None → f ≡ Some a → g ≡ Some a → rate_of f g h ≡ Some (pos 0)
zero-rate f g h a e p q = rw (e, p, q, equal_same a)

pub blank_rate : (f g h : Option ℤ) → h ≡ None → ((a : ℤ) → f ≡ Some a → g ≡ Some a → ⊥) → rate_of f g h ≡ None
blank_rate (Some a) (Some b) h e n = rw e (unlike (same_number a b) refl)
  where
    unlike : (t : Bool) → same_number a b ≡ t → cond t (Some (pos 0)) None ≡ None
    unlike true e = absurd (n a refl (ap Some (sym (same_equal a b e))))
    unlike false e = refl
blank_rate (Some a) None h e n = rw e
blank_rate None g h e n = rw e

-- ---- in lent room
one_zero : pos 1 ≡ pos 0 → ⊥
one_zero e = let z : ◌≡◌ {A = ℕ} 1 0 = ap nat_abs e in omega arith

pub told_one : (f g : Option ℤ) → given_of f ≡ given_of g → number_of f ≡ number_of g → f ≡ g
told_one (Some a) (Some b) e n = ap Some n
told_one (Some a) None e n = absurd (one_zero e)
told_one None (Some b) e n = absurd (one_zero (sym e))
told_one None None e n = refl

pub room-kept : (l : Result Entry OffTable) (room : List ℤ) → (told_of l room ≡ Ok tt → ⊥) → room_after l room ≡ room
room-kept (Ok e) room n = kept (ltb (length room) 7) n
  where
    kept : (t : Bool) → (◌≡◌ {A = Result (Unit {0}) NotTold} (cond t (Err Short) (Ok tt)) (Ok tt) → ⊥) → cond t room (with_entry e room) ≡ room
    kept true n = refl
    kept false n = absurd (n refl)
room-kept (Err off) room n = refl
