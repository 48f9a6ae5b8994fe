-- The rule of the rates, of whatever the lookup answers. Assumes nothing.
use Rattle.std.specs.Prelude.{Some, Result, Ok, Err}
use Prim.Native.Nat.{ℕ, ◌+◌, ◌*◌, ◌≤◌, ◌<◌}
use mathlib.Core.Path.{◌≡◌, refl, subst}
use mathlib.Core.Bool.{Bool, true, false, cond}
use native.Mathlib.Omega.{arith}
use lib.Dec.{T, ltb, leb→le}
use lib.IntN.{ℤ}
use lib.ListN.{length}
use borrow.Author.Tests.{ltb-true}
use Rattle.table52.specs.declared.OffTable.{OffTable}
use Rattle.table52.specs.declared.OffTable.TheVariants.{Country, Zone}
use Rattle.entries52.specs.declared.Entry.{Entry}
use Rattle.entries52.specs.Table.{table, none, countries, zones, entries}
use Rattle.entries52.specs.Entries.{entry_at}
use Rattle.table52.specs.Lookup.{looked_up}
use Rattle.entries52.specs.Rule.{deviation, obeys, obeys_at, rule_shown}
use Rattle.entries52.proofs.Laws.{at}

abbrev obeys_answer : Result Entry OffTable → Bool
obeys_answer (Ok e) = obeys e
obeys_answer (Err off) = true

in_table : (n : ℕ) → n < entries → n < length table
unfolding table
in_table n h = h

by_tests :
    (country zone : ℕ) (p q : Bool) → ltb country countries ≡ p → ltb zone zones ≡ q →
    T (obeys_answer (cond p (cond q (Ok (entry_at (zones * country + zone))) (Err Zone)) (Err Country)))
by_tests country zone false q e f = tt
by_tests country zone true false e f = tt
by_tests country zone true true e f =
    let c : country < countries = ltb-true _ _ e in
    let z : zone < zones = ltb-true _ _ f in
    let h : zones * country + zone < entries = omega (arith, c, z) in
    at obeys_at none table rule_shown (zones * country + zone) (in_table _ h)

answer-obeys : (country zone : ℕ) → T (obeys_answer (looked_up country zone))
unfolding looked_up
answer-obeys country zone = by_tests country zone (ltb country countries) (ltb zone zones) refl refl

-- an answer with all three figures and no mark: ten times the rate differs from the fall in area by at most 6 tenths
pub rule-obeyed :
    (country zone : ℕ) (a b r : ℤ) →
    looked_up country zone ≡ Ok (record { area1980 = Some a; area1990 = Some b; rate = Some r; marked = false }) →
    deviation a b r ≤ 6
rule-obeyed country zone a b r e = leb→le _ _ (subst (λ (l : Result Entry OffTable). T (obeys_answer l)) e (answer-obeys country zone))
