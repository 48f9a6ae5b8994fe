use mathlib.Core.Path.{◌≡◌, ap, ◌∙◌}
use Prim.Native.Nat.{◌+◌}
use native.Mathlib.Omega.{arith}
use Rattle.wide.specs.Numbers.{value}
use Rattle.wide.proofs.Laws.{value_words}
use Rattle.totals.specs.declared.Carbon.{Carbon}
use Rattle.units.specs.Columns.{sum_of_both, co2_of}
use Rattle.ledger.specs.Derived.{conversion_of}
use Rattle.ledger.proofs.work_conversion.Goals as goal

-- a sum's number
number : {r : Carbon} (a b : Carbon) → r ≡ sum_of_both a b → value r.0 ≡ value a.0 + value b.0
number a b e = ap (λ (x : Carbon). value x.0) e ∙ (value_words (value a.0 + value b.0)).number

pub plus-requires : goal.plus-requires
plus-requires c =
    omega (arith, c.requires.onsite, c.requires.offsite, c.requires.decay, number c.args.g.onsite c.args.g.offsite c.plus-r.ensures)

pub co2_of-co2-requires : goal.co2_of-co2-requires
co2_of-co2-requires c =
    let g = c.args.g in
    omega (arith, c.requires.onsite, c.requires.offsite, c.requires.decay, number g.onsite g.offsite c.plus-r.ensures, number c.plus-r.result g.decay c.plus.ensures)

pub returns : goal.returns
unfolding conversion_of
returns c =
    let g = c.args.g in
    let r = c.plus-r.ensures in
    let co2 = c.co2_of-co2.ensures ∙ ap co2_of (c.plus.ensures ∙ ap (λ (x : Carbon). sum_of_both x g.decay) r) in
    λ i. record { onsite = g.onsite; offsite = g.offsite; r = r i; decay = g.decay; co2 = co2 i }
