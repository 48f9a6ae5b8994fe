use Prim.Native.Nat.{◌<◌}
use mathlib.Core.Path.{refl}
use mathlib.Core.List.{flat_map}
use lib.ListN.{length}
use native.Mathlib.Omega.{arith}
use Rattle.listed.specs.Listed.{listed}
use Rattle.listed.proofs.Laws.{counted, one_more, all_of}
use Rattle.listed.proofs.put_numbers.Goals as goal

pub loop-value-init : goal.loop-value-init
unfolding flat_map
loop-value-init c = (refl, refl, λ h. record { room = refl; place = refl })

pub loop-value-preserved : goal.loop-value-preserved
loop-value-preserved c =
    let f = c.args.f in
    let below : c.loop-value.value-index < length (listed f) = omega (arith, counted f, c.loop-value-test.true) in (
      omega (arith, c.put_three-at.ensures.1, c.loop-value.invariant.0),
      omega (arith, c.put_three-at.auto.room, c.loop-value.invariant.1),
      λ h. one_more _ (listed f) c.loop-value.value-index h below (c.loop-value.invariant.2 h) c.put_three-at.ensures.0,
    )

pub returns-clause-written_at : goal.returns-clause-written_at
returns-clause-written_at c =
    all_of (listed c.args.f) c.loop-value.value-index (omega (arith, counted c.args.f, c.loop-value-test.false, c.loop-value.auto.value-index-end)) (c.loop-value.invariant.2 c.list-values.ensures.value)

pub put_three-at-requires : goal.put_three-at-requires
put_three-at-requires c =
    omega (arith, c.requires, c.loop-value.invariant.0, c.loop-value.invariant.1, c.loop-value-test.true)
