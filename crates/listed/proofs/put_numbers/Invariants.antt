use Prim.Native.Nat.{◌*◌}
use mathlib.Core.Path.{◌≡◌}
use mathlib.Core.List.{flat_map}
use lib.ListN.{length, take}
use Rattle.decimal.specs.Digits.{WrittenAt}
use Rattle.listed.specs.Listed.{listed, values_of, numbers_in}
use Rattle.listed.proofs.put_numbers.Given as goal

-- Figure after figure. Assumes nothing.
abbrev pub invariant-loop-value : goal.invariant-loop-value
invariant-loop-value l =
    (l.at ≡ 3 * l.value-index) × (length l.room ≡ length l.initial.room)
    × (l.value-items ≡ values_of (listed l.fn.f) → WrittenAt (flat_map numbers_in (take l.value-index (listed l.fn.f))) l.initial.room l.room 0 l.at)
