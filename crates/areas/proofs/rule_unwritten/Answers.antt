use mathlib.Core.Path.{◌∙◌}
use Prim.Native.Nat.{◌+◌}
use lib.ListN.{length-take}
use native.Mathlib.Nat.{le_of_lt}
use Rattle.lists.proofs.KindRows.{Part}
use Rattle.areas.proofs.Places.{part_few}
use Rattle.areas.proofs.Return.{has_seven, soils-part, lists-ruling}
use native.Mathlib.Omega.{arith}
use Rattle.areas.proofs.rule_unwritten.Goals as goal

pub slice_bounds-sum-end : goal.slice_bounds-sum-end
slice_bounds-sum-end c = le_of_lt (has_seven c.args.lengths.now c.args.area.now c.requires)

pub length_at-requires : goal.length_at-requires
length_at-requires c = has_seven c.args.lengths.now c.args.area.now c.requires

pub blocks_in-requires : goal.blocks_in-requires
blocks_in-requires c =
    let l = c.args.lengths.now in
    (omega (arith, length-take 6 l, c.requires.each), part_few 6 l c.requires.few)

pub slice_bounds-rule_from-end : goal.slice_bounds-rule_from-end
slice_bounds-rule_from-end c = (let theirs' : let s = c.args in Part s.lengths.now s.area.now 7 c.sum-from.result (c.sum-from.result + c.length_at.result) = soils-part c.args.lengths.now c.args.area.now c.requires c.sum-from.ensures.0 c.length_at.ensures.0 in theirs').inside

pub returns : goal.returns
returns c =
    c.rule_from.ensures
    ∙ lists-ruling c.args.lengths.now c.args.area.now c.requires c.sum-from.ensures.0 c.length_at.ensures.0 c.blocks_in.ensures.0
