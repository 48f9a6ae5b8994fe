use mathlib.Core.Path.{ap, ◌∙◌}
use mathlib.Core.List.{List}
use Prim.Native.Nat.{ℕ, ◌+◌}
use native.Mathlib.Nat.{le_of_lt}
use Rattle.lists.proofs.KindRows.{Part}
use Rattle.areas.specs.Areas.{areas_of}
use Rattle.areas.proofs.Return.{has_seven, soils-part}
use Rattle.areas.proofs.areas_in.Goals as goal

pub slice_bounds-sum-end : goal.slice_bounds-sum-end
slice_bounds-sum-end c = le_of_lt (has_seven c.args.lengths.now c.args.area.now c.requires)

pub length_at-requires : goal.length_at-requires
length_at-requires c = has_seven c.args.lengths.now c.args.area.now c.requires

pub slice_bounds-add_areas-end : goal.slice_bounds-add_areas-end
slice_bounds-add_areas-end c = (let theirs' : let s = c.args in Part s.lengths.now s.area.now 7 c.sum-from.result (c.sum-from.result + c.length_at.result) = soils-part c.args.lengths.now c.args.area.now c.requires c.sum-from.ensures.0 c.length_at.ensures.0 in theirs').inside

pub returns : goal.returns
returns c =
    let s = c.args in
    c.add_areas.ensures ∙ ap (λ (x : List (List ℕ)). areas_of x s.soil) (let theirs' : let s = c.args in Part s.lengths.now s.area.now 7 c.sum-from.result (c.sum-from.result + c.length_at.result) = soils-part c.args.lengths.now c.args.area.now c.requires c.sum-from.ensures.0 c.length_at.ensures.0 in theirs').rows
