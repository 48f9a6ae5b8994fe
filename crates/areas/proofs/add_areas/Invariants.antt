use Prim.Native.Nat.{◌*◌, ◌^◌, ◌≤◌}
use mathlib.Core.Path.{◌≡◌}
use Rattle.form.specs.Records.{rows_below}
use Rattle.filing.specs.Lists.{filed_list}
use Rattle.areas.specs.Areas.{areas_of}
use Rattle.areas.proofs.add_areas.Given as goal

abbrev pub invariant-loop-j : goal.invariant-loop-j
invariant-loop-j l = (l.j ≤ l.n) × (l.sums ≡ areas_of (rows_below (filed_list 7 l.rows) 7 l.j) l.soil) × (l.sums.now ≤ 2 ^ 32 * l.j) × (l.sums.then ≤ 2 ^ 32 * l.j)
