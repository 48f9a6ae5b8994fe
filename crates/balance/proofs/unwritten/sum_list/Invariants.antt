use Prim.Native.Nat.{◌*◌, ◌^◌, ◌≤◌}
use Rattle.form.specs.Records.{rows_below}
use Rattle.form.specs.Sums.{sum_of}
use Rattle.filing.specs.Lists.{filed_list}
use Rattle.wide.specs.Numbers.{value, Is}
use Rattle.balance.specs.Wood.{wood_part}
use Rattle.balance.proofs.unwritten.sum_list.Given as goal

abbrev pub invariant-loop-j : goal.invariant-loop-j
invariant-loop-j l = (l.j ≤ l.n) × Is l.sum (sum_of (wood_part l.kind) (rows_below (filed_list l.kind l.rows) l.kind l.j)) × (value l.sum ≤ l.j * 2 ^ 96)
