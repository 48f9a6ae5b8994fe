use Prim.Native.Nat.{◌≤◌}
use Rattle.form.specs.Sums.{uneven, type_of}
use Rattle.areas.specs.Areas.{soils_in}
use Rattle.areas.proofs.Lowly.{Lowly}
use Rattle.areas.proofs.first_uneven.Given as goal

abbrev pub invariant-loop-j : goal.invariant-loop-j
invariant-loop-j l = (l.j ≤ l.n) × Lowly (type_of (soils_in l.rows)) (uneven (soils_in l.rows)) l.n l.j l.best.soil l.best.row
