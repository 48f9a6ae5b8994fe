use mathlib.Core.Path.{ap}
use mathlib.Core.Bool.{not}
use lib.Dec.{eqb}
use Rattle.form.specs.Sums.{uneven}
use Rattle.areas.specs.declared.Areas.{Areas}
use Rattle.areas.proofs.is_uneven.Goals as goal

pub returns : goal.returns
unfolding uneven
returns c = ap (λ (a : Areas). not (eqb a.now a.then)) c.add_areas-sums.ensures
