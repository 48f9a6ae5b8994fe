use mathlib.Core.Path.{ap, ◌∙◌}
use native.Mathlib.Omega.{arith}
use Rattle.cells.specs.Cells.{cleaned}
use Rattle.cells.proofs.next_field.Goals as goal

pub returns : goal.returns
returns c =
    let p = c.past-next.ensures in
    let k = c.clean-cell.ensures in
    let e = c.end_of-end.ensures in
    record {
      ordered = k.ordered;
      inside = omega (arith, p.0, k.ends, e.inside);
      onward = λ l. omega (arith, l, p.0, e.ordered);
      within = omega (arith, p.0);
      cell = k.cell ∙ ap (cleaned _) e.field;
      rest = p.1 ∙ e.rest;
    }
