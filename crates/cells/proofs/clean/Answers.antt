use mathlib.Core.Path.{ap, ◌∙◌}
use native.Mathlib.Omega.{arith}
use Rattle.cells.specs.Cells.{end_off, quotes_off}
use Rattle.cells.proofs.clean.Goals as goal

pub returns : goal.returns
returns c =
    let u = c.unquote.ensures in
    let b = c.back-b.ensures in
    let f = c.front-a.ensures in
    record {
      starts = omega (arith, f.0, u.starts);
      ordered = u.ordered;
      ends = omega (arith, u.ends, b.1);
      cell = u.cell ∙ ap quotes_off (b.2 ∙ ap (end_off _) f.2);
    }
