-- The code's numbers, read as figures, are the table's own: computed once, over all of them.
use mathlib.Core.Path.{refl, ap, ◌∙◌}
use lib.ListN.{get_or}
use lib.IntN.{pos}
use mir.Syntax.{w32}
use mir.Val.{SFits}
use mir.Facts.{to_z-of_z}
use Rattle.entries52.specs.declared.figures.TheConstants.{FIGURES}
use Rattle.entries52.specs.Table.{table}
use Rattle.entries52.specs.Cells.{cells, figure_of}
use Rattle.entries52.proofs.Laws.{decoded}
use Rattle.entries52.proofs.figure_at.Goals as goal

pub returns : goal.returns
unfolding table
returns c =
    let fits : SFits w32 (get_or FIGURES c.args.at (pos 0)) = record { sfits = c.figure_of-arg-2-1.given } in
    c.figure_of.ensures ∙ ap figure_of (to_z-of_z fits) ∙ decoded FIGURES (cells table) (pos 0) c.args.at refl c.requires
