-- The code's marks, tried once against the list of marked entries.
use Rattle.entries52.specs.declared.figures.TheConstants.{MARKED}
use Rattle.entries52.proofs.Laws.{mark_told}
use Rattle.entries52.proofs.marked_at.Goals as goal

pub returns : goal.returns
returns c = mark_told MARKED c.args.n tt c.requires
