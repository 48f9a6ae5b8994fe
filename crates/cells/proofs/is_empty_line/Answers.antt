use Rattle.std.proofs.Common.{rules, tests, ◌∙◌}
use Rattle.std.proofs.lemmas.Iterator.{YieldsList-from_slice}
use Rattle.std.proofs.lemmas.Iterator.Search.{all_from_yields_List}
use Rattle.cells.specs.Cells.{is_filler}
use Rattle.cells.proofs.WordLaws.{all_fillers}
use Rattle.cells.proofs.is_empty_line.Goals as goal

pub returns : goal.returns
returns c =
    all_from_yields_List is_filler _ _ c.all.result c.all.ensures.ran (YieldsList-from_slice c.args.line.now cc) (λ x b q k. search (rules, tests))
    ∙ all_fillers c.args.line.now
