use mathlib.Core.Path.{ap, ◌∙◌}
use Rattle.cells.specs.Cells.{same_word}
use Rattle.cells.proofs.FieldLaws.{first-begins, cell_is}
use Rattle.heads.specs.Heads.{edition_word}
use Rattle.texts.proofs.names_edition.Goals as goal

pub returns : goal.returns
returns c =
    let l = c.args.line.now in
    let k = c.args.sep in
    c.same_word.ensures ∙ ap (same_word edition_word) (cell_is k l 0 0 (first-begins k l) c.next_field-name.result c.next_field-name.ensures)
