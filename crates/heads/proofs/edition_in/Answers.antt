use mathlib.Core.Path.{ap, ◌∙◌}
use mathlib.Core.Bool.{false}
use Rattle.cells.proofs.FieldLaws.{first-begins, next-begins, cell_is}
use Rattle.numerals.specs.Numerals.{read_number}
use Rattle.heads.proofs.edition_in.Goals as goal

pub returns : goal.returns
returns c =
    let l = c.args.line.now in
    let k = c.args.sep in
    let w = next-begins k l 0 0 (first-begins k l) c.next_field-word.result c.next_field-word.ensures in
    c.read_number.ensures ∙ ap (read_number false 0) (cell_is k l 1 _ w c.next_field-field.result c.next_field-field.ensures)
