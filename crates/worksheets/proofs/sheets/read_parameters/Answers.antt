use mathlib.Core.Path.{ap, sym, ◌∙◌}
use lib.Dec.{lit<}
use Rattle.form.specs.Layout.{parameters_kind}
use Rattle.standing.proofs.Accepted.{few_counted}
use Rattle.standing.proofs.Rows.{Stands, parameter_row}
use Rattle.worksheets.specs.Sheets.{parameters_of}
use Rattle.worksheets.proofs.sheets.read_parameters.Goals as goal

pub first_block-first-requires : goal.first_block-first-requires
first_block-first-requires c =
    (lit< tt, lit< tt, few_counted c.args.bytes.now c.args.c c.requires)

pub parameters_at-requires : goal.parameters_at-requires
parameters_at-requires c = (let row' : Stands c.args.bytes.now parameters_kind 0 c.row_start.result = parameter_row c.args.bytes.now c.args.c c.requires _ _ c.first_block-first.ensures.0 c.row_start.ensures in row').inside

pub returns : goal.returns
returns c = c.parameters_at.ensures ∙ sym (ap parameters_of (let row' : Stands c.args.bytes.now parameters_kind 0 c.row_start.result = parameter_row c.args.bytes.now c.args.c c.requires _ _ c.first_block-first.ensures.0 c.row_start.ensures in row').row)
