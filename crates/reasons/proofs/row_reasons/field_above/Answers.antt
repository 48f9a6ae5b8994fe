use Rattle.reasons.proofs.Rows.{limit_there}
use Rattle.reasons.proofs.row_reasons.field_above.Goals as goal

pub returns : goal.returns
returns c =
    limit_there c.args.bytes.now c.args.place c.row_named-row.ensures c.row_start.ensures c.first_above-above.ensures
