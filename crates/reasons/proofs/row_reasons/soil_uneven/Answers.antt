use Rattle.reasons.proofs.Rows.{soil_there}
use Rattle.reasons.proofs.row_reasons.soil_uneven.Goals as goal

pub returns : goal.returns
returns c =
    soil_there c.args.bytes.now c.args.place c.requires.place_bound.1 c.row_named-row.ensures c.row_start.ensures c.two_at-soil.ensures.0 c.areas_of-sums.ensures
