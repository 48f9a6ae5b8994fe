use Rattle.reasons.proofs.Rows.{fractions_there}
use Rattle.reasons.proofs.row_reasons.fractions_above.Goals as goal

pub returns : goal.returns
returns c =
    let at = c.row_start-at.ensures in
    let y = c.two_at-offsite.ensures.0 in
    fractions_there c.args.bytes.now c.args.place c.requires.1 c.row_named-row.ensures at c.two_at-onsite.ensures.0 y c.two_at-decay.ensures.0
