use Rattle.decimal.proofs.DigitLaws.{written-more}
use Rattle.national.proofs.Pieces.{as_stop}
use Rattle.national.proofs.parts.put_why.Goals as goal

pub returns : goal.returns
returns c =
    let a = c.args in
    as_stop a.position a.why.now _ c.plain.ensures.number (written-more (written-more c.put-a.ensures c.put_value-b.ensures) c.put.ensures)
