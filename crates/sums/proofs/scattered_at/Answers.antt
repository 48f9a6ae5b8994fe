use Rattle.sums.proofs.Parts.{code_byte}
use Rattle.sums.proofs.scattered_at.Goals as goal

pub returns : goal.returns
returns c =
    (code_byte c.args.bytes.now c.args.at c.byte_at.ensures.0 c.where_same.ensures.0, c.where_same.ensures.1)
