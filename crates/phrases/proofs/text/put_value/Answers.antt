use Rattle.decimal.proofs.DigitLaws.{written-more}
use Rattle.phrases.proofs.text.put_value.Goals as goal

pub returns : goal.returns
returns c =
    written-more c.write_signed-next.ensures c.put_byte.ensures
