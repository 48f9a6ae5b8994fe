use mathlib.Core.Path.{ap}
use lib.ListN.{length}
use Rattle.decimal.proofs.DigitLaws.{written-more}
use Rattle.phrases.proofs.LineTexts.{as_text}
use Rattle.wording.proofs.Texts.{word-short, word-text}
use native.Mathlib.Omega.{arith}
use Rattle.wording.proofs.put_fault_word.Goals as goal

pub put-b-requires : goal.put-b-requires
put-b-requires c =
    omega (arith, c.requires, word-short c.args.f, ap length c.word_of.ensures, c.put-a.ensures.place, c.put-a.auto.out)

pub put_byte-requires : goal.put_byte-requires
put_byte-requires c =
    omega (arith, c.requires, word-short c.args.f, ap length c.word_of.ensures, c.put-a.ensures.place, c.put-a.auto.out, c.put-b.ensures.place, c.put-b.auto.out)

pub returns : goal.returns
returns c =
    let f = c.args.f in (
      as_text (word-text f _ c.word_of.ensures) (written-more (written-more c.put-a.ensures c.put-b.ensures) c.put_byte.ensures),
      omega (arith, word-short f, ap length c.word_of.ensures, c.put-a.ensures.place, c.put-b.ensures.place, c.put_byte.ensures.place),
    )
