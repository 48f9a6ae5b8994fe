use mathlib.Core.Path.{refl}
use Rattle.decimal.proofs.DigitLaws.{written-more}
use Rattle.phrases.specs.Ascii.{codes}
use Rattle.phrases.specs.Lines.{spaces}
use Rattle.phrases.proofs.LineTexts.{as_text, two_text}
use Rattle.naming.proofs.Texts.{place-text}
use native.Mathlib.Omega.{arith}
use borrow.Author.Rules.{rules}
use Rattle.naming.proofs.put_place.Goals as goal

pub put_two-a-requires : goal.put_two-a-requires
unfolding spaces
put_two-a-requires c = (search rules, omega (arith, c.requires))

pub returns : goal.returns
unfolding spaces
returns c =
    let w = c.args.row in
    let two = as_text (two_text (codes "block") (codes "row") _ _ refl) c.put_two-a.ensures.0 in (
      as_text (place-text w _ _ (omega arith) (omega arith))
          (written-more (written-more (written-more two c.put-b.ensures) c.put_kind_name-c.ensures.0) c.put_byte.ensures),
      omega (arith, c.put_two-a.ensures.1, c.put-b.ensures.place, c.put_kind_name-c.ensures.1, c.put_byte.ensures.place),
    )
