use mathlib.Core.Path.{refl}
use mathlib.Core.List.{[], ◌∷◌}
use Rattle.decimal.proofs.DigitLaws.{written-more}
use Rattle.phrases.specs.Ascii.{codes}
use Rattle.phrases.specs.Lines.{number_line, spaces}
use Rattle.phrases.proofs.LineTexts.{as_text, one_text}
use Rattle.naming.specs.Names.{field_name}
use Rattle.objections.proofs.LineTexts.{word-text}
use native.Mathlib.Omega.{arith}
use borrow.Author.Rules.{rules}
use Rattle.objections.proofs.told.put_field.Goals as goal

pub put_one-a-requires : goal.put_one-a-requires
unfolding spaces
put_one-a-requires c = search rules

pub returns : goal.returns
unfolding spaces
returns c =
    let a = c.args in (
      as_text (word-text (number_line (codes "field") a.field ∷ []) (codes "field_name") (field_name a.kind a.field))
          (written-more (written-more (written-more (as_text (one_text (codes "field") a.field refl) c.put_one-a.ensures.0) c.put-b.ensures) c.put_field_name-c.ensures.0) c.put_byte.ensures),
      omega (arith, c.put_one-a.ensures.1, c.put-b.ensures.place, c.put_field_name-c.ensures.1, c.put_byte.ensures.place),
    )
