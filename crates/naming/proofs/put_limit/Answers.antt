use mathlib.Core.Path.{refl}
use Rattle.decimal.proofs.DigitLaws.{written-more}
use Rattle.phrases.specs.Ascii.{codes}
use Rattle.phrases.specs.Lines.{spaces}
use Rattle.phrases.proofs.LineTexts.{as_text, one_text, two_text}
use Rattle.naming.proofs.Texts.{limit_text}
use native.Mathlib.Omega.{arith}
use borrow.Author.Rules.{rules}
use Rattle.naming.proofs.put_limit.Goals as goal

pub put_one-a-requires : goal.put_one-a-requires
unfolding spaces
put_one-a-requires c = (search rules, omega (arith, c.requires))

pub put_two-requires : goal.put_two-requires
unfolding spaces
put_two-requires c = (
  search rules,
  omega (
    arith,
    c.requires,
    c.put_one-a.ensures.1,
    c.put-b.ensures.place,
    c.put_field_name-c.ensures.1,
    c.put_byte-d.ensures.place,
    c.put_one-a.auto.out,
    c.put-b.auto.out,
    c.put_field_name-c.auto.out,
    c.put_byte-d.auto.out,
  ),
)

pub returns : goal.returns
unfolding spaces
returns c =
    let a = c.args in (
      as_text (limit_text a.kind a.field a.value a.limit)
          (written-more (written-more (written-more (written-more (as_text (one_text (codes "field") a.field refl) c.put_one-a.ensures.0) c.put-b.ensures) c.put_field_name-c.ensures.0) c.put_byte-d.ensures)
          (as_text (two_text (codes "value") (codes "limit") a.value a.limit refl) c.put_two.ensures.0)),
      omega (arith, c.put_one-a.ensures.1, c.put-b.ensures.place, c.put_field_name-c.ensures.1, c.put_byte-d.ensures.place, c.put_two.ensures.1),
    )
