use mathlib.Core.Path.{refl, ap}
use Rattle.phrases.specs.Ascii.{codes}
use Rattle.phrases.specs.Lines.{lines_text, spaces}
use Rattle.phrases.proofs.LineTexts.{as_text, one_text}
use Rattle.objections.proofs.LineTexts.{edition_told}
use native.Mathlib.Omega.{arith}
use borrow.Author.Rules.{rules}
use Rattle.objections.proofs.refused.put_list.Goals as goal

pub put_one-requires : goal.put_one-requires
unfolding spaces
put_one-requires c = search rules

pub returns-then-place-eq0 : goal.returns-then-place-eq0
unfolding spaces
returns-then-place-eq0 c =
    let a = c.args in (
      as_text (ap lines_text (edition_told a.edition a.lengths.now a.place c.if-place-eq0.true)) (as_text (one_text (codes "edition") a.edition refl) c.put_one.ensures.0),
      omega (arith, c.put_one.ensures.1),
    )
