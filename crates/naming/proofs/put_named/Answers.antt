use mathlib.Core.Path.{refl, ap}
use mathlib.Core.List.{[], ◌∷◌}
use Rattle.phrases.specs.Ascii.{codes}
use Rattle.phrases.specs.Lines.{number_line, lines_text, spaces}
use Rattle.phrases.proofs.LineTexts.{as_text, more-text, one_text}
use Rattle.naming.specs.RowLines.{place_lines}
use Rattle.naming.proofs.Texts.{with_id}
use native.Mathlib.Omega.{arith}
use borrow.Author.Rules.{rules}
use Rattle.naming.proofs.put_named.Goals as goal

pub put_one-requires : goal.put_one-requires
unfolding spaces
put_one-requires c =
    (search rules, omega (arith, c.put_place-next.ensures.1, c.requires))

pub returns : goal.returns
unfolding spaces
returns c =
    let w = c.args.row in
    let id = as_text (one_text (codes "id") w.id refl) c.put_one.ensures.0 in (
      as_text (ap lines_text (with_id w c.if-row-eq4.false)) (more-text (place_lines w) (number_line (codes "id") w.id ∷ []) c.put_place-next.ensures.0 id),
      omega (arith, c.put_place-next.ensures.1, c.put_one.ensures.1),
    )
