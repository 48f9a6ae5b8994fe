use mathlib.Core.Path.{refl, sym}
use mathlib.Core.List.{[], ◌∷◌}
use native.Mathlib.Nat.{add-zero}
use Rattle.phrases.specs.Ascii.{codes}
use Rattle.phrases.specs.Lines.{number_line, spaces, lines_text}
use Rattle.phrases.proofs.LineTexts.{as_text, more-text, two_text}
use Rattle.naming.specs.RowLines.{place_lines, named_lines, limit_lines, fractions_lines, soil_lines, trees_lines}
use Rattle.naming.proofs.Texts.{no_lines}
use native.Mathlib.Omega.{arith}
use borrow.Author.Rules.{rules}
use Rattle.naming.proofs.put_row.Goals as goal

pub put_two-requires : goal.put_two-requires
unfolding spaces
put_two-requires c =
    (search rules, omega (arith, c.put_place-next.ensures.1, c.requires))

pub put_two-requires-in-ScatteredTrees : goal.put_two-requires-in-ScatteredTrees
unfolding spaces
put_two-requires-in-ScatteredTrees c =
    (search rules, omega (arith, c.put_named-next-in-ScatteredTrees.ensures.1, c.requires))

pub returns-in-IdBelow : goal.returns-in-IdBelow
unfolding spaces
returns-in-IdBelow c =
    let row = c.in-IdBelow.row in
    let x = c.in-IdBelow.before in
    let two = as_text (two_text (codes "id_before") (codes "id") x row.id refl) c.put_two.ensures.0 in (
      rw c.in-IdBelow.is (more-text (place_lines row) (number_line (codes "id_before") x ∷ number_line (codes "id") row.id ∷ []) c.put_place-next.ensures.0 two),
      omega (arith, c.put_place-next.ensures.1, c.put_two.ensures.1),
    )

pub returns-in-FieldAbove : goal.returns-in-FieldAbove
returns-in-FieldAbove c =
    let r = c.in-FieldAbove in
    let clash = limit_lines r.row.kind r.field r.value r.limit in (
      rw r.is (more-text (named_lines r.row) clash c.put_named-next.ensures.0 c.put_limit.ensures.0),
      omega (arith, c.put_named-next.ensures.1, c.put_limit.ensures.1),
    )

pub returns-in-FractionsAbove : goal.returns-in-FractionsAbove
returns-in-FractionsAbove c =
    let r = c.in-FractionsAbove in
    let clash = fractions_lines r.onsite r.offsite r.decay r.sum in (
      rw r.is (more-text (named_lines r.row) clash c.put_named-next-in-FractionsAbove.ensures.0 c.put_fractions.ensures.0),
      omega (arith, c.put_named-next-in-FractionsAbove.ensures.1, c.put_fractions.ensures.1),
    )

pub returns-in-SoilUneven : goal.returns-in-SoilUneven
returns-in-SoilUneven c =
    let r = c.in-SoilUneven in
    let clash = soil_lines r.soil r.now r.then in (
      rw r.is (more-text (named_lines r.row) clash c.put_named-next-in-SoilUneven.ensures.0 c.put_soil.ensures.0),
      omega (arith, c.put_named-next-in-SoilUneven.ensures.1, c.put_soil.ensures.1),
    )

pub returns-in-ScatteredTrees : goal.returns-in-ScatteredTrees
unfolding spaces
returns-in-ScatteredTrees c =
    let r = c.in-ScatteredTrees in
    let code = r.code in
    let edition = r.edition in
    let two = as_text (two_text (codes "unit_code") (codes "edition") code edition refl) c.put_two-in-ScatteredTrees.ensures.0 in (
      rw r.is (more-text (named_lines r.row) (trees_lines code edition) c.put_named-next-in-ScatteredTrees.ensures.0 two),
      omega (arith, c.put_named-next-in-ScatteredTrees.ensures.1, c.put_two-in-ScatteredTrees.ensures.1),
    )

pub returns-in_default : goal.returns-in_default
unfolding lines_text
returns-in_default c =
    let a = c.args in
    (rw (no_lines a.reason c.in_default.in_default-own.keys6) (record { room = refl; place = sym (add-zero a.at) }), omega arith)
