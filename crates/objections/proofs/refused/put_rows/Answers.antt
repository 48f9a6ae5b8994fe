use mathlib.Core.Path.{sym, ◌∙◌}
use Rattle.form.proofs.Search.{first_at, first_none}
use Rattle.lists.proofs.Numbers.{good}
use Rattle.phrases.proofs.LineTexts.{as_text}
use Rattle.objections.proofs.Rulings.{of_list, behind-list}
use native.Mathlib.Omega.{arith}
use Rattle.objections.proofs.refused.put_rows.Goals as goal

pub put_bad_list-requires : goal.put_bad_list-requires
put_bad_list-requires c =
    (omega (arith, (first_at _ (sym c.first_bad_list.ensures ∙ c.in-Some.is)).0), c.requires.0, omega (arith, c.requires.1))

pub put_whole-requires : goal.put_whole-requires
put_whole-requires c =
    record { good = good _ _ _ (first_none _ (sym c.first_bad_list.ensures ∙ c.in-None.is)); at_in_bounds = omega (arith, c.requires.1) }

pub returns-in-Some : goal.returns-in-Some
returns-in-Some c =
    let a = c.args in (
      as_text (of_list a.text.now a.edition a.lengths.now a.area.now (sym c.first_bad_list.ensures ∙ c.in-Some.is)) c.put_bad_list.ensures.0,
      omega (arith, c.put_bad_list.ensures.1),
    )

pub returns-in-None : goal.returns-in-None
returns-in-None c =
    let a = c.args in (
      as_text (behind-list a.text.now a.edition a.lengths.now a.area.now (sym c.first_bad_list.ensures ∙ c.in-None.is)) c.put_whole.ensures.0,
      omega (arith, c.put_whole.ensures.1),
    )
