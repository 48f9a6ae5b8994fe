use mathlib.Core.Path.{refl, sym, ap, ◌∙◌}
use Rattle.form.specs.Layout.{layout, above_limit}
use Rattle.form.specs.Records.{bad_id, test_numbered}
use Rattle.filing.specs.Lists.{row_of, filed_list}
use Rattle.lists.specs.Rules.{shifted}
use Rattle.lists.proofs.Numbers.{row_of_lem}
use Rattle.lists.proofs.Places.{rows-first}
use borrow.Author.Tests.{ne_eqb}
use Rattle.lists.proofs.first_in.Goals as goal

pub returns-in-5 : goal.returns-in-5
returns-in-5 c =
    let a = c.args in
    let r = a.rows.now in
    rw c.in-5.is (c.first_bad_id.ensures ∙ ap (shifted a.start) (rows-first 5 a.edition a.kind r (bad_id (filed_list a.kind r)) (λ j l. refl)))

pub returns-in-6 : goal.returns-in-6
returns-in-6 c =
    let a = c.args in
    let r = a.rows.now in
    rw c.in-6.is (c.first_above.ensures ∙ ap (shifted a.start) (rows-first 6 a.edition a.kind r (λ j. above_limit (layout a.kind) (row_of a.kind r j)) (λ j l. sym (row_of_lem a.edition (test_numbered 6) a.kind r j l))))

pub returns-in_default : goal.returns-in_default
returns-in_default c =
    let a = c.args in
    let r = a.rows.now in
    c.first_row_in.ensures
    ∙ ap (shifted a.start) (rows-first a.number a.edition a.kind r (λ j. test_numbered a.number a.edition a.kind (row_of a.kind r j))
    (λ j l. rw (ne_eqb a.number 5 c.in_default.in_default-own.rest.0.1) (sym (row_of_lem a.edition (test_numbered a.number) a.kind r j l))))
