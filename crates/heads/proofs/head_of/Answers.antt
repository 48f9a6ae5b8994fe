use native.Mathlib.Omega.{arith}
use mathlib.Core.Path.{sym, ◌∙◌}
use Rattle.heads.proofs.HeadLaws.{found_few, head_none, head_by_fields}
use Rattle.heads.proofs.head_of.Goals as goal

pub returns-in-None : goal.returns-in-None
returns-in-None c = head_none c.args.n c.args.line.now (sym c.in-None.is ∙ c.separator_in.ensures)

pub overflow_cast-fields : goal.overflow_cast-fields
overflow_cast-fields c = omega (arith, c.requires, c.found-fields.ensures, found_few c.in-Some.sep c.args.line.now)

pub returns-in-Some : goal.returns-in-Some
returns-in-Some c =
    let a = c.args in
    c.head_by.ensures ∙ head_by_fields a.n a.line.now (sym c.in-Some.is ∙ c.separator_in.ensures) c.found-fields.ensures c.edition_in.ensures
