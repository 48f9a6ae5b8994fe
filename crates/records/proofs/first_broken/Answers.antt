use mathlib.Core.Path.{sym, ap, ◌∙◌}
use Rattle.std.specs.Prelude.{Some}
use Rattle.form.proofs.Search.{first-zero, first_at, part_none, part_found}
use borrow.Author.Rules.{rules}
use Rattle.records.proofs.first_broken.Goals as goal

pub loop-b-init : goal.loop-b-init
loop-b-init c = (search rules, first-zero _)

pub place-requires : goal.place-requires
place-requires c = (search rules, (first_at _ (sym c.in-Some.ensures)).0)

pub returns-in-Some : goal.returns-in-Some
returns-in-Some c =
    ap Some c.place.ensures
    ∙ sym (part_found _ 12 _ c.loop-b.invariant.1 _ _ (sym c.in-Some.ensures) (search rules))

pub loop-b-preserved : goal.loop-b-preserved
loop-b-preserved c =
    (search rules, part_none _ 12 _ c.loop-b.invariant.1 (sym c.in_default.ensures))
