use Rattle.std.proofs.Common.{rules, ◌≡◌, ◌∙◌, List, ℕ, ap, arith, lit≤}
use Rattle.form.specs.Layout.{abandoned, row_at}
use Rattle.form.specs.Verdict.{rows}
use Rattle.form.proofs.EachKind.{kinds_are}
use Rattle.wide.specs.Numbers.{value}
use Rattle.totals.specs.Laws.{amounts}
use Rattle.totals.specs.Masses.{carbon}
use Rattle.totals.specs.declared.Carbon.{Carbon}
use Rattle.totals.specs.Abandoned.{abandoned_part}
use Rattle.totals.proofs.Limits.{abandoned-below}
use Rattle.totals.proofs.RowSums.{mass_of_sum}
use Rattle.sums.proofs.sum_abandoned.Goals as goal

pub sum_rows-requires-clause-known : goal.sum_rows-requires-clause-known
sum_rows-requires-clause-known c = (lit≤ tt, omega (arith, kinds_are))

pub sum_rows-requires-clause-small : goal.sum_rows-requires-clause-small
sum_rows-requires-clause-small c = λ at t w p.
    let r = row_at abandoned c.args.bytes.now at in
    let e : t ≡ carbon (abandoned_part r) = search rules in
    omega (arith, ap (λ (m : Carbon). value m.0) e, amounts (abandoned_part r), abandoned-below r w.kept)

pub returns : goal.returns
returns c = c.sum_rows.ensures (λ (r : List ℕ). carbon (abandoned_part r)) (λ at t w p. search rules) ∙ mass_of_sum carbon (λ (m : Carbon). value m.0) amounts abandoned_part (rows 5 c.args.bytes.now)
