use Rattle.std.proofs.Common.{rules, ◌≡◌, ◌∙◌, List, ℕ, ap, arith, lit≤}
use Rattle.form.specs.Layout.{harvest, row_at}
use Rattle.form.specs.Verdict.{rows}
use Rattle.form.proofs.EachKind.{kinds_are}
use Rattle.wide.specs.Numbers.{value}
use Rattle.totals.specs.Laws.{amounts}
use Rattle.totals.specs.Masses.{dry_matter}
use Rattle.totals.specs.declared.DryMatter.{DryMatter}
use Rattle.form.specs.Sums.{harvest_part}
use Rattle.totals.proofs.Limits.{harvest-below}
use Rattle.totals.proofs.RowSums.{mass_of_sum}
use Rattle.sums.proofs.sum_harvest.Goals as goal

pub sum_rows-requires-clause-known : goal.sum_rows-requires-clause-known
sum_rows-requires-clause-known c = (lit≤ tt, omega (arith, kinds_are))

pub sum_rows-requires-clause-small : goal.sum_rows-requires-clause-small
sum_rows-requires-clause-small c = λ at t w p.
    let r = row_at harvest c.args.bytes.now at in
    let e : t ≡ dry_matter (harvest_part r) = search rules in
    omega (arith, ap (λ (m : DryMatter). value m.0) e, amounts (harvest_part r), harvest-below r w.kept)

pub returns : goal.returns
returns c = c.sum_rows.ensures (λ (r : List ℕ). dry_matter (harvest_part r)) (λ at t w p. search rules) ∙ mass_of_sum dry_matter (λ (m : DryMatter). value m.0) amounts harvest_part (rows 3 c.args.bytes.now)
