use Rattle.std.proofs.Common.{rules, ◌≡◌, ◌∙◌, List, ℕ, ap, arith, lit≤}
use Rattle.form.specs.Layout.{conversion, row_at}
use Rattle.form.specs.Verdict.{rows}
use Rattle.form.proofs.EachKind.{kinds_are}
use Rattle.wide.specs.Numbers.{value}
use Rattle.totals.specs.Laws.{amounts}
use Rattle.totals.specs.Masses.{dry_matter}
use Rattle.totals.specs.declared.DryMatter.{DryMatter}
use Rattle.form.specs.Sums.{cleared_part}
use Rattle.totals.proofs.Limits.{cleared-below}
use Rattle.totals.proofs.RowSums.{mass_of_sum}
use Rattle.sums.proofs.sum_cleared.Goals as goal

pub sum_rows-requires-clause-known : goal.sum_rows-requires-clause-known
sum_rows-requires-clause-known c = (lit≤ tt, omega (arith, kinds_are))

pub sum_rows-requires-clause-small : goal.sum_rows-requires-clause-small
sum_rows-requires-clause-small c = λ at t w p.
    let r = row_at conversion c.args.bytes.now at in
    let e : t ≡ dry_matter (cleared_part r) = search rules in
    omega (arith, ap (λ (m : DryMatter). value m.0) e, amounts (cleared_part r), cleared-below r w.kept)

pub returns : goal.returns
returns c = c.sum_rows.ensures (λ (r : List ℕ). dry_matter (cleared_part r)) (λ at t w p. search rules) ∙ mass_of_sum dry_matter (λ (m : DryMatter). value m.0) amounts cleared_part (rows 1 c.args.bytes.now)
