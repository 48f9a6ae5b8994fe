use Rattle.std.proofs.Common.{rules, ◌≡◌, ◌∙◌, ◌^◌, List, ℕ, sym, subst, lit≤}
use Rattle.form.specs.Layout.{conversion, row_at}
use Rattle.form.specs.Verdict.{rows}
use Rattle.form.proofs.EachKind.{one_kind}
use Rattle.totals.specs.Sums.{parts_of, row_totals, TotalsMost, totals_of}
use Rattle.totals.proofs.Masses.{row_small, one_row, no_rows}
use Rattle.totals.proofs.RowSums.{comes_to}
use Rattle.totals.proofs.sum_conversion.Goals as goal

pub sum_rows-requires-clause-known : goal.sum_rows-requires-clause-known
sum_rows-requires-clause-known c = (lit≤ tt, one_kind)

pub sum_rows-requires-clause-small : goal.sum_rows-requires-clause-small
sum_rows-requires-clause-small c = λ at t w p.
    let e : t ≡ row_totals (parts_of (row_at conversion c.args.bytes.now at)) = search rules in
    subst (TotalsMost (2 ^ 64)) (sym e) (row_small (row_at conversion c.args.bytes.now at) w.kept)

pub returns : goal.returns
returns c =
    c.sum_rows.ensures (λ (r : List ℕ). row_totals (parts_of r)) (λ at t w p. search rules) ∙ comes_to _ _ totals_of (rows 1 c.args.bytes.now) no_rows (one_row (rows 1 c.args.bytes.now))
