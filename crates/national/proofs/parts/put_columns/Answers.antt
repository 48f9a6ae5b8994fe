use native.Mathlib.Omega.{arith}
use borrow.Author.Rules.{rules}
use mathlib.Core.Path.{◌≡◌, ap, ◌∙◌}
use lib.ListN.{length}
use Rattle.ledger.specs.Derived.{stocks_of, conversion_of}
use Rattle.phrases.specs.Lines.{amounts}
use Rattle.phrases.proofs.LineTexts.{as_text}
use Rattle.national.specs.Lines.{numbers_in, totals_by}
use Rattle.national.proofs.Sums.{names_few, totals_filled}
use Rattle.national.proofs.Widths.{columns-short}
use Rattle.national.proofs.parts.put_columns.Goals as goal

pub put_lines-requires : goal.put_lines-requires
put_lines-requires c =
    let t = c.args.t in
    let e : amounts c.list_totals-values.result ≡ numbers_in (totals_by t.accepted t.refused (stocks_of t.ledger) (conversion_of t.ledger)) =
    c.list_totals-values.ensures ∙ (λ i. numbers_in (totals_by t.accepted t.refused (c.work_stocks.ensures i) (c.work_conversion.ensures i))) in
    record { enough = names_few (search rules); room = omega (arith, c.requires.2, columns-short t c.requires.0 c.requires.1, ap length (totals_filled t.accepted t.refused _ _ e)) }

pub returns : goal.returns
returns c =
    let t = c.args.t in
    let e : amounts c.list_totals-values.result ≡ numbers_in (totals_by t.accepted t.refused (stocks_of t.ledger) (conversion_of t.ledger)) =
    c.list_totals-values.ensures ∙ (λ i. numbers_in (totals_by t.accepted t.refused (c.work_stocks.ensures i) (c.work_conversion.ensures i))) in
    let w = as_text (totals_filled t.accepted t.refused _ _ e) c.put_lines.ensures in
    (w, omega (arith, w.place, columns-short t c.requires.0 c.requires.1))
