use Rattle.std.proofs.Common.{rules, ◌≡◌, ◌∙◌, ◌^◌, sym, subst, arith, false, lit≤}
use Rattle.form.specs.Layout.{conversion, row_at}
use Rattle.form.specs.Records.{overspent}
use Rattle.form.specs.Verdict.{rows}
use Rattle.form.proofs.EachKind.{one_kind}
use Rattle.standing.proofs.Accepted.{rows-length, spent}
use Rattle.matter.specs.Matter.{row_matter, MatterMost}
use Rattle.matter.proofs.Sizes.{row_most, matter_added}
use Rattle.matter.proofs.work_matter.Goals as goal

pub sum_rows-requires-clause-known : goal.sum_rows-requires-clause-known
sum_rows-requires-clause-known c = (lit≤ tt, one_kind)

pub sum_rows-requires-clause-callable : goal.sum_rows-requires-clause-callable
sum_rows-requires-clause-callable c = λ at w.
    let s = c.args.bytes.now in
    let e : overspent (row_at conversion s at) ≡ false = rw (← w.row) (spent s c.args.c c.requires w.place (omega (arith, w.there, rows-length s c.args.c c.requires 1))) in
    search rules

pub sum_rows-requires-clause-small : goal.sum_rows-requires-clause-small
sum_rows-requires-clause-small c = λ at t w p.
    let r = row_at conversion c.args.bytes.now at in
    let e : t ≡ row_matter r = search rules in
    subst (MatterMost (10 ^ 16)) (sym e) (row_most r w.kept)

pub returns : goal.returns
returns c = c.sum_rows.ensures row_matter (λ at t w p. search rules) ∙ matter_added (rows 1 c.args.bytes.now)
