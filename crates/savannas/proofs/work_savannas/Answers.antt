use Rattle.std.proofs.Common.{rules, ◌≡◌, ◌∙◌, ◌^◌, sym, ap, subst, arith, lit<, lit≤}
use Rattle.form.specs.Layout.{savanna, row_at}
use Rattle.form.specs.Verdict.{rows}
use Rattle.form.proofs.EachKind.{kinds_are}
use Rattle.burning.proofs.Rows.{rows_burned, row_small, total-fits}
use Rattle.burning.specs.Gases.{gases_of}
use Rattle.burning.specs.Released.{row_of, ReleasedMost}
use Rattle.burning.specs.declared.Released.{Released}
use Rattle.savannas.specs.Savannas.{carbon_part, ratios_of, savannas_of}
use Rattle.savannas.proofs.Limits.{carbon-below, ratios}
use Rattle.savannas.proofs.work_savannas.Goals as goal

pub sum_rows-t-requires-clause-known : goal.sum_rows-t-requires-clause-known
sum_rows-t-requires-clause-known c = (lit≤ tt, omega (arith, kinds_are))

pub sum_rows-t-requires-clause-small : goal.sum_rows-t-requires-clause-small
sum_rows-t-requires-clause-small c = λ at t w p.
    let r = row_at savanna c.args.bytes.now at in
    let e : t ≡ row_of carbon_part ratios_of r = search rules in
    subst (ReleasedMost (10 ^ 29)) (sym e) (row_small carbon_part ratios_of r (carbon-below r w.kept) (ratios r w.kept))

pub work_gases-requires : goal.work_gases-requires
work_gases-requires c =
    let e = c.sum_rows-t.ensures (row_of carbon_part ratios_of) (λ at t w p. search rules) ∙ rows_burned carbon_part ratios_of (rows 6 c.args.bytes.now) in
    (total-fits carbon_part ratios_of c.args.bytes.now c.args.c c.requires 6 (lit≤ tt) (omega (arith, kinds_are)) carbon-below ratios e, lit< tt)

pub returns : goal.returns
unfolding savannas_of
returns c =
    let e = c.sum_rows-t.ensures (row_of carbon_part ratios_of) (λ at t w p. search rules) ∙ rows_burned carbon_part ratios_of (rows 6 c.args.bytes.now) in
    let g = c.work_gases.ensures ∙ ap (λ (t : Released). gases_of t 1000) e in
    λ i. record { carbon = (e i).carbon; gases = g i }
