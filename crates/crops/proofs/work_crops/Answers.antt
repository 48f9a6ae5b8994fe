use Rattle.std.proofs.Common.{rules, ◌≡◌, ◌∙◌, ◌^◌, sym, ap, subst, arith, lit<, lit≤}
use Rattle.form.specs.Layout.{crop, row_at}
use Rattle.form.specs.Verdict.{rows}
use Rattle.form.proofs.EachKind.{kinds_are}
use Rattle.burning.proofs.Rows.{rows_burned, row_small, total-fits}
use Rattle.burning.specs.Gases.{gases_of}
use Rattle.burning.specs.Released.{row_of, ReleasedMost}
use Rattle.burning.specs.declared.Released.{Released}
use Rattle.crops.specs.Crops.{residue_carbon, crop_ratios, crops_of}
use Rattle.crops.proofs.Limits.{carbon-below, ratios}
use Rattle.crops.proofs.work_crops.Goals as goal

pub sum_rows-t-requires-clause-known : goal.sum_rows-t-requires-clause-known
sum_rows-t-requires-clause-known c = (lit≤ tt, omega (arith, kinds_are))

pub sum_rows-t-requires-clause-small : goal.sum_rows-t-requires-clause-small
sum_rows-t-requires-clause-small c = λ at t w p.
    let r = row_at crop c.args.bytes.now at in
    let e : t ≡ row_of residue_carbon crop_ratios r = search rules in
    subst (ReleasedMost (10 ^ 29)) (sym e) (row_small residue_carbon crop_ratios r (carbon-below r w.kept) (ratios r w.kept))

pub work_gases-requires : goal.work_gases-requires
work_gases-requires c =
    let e = c.sum_rows-t.ensures (row_of residue_carbon crop_ratios) (λ at t w p. search rules) ∙ rows_burned residue_carbon crop_ratios (rows 8 c.args.bytes.now) in
    (total-fits residue_carbon crop_ratios c.args.bytes.now c.args.c c.requires 8 (lit≤ tt) (omega (arith, kinds_are)) carbon-below ratios e, lit< tt)

pub returns : goal.returns
unfolding crops_of
returns c =
    let e = c.sum_rows-t.ensures (row_of residue_carbon crop_ratios) (λ at t w p. search rules) ∙ rows_burned residue_carbon crop_ratios (rows 8 c.args.bytes.now) in
    let g = c.work_gases.ensures ∙ ap (λ (t : Released). gases_of t 10000) e in
    λ i. record { carbon = (e i).carbon; gases = g i }
