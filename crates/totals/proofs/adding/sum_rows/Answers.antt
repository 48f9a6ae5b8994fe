use Rattle.std.proofs.Common.{ℕ, ◌+◌, ◌*◌, arith, sym, ap, ap₂, subst, ◌∙◌}
use Rattle.form.proofs.EachKind.{kinds_are}
use Rattle.standing.proofs.Accepted.{few_counted}
use Rattle.standing.proofs.Rows.{Stands, kind_row}
use Rattle.totals.specs.RowSums.{added}
use Rattle.totals.proofs.RowSums.{row_there, none_of, one_of, few_of, one_more, all_added}
use Rattle.totals.proofs.adding.sum_rows.Goals as goal

pub first_block-first-requires : goal.first_block-first-requires
first_block-first-requires g c = (omega (arith, c.requires.known), omega (arith, c.requires.known, kinds_are), few_counted c.args.bytes.now c.args.c c.requires.formed)

pub loop-i-init : goal.loop-i-init
unfolding added
loop-i-init g c =
    let m = g.T.AddsUp in
    (omega arith, subst (m.Most (0 * m.row_most)) (sym c.nothing-t.ensures) (subst (λ (n : ℕ). m.Most n m.none) (none_of m.row_most) g.met.T.AddsUp.most_none), λ part h. c.nothing-t.ensures)

pub row-requires : goal.row-requires
row-requires g c =
    let s = c.args.bytes.now in
    let w : Stands s c.args.kind c.loop-i.i c.row_start.result = kind_row s c.args.c c.requires.formed c.args.kind c.requires.known.0 c.requires.known.1 c.first_block-first.ensures.0 (omega (arith, c.count_of-n.ensures)) c.row_start.ensures in
    c.requires.callable _ (row_there s c.args.c c.requires.formed c.requires.known.0 c.requires.known.1 w)

pub plus-t-requires : goal.plus-t-requires
plus-t-requires g c =
    let s = c.args.bytes.now in
    let m = g.T.AddsUp in
    let w : Stands s c.args.kind c.loop-i.i c.row_start.result = kind_row s c.args.c c.requires.formed c.args.kind c.requires.known.0 c.requires.known.1 c.first_block-first.ensures.0 (omega (arith, c.count_of-n.ensures)) c.row_start.ensures in
    let p = c.requires.small _ _ (row_there s c.args.c c.requires.formed c.requires.known.0 c.requires.known.1 w) c.row.ensures in
    g.met.T.AddsUp.fit _ _ _ (few_of m.row_most (omega (arith, c.count_of-n.ensures, few_counted s c.args.c c.requires.formed c.args.kind))) c.loop-i.invariant.1 p

pub loop-i-preserved : goal.loop-i-preserved
loop-i-preserved g c =
    let s = c.args.bytes.now in
    let m = g.T.AddsUp in
    let w : Stands s c.args.kind c.loop-i.i c.row_start.result = kind_row s c.args.c c.requires.formed c.args.kind c.requires.known.0 c.requires.known.1 c.first_block-first.ensures.0 (omega (arith, c.count_of-n.ensures)) c.row_start.ensures in
    let there = row_there s c.args.c c.requires.formed c.requires.known.0 c.requires.known.1 w in
    let p = c.requires.small _ _ there c.row.ensures in
    let most = g.met.T.AddsUp.most_both _ _ _ _ c.loop-i.invariant.1 p in (
      omega arith,
      subst (m.Most ((c.loop-i.i + 1) * m.row_most)) (sym c.plus-t.ensures) (subst (λ (n : ℕ). m.Most n (m.both c.loop-i.t c.row.result)) (one_of c.loop-i.i m.row_most) most),
      λ part h. c.plus-t.ensures ∙ ap₂ m.both (c.loop-i.invariant.2 part h) (h _ _ there c.row.ensures ∙ ap part (sym w.row)) ∙ sym (one_more m.both part _ _ c.loop-i.i w.there),
    )

pub returns : goal.returns
returns g c = λ part h. c.loop-i.invariant.2 part h ∙ all_added g.T.AddsUp.both part c.args.bytes.now c.args.c c.requires.formed c.args.kind c.loop-i.i _ c.requires.known.0 c.requires.known.1 (omega (arith, c.count_of-n.ensures))
