use Rattle.std.proofs.Common.{◌≡◌, ℕ, ◌*◌, ◌≤◌, List, take}
use Rattle.form.specs.Layout.{layout, row_at}
use Rattle.form.specs.Verdict.{rows}
use Rattle.totals.specs.RowSums.{RowAt, added_up}
use Rattle.totals.proofs.adding.sum_rows.Given as goal

abbrev pub invariant-loop-i : goal.invariant-loop-i
invariant-loop-i g l =
    let m = g.T.AddsUp in
    (l.i ≤ l.n) × m.Most (l.i * m.row_most) l.t
    × ((part : List ℕ → g.row.T.Denot) → ((at : ℕ) (t : g.row.T.Denot) → RowAt l.kind l.bytes at → goal.F-post g l.row at t → t ≡ part (row_at (layout l.kind) l.bytes at)) → l.t ≡ added_up m.none m.both part (take l.i (rows l.kind l.bytes)))
