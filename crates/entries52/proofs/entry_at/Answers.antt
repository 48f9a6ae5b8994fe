use Rattle.std.specs.Prelude.{None}
use Prim.Native.Nat.{ℕ, ◌*◌}
use mathlib.Core.Path.{sym, ap, ◌∙◌}
use native.Mathlib.Nat.{add-zero}
use lib.Dec.{lit<}
use lib.ListN.{get_or}
use Rattle.entries52.specs.Table.{table, none}
use Rattle.entries52.specs.Entries.{marked, among}
use Rattle.entries52.specs.Cells.{cells}
use Rattle.entries52.proofs.Laws.{cell, whole-entry}
use Rattle.entries52.proofs.entry_at.Goals as goal

pub returns : goal.returns
returns c =
    let n = c.args.n in
    let first = ap (λ (m : ℕ). get_or (cells table) m None) (sym (add-zero (3 * n))) in
    whole-entry (get_or table n none) (among n marked)
    (c.figure_at-area1980.ensures ∙ first ∙ cell table n 0 (lit< tt))
    (c.figure_at-area1990.ensures ∙ cell table n 1 (lit< tt))
    (c.figure_at.ensures ∙ cell table n 2 (lit< tt))
    c.rate_of-rate.ensures
    c.marked_at.ensures
