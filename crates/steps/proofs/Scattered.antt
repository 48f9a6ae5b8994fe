-- How many rows of scattered trees an accepted return has. Assumes nothing.
--     scattered_le    no more than stock rows; no_scattered, none in edition 3
use Prim.Native.Nat.{ℕ, ◌≤◌}
use mathlib.Core.Path.{◌≡◌, sym, ap, ◌∙◌}
use mathlib.Core.List.{List}
use native.Mathlib.Omega.{arith}
use lib.ListN.{length}
use Rattle.form.specs.Block.{edition}
use Rattle.form.specs.Sums.{scattered_part, scattered_in}
use Rattle.form.specs.Verdict.{rows, Formed, verdict_of}
use Rattle.form.specs.declared.Counts.{Counts}
use Rattle.std.specs.Prelude.{Ok}
use Rattle.form.proofs.Scattered.{part_of_one, none_counted}
use Rattle.standing.proofs.Accepted.{formed, formed_counts, rows-length, none_scattered}
use Rattle.totals.proofs.Sums.{sum_below}
use Rattle.worksheets.specs.Sheets.{stock_rows, by_kind, figures_of}

module _ (s : List ℕ) (c : Counts) (accepted : verdict_of s ≡ Ok c) where
  acc : Formed s c
  acc = formed s c accepted

  told : c.scattered ≡ scattered_in (rows 2 s)
  told = ap (λ (x : Counts). x.scattered) (formed_counts s c acc)

  stock-rows : length (rows 2 s) ≡ c.stock
  stock-rows = rows-length s c acc 2 ∙ sym (ap (λ (x : Counts). x.stock) (formed_counts s c acc))

  pub scattered_le : c.scattered ≤ c.stock
  scattered_le = omega (arith, told, stock-rows, sum_below scattered_part 1 (rows 2 s) (λ j l. part_of_one _))

  module _ (three : edition s 0 ≡ 3) where
    none : scattered_in (rows 2 s) ≡ 0
    none = none_counted (rows 2 s) (none_scattered s c acc three)

    pub no_scattered : (c.scattered ≡ 0) × ((figures_of (by_kind s)).scattered ≡ stock_rows 0)
    no_scattered = (told ∙ none, ap stock_rows none)
