-- Sums over the rows of a return that can be read row by row. Assumes nothing.
--     columns-small         how large they are
--     next, whole           a turn of a loop over the rows, and its end
use Prim.Native.Nat.{ℕ, zero, suc, ◌+◌, ◌*◌, ◌^◌, ◌<◌, ◌≤◌}
use mathlib.Core.Path.{◌≡◌, ap}
use mathlib.Core.Bool.{false}
use mathlib.Core.List.{List}
use native.Mathlib.Nat.{le_trans, mul-le-mul_left}
use lib.Dec.{lit≤}
use native.Mathlib.Omega.{arith}
use lib.ListN.{take}
use Rattle.form.specs.Layout.{kinds, layout, row_at, above_limit}
use Rattle.form.specs.Verdict.{count_in, rows, Formed}
use Rattle.form.specs.declared.Counts.{Counts}
use Rattle.standing.proofs.Accepted.{counted, few_rows, rows-length}
use Rattle.standing.proofs.Rows.{Stands, kept}
use Rattle.form.proofs.EachKind.{kinds_are, one_kind}
use Rattle.form.specs.Sums.{sum_of, harvest_part, cleared_part, column_k, column_l}
use Rattle.totals.specs.Columns.{stock_part, onsite_part, offsite_part, decay_part, thinner_part, column_e, onsite_total, offsite_total, decay_total, thinner_total}
use Rattle.totals.specs.Abandoned.{abandoned_part, uptake_total}
use Rattle.totals.proofs.Limits.{cleared-below, onsite-below, offsite-below, decay-below, thinner-below, stock-below, abandoned-below, harvest-below}
use Rattle.totals.proofs.Sums.{sum-next, sum_all, sum_below}

module _ (s : List ℕ) (c : Counts) (acc : Formed s c) where
  -- past the last row, all are added up
  pub whole : (f : List ℕ → ℕ) (k i : ℕ) → 1 ≤ k → k ≤ kinds → count_in c k ≤ i → sum_of f (take i (rows k s)) ≡ sum_of f (rows k s)
  whole f zero i lo hi l = absurd (omega arith)
  whole f (suc k) i lo hi l = sum_all f (rows (suc k) s) i (omega (arith, rows-length s c acc (suc k), counted s c acc k hi))

  -- what no row of a kind is above, no sum over its rows is above 32 times
  pub small : (k : ℕ) (f : List ℕ → ℕ) (b : ℕ) → 1 ≤ k → k ≤ kinds → ((r : List ℕ) → above_limit (layout k) r ≡ false → f r ≤ b) → sum_of f (rows k s) ≤ b * 32
  small k f b lo hi h =
      le_trans (sum_below f b (rows k s) (λ j m. h _ (kept s c acc k j lo hi m)))
      (mul-le-mul_left b (omega (arith, few_rows s c acc k, rows-length s c acc k)))

  pub columns-small : (column_e (rows 2 s) < 2 ^ 64) × (column_k (rows 3 s) < 2 ^ 64) × (column_l (rows 1 s) < 2 ^ 64)
      × (onsite_total (rows 1 s) < 2 ^ 80) × (offsite_total (rows 1 s) < 2 ^ 80) × (decay_total (rows 1 s) < 2 ^ 80) × (thinner_total (rows 1 s) ≤ 64)
      × (uptake_total (rows 5 s) < 2 ^ 64)
  columns-small = (
    omega (arith, small 2 stock_part (10 ^ 14) (lit≤ tt) (omega (arith, kinds_are)) stock-below),
    omega (arith, small 3 harvest_part (10 ^ 12) (lit≤ tt) (omega (arith, kinds_are)) harvest-below),
    omega (arith, small 1 cleared_part (10 ^ 13) (lit≤ tt) one_kind cleared-below),
    omega (arith, small 1 onsite_part (10 ^ 19) (lit≤ tt) one_kind onsite-below),
    omega (arith, small 1 offsite_part (10 ^ 19) (lit≤ tt) one_kind offsite-below),
    omega (arith, small 1 decay_part (10 ^ 19) (lit≤ tt) one_kind decay-below),
    omega (arith, small 1 thinner_part 2 (lit≤ tt) one_kind (λ r h. thinner-below r)),
    omega (arith, small 5 abandoned_part (2 * 10 ^ 14) (lit≤ tt) (omega (arith, kinds_are)) abandoned-below),
  )

-- a turn of a loop over the rows
pub next : {s : List ℕ} {k i at : ℕ} (f : List ℕ → ℕ) {sum x : ℕ} → Stands s k i at
    → sum ≡ sum_of f (take i (rows k s)) → x ≡ f (row_at (layout k) s at) → sum + x ≡ sum_of f (take (i + 1) (rows k s))
next {s} {k} {i} f h e q = omega (arith, sum-next f (rows k s) i h.there, ap f h.row)
