-- The stocks of soils, row by row. Assumes nothing.
--     stocks_added    what the rows add up to; row_small, how large a row's are
--     sums-small      how large the stocks of all rows are; gain_small, so what is rounded fits a word
use Prim.Native.Nat.{ℕ, ◌*◌, ◌^◌, ◌<◌, ◌≤◌}
use mathlib.Core.Path.{◌≡◌, refl, sym, ap, ap₂}
use mathlib.Core.Bool.{false}
use mathlib.Core.List.{List}
use native.Mathlib.Omega.{arith}
use lib.Dec.{lit≤}
use lib.IntN.{pos, nat_abs, ◌-ℤ◌}
use Rattle.form.specs.Layout.{soil, above_limit}
use Rattle.form.specs.Sums.{sum_of}
use Rattle.form.specs.Verdict.{rows, Formed}
use Rattle.form.specs.declared.Counts.{Counts}
use Rattle.form.proofs.EachKind.{kinds_are}
use Rattle.wide.specs.Numbers.{value}
use Rattle.wide.proofs.Laws.{value_words}
use Rattle.wide.proofs.SignLaws.{size_minus}
use Rattle.totals.specs.RowSums.{added_up}
use Rattle.totals.proofs.Sums.{sum-next}
use Rattle.totals.proofs.Accepted.{small}
use Rattle.totals.proofs.RowSums.{comes_to}
use Rattle.soils.specs.Soils.{stock_now, stock_then, stocks, row_stocks, plus_stocks, StocksMost, all_stocks, soil_gain}
use Rattle.soils.specs.declared.SoilGain.{SoilGain}
use Rattle.soils.proofs.Limits.{now-below, then_below}

pub stocks_added : (rs : List (List ℕ)) → added_up (stocks 0 0) plus_stocks row_stocks rs ≡ all_stocks rs
unfolding all_stocks sum_of
stocks_added rs = comes_to plus_stocks row_stocks all_stocks rs refl (λ i l. ap₂ stocks (sym (sum-next stock_now rs i l)) (sym (sum-next stock_then rs i l)))

pub row_small : (r : List ℕ) → above_limit soil r ≡ false → StocksMost (27 * 10 ^ 15) (row_stocks r)
row_small r h = (now-below r h, then_below r h)

module _ (s : List ℕ) (c : Counts) (acc : Formed s c) where
  -- 32 stocks of at most 2.7 x 10^16
  pub sums-small : (sum_of stock_now (rows 7 s) ≤ 27 * 10 ^ 15 * 32) × (sum_of stock_then (rows 7 s) ≤ 27 * 10 ^ 15 * 32)
  sums-small = (small s c acc 7 stock_now (27 * 10 ^ 15) (lit≤ tt) (omega (arith, kinds_are)) now-below, small s c acc 7 stock_then (27 * 10 ^ 15) (lit≤ tt) (omega (arith, kinds_are)) then_below)

  -- and what is rounded is one word
  pub gain_small : {g : SoilGain} → g ≡ soil_gain (pos (sum_of stock_now (rows 7 s)) -ℤ pos (sum_of stock_then (rows 7 s))) → value g.0.size < 2 ^ 64
  gain_small e =
      let w = sums-small in
      let a = sum_of stock_now (rows 7 s) in
      let b = sum_of stock_then (rows 7 s) in
      omega (arith, ap (λ (x : SoilGain). value x.0.size) e, (value_words (nat_abs (pos a -ℤ pos b))).number, size_minus a (pos b), w)
