-- The laws that stocks keep as a thing that is added up (trait AddsUp). Assumes nothing.
use Rattle.std.specs.Prelude.{ℕ, ◌+◌, ◌*◌, ◌^◌, ◌<◌, ◌≤◌}
use Rattle.std.proofs.Common.{arith}
use Rattle.soils.specs.Soils.{stocks, plus_stocks, StocksMost}
use Rattle.soils.specs.declared.SoilStocks.{SoilStocks}

pub stocks_none : StocksMost 0 (stocks 0 0)
stocks_none = (omega arith, omega arith)

pub stocks_both : (m n : ℕ) (a b : SoilStocks) → StocksMost m a → StocksMost n b → StocksMost (m + n) (plus_stocks a b)
stocks_both m n a b p q = (omega (arith, p, q), omega (arith, p, q))

pub stocks_fit : (m : ℕ) (a b : SoilStocks) → m ≤ 32 * (27 * 10 ^ 15) → StocksMost m a → StocksMost (27 * 10 ^ 15) b → (a.now.0 + b.now.0 < 2 ^ 64) × (a.then.0 + b.then.0 < 2 ^ 64)
stocks_fit m a b l p q = (omega (arith, l, p, q), omega (arith, l, p, q))
