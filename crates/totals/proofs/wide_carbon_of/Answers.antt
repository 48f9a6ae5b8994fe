use Rattle.std.proofs.Common.{ℕ, ◌*◌, ap}
use Rattle.wide.proofs.Laws.{words, is_as}
use Rattle.totals.proofs.wide_carbon_of.Goals as goal

pub returns : goal.returns
returns c = let e = words (is_as c.times.ensures (ap (λ (x : ℕ). x * c.args.share) c.of.ensures.number)) in λ i. record { 0 = e i }
