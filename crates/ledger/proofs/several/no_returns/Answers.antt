use Rattle.std.proofs.Common.{false}
use Rattle.wide.proofs.Laws.{words}
use Rattle.ledger.proofs.several.no_returns.Goals as goal

pub returns : goal.returns
returns c =
    let size = words c.of.ensures in
    λ i. record {
      e = c.nothing.ensures i;
      k = c.nothing-2.ensures i;
      l = c.nothing-3.ensures i;
      o = record { 0 = record { below = false; size = size i } };
      onsite = c.nothing-4.ensures i;
      offsite = c.nothing-5.ensures i;
      decay = c.nothing-6.ensures i;
      matter = c.nothing-7.ensures i;
    }
