use Rattle.ledger.specs.Ledger.{plus}
use Rattle.ledger.proofs.several.add_ledgers.Goals as goal

pub returns : goal.returns
unfolding plus
returns c =
    λ i. record {
      e = c.plus.ensures i;
      k = c.plus-2.ensures i;
      l = c.plus-3.ensures i;
      o = c.both_removed.ensures i;
      onsite = c.plus-4.ensures i;
      offsite = c.plus-5.ensures i;
      decay = c.plus-6.ensures i;
      matter = c.plus-7.ensures i;
    }
