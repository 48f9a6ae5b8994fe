-- The ledger of several returns: how large it can be. Assumes nothing.
use Rattle.std.specs.Prelude.{ℕ, ◌*◌, ◌^◌, ◌≤◌, ◌≡◌, false, ◌+ℤ◌}
use Rattle.wide.specs.Numbers.{value}
use Rattle.wide.specs.Signs.{amount}
use Rattle.units.specs.Columns.{net_carbon}
use Rattle.units.specs.declared.NetCarbon.{NetCarbon}
use Rattle.matter.specs.Matter.{MatterMost}
use Rattle.ledger.specs.Ledger.{Bounded}
use Rattle.ledger.specs.declared.Ledger.{Ledger}

-- O of two returns
abbrev pub both_removed : NetCarbon → NetCarbon → NetCarbon
both_removed a b = net_carbon (amount a.0 +ℤ amount b.0)

-- at most what n of the largest returns have, 32 rows of a kind each; and by §8 "M, O then never fall below zero"
pub record AtMost (n : ℕ) (g : Ledger) : Type 0 where
  pub e : value g.e.0 ≤ n * (32 * 10 ^ 14)
  pub k : value g.k.0 ≤ n * (32 * 10 ^ 12)
  pub l : value g.l.0 ≤ n * (32 * 10 ^ 13)
  pub o : value g.o.0.size ≤ n * (32 * 10 ^ 17)
  pub upright : g.o.0.below ≡ false
  pub onsite : value g.onsite.0 ≤ n * (32 * 10 ^ 19)
  pub offsite : value g.offsite.0 ≤ n * (32 * 10 ^ 19)
  pub decay : value g.decay.0 ≤ n * (32 * 10 ^ 19)
  pub matter : MatterMost (n * (32 * 10 ^ 16)) g.matter

-- what two ledgers that are added up are known to be
pub record Addable (g : Ledger) : Type 0 where
  pub bounded : Bounded g
  pub upright : g.o.0.below ≡ false
