-- The laws that the five masses keep as things that are added up (trait AddsUp). Assumes nothing.
--     burned_none, burned_both, burned_fit   what was burned at one place
--     most_none, most_plus, matter_fit       all five
use Rattle.std.specs.Prelude.{ℕ, ◌+◌, ◌*◌, ◌^◌, ◌≤◌}
use Rattle.std.proofs.Common.{arith}
use Rattle.wide.specs.Numbers.{value, words_of}
use Rattle.totals.specs.Laws.{amounts}
use Rattle.totals.specs.declared.DryMatter.{DryMatter}
use Rattle.matter.specs.Matter.{burned_of, no_matter, plus_burned, plus_matter, BurnedMost, MatterMost}
use Rattle.matter.specs.declared.Burned.{Burned}
use Rattle.matter.specs.declared.Matter.{Matter}

both_most : {a b : ℕ} (x y : DryMatter) → value x.0 ≤ a → value y.0 ≤ b → value (words_of (value x.0 + value y.0)) ≤ a + b
both_most x y hx hy = omega (arith, amounts (value x.0 + value y.0))

pub burned_none : BurnedMost 0 (burned_of 0 0)
burned_none = let z = amounts 0 in (omega arith, omega arith)

pub burned_both : (m n : ℕ) (a b : Burned) → BurnedMost m a → BurnedMost n b → BurnedMost (m + n) (plus_burned a b)
burned_both m n a b p q = (both_most a.oxidised b.oxidised p.0 q.0, both_most a.charcoal b.charcoal p.1 q.1)

burned_room : {n : ℕ} (b : Burned) → BurnedMost n b → n ≤ 32 * 10 ^ 16 → BurnedMost (2 ^ 80) b
burned_room b p l = (omega (arith, p.0), omega (arith, p.1))

pub burned_fit : (m : ℕ) (a b : Burned) → m ≤ 32 * 10 ^ 16 → BurnedMost m a → BurnedMost (10 ^ 16) b → BurnedMost (2 ^ 80) a × BurnedMost (2 ^ 80) b
burned_fit m a b l p q = (burned_room a p l, burned_room b q (omega arith))

pub most_none : MatterMost 0 no_matter
most_none = record { onsite = burned_none; offsite = burned_none; unburned = omega (arith, amounts 0) }

pub most_plus : (m n : ℕ) (x y : Matter) → MatterMost m x → MatterMost n y → MatterMost (m + n) (plus_matter x y)
unfolding plus_matter
most_plus m n x y p q = record {
  onsite = burned_both m n x.onsite y.onsite p.onsite q.onsite;
  offsite = burned_both m n x.offsite y.offsite p.offsite q.offsite;
  unburned = both_most x.unburned y.unburned p.unburned q.unburned;
}

matter_room : {n : ℕ} {m : Matter} → MatterMost n m → n ≤ 32 * 10 ^ 16 → MatterMost (2 ^ 80) m
matter_room p l = record { onsite = burned_room _ p.onsite l; offsite = burned_room _ p.offsite l; unburned = omega (arith, p.unburned) }

pub matter_fit : (m : ℕ) (a b : Matter) → m ≤ 32 * 10 ^ 16 → MatterMost m a → MatterMost (10 ^ 16) b → MatterMost (2 ^ 80) a × MatterMost (2 ^ 80) b
matter_fit m a b l p q = (matter_room p l, matter_room q (omega arith))
