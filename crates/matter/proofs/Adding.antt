-- The five masses of several, added up. Assumes nothing.
--     words_comm, words_assoc, words_alone    two numbers in words, three, and one with none
--     matter_comm, matter_assoc, matter_alone   the same of the five masses
--     together-plus     what two come to together
--     matter-set        two equations of them are one
use Prim.Native.Nat.{ℕ, ◌+◌}
use mathlib.Core.Path.{◌≡◌, ap}
use mathlib.Core.List.{List}
use native.Mathlib.Nat.{ℕ_set, add_comm}
use native.Mathlib.Omega.{arith}
use Rattle.wide.specs.Numbers.{value, words_of}
use Rattle.wide.specs.declared.Wide.{Wide}
use Rattle.wide.proofs.Laws.{value_words}
use Rattle.totals.specs.declared.DryMatter.{DryMatter}
use Rattle.matter.specs.Matter.{oxidised_onsite, charcoal_onsite, oxidised_offsite, charcoal_offsite, unburned, matter_of, no_matter, both_masses, plus_burned, plus_matter, together}
use Rattle.matter.specs.declared.Burned.{Burned}
use Rattle.matter.specs.declared.Matter.{Matter}

-- a number written in words and read again
v : (n : ℕ) → value (words_of n) ≡ n
v n = (value_words n).number

pub words_comm : (x y : ℕ) → words_of (x + y) ≡ words_of (y + x)
words_comm x y = ap words_of (add_comm x y)

pub words_assoc : (x y z : ℕ) → words_of (value (words_of (x + y)) + z) ≡ words_of (x + value (words_of (y + z)))
words_assoc x y z =
    let e : value (words_of (x + y)) + z ≡ x + value (words_of (y + z)) = omega (arith, v (x + y), v (y + z)) in
    ap words_of e

pub words_alone : (n : ℕ) → words_of (value (words_of n) + value (words_of 0)) ≡ words_of n
words_alone n = let e : value (words_of n) + value (words_of 0) ≡ n = omega (arith, v n, v 0) in ap words_of e

-- a mass
mass_comm : (a b : DryMatter) → both_masses a b ≡ both_masses b a
mass_comm a b = λ i. record { 0 = words_comm (value a.0) (value b.0) i }

mass_assoc : (a b c : DryMatter) → both_masses (both_masses a b) c ≡ both_masses a (both_masses b c)
mass_assoc a b c = λ i. record { 0 = words_assoc (value a.0) (value b.0) (value c.0) i }

-- what was burned
burned_comm : (a b : Burned) → plus_burned a b ≡ plus_burned b a
burned_comm a b = λ i. record { oxidised = mass_comm a.oxidised b.oxidised i; charcoal = mass_comm a.charcoal b.charcoal i }

burned_assoc : (a b c : Burned) → plus_burned (plus_burned a b) c ≡ plus_burned a (plus_burned b c)
burned_assoc a b c = λ i. record { oxidised = mass_assoc a.oxidised b.oxidised c.oxidised i; charcoal = mass_assoc a.charcoal b.charcoal c.charcoal i }

-- all five
pub matter_comm : (a b : Matter) → plus_matter a b ≡ plus_matter b a
unfolding plus_matter
matter_comm a b = λ i. record { onsite = burned_comm a.onsite b.onsite i; offsite = burned_comm a.offsite b.offsite i; unburned = mass_comm a.unburned b.unburned i }

pub matter_assoc : (a b c : Matter) → plus_matter (plus_matter a b) c ≡ plus_matter a (plus_matter b c)
unfolding plus_matter
matter_assoc a b c = λ i. record {
  onsite = burned_assoc a.onsite b.onsite c.onsite i;
  offsite = burned_assoc a.offsite b.offsite c.offsite i;
  unburned = mass_assoc a.unburned b.unburned c.unburned i;
}

pub matter_alone : (rs : List (List ℕ)) → plus_matter (matter_of rs) no_matter ≡ matter_of rs
unfolding plus_matter matter_of
matter_alone rs = λ i. record {
  onsite = record { oxidised = record { 0 = words_alone (oxidised_onsite rs) i }; charcoal = record { 0 = words_alone (charcoal_onsite rs) i } };
  offsite = record { oxidised = record { 0 = words_alone (oxidised_offsite rs) i }; charcoal = record { 0 = words_alone (charcoal_offsite rs) i } };
  unburned = record { 0 = words_alone (unburned rs) i };
}

pub together-plus : (a b : Matter) → together (plus_matter a b) ≡ together a + together b
unfolding plus_matter
together-plus a b =
    omega (
      arith,
      v (value a.onsite.oxidised.0 + value b.onsite.oxidised.0),
      v (value a.onsite.charcoal.0 + value b.onsite.charcoal.0),
      v (value a.offsite.oxidised.0 + value b.offsite.oxidised.0),
      v (value a.offsite.charcoal.0 + value b.offsite.charcoal.0),
      v (value a.unburned.0 + value b.unburned.0),
    )

-- two equations are one
pub wide_set : IsSet Wide
wide_set x y p q = λ i j. record { lo = ℕ_set x.lo y.lo (λ k. (p k).lo) (λ k. (q k).lo) i j; hi = ℕ_set x.hi y.hi (λ k. (p k).hi) (λ k. (q k).hi) i j }

burned-set : IsSet Burned
burned-set x y p q = λ i j. record {
  oxidised = record { 0 = wide_set x.oxidised.0 y.oxidised.0 (λ k. (p k).oxidised.0) (λ k. (q k).oxidised.0) i j };
  charcoal = record { 0 = wide_set x.charcoal.0 y.charcoal.0 (λ k. (p k).charcoal.0) (λ k. (q k).charcoal.0) i j };
}

pub matter-set : IsSet Matter
matter-set x y p q = λ i j. record {
  onsite = burned-set x.onsite y.onsite (λ k. (p k).onsite) (λ k. (q k).onsite) i j;
  offsite = burned-set x.offsite y.offsite (λ k. (p k).offsite) (λ k. (q k).offsite) i j;
  unburned = record { 0 = wide_set x.unburned.0 y.unburned.0 (λ k. (p k).unburned.0) (λ k. (q k).unburned.0) i j };
}
