-- What a refusal of filed records says of its place, by its number. Assumes nothing.
--     at_id to at_soil     the rule's place, broken there and at no lower one; a new number is a new entry
--     last-number          a number that is none of 5, 6, 7, 12 and 14 is 13
--     used_there           but for 12, a row stands there
--     conversion_there, stock_there, soil_there    of the kind that the number is about
use Prim.Native.Nat.{ℕ}
use mathlib.Core.Path.{◌≡◌, refl, sym, subst, ◌∙◌}
use mathlib.Core.Bool.{true, or-false}
use native.Mathlib.Decide.{ℕ_discrete}
use borrow.Author.Tests.{eqb-true, ne_eqb}
use lib.Dec.{eqb}
use Rattle.form.specs.Ruling.{rule, ruling}
use Rattle.form.specs.Records.{Filed, RowTest, bad_id, broken_by, field_above, scattered_trees, fractions_above}
use Rattle.form.specs.Sums.{soil_uneven, filed_rules}
use Rattle.form.specs.Refusals.{Refused}
use Rattle.form.proofs.Tests.{and-true}
use Rattle.form.proofs.Order.{rule_of, BrokenAt, ruling_least, least_has, least_of}
use Rattle.form.proofs.SecondEdition.{first-scattered}
use Rattle.areas.proofs.Balanced.{place_told}
use Rattle.reasons.proofs.Rows.{id_used}

module _ (edition : ℕ) (f : Filed) {n p : ℕ} (e : ruling (filed_rules edition f) ≡ Refused n p) where
  broken_at : (m : ℕ) → n ≡ m → BrokenAt (rule_of m (filed_rules edition f)) p
  broken_at m q = subst (λ (x : ℕ). BrokenAt (rule_of x (filed_rules edition f)) p) q (least_of refl (ruling_least e))

  pub at_id : n ≡ 5 → BrokenAt (rule 5 f.places (bad_id f)) p
  at_id = broken_at 5

  pub at_field : n ≡ 6 → BrokenAt (rule 6 f.places (broken_by f edition field_above)) p
  at_field = broken_at 6

  pub at_fractions : n ≡ 7 → BrokenAt (rule 7 f.places (broken_by f edition fractions_above)) p
  at_fractions = broken_at 7

  pub at_trees : n ≡ 14 → BrokenAt (rule 14 f.places (broken_by f edition scattered_trees)) p
  at_trees = broken_at 14

  pub at_soil : n ≡ 13 → BrokenAt (rule 13 f.places (soil_uneven f)) p
  at_soil = broken_at 13

  pub last-number : (n ≡ 5 → ⊥) → (n ≡ 6 → ⊥) → (n ≡ 7 → ⊥) → (n ≡ 12 → ⊥) → (n ≡ 14 → ⊥) → n ≡ 13
  last-number a b c d g =
      eqb-true n 13 (sym (or-false (eqb n 13)) ∙ rw (ne_eqb n 5 a, ne_eqb n 6 b, ne_eqb n 14 g, ne_eqb n 7 c, ne_eqb n 12 d) at (least_has (ruling_least e)))

  pub conversion_there : n ≡ 7 → f.kind p ≡ 1
  unfolding broken_by
  conversion_there q = eqb-true (f.kind p) 1 (and-true (eqb (f.kind p) 1) _ (and-true (f.used p) _ (at_fractions q).broken).1).0

  pub stock_there : n ≡ 14 → f.kind p ≡ 2
  stock_there q = (first-scattered edition f p (at_trees q)).stock-row

  pub soil_there : n ≡ 13 → f.kind p ≡ 7
  soil_there q = (place_told f (at_soil q)).kind_there

  row-used : (t : RowTest) → broken_by f edition t p ≡ true → f.used p ≡ true
  unfolding broken_by
  row-used t b = (and-true (f.used p) _ b).0

  pub used_there : (n ≡ 12 → ⊥) → f.used p ≡ true
  used_there other = by (ℕ_discrete n 5) (ℕ_discrete n 6) (ℕ_discrete n 7) (ℕ_discrete n 14)
    where
      by : Dec (n ≡ 5) → Dec (n ≡ 6) → Dec (n ≡ 7) → Dec (n ≡ 14) → f.used p ≡ true
      by (yes q) b c d = id_used f p (at_id q).broken
      by (no a) (yes q) c d = row-used _ (at_field q).broken
      by (no a) (no b) (yes q) d = row-used _ (at_fractions q).broken
      by (no a) (no b) (no c) (yes q) = row-used _ (at_trees q).broken
      by (no a) (no b) (no c) (no d) = (place_told f (at_soil (last-number a b c other d))).used_there
