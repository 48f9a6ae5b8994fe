-- §8: "100K and L", the wood that was used and the wood that clearing gave, both in 10^-6 kt of dry matter.
use Rattle.std.specs.Prelude.{ℕ, ◌*◌, List, [], ◌∷◌, get_or, ltb}
use Rattle.form.specs.Ruling.{Rule, rule}
use Rattle.form.specs.Sums.{harvest_part, cleared_part, column_k, column_l}
use Rattle.wide.specs.Numbers.{value}
use Rattle.totals.specs.Masses.{dry_matter}
use Rattle.balance.specs.declared.Wood.{Wood}

-- of the harvest rows and the conversion rows
abbrev pub wood_of : List (List ℕ) → List (List ℕ) → Wood
wood_of harvest conversion = record { used = dry_matter (100 * column_k harvest); cleared = dry_matter (column_l conversion) }

-- 12, of the two: more is cleared than used
abbrev pub wood_rules : Wood → List Rule
wood_rules w = rule 12 1 (λ p. ltb (value w.used.0) (value w.cleared.0)) ∷ []

-- a row's part in either, by its kind: conversion rows (1) give wood, harvest rows (3) use it
abbrev pub none : List ℕ → ℕ
none r = 0

abbrev pub wood_part : ℕ → List ℕ → ℕ
wood_part kind = get_or (none ∷ cleared_part ∷ none ∷ harvest_part ∷ []) kind none
