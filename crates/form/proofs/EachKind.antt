-- The kinds and the editions: what is computed of their tables, once for all entries. Assumes nothing.
--     kinds_are       how many kinds there are, as the code counts them; few_kinds, not many
--     beyond          a number that is none of 1 to n, as a `match` leaves it, is no number from 1 to n
--     each_layout     a test of layouts that the checker computes for each kind
--     last-kinds      no edition allows more kinds than there are; no_edition, known-edition, which editions there are
use Prim.Native.Nat.{ℕ, zero, suc, ◌≤◌, ◌<◌}
use mathlib.Core.Path.{◌≡◌, refl}
use mathlib.Core.Bool.{Bool, true, ◌&&◌}
use mathlib.Core.List.{List, [], ◌∷◌}
use native.Mathlib.Omega.{arith}
use lib.Dec.{lit<, lit≤}
use lib.ListN.{get_or}
use Rattle.form.specs.Layout.{Layout, layouts, kinds, parameters_kind, layout}
use Rattle.form.specs.Edition.{last_kind}
use Rattle.form.proofs.Tests.{and-true}

-- kept by a loop over the kinds, so that its steps know it
abbrev pub KindsAre : Type 0
KindsAre = kinds ≡ 8

pub kinds_are : KindsAre
unfolding kinds
kinds_are = refl

-- what a `match` whose arms are 1 to n leaves for its last
abbrev pub NoneOf : ℕ → ℕ → Type 0
NoneOf zero k = Unit
NoneOf (suc n) k = NoneOf n k × (k ≡ suc n → ⊥)

pub beyond : (n k : ℕ) → NoneOf n k → k ≤ n → 0 < k → ⊥
beyond zero k e h l = omega arith
beyond (suc n) k e h l = beyond n k e.0 (below e.1) l
  where
    below : (k ≡ suc n → ⊥) → k ≤ n
    below g = omega arith

-- the parameters are one of them
pub parameters-kind : parameters_kind ≤ kinds
unfolding kinds
parameters-kind = lit≤ tt

-- places stay small, so that a refusal's code has room for them
pub few_kinds : kinds ≤ 20
unfolding kinds
few_kinds = lit≤ tt

pub one_kind : 1 ≤ kinds
unfolding kinds
one_kind = lit≤ tt

-- a test holds of each layout of a list
abbrev pub each : (Layout → Bool) → List Layout → Bool
each t [] = true
each t (l ∷ ls) = t l && each t ls

-- of every number, if of no fields too
at_default : (t : Layout → Bool) (ls : List Layout) → each t ls ≡ true → t [] ≡ true → (k : ℕ) → t (get_or ls k []) ≡ true
at_default t [] e d k = d
at_default t (l ∷ ls) e d zero = (and-true (t l) (each t ls) e).0
at_default t (l ∷ ls) e d (suc k) = at_default t ls (and-true (t l) (each t ls) e).1 d k

pub each_layout : (t : Layout → Bool) → each t layouts ≡ true → t [] ≡ true → (k : ℕ) → t (layout k) ≡ true
each_layout t e d zero = d
each_layout t e d (suc k) = at_default t layouts e d k

-- ---- editions

pub last-kinds : (e : ℕ) → last_kind e ≤ kinds
unfolding last_kind kinds
last-kinds zero = lit≤ tt
last-kinds (suc zero) = lit≤ tt
last-kinds (suc (suc zero)) = lit≤ tt
last-kinds (suc (suc (suc zero))) = lit≤ tt
last-kinds (suc (suc (suc (suc e)))) = lit≤ tt

-- another number is no edition
pub no_edition : (e : ℕ) → (e ≡ 1 → ⊥) → (e ≡ 2 → ⊥) → (e ≡ 3 → ⊥) → last_kind e ≡ 0
unfolding last_kind
no_edition zero h k l = refl
no_edition (suc zero) h k l = absurd (h refl)
no_edition (suc (suc zero)) h k l = absurd (k refl)
no_edition (suc (suc (suc zero))) h k l = absurd (l refl)
no_edition (suc (suc (suc (suc e)))) h k l = refl

-- so an edition fits its two bytes
pub small-edition : (e : ℕ) → 0 < last_kind e → e < 65536
unfolding last_kind
small-edition zero h = lit< tt
small-edition (suc zero) h = lit< tt
small-edition (suc (suc zero)) h = lit< tt
small-edition (suc (suc (suc zero))) h = lit< tt
small-edition (suc (suc (suc (suc e)))) h = absurd (omega arith)
