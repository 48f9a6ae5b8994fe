-- Tests that fail or hold together. Assumes nothing.
use Prim.Native.Nat.{ℕ, ◌<◌, ◌≤◌}
use mathlib.Core.Path.{◌≡◌, refl, sym, ap, ap₂, ◌∙◌}
use mathlib.Core.Bool.{Bool, true, false, not, ◌&&◌, ◌||◌}
use native.Mathlib.Decide.{dec_lt}
use native.Mathlib.Omega.{arith}
use lib.Dec.{ltb}
use borrow.Author.Tests.{lt-ltb, le-ltb}

-- two tests that fail
pub or_of : {a b : Bool} → a ≡ false → b ≡ false → (a || b) ≡ false
or_of p q = ap₂ (λ (s t : Bool). s || t) p q

-- a test whose second part fails where its first holds
pub unless : (a : Bool) {b : Bool} → (a ≡ true → b ≡ false) → (a && b) ≡ false
unless true h = h refl
unless false h = refl

-- a test that its second part takes away again
pub implies : (a : Bool) {b : Bool} → (a ≡ true → b ≡ true) → (a && not b) ≡ false
implies a h = unless a (λ q. ap not (h q))

-- two tests that hold together
pub ltb_same : (a b c d : ℕ) → (a < b → c < d) → (b ≤ a → d ≤ c) → ltb a b ≡ ltb c d
ltb_same a b c d h g = go (dec_lt a b)
  where
    go : Dec (a < b) → ltb a b ≡ ltb c d
    go (yes l) = lt-ltb a b l ∙ sym (lt-ltb c d (h l))
    go (no l) = le-ltb a b (omega arith) ∙ sym (le-ltb c d (g (omega arith)))
