-- A rule, an edition and a kind that are passed over together: no row of the kind breaks the rule in the edition. Assumes nothing.
use Prim.Native.Nat.{ℕ}
use mathlib.Core.Path.{◌≡◌, refl, sym}
use mathlib.Core.Bool.{Bool, true, false, not, ◌&&◌, ◌||◌, false≢true}
use mathlib.Core.List.{List}
use lib.Dec.{eqb}
use borrow.Author.Tests.{eqb-true, not-true}
use Rattle.form.specs.Records.{is_scattered, overspent, test_numbered}
use Rattle.form.specs.Steps.{passed_over}
use Rattle.form.proofs.Tests.{off, either}

-- a test of the rows of kind m alone
other_kind : (m k : ℕ) (x : Bool) → not (eqb k m) ≡ true → (eqb k m && x) ≡ false
other_kind m k x h = sym (off x (not-true (eqb k m) h))

-- a test of the rows of kind m in edition a alone
other_edition : (a e m k : ℕ) (x : Bool) → (not (eqb e a) || not (eqb k m)) ≡ true → (eqb e a && (eqb k m && x)) ≡ false
other_edition a e m k x = go (eqb e a) (eqb k m)
  where
    go : (p q : Bool) → (not p || not q) ≡ true → (p && (q && x)) ≡ false
    go false q h = refl
    go true false h = refl
    go true true h = absurd (false≢true h)

pub spared_row : (n e k : ℕ) (r : List ℕ) → passed_over n e k ≡ true → test_numbered n e k r ≡ false
spared_row n e k r =
    either (λ (b : Bool). b ≡ true → test_numbered n e k r ≡ false) (eqb n 14)
    (λ t h. rw (eqb-true n 14 t) (other_edition 3 e 2 k (is_scattered r) h))
    (λ f.
    either (λ (b : Bool). b ≡ true → test_numbered n e k r ≡ false) (eqb n 7)
    (λ t h. rw (eqb-true n 7 t) (other_kind 1 k (overspent r) h))
    (λ g h. absurd (false≢true h)))
