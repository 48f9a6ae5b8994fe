-- What follows from the facts of a contract's clauses, in any memory. Assumes nothing.
use mathlib.Core.Path.{◌≡◌, ap, ◌∙◌}
use seplogic.Ra.Ura.{Ura}
use base.Logic.{SProp, ent, sep, via, fst∗, snd∗, mono_r, id⊢}
use contract.Monad.{conj, conj_l, conj_r, conj_mono, fact, fact_i, fact_use}

module _ {M : Type 1} (𝓤 : Ura M) where
  -- what follows from a fact
  pub then : {P : SProp 𝓤} (φ ψ : Type 0) → ent 𝓤 P (fact 𝓤 φ) → (φ → ψ) → ent 𝓤 P (fact 𝓤 ψ)
  then {P} φ ψ h f = fact_use 𝓤 φ h (λ x. fact_i 𝓤 ψ P (f x))

  -- facts side by side are one fact
  pub beside : (P : SProp 𝓤) (φ ψ : Type 0) → ent 𝓤 P (fact 𝓤 ψ) → ent 𝓤 (sep 𝓤 (fact 𝓤 φ) P) (fact 𝓤 (φ × ψ))
  beside P φ ψ h =
      fact_use 𝓤 φ (fst∗ 𝓤 (fact 𝓤 φ) P)
      (λ x. fact_use 𝓤 ψ (via 𝓤 P (snd∗ 𝓤 (fact 𝓤 φ) P) h) (λ y. fact_i 𝓤 (φ × ψ) (sep 𝓤 (fact 𝓤 φ) P) (x, y)))

  -- what follows from two facts that are held together
  one : (φ ψ χ : Type 0) → (φ → ψ → χ) → ent 𝓤 (conj 𝓤 (fact 𝓤 φ) (fact 𝓤 ψ)) (fact 𝓤 χ)
  one φ ψ χ f = fact_use 𝓤 φ (conj_l 𝓤 (fact 𝓤 φ) (fact 𝓤 ψ)) (λ x. fact_use 𝓤 ψ (conj_r 𝓤 (fact 𝓤 φ) (fact 𝓤 ψ)) (λ y. fact_i 𝓤 χ (conj 𝓤 (fact 𝓤 φ) (fact 𝓤 ψ)) (f x y)))

  pub both : {P Q : SProp 𝓤} {φ ψ : Type 0} (χ : Type 0) → ent 𝓤 P (fact 𝓤 φ) → ent 𝓤 Q (fact 𝓤 ψ) → (φ → ψ → χ) → ent 𝓤 (conj 𝓤 P Q) (fact 𝓤 χ)
  both {P} {Q} {φ} {ψ} χ h k f = via 𝓤 (conj 𝓤 (fact 𝓤 φ) (fact 𝓤 ψ)) (conj_mono 𝓤 h k) (one φ ψ χ f)

  -- an answer and what stands beside it, as one equation
  pub paired : {X Y : Type 0} {P : SProp 𝓤} (x y : X) (z w : Y)
      → ent 𝓤 P (fact 𝓤 (z ≡ w)) → ent 𝓤 (sep 𝓤 (fact 𝓤 (x ≡ y)) P) (fact 𝓤 (◌≡◌ {A = X × Y} (x, z) (y, w)))
  paired {P = P} x y z w h = then (x ≡ y × z ≡ w) _ (beside P (x ≡ y) (z ≡ w) h) (λ p. λ i. (p.0 i, p.1 i))

  -- where what stands beside it is said by the answer
  pub followed : {X Y : Type 0} (x y : X) (z : Y) (f : X → Y)
      → ent 𝓤 (sep 𝓤 (fact 𝓤 (x ≡ y)) (fact 𝓤 (z ≡ f x))) (fact 𝓤 (◌≡◌ {A = X × Y} (x, z) (y, f y)))
  followed x y z f =
      then (x ≡ y × z ≡ f x) _ (beside (fact 𝓤 (z ≡ f x)) (x ≡ y) (z ≡ f x) (id⊢ 𝓤 _))
      (λ p. let q = p.1 ∙ ap f p.0 in λ i. (p.0 i, q i))

  -- the same where a third fact stands behind; and the first with that third
  pub paired_and : {X Y : Type 0} (x y : X) (z w : Y) (φ : Type 0)
      → ent 𝓤 (sep 𝓤 (fact 𝓤 (x ≡ y)) (sep 𝓤 (fact 𝓤 (z ≡ w)) (fact 𝓤 φ))) (fact 𝓤 (◌≡◌ {A = X × Y} (x, z) (y, w)))
  paired_and x y z w φ = paired {P = sep 𝓤 (fact 𝓤 (z ≡ w)) (fact 𝓤 φ)} x y z w (fst∗ 𝓤 (fact 𝓤 (z ≡ w)) (fact 𝓤 φ))

  pub followed_and : {X Y : Type 0} (x y : X) (z : Y) (f : X → Y) (φ : Type 0)
      → ent 𝓤 (sep 𝓤 (fact 𝓤 (x ≡ y)) (sep 𝓤 (fact 𝓤 (z ≡ f x)) (fact 𝓤 φ))) (fact 𝓤 (◌≡◌ {A = X × Y} (x, z) (y, f y)))
  followed_and x y z f φ =
      via 𝓤 (sep 𝓤 (fact 𝓤 (x ≡ y)) (fact 𝓤 (z ≡ f x)))
      (mono_r 𝓤 (fact 𝓤 (x ≡ y)) {Q = sep 𝓤 (fact 𝓤 (z ≡ f x)) (fact 𝓤 φ)} {Q' = fact 𝓤 (z ≡ f x)} (fst∗ 𝓤 (fact 𝓤 (z ≡ f x)) (fact 𝓤 φ))) (followed x y z f)

  pub outer : (φ ψ χ : Type 0) → ent 𝓤 (sep 𝓤 (fact 𝓤 φ) (sep 𝓤 (fact 𝓤 ψ) (fact 𝓤 χ))) (fact 𝓤 (φ × χ))
  outer φ ψ χ = beside (sep 𝓤 (fact 𝓤 ψ) (fact 𝓤 χ)) φ χ (snd∗ 𝓤 (fact 𝓤 ψ) (fact 𝓤 χ))
