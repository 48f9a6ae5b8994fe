-- What is lent as `&[u8]` is bytes: the law of the type, as the kit has it. Assumes nothing but the laws of memory that every proof of a function takes.
use Prim.Native.Nat.{ℕ, zero, suc, ◌^◌, ◌<◌}
use mathlib.Core.List.{List, [], ◌∷◌}
use seplogic.Ra.Ura.{Ura}
use native.Mathlib.Omega.{arith}
use lib.ListN.{length}
use mir.Syntax.{Lifetime, w8}
use mir.Val.{Val}
use base.Logic.{SProp, ent, sep, via, guard, guard_i, guard_e}
use base.Fml.{Lft, Share, flft}
use types.Logic.{Logic, sem}
use types.Kit.{◌$◌, !, ‵, ◌⊛◌, qed, use2, given, later, learn, check, split, fsplit, fjoin, feq_l, feq_i, move, updating, await, now as at_once, done}
use denote.Builtin.{u8}
use denote.Ref.{Bor}
use denote.Slice.{ShrSlice, shr_slice_vals}
use borrow.Table.Referent.{f_int}
use borrow.Rule.Slice.Shared.{OwnH}
use borrow.Rule.Slice.Know.{AllWt, fit_at, shs_known}
use Rattle.form.specs.Bytes.{byte_at}

module _ {M : Type 1} {𝓤 : Ura M} (𝓛 : Logic 𝓤) where
  -- what a `&[u8]` owns, with a share of its lifetime: what a caller has to have, to lend it
  open 𝓛 use {H, A}

  abbrev pub Lent : Lifetime → Lft → Share → Bor (List ℕ) → List Val → SProp 𝓤
  Lent ℓ κ q x vs = sep 𝓤 (sem 𝓛 ((ShrSlice ℓ κ u8).own_val x vs)) (A.lft κ q)

  below : (s : List ℕ) → AllWt (f_int w8) s → (i : ℕ) → i < length s → byte_at s i < 256
  below s a i l = (fit_at (f_int w8) 0 (record { fits = omega arith }) s a i).fits

  pub bytes_lent : (ℓ : Lifetime) (κ : Lft) (q : Share) (x : Bor (List ℕ)) (vs : List Val)
      → ent 𝓤 (Lent ℓ κ q x vs) (H.⇛ (guard 𝓤 ((i : ℕ) → i < length x.now → byte_at x.now i < 256) (Lent ℓ κ q x vs)))
  bytes_lent ℓ κ q x vs =
      qed 𝓛 (‵ ((ShrSlice ℓ κ u8).own_val x vs) ∷ ‵ (flft κ q) ∷ [])
      {P = H.⇛ (guard 𝓤 ((i : ℕ) → i < length x.now → byte_at x.now i < 256) (Lent ℓ κ q x vs))} (
      updating ! $ fsplit ! $ fsplit ! $ feq_l ! (λ e. fjoin ! $
      use2 𝓛 (later (given (AllWt (f_int w8) x.now) (‵ (OwnH 𝓛 (f_int w8) κ q x.ref_ptr.0 x.ref_ptr.1 x.now) ⊛ ‵ (flft κ q))))
      (shs_known 𝓛 (f_int w8) κ q x.ref_ptr.0 x.ref_ptr.1 x.now) $ await ! tt $ learn ! (λ a. split ! $ fsplit ! $
      feq_i ! (List Val) vs (shr_slice_vals x) e $ fjoin ! $ fjoin ! $ at_once ! $ check ! (below x.now a) $ done !)))

  -- what follows from what is known
  pub known_of : (P Q : SProp 𝓤) (φ ψ : Type 0) → (φ → ψ) → ent 𝓤 P (H.⇛ (guard 𝓤 φ Q)) → ent 𝓤 P (H.⇛ (guard 𝓤 ψ Q))
  known_of P Q φ ψ f h = via 𝓤 (H.⇛ (guard 𝓤 φ Q)) h (𝓛.laws.⇛_mono (guard 𝓤 φ Q) (guard 𝓤 ψ Q) (guard_e 𝓤 φ Q (λ x. guard_i 𝓤 ψ Q (f x))))
