-- The round trip of what running code is lent (specs/Lent).
use Rattle.std.specs.Prelude.{ℕ, List}
use seplogic.Ra.Ura.{Ura}
use mir.Syntax.{Lifetime}
use mir.Val.{Val}
use base.Logic.{ent, guard}
use base.Fml.{Lft, Share}
use types.Logic.{Logic}
use Rattle.std.specs.Borrow.{Bor}
use Rattle.steps.proofs.Lent.{Lent, known_of, bytes_lent}
use Rattle.promises.specs.Demand2.{Bytes, read_writes_back}
use Rattle.promises.specs.Lent.{SameAgain}
use Rattle.promises.proofs.FromC.{c_read_writes_back}

pub same_again : (s : List ℕ) → Bytes s → SameAgain s
same_again s small = record { rattle = read_writes_back s small; from_C = c_read_writes_back s small }

-- in the memory that the functions are proved in: `Lent` is what a `&[u8]` owns, here the reference x for the lifetime κ, with a share of that lifetime
module _ {M : Type 1} {𝓤 : Ura M} (𝓛 : Logic 𝓤)
    (ℓ : Lifetime) (κ : Lft) (q : Share) (x : Bor (List ℕ)) (vs : List Val) where
  open 𝓛 use {H}

  pub lent_same_again : let lent = Lent 𝓛 ℓ κ q x vs in ent 𝓤 lent (H.⇛ (guard 𝓤 (SameAgain x.now) lent))
  lent_same_again =
      let lent = Lent 𝓛 ℓ κ q x vs in
      known_of 𝓛 lent lent (Bytes x.now) (SameAgain x.now) (same_again x.now) (bytes_lent 𝓛 ℓ κ q x vs)
