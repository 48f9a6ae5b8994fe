-- Rows as text: the contracts of the functions that pack a text, say why it can't be packed and unpack a return, from Rattle and from C. Each asks nothing of its caller, says what
-- promises/Texts speaks of, admits one answer, and is met; and the room that the header names for the lines is enough for any text.
use Rattle.std.specs.Prelude.{ℕ, ◌≤◌, ◌≡◌, List, length, Some, Result}
use Rattle.std.proofs.Common.{ap, ◌∙◌}
use seplogic.Ra.Ura.{Ura}
use base.Logic.{SProp, ent, id⊢}
use contract.Monad.{Fun, fact}
use contract.Lifetimes.{Lfts}
use prog.Memory.{Memory}
use prog.Routine.{Routine}
use types.Logic.{Logic}
use denote.Triple.Entry.{Args, Res}
use denote.Triple.Clauses.{AtExit}
use Rattle.form.specs.Refusals.{Ruling}
use Rattle.phrases.specs.Room.{put_of, text_after}
use Rattle.unpacked.specs.Calls.{unpack_call, text_unpacked, size_unpacked}
use Rattle.packing.specs.Packing.{pack_call, bytes_packed, size_packed}
use Rattle.packing.specs.declared.NotPacked.{NotPacked}
use Rattle.objections.specs.Objections.{pack_why, why_room}
use Rattle.door.specs.Door.{code_of}
use Rattle.door.specs.Texts.{pack_code}
use Rattle.steps.proofs.Clauses.{then, outer, paired, paired_and, followed_and}
use Rattle.contracts.specs.Contract.{Says, says}
use Rattle.contracts.specs.Answers.{with_room, sized}
use Rattle.contracts.specs.Rooms.{done_in}
use Rattle.packing.specs.contracts.pack as pack
use Rattle.packing.proofs.pack as proved-pack
use Rattle.unpacked.specs.contracts.unpack as unpack
use Rattle.unpacked.proofs.unpack as proved-unpack
use Rattle.objections.specs.contracts.say_why as why
use Rattle.objections.proofs.say_why as proved-why
use Rattle.door.specs.contracts.niloferq_pack as c-pack
use Rattle.door.proofs.niloferq_pack as proved-c-pack
use Rattle.door.specs.contracts.niloferq_pack_why as c-why
use Rattle.door.proofs.niloferq_pack_why as proved-c-why
use Rattle.door.specs.contracts.niloferq_unpack as c-unpack
use Rattle.door.proofs.niloferq_unpack as proved-c-unpack

module _ {M : Type 1} {𝓤 : Ura M} (𝓛 : Logic 𝓤) (mem : Memory → SProp 𝓤) (run : Routine → Fun 𝓤) where
  -- the answer, the room and the size
  pub pack_says : Says 𝓤 pack.ended (pack.clauses 𝓛 mem run) {X = Result (Unit {0}) NotPacked × (List ℕ × List ℕ)} (λ κs r e. (r, (e.1.0.now, e.1.1.0.now)))
      (λ κs a. let text = a.0.now in let room = a.1.0.now in let size = a.1.1.0.now in
      (pack_call text room size, (bytes_packed text room size, size_packed text room size)))
  pack_says = says 𝓤 _ _ _ _ (λ κs a g. id⊢ 𝓤 _) (λ κs a g r e. paired 𝓤 _ _ _ _ (paired 𝓤 _ _ _ _ (id⊢ 𝓤 _)))

  pub c_pack_says : Says 𝓤 c-pack.ended (c-pack.clauses 𝓛 mem run) {X = ℕ × (List ℕ × List ℕ)} (λ κs r e. (r, (e.1.0.now, e.1.1.0.now)))
      (λ κs a. let text = a.0.now in let room = a.1.0.now in let size = a.1.1.0.now in
      (pack_code (pack_call text room size), (bytes_packed text room size, size_packed text room size)))
  c_pack_says = says 𝓤 _ _ _ _ (λ κs a g. id⊢ 𝓤 _) (λ κs a g r e. paired 𝓤 _ _ _ _ (paired 𝓤 _ _ _ _ (id⊢ 𝓤 _)))

  pub unpack_says : Says 𝓤 unpack.ended (unpack.clauses 𝓛 mem run) {X = Ruling × (List ℕ × List ℕ)} (λ κs r e. (r, (e.1.0.now, e.1.1.0.now)))
      (λ κs a. let s = a.0.now in let room = a.1.0.now in let size = a.1.1.0.now in
      (unpack_call s room size, (text_unpacked s room size, size_unpacked s room size)))
  unpack_says = says 𝓤 _ _ _ _ (λ κs a g. id⊢ 𝓤 _) (λ κs a g r e. paired 𝓤 _ _ _ _ (paired 𝓤 _ _ _ _ (id⊢ 𝓤 _)))

  pub c_unpack_says : Says 𝓤 c-unpack.ended (c-unpack.clauses 𝓛 mem run) {X = ℕ × (List ℕ × List ℕ)} (λ κs r e. (r, (e.1.0.now, e.1.1.0.now)))
      (λ κs a. let s = a.0.now in let room = a.1.0.now in let size = a.1.1.0.now in
      (code_of (unpack_call s room size), (text_unpacked s room size, size_unpacked s room size)))
  c_unpack_says = says 𝓤 _ _ _ _ (λ κs a g. id⊢ 𝓤 _) (λ κs a g r e. paired 𝓤 _ _ _ _ (paired 𝓤 _ _ _ _ (id⊢ 𝓤 _)))

  -- the answer, and the lent room as it leaves it; from C the lines' length
  pub why-says : Says 𝓤 why.ended (why.clauses 𝓛 mem run) (λ κs r e. (r, e.1.0.now))
      (λ κs a. with_room (put_of (pack_why a.0.now) a.1.0.now) (text_after (pack_why a.0.now) a.1.0.now))
  why-says = says 𝓤 _ _ _ _ (λ κs a g. id⊢ 𝓤 _) (λ κs a g r e. followed_and 𝓤 _ _ _ (text_after (pack_why a.0.now) a.1.0.now) _)

  pub c_why-says : Says 𝓤 c-why.ended (c-why.clauses 𝓛 mem run) (λ κs r e. (r, e.1.0.now))
      (λ κs a. sized (put_of (pack_why a.0.now) a.1.0.now) (text_after (pack_why a.0.now) a.1.0.now))
  c_why-says = says 𝓤 _ _ _ _ (λ κs a g. id⊢ 𝓤 _) (λ κs a g r e. paired_and 𝓤 _ _ _ _ _)

  -- room of `why_room` bytes, NILOFERQ_PACK_WHY_ROOM, is enough for the lines of any text
  pub why-fits : (κs : Lfts (why.ended).signature.lifetimes) (a : Args (why.ended).signature κs) (g : (why.clauses 𝓛 mem run κs a).ghost)
      (r : Res (why.ended).signature κs) (e : AtExit why.ended κs)
      → ent 𝓤 ((why.clauses 𝓛 mem run κs a).ensures g r e) (fact 𝓤 (why_room ≤ length a.1.0.now → r ≡ Some (length (pack_why a.0.now))))
  why-fits κs a g r e = then 𝓤 _ _ (outer 𝓤 _ _ _) (λ p h. p.0 ∙ done_in (pack_why a.0.now) a.1.0.now why_room p.1 h)

-- ---- each meets its contract
pub pack_meets : {M : Type 1} → proved-pack.Statement.statement M
pack_meets = proved-pack.Met.met

pub unpack_meets : {M : Type 1} → proved-unpack.Statement.statement M
unpack_meets = proved-unpack.Met.met

pub why_meets : {M : Type 1} → proved-why.Statement.statement M
why_meets = proved-why.Met.met

pub c_pack_meets : {M : Type 1} → proved-c-pack.Statement.statement M
c_pack_meets = proved-c-pack.Met.met

pub c_why_meets : {M : Type 1} → proved-c-why.Statement.statement M
c_why_meets = proved-c-why.Met.met

pub c_unpack_meets : {M : Type 1} → proved-c-unpack.Statement.statement M
c_unpack_meets = proved-c-unpack.Met.met
