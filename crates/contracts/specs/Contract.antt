-- "Each public function's contract states its answer and the final contents of lent memory completely", and "it is proved that the contract admits one answer".
-- A contract here is what the prover made of a function's own clauses, in any memory and for whatever the caller passed.
use Rattle.std.specs.Prelude.{◌≡◌}
use Rattle.std.proofs.Common.{sym, ◌∙◌}
use seplogic.Ra.Ura.{Ura}
use base.Logic.{ent, emp}
use contract.Monad.{conj, fact}
use contract.Lifetimes.{Lfts}
use denote.Triple.Entry.{Args, Res}
use denote.Triple.Clauses.{Ended, AtExit, Clauses}
use Rattle.steps.proofs.Clauses.{both}

-- a contract, by its clauses, in whatever memory is made of; and what is seen of an answer r with e behind the lent references at exit
module _ {M : Type 1} (𝓤 : Ura M) (T : Ended) (c : Clauses 𝓤 T)
    {X : Type 0} (seen : (κs : Lfts T.signature.lifetimes) → Res T.signature κs → AtExit T κs → X) where
  -- it asks nothing of its caller
  abbrev AsksNothing : Type 1
  AsksNothing = (κs : Lfts T.signature.lifetimes) (a : Args T.signature κs) (g : (c κs a).ghost) → ent 𝓤 (emp 𝓤) ((c κs a).requires g)

  -- for one set of arguments, two answers that both meet it are seen to be the same, and so is the memory beside them
  abbrev pub AdmitsOne : Type 1
  AdmitsOne =
      (κs : Lfts T.signature.lifetimes) (a : Args T.signature κs) (g h : (c κs a).ghost) (r q : Res T.signature κs) (e f : AtExit T κs)
      → ent 𝓤 (conj 𝓤 ((c κs a).ensures g r e) ((c κs a).ensures h q f)) (fact 𝓤 (seen κs r e ≡ seen κs q f))

  module _ (meant : (κs : Lfts T.signature.lifetimes) → Args T.signature κs → X) where
    -- what is seen of an answer that meets it is what is meant for the arguments
    abbrev Answers : Type 1
    Answers =
        (κs : Lfts T.signature.lifetimes) (a : Args T.signature κs) (g : (c κs a).ghost) (r : Res T.signature κs) (e : AtExit T κs)
        → ent 𝓤 ((c κs a).ensures g r e) (fact 𝓤 (seen κs r e ≡ meant κs a))

    pub record Says : Type 1 where
      pub asks_nothing : AsksNothing
      pub answers : Answers
      pub admits_one : AdmitsOne

    -- one answer follows from what any answer is
    one : Answers → AdmitsOne
    one answers = λ κs a g h r q e f. both 𝓤 _ (answers κs a g r e) (answers κs a h q f) (λ x y. x ∙ sym y)

    pub says : AsksNothing → Answers → Says
    says asks answers = record { asks_nothing = asks; answers = answers; admits_one = one answers }

    -- the same of a function that asks something of its caller
    pub record SaysAsked : Type 1 where
      pub answers : Answers
      pub admits_one : AdmitsOne

    pub says_asked : Answers → SaysAsked
    says_asked answers = record { answers = answers; admits_one = one answers }
