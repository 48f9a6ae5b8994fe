-- "Editions 1 and 2 that use it are .. written as ever": rows for another edition than 3 are ruled as before there was one. Assumes nothing.
--     written_as_before    by the rules as they were
--     third_as_second      where no stock row is of scattered trees, edition 3 is ruled as edition 2
use Prim.Native.Nat.{ℕ, zero, suc, ◌<◌}
use mathlib.Core.Path.{◌≡◌, refl, sym, ◌∙◌}
use mathlib.Core.List.{List}
use native.Mathlib.Decide.{ℕ_discrete}
use native.Mathlib.Omega.{arith}
use borrow.Author.Tests.{le-ltb, ne_eqb}
use lib.ListN.{length}
use Rattle.form.specs.First.{first}
use Rattle.form.specs.Ruling.{ruling}
use Rattle.form.specs.Layout.{kinds}
use Rattle.form.specs.Edition.{last_kind}
use Rattle.form.proofs.Search.{first-zero, first_found, first_same}
use Rattle.form.proofs.EachKind.{no_edition}
use Rattle.form.proofs.Order.{both-rule}
use Rattle.form.specs.SecondEdition.{NoneScattered}
use Rattle.form.proofs.SecondEdition.{filed-kept, spared, none_stands}
use Rattle.filing.specs.Lists.{cut, filed_lists}
use Rattle.lists.specs.Rules.{not_allowed, bad_at, list_rules}
use Rattle.lists.specs.SecondEdition.{bad_at_before, list_rules_before}

module _ (e : ℕ) (lengths area : List ℕ) (h : e ≡ 3 → ⊥) where
  -- 10, in the editions that there were, kind by kind
  first-list : e ≡ 1 → (p : ℕ) → bad_at e lengths (length area) p ≡ bad_at_before e lengths (length area) p
  unfolding not_allowed last_kind
  first-list one zero = rw one refl
  first-list one (suc k) = rw one refl

  second-list : e ≡ 2 → (p : ℕ) → p < suc kinds → bad_at e lengths (length area) p ≡ bad_at_before e lengths (length area) p
  unfolding not_allowed last_kind kinds
  second-list two zero l = rw two refl
  second-list two (suc k) l = rw (two, le-ltb kinds (suc k) (omega arith)) refl

  lists-before : first (bad_at e lengths (length area)) (suc kinds) ≡ first (bad_at_before e lengths (length area)) (suc kinds)
  lists-before = go (ℕ_discrete e 1) (ℕ_discrete e 2)
    where
      go : Dec (e ≡ 1) → Dec (e ≡ 2) → first (bad_at e lengths (length area)) (suc kinds) ≡ first (bad_at_before e lengths (length area)) (suc kinds)
      go (yes one) d = first_same _ _ (suc kinds) (λ p l. first-list one p)
      go (no a) (yes two) = first_same _ _ (suc kinds) (λ p l. second-list two p l)
      go (no a) (no b) =
          first_found (bad_at e lengths (length area)) 0 (suc kinds) (first-zero _) (rw (no_edition e a b h) refl) (omega arith)
          ∙ sym (first_found (bad_at_before e lengths (length area)) 0 (suc kinds) (first-zero _) (rw (ne_eqb e 1 a, ne_eqb e 2 b) refl) (omega arith))

  pub written_as_before : ruling (list_rules e lengths area) ≡ ruling (list_rules_before e lengths area)
  unfolding list_rules
  written_as_before = both-rule 10 (suc kinds) _ _ _ _ lists-before (λ x. filed-kept e (filed_lists (cut lengths area)) (spared e (filed_lists (cut lengths area)) h))

module _ (lengths area : List ℕ) where
  -- 10 asks the same of both editions
  third-list : (p : ℕ) → bad_at 3 lengths (length area) p ≡ bad_at 2 lengths (length area) p
  unfolding not_allowed last_kind
  third-list zero = refl
  third-list (suc k) = refl

  pub third_as_second : NoneScattered (filed_lists (cut lengths area)) → ruling (list_rules 3 lengths area) ≡ ruling (list_rules 2 lengths area)
  unfolding list_rules
  third_as_second h =
      let f = filed_lists (cut lengths area) in
      both-rule 10 (suc kinds) _ _ _ _ (first_same _ _ (suc kinds) (λ p l. third-list p)) (λ x.
      filed-kept 3 f (none_stands 3 f h) ∙ sym (filed-kept 2 f (none_stands 2 f h)))
