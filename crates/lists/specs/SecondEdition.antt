-- The rules of rows to be written before there was an edition 3, in the words of 01, §1, §8 and §11: what editions 1 and 2 are still written by, with scattered trees
-- (proofs/SecondEdition).
use Rattle.std.specs.Prelude.{ℕ, zero, suc, Bool, not, ◌&&◌, ◌||◌, List, ◌∷◌, length, get_or, ltb, eqb}
use Rattle.form.specs.Ruling.{Rule, rule}
use Rattle.form.specs.Layout.{kinds}
use Rattle.form.specs.SecondEdition.{known_before, filed_before}
use Rattle.filing.specs.Lists.{cut, filed_lists}
use Rattle.lists.specs.Rules.{bad_list, bad_lengths}

-- 10: 01's test of a list, "also for an unknown edition, place 0, and for rows above kind 4 in edition 1"
abbrev pub bad_at_before : ℕ → List ℕ → ℕ → ℕ → Bool
bad_at_before edition lengths m zero = not (known_before 2 edition) || bad_lengths lengths m
bad_at_before edition lengths m (suc k) = (eqb edition 1 && (ltb 4 (suc k) && not (eqb (get_or lengths k 0) 0))) || bad_list (suc k) (get_or lengths k 0)

abbrev pub list_rules_before : ℕ → List ℕ → List ℕ → List Rule
list_rules_before edition lengths area = rule 10 (suc kinds) (bad_at_before edition lengths (length area)) ∷ filed_before (filed_lists (cut lengths area))
