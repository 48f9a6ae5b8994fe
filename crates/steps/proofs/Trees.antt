-- What rule 14 says of a return, and of rows to be written. Assumes nothing.
--     trees-refused, trees_unwritten    where it is given: the first stock row of scattered trees, in edition 3
--     none_written                      what is written in edition 3 has none
use Prim.Native.Nat.{ℕ}
use mathlib.Core.Path.{◌≡◌, refl}
use mathlib.Core.List.{List}
use Rattle.form.specs.Ruling.{ruling}
use Rattle.form.specs.Block.{edition}
use Rattle.form.specs.Records.{filed}
use Rattle.form.specs.SecondEdition.{NoneScattered, FirstScattered}
use Rattle.form.specs.Verdict.{block_rules, verdict_of}
use Rattle.form.specs.Refusals.{Refused}
use Rattle.std.specs.Prelude.{Ok}
use Rattle.form.proofs.Order.{Kept, kept_of, least_of, ruling-clean, ruling_least}
use Rattle.form.proofs.Meaning.{broken_at}
use Rattle.form.proofs.SecondEdition.{kept_none, first-scattered}
use Rattle.filing.specs.Lists.{cut, filed_lists}
use Rattle.lists.specs.Rules.{list_rules}
use Rattle.rows.specs.Writing.{write_rules, write_answer}
use Rattle.rows.proofs.Return.{done_by}
use Rattle.steps.proofs.Told.{written_told}

pub trees-refused : (s : List ℕ) (p : ℕ) → verdict_of s ≡ Refused 14 p → FirstScattered (edition s 0) (filed s) p
unfolding block_rules
trees-refused s p e = first-scattered (edition s 0) (filed s) p (broken_at s 14 e refl)

module _ (lengths area room : List ℕ) where
  pub none_written : (n : ℕ) → write_answer 3 lengths area room ≡ Ok n → NoneScattered (filed_lists (cut lengths area))
  unfolding write_answer list_rules Kept
  none_written n e =
      let clean = (done_by 3 (cut lengths area) (ruling (write_rules 3 lengths area room)) e).0 in
      kept_none (filed_lists (cut lengths area)) (kept_of 14 (ruling-clean clean))

pub trees_unwritten : (e : ℕ) (lengths area room : List ℕ) (p : ℕ) → write_answer e lengths area room ≡ Refused 14 p
    → FirstScattered e (filed_lists (cut lengths area)) p
unfolding write_answer list_rules
trees_unwritten e lengths area room p q =
    let broken : ruling (write_rules e lengths area room) ≡ Refused 14 p = written_told e (cut lengths area) (ruling (write_rules e lengths area room)) (Refused 14 p) q in
    first-scattered e (filed_lists (cut lengths area)) p (least_of refl (ruling_least broken))
