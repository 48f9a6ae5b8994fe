-- A call from C that refuses nothing is one that refuses nothing in Rattle, and the other way. Assumes nothing.
--     read-called, read-answered        reading; read_kept, where the return is good and its rows fit
--     write_called, write_answered      writing
use Prim.Native.Nat.{ℕ, zero, suc, ◌≤◌, ◌<◌}
use mathlib.Core.Path.{◌≡◌, refl, sym, ap, ◌∙◌}
use mathlib.Core.Bool.{false}
use mathlib.Core.List.{List, [], ◌∷◌}
use native.Mathlib.Omega.{arith}
use borrow.Author.Tests.{le-ltb, ltb-false}
use lib.Dec.{ltb}
use lib.ListN.{length}
use Rattle.form.specs.Layout.{kinds}
use Rattle.form.specs.Ruling.{rule, ruling}
use Rattle.form.specs.Verdict.{rules, counts_of, verdict_by}
use Rattle.form.specs.declared.Counts.{Counts}
use Rattle.form.specs.Refusals.{Clean}
use Rattle.std.specs.Prelude.{Ok}
use Rattle.form.proofs.Tests.{or_none}
use Rattle.form.proofs.Search.{first_is_none}
use Rattle.form.proofs.Order.{Kept, AllKept, none, more, kept, kept-before, append_kept, ruling-clean}
use Rattle.form.proofs.Meaning.{clean_of}
use Rattle.filing.specs.Lists.{cut}
use Rattle.filing.proofs.Laying.{length_part}
use Rattle.lists.specs.Rules.{list_rules}
use Rattle.rows.specs.Reading.{rows_of, area_to, outgrown, read_rules, read_answer}
use Rattle.rows.specs.Writing.{written, write_rules, written_by, write_answer}
use Rattle.rows.proofs.Return.{done_by}
use Rattle.counted.specs.Counts.{counts_room}
use Rattle.handed.specs.Rows.{short_at, read_rules_c, read_call, write_rooms, write_rules_c, write_call}
use Rattle.handed.proofs.Reading.{enough}
use Rattle.handed.proofs.Writing.{sized}

module _ (s rows counts : List ℕ) where
  pub read-called : (c : Counts) → read_answer s rows ≡ Ok c → counts_room ≤ length counts → read_call s rows counts ≡ Clean
  unfolding read_answer
  read-called c e h = enough s rows counts h ∙ (clean_of s (ruling (read_rules s rows)) c e).0

  pub read_kept : ruling (rules s) ≡ Clean → length (area_to s kinds) ≤ length rows → counts_room ≤ length counts → read_call s rows counts ≡ Clean
  unfolding ruling
  read_kept k l h =
      let last = rule 9 (suc kinds) (outgrown s (length rows)) in
      enough s rows counts h ∙ kept-before (rules s) (last ∷ []) k ∙ sym (kept last [] (first_is_none (outgrown s (length rows)) (suc kinds) fit) refl)
    where
      fit : (k : ℕ) → k < suc kinds → outgrown s (length rows) k ≡ false
      fit k m = le-ltb (length rows) (length (area_to s k)) (omega (arith, length_part (rows_of s) k kinds (omega arith)))

  counts_fit : AllKept (rule 9 (suc kinds) (short_at s (length rows) (length counts)) ∷ []) → counts_room ≤ length counts
  unfolding Kept
  counts_fit (more k none) = ltb-false (length counts) counts_room (k 0 (omega arith))

  pub read-answered : read_call s rows counts ≡ Clean → read_answer s rows ≡ Ok (counts_of s)
  unfolding read_answer
  read-answered e =
      let h = counts_fit (append_kept (rules s) _ (ruling-clean e)).1 in
      ap (verdict_by s) (sym (enough s rows counts h) ∙ e)

module _ (ed : ℕ) (area lengths room size : List ℕ) where
  pub write_called : (n : ℕ) → write_answer ed lengths area room ≡ Ok n → 1 ≤ length size → write_call ed area lengths room size ≡ Clean
  unfolding write_answer
  write_called n e h = sized ed area lengths room size h ∙ (done_by ed (cut lengths area) (ruling (write_rules ed lengths area room)) e).0

  size_fits : AllKept (write_rooms ed lengths area room size ∷ []) → 1 ≤ length size
  unfolding Kept
  size_fits (more k none) =
      let short = ltb (length room) (length (written ed (cut lengths area))) in
      ltb-false (length size) 1 (or_none short (ltb (length size) 1) (k 0 (omega arith))).1

  pub write_answered : write_call ed area lengths room size ≡ Clean → write_answer ed lengths area room ≡ Ok (length (written ed (cut lengths area)))
  unfolding write_answer
  write_answered e =
      let h = size_fits (append_kept (list_rules ed lengths area) _ (ruling-clean e)).1 in
      ap (written_by ed (cut lengths area)) (sym (sized ed area lengths room size h) ∙ e)
