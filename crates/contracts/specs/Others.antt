-- "Each public function's contract states its answer and the final contents of lent memory completely", and "admits one answer": of the public functions
-- behind the entry points, each as Answers has it of those. Which other contracts there are, by their form, is in docs/DECISIONS.md; the forms are below.
use Rattle.std.specs.Prelude.{ℕ, ◌≡◌, List, ℤ, Result}
use Rattle.std.proofs.Common.{sym, ◌∙◌}
use seplogic.Ra.Ura.{Ura}
use base.Logic.{SProp, id⊢}
use contract.Monad.{Fun}
use prog.Memory.{Memory}
use prog.Routine.{Routine}
use types.Logic.{Logic}
use Rattle.form.specs.Verdict.{rows}
use Rattle.form.specs.Refusals.{Ruling}
use Rattle.held.specs.Checked.{checked_of}
use Rattle.wide.specs.Numbers.{Is}
use Rattle.wide.specs.Signs.{Holds}
use Rattle.wide.specs.declared.Wide.{Wide}
use Rattle.wide.specs.declared.signed.Signed.{Signed}
use Rattle.wide.proofs.Laws.{words}
use Rattle.wide.proofs.SignLaws.{signed}
use Rattle.decimal.specs.Digits.{WrittenAt}
use Rattle.worksheets.specs.Sheets.{by_kind, standard, figures_of}
use Rattle.doubles.specs.Subtotals.{subtotals_of}
use Rattle.heaviest.specs.Heaviest.{heaviest_of}
use Rattle.tabled.specs.Figures.{figures_answer, figures_after}
use Rattle.counted.specs.Counts.{judge_call, counts_after}
use Rattle.charted.specs.Subtotal.{subtotal_call, bits_after}
use Rattle.offered.specs.Defaults.{defaults_call, defaults_after}
use Rattle.weighed.specs.Heaviest.{heaviest_call, heaviest_after}
use Rattle.handed.specs.Rows.{read_call, rows_read, counts_read, write_call, blocks_written, size_written}
use Rattle.table52.specs.Lookup.{looked_up}
use Rattle.table52.specs.Lent.{told_of, room_after}
use Rattle.table52.specs.declared.lent.NotTold.{NotTold}
use Rattle.steps.proofs.Clauses.{paired, followed}
use Rattle.contracts.specs.Contract.{Says, says, SaysAsked, says_asked}
use Rattle.contracts.specs.Answers.{with_room}
use Rattle.held.specs.contracts.hold as hold
use Rattle.worksheets.specs.contracts.work_out as work-out
use Rattle.worksheets.specs.contracts.figures_of as figures-of
use Rattle.worksheets.specs.contracts.sheets.Parameters.defaults as defaults
use Rattle.doubles.specs.contracts.add_up as add-up
use Rattle.doubles.specs.contracts.subtotals_of as subtotals-of
use Rattle.heaviest.specs.contracts.weigh_rows as weigh-rows
use Rattle.tabled.specs.contracts.tabulate as tabulate
use Rattle.counted.specs.contracts.tell as counted
use Rattle.charted.specs.contracts.tell as charted
use Rattle.offered.specs.contracts.tell as offered
use Rattle.weighed.specs.contracts.tell as weighed
use Rattle.handed.specs.contracts.read as handed-read
use Rattle.handed.specs.contracts.write as handed-write
use Rattle.table52.specs.contracts.lent.tell as table

module _ {M : Type 1} {𝓤 : Ura M} (𝓛 : Logic 𝓤) (mem : Memory → SProp 𝓤) (run : Routine → Fun 𝓤) where
  -- ---- the checked return, and what is asked of judged bytes
  pub work_out_says : SaysAsked 𝓤 work-out.ended (work-out.clauses 𝓛 mem run) (λ κs r e. r) (λ κs a. figures_of (by_kind a.0.now))
  work_out_says = says_asked 𝓤 _ _ _ _ (λ κs a g r e. id⊢ 𝓤 _)

  pub add_up_says : SaysAsked 𝓤 add-up.ended (add-up.clauses 𝓛 mem run) (λ κs r e. r) (λ κs a. subtotals_of (rows 1 a.0.now))
  add_up_says = says_asked 𝓤 _ _ _ _ (λ κs a g r e. id⊢ 𝓤 _)

  pub weigh_rows-says : SaysAsked 𝓤 weigh-rows.ended (weigh-rows.clauses 𝓛 mem run) (λ κs r e. r) (λ κs a. heaviest_of a.0.now)
  weigh_rows-says = says_asked 𝓤 _ _ _ _ (λ κs a g r e. id⊢ 𝓤 _)

  pub hold_says : SaysAsked 𝓤 hold.ended (hold.clauses 𝓛 mem run) (λ κs r e. r) (λ κs a. checked_of a.0 a.1.0)
  hold_says = says_asked 𝓤 _ _ _ _ (λ κs a g r e. id⊢ 𝓤 _)

  pub figures_of_says : SaysAsked 𝓤 figures-of.ended (figures-of.clauses 𝓛 mem run) (λ κs r e. r) (λ κs a. figures_of (by_kind a.0.bytes.now))
  figures_of_says = says_asked 𝓤 _ _ _ _ (λ κs a g r e. id⊢ 𝓤 _)

  pub subtotals_of_says : SaysAsked 𝓤 subtotals-of.ended (subtotals-of.clauses 𝓛 mem run) (λ κs r e. r) (λ κs a. subtotals_of (rows 1 a.0.bytes.now))
  subtotals_of_says = says_asked 𝓤 _ _ _ _ (λ κs a g r e. id⊢ 𝓤 _)

  pub defaults-says : Says 𝓤 defaults.ended (defaults.clauses 𝓛 mem run) (λ κs r e. r) (λ κs a. standard)
  defaults-says = says 𝓤 _ _ _ _ (λ κs a g. id⊢ 𝓤 _) (λ κs a g r e. id⊢ 𝓤 _)

  -- ---- what the functions for C hand on to: a ruling, and the lent rooms
  pub tabulate_says : Says 𝓤 tabulate.ended (tabulate.clauses 𝓛 mem run) (λ κs r e. (r, e.1.0.now))
      (λ κs a. with_room (figures_answer a.0.now a.1.0.now) (figures_after a.0.now a.1.0.now))
  tabulate_says = says 𝓤 _ _ _ _ (λ κs a g. id⊢ 𝓤 _) (λ κs a g r e. followed 𝓤 _ _ _ (figures_after a.0.now a.1.0.now))

  pub counted-says : Says 𝓤 counted.ended (counted.clauses 𝓛 mem run) (λ κs r e. (r, e.1.0.now))
      (λ κs a. with_room (judge_call a.0.now a.1.0.now) (counts_after a.0.now a.1.0.now))
  counted-says = says 𝓤 _ _ _ _ (λ κs a g. id⊢ 𝓤 _) (λ κs a g r e. paired 𝓤 _ _ _ _ (id⊢ 𝓤 _))

  pub charted_says : Says 𝓤 charted.ended (charted.clauses 𝓛 mem run) (λ κs r e. (r, e.1.1.0.now))
      (λ κs a. with_room (subtotal_call a.0.now a.1.0 a.1.1.0.now) (bits_after a.0.now a.1.0 a.1.1.0.now))
  charted_says = says 𝓤 _ _ _ _ (λ κs a g. id⊢ 𝓤 _) (λ κs a g r e. paired 𝓤 _ _ _ _ (id⊢ 𝓤 _))

  pub weighed-says : Says 𝓤 weighed.ended (weighed.clauses 𝓛 mem run) (λ κs r e. (r, e.1.1.0.now))
      (λ κs a. with_room (heaviest_call a.0.now a.1.0 a.1.1.0.now) (heaviest_after a.0.now a.1.0 a.1.1.0.now))
  weighed-says = says 𝓤 _ _ _ _ (λ κs a g. id⊢ 𝓤 _) (λ κs a g r e. paired 𝓤 _ _ _ _ (id⊢ 𝓤 _))

  pub offered_says : Says 𝓤 offered.ended (offered.clauses 𝓛 mem run) (λ κs r e. (r, e.0.now))
      (λ κs a. with_room (defaults_call a.0.now) (defaults_after a.0.now))
  offered_says = says 𝓤 _ _ _ _ (λ κs a g. id⊢ 𝓤 _) (λ κs a g r e. paired 𝓤 _ _ _ _ (id⊢ 𝓤 _))

  pub table-says : Says 𝓤 table.ended (table.clauses 𝓛 mem run) {X = Result (Unit {0}) NotTold × List ℤ} (λ κs r e. (r, e.1.1.0.now))
      (λ κs a. (told_of (looked_up a.0 a.1.0) a.1.1.0.now, room_after (looked_up a.0 a.1.0) a.1.1.0.now))
  table-says = says 𝓤 _ _ _ _ (λ κs a g. id⊢ 𝓤 _) (λ κs a g r e. paired 𝓤 _ _ _ _ (id⊢ 𝓤 _))

  pub handed_read-says : Says 𝓤 handed-read.ended (handed-read.clauses 𝓛 mem run) {X = Ruling × (List ℕ × List ℕ)}
      (λ κs r e. (r, (e.1.0.now, e.1.1.0.now)))
      (λ κs a. let s = a.0.now in let area = a.1.0.now in let counts = a.1.1.0.now in
      (read_call s area counts, (rows_read s area counts, counts_read s area counts)))
  handed_read-says = says 𝓤 _ _ _ _ (λ κs a g. id⊢ 𝓤 _) (λ κs a g r e. paired 𝓤 _ _ _ _ (paired 𝓤 _ _ _ _ (id⊢ 𝓤 _)))

  pub handed_write_says : Says 𝓤 handed-write.ended (handed-write.clauses 𝓛 mem run) {X = Ruling × (List ℕ × List ℕ)}
      (λ κs r e. (r, (e.1.1.1.0.now, e.1.1.1.1.0.now)))
      (λ κs a. let ed = a.0 in let area = a.1.0.now in let lengths = a.1.1.0.now in
      let room = a.1.1.1.0.now in let size = a.1.1.1.1.0.now in
      (write_call ed area lengths room size, (blocks_written ed area lengths room size, size_written ed area lengths room size)))
  handed_write_says = says 𝓤 _ _ _ _ (λ κs a g. id⊢ 𝓤 _) (λ κs a g r e. paired 𝓤 _ _ _ _ (paired 𝓤 _ _ _ _ (id⊢ 𝓤 _)))

-- ---- the forms of a contract that is no equation: each leaves one answer
-- a number of two words, and one with a sign, which have one form each
pub is_one : {a b : Wide} {n : ℕ} → Is a n → Is b n → a ≡ b
is_one h k = words h ∙ sym (words k)

pub holds_one : {a b : Signed} {z : ℤ} → Holds a z → Holds b z → a ≡ b
holds_one h k = signed h ∙ sym (signed k)

-- a text put at a place: the room, and the next place
pub written_one : {text before after after' : List ℕ} {at next next' : ℕ} → WrittenAt text before after at next → WrittenAt text before after' at next'
    → (after ≡ after') × (next ≡ next')
written_one h k = (h.room ∙ sym k.room, h.place ∙ sym k.place)
