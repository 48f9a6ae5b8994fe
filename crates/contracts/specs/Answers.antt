-- Whatever answer meets an entry point's contract is the one that the definitions give, with the lent memory as they say.
-- No contract asks anything of its caller, and each admits one answer.
use Rattle.std.proofs.Common.{ap, ◌∙◌}
use Rattle.std.specs.Prelude.{List, ℕ, ℤ, Option}
use seplogic.Ra.Ura.{Ura}
use base.Logic.{SProp, id⊢}
use contract.Monad.{Fun}
use prog.Memory.{Memory}
use prog.Routine.{Routine}
use types.Logic.{Logic}
use Rattle.form.specs.Verdict.{verdict_of}
use Rattle.form.specs.Refusals.{Ruling}
use Rattle.rows.specs.Reading.{read_answer, room_after}
use Rattle.rows.specs.Writing.{write_answer, bytes_after}
use Rattle.worksheets.specs.Answers.{outcome_of, said, answered}
use Rattle.doubles.specs.Subtotals.{answer_of}
use Rattle.phrases.specs.Room.{put_of, text_after}
use Rattle.report.specs.Lines.{printed}
use Rattle.tabled.specs.Figures.{figures_answer, figures_after}
use Rattle.counted.specs.Counts.{judge_call, counts_after}
use Rattle.charted.specs.Subtotal.{subtotal_call, bits_after}
use Rattle.offered.specs.Defaults.{defaults_call, defaults_after}
use Rattle.handed.specs.Rows.{read_call, rows_read, counts_read, write_call, blocks_written, size_written}
use Rattle.door.specs.Door.{code_of, size_of}
use Rattle.heaviest.specs.Heaviest.{heaviest_answer}
use Rattle.weighed.specs.Heaviest.{heaviest_call, heaviest_after}
use Rattle.table52.specs.Lookup.{looked_up}
use Rattle.door.specs.Table.{table_code, table_call, table_after}
use Rattle.explained.specs.Explained.{explanation_of, explained}
use Rattle.national.specs.Nation.{printed_nation}
use Rattle.steps.proofs.Clauses.{then, paired, followed, paired_and, followed_and}
use Rattle.steps.proofs.Told.{said_back}
use Rattle.contracts.specs.Contract.{Says, says}
use Rattle.judge.specs.contracts.judge as judge
use Rattle.rows.specs.contracts.read as read
use Rattle.rows.specs.contracts.write as write
use Rattle.worksheets.specs.contracts.figures as figures
use Rattle.doubles.specs.contracts.subtotals as subtotals
use Rattle.heaviest.specs.contracts.heaviest as heaviest
use Rattle.report.specs.contracts.lines as lines
use Rattle.table52.specs.contracts.look_up as look_up
use Rattle.explained.specs.contracts.explain as explain
use Rattle.explained.specs.contracts.explain_lines as explain-lines
use Rattle.national.specs.contracts.nation as nation
use Rattle.door.specs.contracts.niloferq_judge as c-judge
use Rattle.door.specs.contracts.niloferq_subtotal as c-subtotal
use Rattle.door.specs.contracts.niloferq_heaviest as c-heaviest
use Rattle.door.specs.contracts.niloferq_lines as c-lines
use Rattle.door.specs.contracts.niloferq_figures as c-figures
use Rattle.door.specs.contracts.niloferq_defaults as c-defaults
use Rattle.door.specs.contracts.niloferq_read as c_read
use Rattle.door.specs.contracts.niloferq_write as c-write
use Rattle.door.specs.contracts.niloferq_table52 as c-table
use Rattle.door.specs.contracts.niloferq_explain as c-explain
use Rattle.door.specs.contracts.niloferq_nation as c-nation

-- an answer, and the lent room as that answer leaves it
abbrev pub with_room : {X : Type 0} → X → (X → List ℕ) → X × List ℕ
with_room x after = (x, after x)

-- from C, the code of a ruling, and the room as it leaves it
abbrev pub coded : Ruling → (Ruling → List ℕ) → ℕ × List ℕ
coded v after = (code_of v, after v)

-- or the size of a text
abbrev pub sized : Option ℕ → (Option ℕ → List ℕ) → ℕ × List ℕ
sized p after = (size_of p, after p)

module _ {M : Type 1} {𝓤 : Ura M} (𝓛 : Logic 𝓤) (mem : Memory → SProp 𝓤) (run : Routine → Fun 𝓤) where
  -- ---- the answer alone
  pub judge_says : Says 𝓤 judge.ended (judge.clauses 𝓛 mem run) (λ κs r e. r) (λ κs a. verdict_of a.0.now)
  judge_says = says 𝓤 _ _ _ _ (λ κs a g. id⊢ 𝓤 _) (λ κs a g r e. id⊢ 𝓤 _)

  -- `answered` has each value in its one form
  pub figures-says : Says 𝓤 figures.ended (figures.clauses 𝓛 mem run) (λ κs r e. r) (λ κs a. answered (outcome_of a.0.now))
  figures-says = says 𝓤 _ _ _ _ (λ κs a g. id⊢ 𝓤 _) (λ κs a g r e. id⊢ 𝓤 _)

  -- "a definition gives this paper's number and values for each of its cases": `said`; and of the answer it is what 01 gives
  pub figures-said : Says 𝓤 figures.ended (figures.clauses 𝓛 mem run) (λ κs r e. said r) (λ κs a. outcome_of a.0.now)
  figures-said = says 𝓤 _ _ _ _ (λ κs a g. id⊢ 𝓤 _) (λ κs a g r e. then 𝓤 _ _ (id⊢ 𝓤 _) (λ x. ap said x ∙ said_back (outcome_of a.0.now)))

  pub subtotals_says : Says 𝓤 subtotals.ended (subtotals.clauses 𝓛 mem run) (λ κs r e. r) (λ κs a. answer_of a.0.now)
  subtotals_says = says 𝓤 _ _ _ _ (λ κs a g. id⊢ 𝓤 _) (λ κs a g r e. id⊢ 𝓤 _)

  pub look_up_says : Says 𝓤 look_up.ended (look_up.clauses 𝓛 mem run) (λ κs r e. r) (λ κs a. looked_up a.0 a.1.0)
  look_up_says = says 𝓤 _ _ _ _ (λ κs a g. id⊢ 𝓤 _) (λ κs a g r e. id⊢ 𝓤 _)

  pub heaviest-says : Says 𝓤 heaviest.ended (heaviest.clauses 𝓛 mem run) (λ κs r e. r) (λ κs a. heaviest_answer a.0.now a.1.0)
  heaviest-says = says 𝓤 _ _ _ _ (λ κs a g. id⊢ 𝓤 _) (λ κs a g r e. id⊢ 𝓤 _)

  pub explain_says : Says 𝓤 explain.ended (explain.clauses 𝓛 mem run) (λ κs r e. r) (λ κs a. explanation_of a.0.now)
  explain_says = says 𝓤 _ _ _ _ (λ κs a g. id⊢ 𝓤 _) (λ κs a g r e. id⊢ 𝓤 _)

  -- ---- the answer and the lent room
  pub read-says : Says 𝓤 read.ended (read.clauses 𝓛 mem run) (λ κs r e. (r, e.1.0.now))
      (λ κs a. with_room (read_answer a.0.now a.1.0.now) (room_after a.0.now a.1.0.now))
  read-says = says 𝓤 _ _ _ _ (λ κs a g. id⊢ 𝓤 _) (λ κs a g r e. followed 𝓤 _ _ _ (room_after a.0.now a.1.0.now))

  pub write_says : Says 𝓤 write.ended (write.clauses 𝓛 mem run) (λ κs r e. (r, e.1.1.1.0.now))
      (λ κs a. with_room (write_answer a.0 a.1.0.now a.1.1.0.now a.1.1.1.0.now)
      (bytes_after a.0 a.1.0.now a.1.1.0.now a.1.1.1.0.now))
  write_says =
      says 𝓤 _ _ _ _ (λ κs a g. id⊢ 𝓤 _)
      (λ κs a g r e. followed 𝓤 _ _ _ (bytes_after a.0 a.1.0.now a.1.1.0.now a.1.1.1.0.now))

  pub lines-says : Says 𝓤 lines.ended (lines.clauses 𝓛 mem run) (λ κs r e. (r, e.1.0.now))
      (λ κs a. with_room (put_of (printed a.0.now) a.1.0.now) (text_after (printed a.0.now) a.1.0.now))
  lines-says =
      says 𝓤 _ _ _ _ (λ κs a g. id⊢ 𝓤 _)
      (λ κs a g r e. followed_and 𝓤 _ _ _ (text_after (printed a.0.now) a.1.0.now) _)

  pub explain_lines-says : Says 𝓤 explain-lines.ended (explain-lines.clauses 𝓛 mem run) (λ κs r e. (r, e.1.0.now))
      (λ κs a. with_room (put_of (explained a.0.now) a.1.0.now) (text_after (explained a.0.now) a.1.0.now))
  explain_lines-says =
      says 𝓤 _ _ _ _ (λ κs a g. id⊢ 𝓤 _)
      (λ κs a g r e. followed_and 𝓤 _ _ _ (text_after (explained a.0.now) a.1.0.now) _)

  pub nation_says : Says 𝓤 nation.ended (nation.clauses 𝓛 mem run) (λ κs r e. (r, e.1.0.now))
      (λ κs a. with_room (put_of (printed_nation a.0.now) a.1.0.now) (text_after (printed_nation a.0.now) a.1.0.now))
  nation_says =
      says 𝓤 _ _ _ _ (λ κs a g. id⊢ 𝓤 _)
      (λ κs a g r e. followed_and 𝓤 _ _ _ (text_after (printed_nation a.0.now) a.1.0.now) _)

  -- ---- from C: the code, or the size, and the lent rooms
  pub c_judge_says : Says 𝓤 c-judge.ended (c-judge.clauses 𝓛 mem run) (λ κs r e. (r, e.1.0.now))
      (λ κs a. coded (judge_call a.0.now a.1.0.now) (counts_after a.0.now a.1.0.now))
  c_judge_says = says 𝓤 _ _ _ _ (λ κs a g. id⊢ 𝓤 _) (λ κs a g r e. paired 𝓤 _ _ _ _ (id⊢ 𝓤 _))

  pub c_subtotal_says : Says 𝓤 c-subtotal.ended (c-subtotal.clauses 𝓛 mem run) (λ κs r e. (r, e.1.1.0.now))
      (λ κs a. coded (subtotal_call a.0.now a.1.0 a.1.1.0.now) (bits_after a.0.now a.1.0 a.1.1.0.now))
  c_subtotal_says = says 𝓤 _ _ _ _ (λ κs a g. id⊢ 𝓤 _) (λ κs a g r e. paired 𝓤 _ _ _ _ (id⊢ 𝓤 _))

  pub c_heaviest-says : Says 𝓤 c-heaviest.ended (c-heaviest.clauses 𝓛 mem run) (λ κs r e. (r, e.1.1.0.now))
      (λ κs a. coded (heaviest_call a.0.now a.1.0 a.1.1.0.now) (heaviest_after a.0.now a.1.0 a.1.1.0.now))
  c_heaviest-says = says 𝓤 _ _ _ _ (λ κs a g. id⊢ 𝓤 _) (λ κs a g r e. paired 𝓤 _ _ _ _ (id⊢ 𝓤 _))

  pub c_lines-says : Says 𝓤 c-lines.ended (c-lines.clauses 𝓛 mem run) (λ κs r e. (r, e.1.0.now))
      (λ κs a. sized (put_of (printed a.0.now) a.1.0.now) (text_after (printed a.0.now) a.1.0.now))
  c_lines-says = says 𝓤 _ _ _ _ (λ κs a g. id⊢ 𝓤 _) (λ κs a g r e. paired_and 𝓤 _ _ _ _ _)

  pub c_explain_says : Says 𝓤 c-explain.ended (c-explain.clauses 𝓛 mem run) (λ κs r e. (r, e.1.0.now))
      (λ κs a. sized (put_of (explained a.0.now) a.1.0.now) (text_after (explained a.0.now) a.1.0.now))
  c_explain_says = says 𝓤 _ _ _ _ (λ κs a g. id⊢ 𝓤 _) (λ κs a g r e. paired_and 𝓤 _ _ _ _ _)

  pub c_nation_says : Says 𝓤 c-nation.ended (c-nation.clauses 𝓛 mem run) (λ κs r e. (r, e.1.0.now))
      (λ κs a. sized (put_of (printed_nation a.0.now) a.1.0.now) (text_after (printed_nation a.0.now) a.1.0.now))
  c_nation_says = says 𝓤 _ _ _ _ (λ κs a g. id⊢ 𝓤 _) (λ κs a g r e. paired_and 𝓤 _ _ _ _ _)

  pub c_figures-says : Says 𝓤 c-figures.ended (c-figures.clauses 𝓛 mem run) (λ κs r e. (r, e.1.0.now))
      (λ κs a. coded (figures_answer a.0.now a.1.0.now) (figures_after a.0.now a.1.0.now))
  c_figures-says = says 𝓤 _ _ _ _ (λ κs a g. id⊢ 𝓤 _) (λ κs a g r e. paired 𝓤 _ _ _ _ (id⊢ 𝓤 _))

  pub c_defaults-says : Says 𝓤 c-defaults.ended (c-defaults.clauses 𝓛 mem run) (λ κs r e. (r, e.0.now))
      (λ κs a. coded (defaults_call a.0.now) (defaults_after a.0.now))
  c_defaults-says = says 𝓤 _ _ _ _ (λ κs a g. id⊢ 𝓤 _) (λ κs a g r e. paired 𝓤 _ _ _ _ (id⊢ 𝓤 _))

  pub c_table-says : Says 𝓤 c-table.ended (c-table.clauses 𝓛 mem run) {X = ℕ × List ℤ} (λ κs r e. (r, e.1.1.0.now))
      (λ κs a. (table_code (table_call a.0 a.1.0 a.1.1.0.now), table_after a.0 a.1.0 a.1.1.0.now))
  c_table-says = says 𝓤 _ _ _ _ (λ κs a g. id⊢ 𝓤 _) (λ κs a g r e. paired 𝓤 _ _ _ _ (id⊢ 𝓤 _))

  -- the rows and the counts
  pub c_read-says : Says 𝓤 c_read.ended (c_read.clauses 𝓛 mem run) {X = ℕ × (List ℕ × List ℕ)}
      (λ κs r e. (r, (e.1.0.now, e.1.1.0.now)))
      (λ κs a. let s = a.0.now in let rows = a.1.0.now in let counts = a.1.1.0.now in
      (code_of (read_call s rows counts), (rows_read s rows counts, counts_read s rows counts)))
  c_read-says = says 𝓤 _ _ _ _ (λ κs a g. id⊢ 𝓤 _) (λ κs a g r e. paired 𝓤 _ _ _ _ (paired 𝓤 _ _ _ _ (id⊢ 𝓤 _)))

  -- the byte room and the size
  pub c_write_says : Says 𝓤 c-write.ended (c-write.clauses 𝓛 mem run) {X = ℕ × (List ℕ × List ℕ)}
      (λ κs r e. (r, (e.1.1.1.0.now, e.1.1.1.1.0.now)))
      (λ κs a. let ed = a.0 in let rows = a.1.0.now in let lengths = a.1.1.0.now in
      let room = a.1.1.1.0.now in let size = a.1.1.1.1.0.now in
      (code_of (write_call ed rows lengths room size), (blocks_written ed rows lengths room size, size_written ed rows lengths room size)))
  c_write_says = says 𝓤 _ _ _ _ (λ κs a g. id⊢ 𝓤 _) (λ κs a g r e. paired 𝓤 _ _ _ _ (paired 𝓤 _ _ _ _ (id⊢ 𝓤 _)))
