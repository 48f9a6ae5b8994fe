-- The functions themselves: each entry point's code, and that of the functions behind it, as the prover has it, meets the contract that its source states.
-- The functions for C are those of the crate door; door_c exports each under its name to C, with the same contract, and calls it.
-- What a contract says is the matter of Answers; that the compiled code does the same is outside the logic (docs/TRUST.md).
use Rattle.judge.proofs.judge as judge
use Rattle.rows.proofs.read as read
use Rattle.rows.proofs.write as write
use Rattle.worksheets.proofs.figures as figures
use Rattle.doubles.proofs.subtotals as subtotals
use Rattle.heaviest.proofs.heaviest as heaviest
use Rattle.report.proofs.lines as lines
use Rattle.table52.proofs.look_up as look_up
use Rattle.explained.proofs.explain as explain
use Rattle.explained.proofs.explain_lines as explain-lines
use Rattle.national.proofs.nation as nation
use Rattle.door.proofs.niloferq_judge as c-judge
use Rattle.door.proofs.niloferq_subtotal as c-subtotal
use Rattle.door.proofs.niloferq_heaviest as c-heaviest
use Rattle.door.proofs.niloferq_lines as c-lines
use Rattle.door.proofs.niloferq_explain as c-explain
use Rattle.door.proofs.niloferq_nation as c-nation
use Rattle.door.proofs.niloferq_figures as c-figures
use Rattle.door.proofs.niloferq_read as c_read
use Rattle.door.proofs.niloferq_write as c-write
use Rattle.door.proofs.niloferq_defaults as c-defaults
use Rattle.door.proofs.niloferq_table52 as c-table
use Rattle.held.proofs.hold as hold
use Rattle.worksheets.proofs.work_out as work-out
use Rattle.worksheets.proofs.figures_of as figures-of
use Rattle.worksheets.proofs.sheets.Parameters.defaults as defaults
use Rattle.doubles.proofs.add_up as add-up
use Rattle.doubles.proofs.subtotals_of as subtotals-of
use Rattle.heaviest.proofs.weigh_rows as weigh-rows
use Rattle.tabled.proofs.tabulate as tabulate
use Rattle.counted.proofs.tell as counted
use Rattle.charted.proofs.tell as charted
use Rattle.offered.proofs.tell as offered
use Rattle.weighed.proofs.tell as weighed
use Rattle.handed.proofs.read as handed-read
use Rattle.handed.proofs.write as handed-write
use Rattle.table52.proofs.lent.tell as table

pub judge_meets : {M : Type 1} → judge.Statement.statement M
judge_meets = judge.Met.met

pub read_meets : {M : Type 1} → read.Statement.statement M
read_meets = read.Met.met

pub write_meets : {M : Type 1} → write.Statement.statement M
write_meets = write.Met.met

pub figures_meets : {M : Type 1} → figures.Statement.statement M
figures_meets = figures.Met.met

pub subtotals_meets : {M : Type 1} → subtotals.Statement.statement M
subtotals_meets = subtotals.Met.met

pub heaviest_meets : {M : Type 1} → heaviest.Statement.statement M
heaviest_meets = heaviest.Met.met

pub lines_meets : {M : Type 1} → lines.Statement.statement M
lines_meets = lines.Met.met

pub look_up_meets : {M : Type 1} → look_up.Statement.statement M
look_up_meets = look_up.Met.met

pub explain_meets : {M : Type 1} → explain.Statement.statement M
explain_meets = explain.Met.met

pub explain_lines_meets : {M : Type 1} → explain-lines.Statement.statement M
explain_lines_meets = explain-lines.Met.met

pub nation_meets : {M : Type 1} → nation.Statement.statement M
nation_meets = nation.Met.met

pub c_judge_meets : {M : Type 1} → c-judge.Statement.statement M
c_judge_meets = c-judge.Met.met

pub c_subtotal_meets : {M : Type 1} → c-subtotal.Statement.statement M
c_subtotal_meets = c-subtotal.Met.met

pub c_heaviest_meets : {M : Type 1} → c-heaviest.Statement.statement M
c_heaviest_meets = c-heaviest.Met.met

pub c_lines_meets : {M : Type 1} → c-lines.Statement.statement M
c_lines_meets = c-lines.Met.met

pub c_explain_meets : {M : Type 1} → c-explain.Statement.statement M
c_explain_meets = c-explain.Met.met

pub c_nation_meets : {M : Type 1} → c-nation.Statement.statement M
c_nation_meets = c-nation.Met.met

pub c_figures_meets : {M : Type 1} → c-figures.Statement.statement M
c_figures_meets = c-figures.Met.met

pub c_read_meets : {M : Type 1} → c_read.Statement.statement M
c_read_meets = c_read.Met.met

pub c_write_meets : {M : Type 1} → c-write.Statement.statement M
c_write_meets = c-write.Met.met

pub c_defaults_meets : {M : Type 1} → c-defaults.Statement.statement M
c_defaults_meets = c-defaults.Met.met

pub c_table_meets : {M : Type 1} → c-table.Statement.statement M
c_table_meets = c-table.Met.met

-- ---- and so do the public functions that stand behind the entry points (Others)
pub hold_meets : {M : Type 1} → hold.Statement.statement M
hold_meets = hold.Met.met

pub work_out_meets : {M : Type 1} → work-out.Statement.statement M
work_out_meets = work-out.Met.met

pub figures_of_meets : {M : Type 1} → figures-of.Statement.statement M
figures_of_meets = figures-of.Met.met

pub defaults_meets : {M : Type 1} → defaults.Statement.statement M
defaults_meets = defaults.Met.met

pub add_up_meets : {M : Type 1} → add-up.Statement.statement M
add_up_meets = add-up.Met.met

pub subtotals_of_meets : {M : Type 1} → subtotals-of.Statement.statement M
subtotals_of_meets = subtotals-of.Met.met

pub weigh_rows_meets : {M : Type 1} → weigh-rows.Statement.statement M
weigh_rows_meets = weigh-rows.Met.met

pub tabulate_meets : {M : Type 1} → tabulate.Statement.statement M
tabulate_meets = tabulate.Met.met

pub counted_meets : {M : Type 1} → counted.Statement.statement M
counted_meets = counted.Met.met

pub charted_meets : {M : Type 1} → charted.Statement.statement M
charted_meets = charted.Met.met

pub offered_meets : {M : Type 1} → offered.Statement.statement M
offered_meets = offered.Met.met

pub weighed_meets : {M : Type 1} → weighed.Statement.statement M
weighed_meets = weighed.Met.met

pub handed_read_meets : {M : Type 1} → handed-read.Statement.statement M
handed_read_meets = handed-read.Met.met

pub handed_write_meets : {M : Type 1} → handed-write.Statement.statement M
handed_write_meets = handed-write.Met.met

pub table_meets : {M : Type 1} → table.Statement.statement M
table_meets = table.Met.met
