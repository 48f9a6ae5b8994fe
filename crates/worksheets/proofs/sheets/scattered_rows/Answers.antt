use Rattle.wide.proofs.Laws.{words}
use Rattle.worksheets.proofs.sheets.scattered_rows.Goals as goal

pub returns : goal.returns
returns c = λ i. record { 0 = words c.of.ensures i }
