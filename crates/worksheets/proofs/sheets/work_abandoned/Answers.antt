use Rattle.worksheets.specs.Sheets.{abandoned_of}
use Rattle.worksheets.proofs.sheets.work_abandoned.Goals as goal

pub returns : goal.returns
unfolding abandoned_of
returns c = λ i. record { uptake = c.args.uptake; co2 = c.uptake_co2-co2.ensures i }
