use Rattle.columns.proofs.ColumnLaws.{with_few}
use Rattle.columns.proofs.decimals.Goals as goal

pub returns-in-2 : goal.returns-in-2
returns-in-2 c =
    with_few c.args.kind c.args.unit c.args.i (rw c.in-2.is c.stock.ensures)
