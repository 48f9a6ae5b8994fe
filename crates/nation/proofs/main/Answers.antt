-- The rooms of the program are long enough. Assumes nothing.
use Rattle.std.proofs.Common.{arith}
use Rattle.form.proofs.EachKind.{kinds_are}
use Rattle.nation.proofs.main.Goals as goal

pub run_input-requires : goal.run_input-requires
run_input-requires c = (omega (arith, kinds_are), omega arith)
