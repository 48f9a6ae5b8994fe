-- Room of LONGEST bytes is long enough for any return. Assumes nothing.
use Rattle.std.proofs.Common.{arith}
use Rattle.form.proofs.EachKind.{kinds_are}
use Rattle.pack.proofs.main.Goals as goal

pub hand_out-requires : goal.hand_out-requires
hand_out-requires c = (omega (arith, kinds_are), omega arith)
