use Rattle.form.proofs.EachKind.{kinds_are}
use native.Mathlib.Omega.{arith}
use Rattle.texts.proofs.check_row.Goals as goal

pub overflow_cast-fault : goal.overflow_cast-fault
overflow_cast-fault c = omega (arith, kinds_are, c.requires.0)
