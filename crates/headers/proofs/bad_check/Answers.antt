use mathlib.Core.Path.{refl}
use Rattle.form.specs.Block.{bad_check}
use Rattle.headers.proofs.bad_check.Goals as goal

pub returns : goal.returns
unfolding bad_check
returns c = rw (c.four_at.ensures, c.check_due.ensures) refl
