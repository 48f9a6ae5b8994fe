use mathlib.Core.Path.{refl}
use Rattle.form.specs.Layout.{kinds}
use Rattle.form.specs.Block.{bad_length}
use Rattle.headers.proofs.bad_length.Goals as goal

pub returns : goal.returns
unfolding bad_length kinds
returns c = refl
