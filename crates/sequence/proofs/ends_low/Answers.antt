use mathlib.Core.Path.{refl}
use Rattle.form.specs.Block.{ends_low}
use Rattle.sequence.proofs.ends_low.Goals as goal

pub returns : goal.returns
unfolding ends_low
returns c = rw c.byte_at.ensures.0 refl
