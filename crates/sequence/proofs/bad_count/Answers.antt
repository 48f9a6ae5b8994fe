use mathlib.Core.Path.{refl}
use Rattle.form.specs.Block.{bad_count}
use Rattle.sequence.proofs.bad_count.Goals as goal

pub returns : goal.returns
unfolding bad_count
returns c = rw (c.byte_at-count.ensures.0, c.byte_at-kind.ensures.0) refl
