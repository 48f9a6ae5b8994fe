use mathlib.Core.Path.{refl}
use Rattle.form.specs.Layout.{row_from}
use Rattle.form.proofs.Numbers.{number_1}
use Rattle.records.proofs.scattered_at.Goals as goal

pub returns : goal.returns
unfolding row_from
returns c = rw (c.byte_at.ensures.0, number_1) refl
