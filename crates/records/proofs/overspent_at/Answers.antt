use mathlib.Core.Path.{refl}
use Rattle.form.specs.Layout.{row_from}
use Rattle.records.proofs.overspent_at.Goals as goal

pub returns : goal.returns
unfolding row_from
returns c = rw (c.two_at.ensures.0, c.two_at-2.ensures.0, c.two_at-3.ensures.0) refl
