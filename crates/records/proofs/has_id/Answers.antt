use mathlib.Core.Path.{refl}
use Rattle.form.specs.Layout.{kinds}
use Rattle.records.proofs.has_id.Goals as goal

pub returns : goal.returns
unfolding kinds
returns c = refl
