use mathlib.Core.Path.{refl}
use borrow.Author.Tests.{lt-ltb, le-ltb}
use Rattle.form.proofs.Tests.{taken, left}
use Rattle.heaviest.specs.Heaviest.{heavier}
use Rattle.heaviest.proofs.heavier.Goals as goal

pub returns-then-best-part : goal.returns-then-best-part
unfolding heavier
returns-then-best-part c = taken _ (lt-ltb _ _ c.if-best-part.true) refl

pub returns-else-best-part : goal.returns-else-best-part
unfolding heavier
returns-else-best-part c = left _ (le-ltb _ _ c.if-best-part.false) refl
