use mathlib.Core.Path.{refl}
use borrow.Author.Tests.{eq-eqb, ne_eqb}
use Rattle.form.proofs.Tests.{taken, left}
use Rattle.heaviest.specs.Heaviest.{named_of}
use Rattle.heaviest.proofs.name_of.Goals as goal

pub returns-then-w-eq0 : goal.returns-then-w-eq0
unfolding named_of
returns-then-w-eq0 c = taken _ (eq-eqb _ _ c.if-w-eq0.true) refl

pub returns-else-w-eq0 : goal.returns-else-w-eq0
unfolding named_of
returns-else-w-eq0 c = left _ (ne_eqb _ _ c.if-w-eq0.false) refl
