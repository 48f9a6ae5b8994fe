use mathlib.Core.Path.{refl}
use Rattle.form.specs.Layout.{kinds}
use borrow.Author.Rules.{rules}
use Rattle.objections.proofs.write_why.Goals as goal

pub enter-requires : goal.enter-requires
unfolding kinds
enter-requires c = (refl, search rules)
