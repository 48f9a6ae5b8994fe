use mathlib.Core.Path.{sym}
use Rattle.form.specs.Edition.{last_kind}
use Rattle.form.proofs.EachKind.{no_edition}
use Rattle.form.proofs.last_kind.Goals as goal

pub returns-in-1 : goal.returns-in-1
unfolding last_kind
returns-in-1 c = rw c.in-1.is

pub returns-in-2 : goal.returns-in-2
unfolding last_kind
returns-in-2 c = rw c.in-2.is

pub returns-in-3 : goal.returns-in-3
unfolding last_kind
returns-in-3 c = rw c.in-3.is

pub returns-in_default : goal.returns-in_default
returns-in_default c = let r = c.in_default.in_default-own.rest in sym (no_edition _ r.0.0.1 r.0.1 r.1)
