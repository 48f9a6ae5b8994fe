use mathlib.Core.Path.{◌≡◌}
use lib.ListN.{length}
use Rattle.form.specs.Layout.{kinds}
use borrow.Author.Tests.{ne_eqb, eq-eqb}
use Rattle.form.proofs.EachKind.{kinds_are}
use Rattle.lists.specs.Rules.{bad_lengths}
use native.Mathlib.Omega.{arith}
use Rattle.lists.proofs.bad_lengths.Goals as goal

pub returns-then-lengths-ne-KINDS : goal.returns-then-lengths-ne-KINDS
unfolding bad_lengths
returns-then-lengths-ne-KINDS c =
    let a = c.args in
    rw (ne_eqb (length a.lengths.now) kinds (λ e. c.if-lengths-ne-KINDS.true (omega (arith, kinds_are))))

pub returns : goal.returns
unfolding bad_lengths
returns c =
    let a = c.args in
    let e : length a.lengths.now ≡ kinds = omega (arith, kinds_are, c.if-lengths-ne-KINDS.false) in
    rw (eq-eqb (length a.lengths.now) kinds e, c.sum.ensures.0)
