use native.Mathlib.Omega.{arith}
use mathlib.Core.Path.{sym, ap, ◌∙◌}
use Rattle.std.specs.Prelude.{unwrap_or}
use Rattle.form.proofs.EachKind.{kinds_are}
use Rattle.cutting.specs.Cutting.{wanted_by}
use Rattle.cutting.proofs.Reading.{few_wanted, six-wanted, wanted_said}
use Rattle.cutting.proofs.wanted.Goals as goal

pub returns-then-head-lt6 : goal.returns-then-head-lt6
returns-then-head-lt6 c = (sym (few_wanted c.args.head.now c.if-head-lt6.true), omega arith, omega (arith, kinds_are))

pub returns : goal.returns
returns c =
    let n = c.two_at.result in
    let w = wanted_said n in
    let said = c.unwrap_or.ensures ∙ ap (λ o. unwrap_or o 6) c.size_of.ensures in
    (said ∙ w.0 ∙ ap wanted_by c.two_at.ensures.0 ∙ sym (six-wanted c.args.head.now c.if-head-lt6.false), rw said w.1, rw said w.2)
