use mathlib.Core.Path.{sym, ap, ◌∙◌}
use mathlib.Core.Bool.{false}
use Rattle.wide.specs.declared.signed.Signed.{Signed}
use Rattle.wide.proofs.Laws.{words}
use Rattle.ledger.proofs.Adding.{upright-sum}
use Rattle.ledger.proofs.several.both_removed.Goals as goal

pub returns : goal.returns
returns c =
    let e = sym (upright-sum c.args.a.0 c.args.b.0 c.requires.0 c.requires.1) in
    (λ i. record { 0 = record { below = false; size = words c.add.ensures i } }) ∙ ap (λ (x : Signed). record { 0 = x }) e
