use native.Mathlib.Omega.{arith}
use Prim.Native.Nat.{◌+◌}
use mathlib.Core.Path.{sym, subst, ◌∙◌}
use Rattle.ledger.specs.Several.{Addable}
use Rattle.ledger.proofs.Adding.{at_most_addable}
use Rattle.gathered.proofs.Sizes.{ledger_addable}
use Rattle.gathered.proofs.step.Goals as goal

pub add_ledgers-ledger-requires : goal.add_ledgers-ledger-requires
add_ledgers-ledger-requires c =
    let n = c.args.bytes.now in
    let g = subst Addable (sym c.ledger_in.ensures) (ledger_addable n _ (c.requires.1 ∙ c.in-Ok.is)) in
    (at_most_addable c.requires.0.ledger (omega (arith, c.requires.0.count)), g)
