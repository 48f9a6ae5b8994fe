use native.Mathlib.Omega.{arith}
use Prim.Native.Nat.{ℕ, suc}
use mathlib.Core.Path.{ap, ◌∙◌}
use native.Mathlib.Numerals.{add-one}
use Rattle.decimal.proofs.DigitLaws.{written-more}
use Rattle.phrases.proofs.LineTexts.{as_text}
use Rattle.national.specs.Lines.{stop_text}
use Rattle.national.proofs.finish.Goals as goal

pub returns : goal.returns
returns c =
    let i = c.count_of.ensures in
    let e = ap (λ (n : ℕ). stop_text n c.args.ended.stop) (add-one _ ∙ ap suc i) in
    let w = written-more (as_text e c.put_stop-next.ensures.0) c.put_totals.ensures.0 in
    (w, omega (arith, c.put_stop-next.ensures.1, c.put_totals.ensures.1))
