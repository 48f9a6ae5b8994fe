use Prim.Native.Nat.{ℕ, ◌+◌}
use mathlib.Core.Path.{◌≡◌, ap}
use Rattle.form.specs.Records.{onsite, offsite, decay}
use Rattle.phrases.specs.Lines.{lines_text}
use Rattle.phrases.proofs.LineTexts.{as_text, more-text}
use Rattle.naming.specs.RowLines.{named_lines, fractions_lines}
use native.Mathlib.Omega.{arith}
use Rattle.clashes.proofs.values.put_fractions_above.Goals as goal

pub returns : goal.returns
returns c =
    let a = c.args in
    let r = a.numbers.now in
    let sum : c.wide.result + c.wide-2.result + c.wide-3.result ≡ onsite r + offsite r + decay r = omega (arith, c.wide.ensures.0, c.wide-2.ensures.0, c.wide-3.ensures.0) in
    let clash = as_text (ap (λ (n : ℕ). lines_text (fractions_lines (onsite r) (offsite r) (decay r) n)) sum) c.put_fractions.ensures.0 in (
      more-text (named_lines a.row) (fractions_lines (onsite r) (offsite r) (decay r) (onsite r + offsite r + decay r)) c.put_named-next.ensures.0 clash,
      omega (arith, c.put_named-next.ensures.1, c.put_fractions.ensures.1),
    )
