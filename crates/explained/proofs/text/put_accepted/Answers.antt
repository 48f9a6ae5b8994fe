use Rattle.fates.specs.Fates.{matter_lines}
use Rattle.phrases.proofs.LineTexts.{more-text}
use Rattle.explained.specs.Explained.{weights_lines}
use native.Mathlib.Omega.{arith}
use Rattle.explained.proofs.text.put_accepted.Goals as goal

pub returns : goal.returns
returns c =
    let a = c.args in
    (more-text (weights_lines a.w) (matter_lines a.m) c.put_weights-next.ensures.0 c.put_matter.ensures.0, omega (arith, c.put_weights-next.ensures.1, c.put_matter.ensures.1))
