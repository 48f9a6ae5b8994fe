use native.Mathlib.Omega.{arith}
use mathlib.Core.Path.{ap, ◌∙◌}
use lib.ListN.{length}
use Rattle.phrases.proofs.LineTexts.{as_text}
use Rattle.gathered.specs.Gathered.{step_by}
use Rattle.national.proofs.Turns.{line_is, line-short}
use Rattle.national.proofs.take_return.Goals as goal

pub put_refusal-at-requires : goal.put_refusal-at-requires
put_refusal-at-requires c =
    let t = c.args.run.tally in
    let n = c.args.bytes.now in
    omega (arith, c.requires.1, ap length (line_is t n c.count_of.ensures c.judge-v.ensures), line-short t n c.requires.0.count)

pub returns : goal.returns
returns c =
    let t = c.args.run.tally in
    let n = c.args.bytes.now in
    let w = as_text (line_is t n c.count_of.ensures c.judge-v.ensures) c.put_refusal-at.ensures in record { tally_value = c.step-tally.ensures ∙ ap (step_by t n) c.judge-v.ensures; written_in = (w, omega (arith, w.place, line-short t n c.requires.0.count)) }
