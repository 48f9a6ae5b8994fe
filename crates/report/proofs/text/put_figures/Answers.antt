use mathlib.Core.Path.{ap}
use mathlib.Core.List.{flat_map}
use lib.ListN.{length}
use Rattle.listed.specs.Listed.{listed}
use Rattle.phrases.proofs.LineTexts.{as_text}
use Rattle.report.proofs.Filled.{names_few, as_lines}
use Rattle.report.proofs.Short.{lines-short}
use native.Mathlib.Omega.{arith}
use Rattle.report.proofs.text.put_figures.Goals as goal

pub put_lines-requires : goal.put_lines-requires
unfolding flat_map listed
put_lines-requires c =
    let f = c.args.f in
    let e = c.list-values.ensures.value in
    record { enough = names_few f e; room = omega (arith, c.requires, lines-short f c.list-values.ensures.two_words, ap length (as_lines f e)) }

pub returns : goal.returns
unfolding flat_map listed
returns c =
    let f = c.args.f in
    record { written_at = as_text (as_lines f c.list-values.ensures.value) c.put_lines.ensures; f_len_bound = lines-short f c.list-values.ensures.two_words }
