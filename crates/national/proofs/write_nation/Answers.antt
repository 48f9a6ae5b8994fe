use native.Mathlib.Omega.{arith}
use Rattle.decimal.proofs.DigitLaws.{written-more}
use Rattle.phrases.proofs.LineTexts.{as_text}
use Rattle.national.proofs.Turns.{few_taken, has_room, whole-text}
use Rattle.national.proofs.write_nation.Goals as goal

pub finish-requires : goal.finish-requires
finish-requires c =
    let e = c.run_file-ended.ensures in
    (few_taken e, has_room e, omega (arith, e.lines.1, c.run_file-ended.auto.out, c.requires))

pub returns : goal.returns
returns c =
    let e = c.run_file-ended.ensures in
    let w = as_text (whole-text e) (written-more e.lines.0 c.finish.ensures.0) in
    (w, omega (arith, e.lines.1, c.finish.ensures.1))
