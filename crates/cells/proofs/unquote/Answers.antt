use native.Mathlib.Omega.{arith}
use Rattle.cells.proofs.Cleaning.{short-kept, front_kept, end_kept, both_off}
use Rattle.cells.proofs.unquote.Goals as goal

pub returns-then-to-from-lt2 : goal.returns-then-to-from-lt2
returns-then-to-from-lt2 c =
    let cell = short-kept c.args.line.now c.args.from c.args.to c.requires.0 c.requires.1 c.if-to-from-lt2.true in
    record { starts = omega arith; ordered = c.requires.0; ends = omega arith; cell = cell }

pub returns-then-line-from-ne34 : goal.returns-then-line-from-ne34
returns-then-line-from-ne34 c =
    let cell = front_kept c.args.line.now c.args.from c.args.to c.requires.0 c.requires.1 c.if-to-from-lt2.false c.if-line-from-ne34.true in
    record { starts = omega arith; ordered = c.requires.0; ends = omega arith; cell = cell }

pub returns-then-line-to-ne34 : goal.returns-then-line-to-ne34
returns-then-line-to-ne34 c =
    let cell = end_kept c.args.line.now c.args.from c.args.to c.requires.0 c.requires.1 c.if-to-from-lt2.false c.if-line-from-ne34.false c.if-line-to-ne34.true in
    record { starts = omega arith; ordered = c.requires.0; ends = omega arith; cell = cell }

pub returns : goal.returns
returns c =
    let cell = both_off c.args.line.now c.args.from c.args.to c.requires.0 c.requires.1 c.if-to-from-lt2.false c.if-line-from-ne34.false c.if-line-to-ne34.false in
    record { starts = omega arith; ordered = omega arith; ends = omega arith; cell = cell }
