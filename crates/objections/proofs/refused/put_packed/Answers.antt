use Rattle.phrases.specs.Lines.{spaces}
use Rattle.phrases.proofs.LineTexts.{as_text}
use Rattle.objections.proofs.LineTexts.{packed_line}
use native.Mathlib.Omega.{arith}
use borrow.Author.Rules.{rules}
use Rattle.objections.proofs.refused.put_packed.Goals as goal

pub put_one-requires : goal.put_one-requires
unfolding spaces
put_one-requires c = search rules

pub returns : goal.returns
returns c =
    (as_text (packed_line c.blocks_in-n.ensures.0) c.put_one.ensures.0, omega (arith, c.put_one.ensures.1))
