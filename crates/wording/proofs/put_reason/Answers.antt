use mathlib.Core.Path.{refl}
use mathlib.Core.List.{[], ◌∷◌}
use Rattle.phrases.specs.Ascii.{codes}
use Rattle.phrases.specs.Lines.{spaces}
use Rattle.wording.specs.Wording.{header_lines, fault_line, fault_lines, due_lines}
use Rattle.phrases.proofs.LineTexts.{as_text, more-text, one_text, two_text}
use native.Mathlib.Omega.{arith}
use borrow.Author.Rules.{rules}
use Rattle.wording.proofs.put_reason.Goals as goal

pub put_one-requires : goal.put_one-requires
unfolding spaces
put_one-requires c = (search rules, omega (arith, c.requires))

pub put_two-requires : goal.put_two-requires
unfolding spaces
put_two-requires c = (search rules, omega (arith, c.requires))

pub returns-in-BadLength : goal.returns-in-BadLength
unfolding spaces
returns-in-BadLength c =
    (rw c.in-BadLength.is (as_text (one_text (codes "length") c.in-BadLength.length refl) c.put_one.ensures.0), omega (arith, c.put_one.ensures.1))

pub returns-in-BadCheck : goal.returns-in-BadCheck
unfolding spaces
returns-in-BadCheck c =
    (rw c.in-BadCheck.is (as_text (two_text (codes "stored") (codes "computed") c.in-BadCheck.stored c.in-BadCheck.computed refl) c.put_two.ensures.0), omega (arith, c.put_two.ensures.1))

pub returns-in-BadHeader : goal.returns-in-BadHeader
returns-in-BadHeader c =
    (rw c.in-BadHeader.is (more-text (header_lines c.in-BadHeader.said) (due_lines c.in-BadHeader.block c.in-BadHeader.blocks_due c.in-BadHeader.edition_first) c.put_header-next.ensures.0 c.put_due.ensures.0), omega (arith, c.put_header-next.ensures.1, c.put_due.ensures.1))

pub returns-in-BadBlock : goal.returns-in-BadBlock
returns-in-BadBlock c =
    (rw c.in-BadBlock.is (more-text (fault_line c.in-BadBlock.fault ∷ []) (fault_lines c.in-BadBlock.said c.in-BadBlock.fault) c.put_fault_word-next.ensures.0 c.put_fault.ensures.0), omega (arith, c.put_fault_word-next.ensures.1, c.put_fault.ensures.1))
