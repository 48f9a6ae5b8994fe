use mathlib.Core.Path.{refl}
use mathlib.Core.List.{[], ◌∷◌}
use Rattle.phrases.specs.Ascii.{codes}
use Rattle.phrases.specs.Lines.{number_line, spaces}
use Rattle.wording.specs.Wording.{header_lines}
use Rattle.phrases.proofs.LineTexts.{as_text, more-text, one_text, two_text}
use native.Mathlib.Omega.{arith}
use borrow.Author.Rules.{rules}
use Rattle.wording.proofs.put_fault.Goals as goal

pub put_one-requires : goal.put_one-requires
unfolding spaces
put_one-requires c = (search rules, omega (arith, c.put_header-next.ensures.1, c.requires))

pub put_one-requires-in-Unfilled : goal.put_one-requires-in-Unfilled
unfolding spaces
put_one-requires-in-Unfilled c = (search rules, omega (arith, c.put_header-next-in-Unfilled.ensures.1, c.requires))

pub put_two-requires : goal.put_two-requires
unfolding spaces
put_two-requires c = (search rules, omega (arith, c.requires))

pub returns-in-Order : goal.returns-in-Order
unfolding spaces
returns-in-Order c =
    let a = c.args in (
      rw c.in-Order.is (more-text (header_lines a.h) (number_line (codes "kind_before") c.in-Order.kind_before ∷ []) c.put_header-next.ensures.0 (as_text (one_text (codes "kind_before") c.in-Order.kind_before refl) c.put_one.ensures.0)),
      omega (arith, c.put_header-next.ensures.1, c.put_one.ensures.1),
    )

pub returns-in-Unfilled : goal.returns-in-Unfilled
unfolding spaces
returns-in-Unfilled c =
    let a = c.args in (
      rw c.in-Unfilled.is (more-text (header_lines a.h) (number_line (codes "kind_next") c.in-Unfilled.kind_next ∷ []) c.put_header-next-in-Unfilled.ensures.0 (as_text (one_text (codes "kind_next") c.in-Unfilled.kind_next refl) c.put_one-in-Unfilled.ensures.0)),
      omega (arith, c.put_header-next-in-Unfilled.ensures.1, c.put_one-in-Unfilled.ensures.1),
    )

pub returns-in-Stray : goal.returns-in-Stray
unfolding spaces
returns-in-Stray c =
    (rw c.in-Stray.is (as_text (two_text (codes "offset") (codes "byte") _ _ refl) c.put_two.ensures.0), omega (arith, c.put_two.ensures.1))
