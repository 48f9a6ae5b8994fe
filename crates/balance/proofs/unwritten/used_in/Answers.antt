use Prim.Native.Nat.{◌+◌, ◌*◌}
use mathlib.Core.Path.{◌≡◌, ◌∙◌}
use Rattle.form.specs.Sums.{harvest_part}
use Rattle.filing.specs.Lists.{row_of}
use Rattle.wide.specs.Numbers.{value}
use Rattle.wide.proofs.Laws.{is_as}
use Rattle.balance.proofs.Parts.{harvest-part, two_numbers}
use native.Mathlib.Omega.{arith}
use borrow.Author.Rules.{rules}
use Rattle.balance.proofs.unwritten.used_in.Goals as goal

pub returns : goal.returns
returns c =
    let s = c.args in
    let h = two_numbers c.number_in.result c.number_in-2.result (search rules) (search rules) in
    let e : value c.of.result + 1000 * (c.number_in-3.result + c.number_in-4.result) ≡ harvest_part (row_of 3 s.rows.now s.j) =
    (λ i. (c.of.ensures.number ∙ (λ k. c.number_in.ensures.0 k * c.number_in-2.ensures.0 k)) i + 1000 * (c.number_in-3.ensures.0 i + c.number_in-4.ensures.0 i))
    ∙ harvest-part s.rows.now s.j in
    (is_as c.add_word.ensures e, rw (c.add_word.ensures.number, c.of.ensures.number) (omega (arith, h, c.number_in-3.ensures.1, c.number_in-4.ensures.1)))
