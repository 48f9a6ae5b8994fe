use Prim.Native.Nat.{◌*◌}
use mathlib.Core.Path.{◌≡◌, ◌∙◌}
use Rattle.form.specs.Records.{counted_difference}
use Rattle.form.specs.Sums.{cleared_part}
use Rattle.filing.specs.Lists.{row_of}
use Rattle.wide.specs.Numbers.{value}
use Rattle.wide.proofs.Laws.{is_as}
use Rattle.balance.proofs.Parts.{cleared-part, three-numbers}
use borrow.Author.Rules.{rules}
use Rattle.balance.proofs.unwritten.cleared_in.Goals as goal

pub returns : goal.returns
returns c =
    let s = c.args in
    let h = three-numbers c.number_in-area.result c.counted_difference-difference.result c.number_in-3.result (search rules) (search rules) (search rules) in
    let e : value c.of.result * c.number_in-3.result ≡ cleared_part (row_of 1 s.rows.now s.j) =
    (λ i. c.of.ensures.number i * c.number_in-3.result)
    ∙ (λ i. c.number_in-area.ensures.0 i * (c.counted_difference-difference.ensures.0 ∙ (λ k. counted_difference (c.number_in.ensures.0 k) (c.number_in-2.ensures.0 k))) i * c.number_in-3.ensures.0 i)
    ∙ cleared-part s.rows.now s.j in
    (is_as c.times.ensures e, rw (c.times.ensures.number, c.of.ensures.number) h)
