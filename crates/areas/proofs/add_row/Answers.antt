use mathlib.Core.Path.{sym, ◌∙◌}
use Rattle.filing.specs.Lists.{row_of}
use Rattle.areas.proofs.Sums.{row_of_other, row_of_type}
use native.Mathlib.Omega.{arith}
use Rattle.areas.proofs.add_row.Goals as goal

pub returns-then-number_of-soil : goal.returns-then-number_of-soil
returns-then-number_of-soil c =
    let a = c.args in record { value = row_of_other a.soil a.sums (row_of 7 a.rows.now a.j) (λ q. c.if-number_of-soil.true (c.number_of.ensures.0 ∙ q)); result_bound = (omega arith, omega arith) }

pub returns : goal.returns
returns c =
    let a = c.args in record { value = row_of_type a.soil a.sums (row_of 7 a.rows.now a.j) (sym c.number_of.ensures.0 ∙ c.if-number_of-soil.false) c.number_of-2.ensures.0 c.number_of-3.ensures.0; result_bound = (omega (arith, c.number_of-2.ensures.1), omega (arith, c.number_of-3.ensures.1)) }
