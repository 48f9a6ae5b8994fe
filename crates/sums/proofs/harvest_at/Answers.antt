use Prim.Native.Nat.{◌+◌, ◌*◌}
use Rattle.form.specs.Layout.{row_from}
use Rattle.form.specs.Sums.{harvest_part}
use Rattle.sums.proofs.harvest_at.Goals as goal

pub returns : goal.returns
unfolding harvest_part row_from
returns c = λ i. c.four_at.ensures i * c.two_at.ensures.0 i + 1000 * (c.four_at-2.ensures i + c.four_at-3.ensures i)
