use mathlib.Core.Path.{refl}
use Rattle.national.specs.Lines.{totals_by}
use Rattle.national.proofs.parts.list_totals.Goals as goal

pub returns : goal.returns
unfolding totals_by
returns c =
    rw (
      c.plain.ensures.number,
      c.plain-2.ensures.number,
      c.whole.ensures,
      c.whole-2.ensures,
      c.whole-3.ensures,
      c.whole-4.ensures,
      c.whole-5.ensures,
      c.whole-6.ensures,
      c.whole-7.ensures,
    ) refl
