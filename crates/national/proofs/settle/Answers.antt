use Prim.Native.Nat.{ℕ}
use mathlib.Core.Path.{sym, ap, ◌∙◌}
use lib.Seq.{length-take-le}
use Rattle.cutting.specs.Cutting.{next_after}
use Rattle.national.proofs.Streaming.{returned-fits}
use Rattle.national.proofs.settle.Goals as goal

pub slice_bounds-take_return-end : goal.slice_bounds-take_return-end
slice_bounds-take_return-end c =
    let comes = ap (λ (k : ℕ). next_after k c.args.seen.now) (sym c.count_of.ensures) ∙ sym c.cut_next.ensures ∙ c.in_ok-size.was in
    sym (length-take-le _ _ (returned-fits c.args.run.tally c.args.run.at c.requires.0 c.args.seen.now comes).1)
