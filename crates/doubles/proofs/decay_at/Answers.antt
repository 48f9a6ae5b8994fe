use mathlib.Core.Path.{refl, ap₂, ◌∙◌}
use Prim.Native.Nat.{ℕ}
use Rattle.form.specs.Records.{counted_difference}
use Rattle.doubles.proofs.Fields.{decay_at, part_same}
use Rattle.doubles.proofs.decay_at.Goals as goal

pub returns : goal.returns
returns c =
    let g = c.args in
    let e = c.counted_difference-difference.ensures.0 ∙ ap₂ (λ (b a : ℕ). counted_difference b a) c.two_at.ensures.0 c.two_at-2.ensures.0 in
    c.part.ensures
    ∙ part_same c.four_at.ensures e c.two_at-3.ensures.0 refl c.two_at-4.ensures.0
    ∙ decay_at g.bytes.now g.at
