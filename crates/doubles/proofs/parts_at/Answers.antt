use mathlib.Core.Path.{refl, ap₂, ◌∙◌}
use Prim.Native.Nat.{ℕ}
use Rattle.form.specs.Records.{counted_difference}
use Rattle.doubles.proofs.Fields.{onsite_at, offsite_at, part_same, doubles_same}
use Rattle.doubles.proofs.parts_at.Goals as goal

pub returns : goal.returns
returns c =
    let g = c.args in
    let area = c.four_at-area.ensures in
    let e = c.counted_difference-difference.ensures.0 ∙ ap₂ (λ (x y : ℕ). counted_difference x y) c.two_at.ensures.0 c.two_at-2.ensures.0 in
    doubles_same
    (c.burnt_at.ensures ∙ part_same area e refl refl refl ∙ onsite_at g.bytes.now g.at)
    (c.burnt_at-2.ensures ∙ part_same area e refl refl refl ∙ offsite_at g.bytes.now g.at)
    c.decay_at.ensures
