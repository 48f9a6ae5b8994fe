use mathlib.Core.Path.{ap, ◌∙◌}
use mathlib.Core.List.{List}
use Prim.Native.Nat.{ℕ}
use Rattle.areas.specs.Areas.{areas_of}
use Rattle.areas.proofs.Return.{soils_decoded, front-part}
use Rattle.areas.proofs.areas_of.Goals as goal

pub returns : goal.returns
returns c =
    c.add_areas.ensures ∙ ap (λ (x : List (List ℕ)). areas_of x c.args.soil) (soils_decoded c.args.bytes.now c.args.c c.requires (front-part c.decode_soils-end.result _ c.decode_soils-end.ensures.1))
