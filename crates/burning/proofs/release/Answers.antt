use Prim.Native.Nat.{ℕ, ◌*◌}
use mathlib.Core.Path.{ap}
use Rattle.wide.proofs.Laws.{words, is_as}
use Rattle.burning.specs.Released.{released_of}
use Rattle.burning.proofs.release.Goals as goal

pub returns : goal.returns
unfolding released_of
returns c =
    let by = c.args.by in
    let n = c.times-nitrogen.ensures.number in
    let ch4 = words c.times.ensures in
    let co = words c.times-2.ensures in
    let n2o = words (is_as c.times-3.ensures (ap (λ (x : ℕ). x * by.n2o) n)) in
    let nox = words (is_as c.times-4.ensures (ap (λ (x : ℕ). x * by.nox) n)) in
    λ i. record { carbon = c.args.c; ch4 = record { 0 = ch4 i }; co = record { 0 = co i }; n2o = record { 0 = n2o i }; nox = record { 0 = nox i } }
