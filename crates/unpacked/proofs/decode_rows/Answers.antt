use Prim.Native.Nat.{ℕ, ◌*◌}
use mathlib.Core.Path.{ap}
use native.Mathlib.Omega.{arith}
use Rattle.unpacked.proofs.InTurn.{rows-small, stored-rows}
use Rattle.unpacked.proofs.decode_rows.Goals as goal

pub returns : goal.returns
returns c =
    let a = c.args in
    let e = c.numbers.ensures.0 in
    let h = rows-small a.kind a.n c.numbers.result e c.requires.0 in
    (ap (λ (k : ℕ). k * a.n) e, h, stored-rows a.kind a.bytes.now a.place a.n _ _ c.numbers.result e c.decode_kind.ensures (omega (arith, h, c.requires.2)))
