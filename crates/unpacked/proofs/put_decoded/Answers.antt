use native.Mathlib.Omega.{arith}
use Rattle.unpacked.proofs.InTurn.{two_numbers, front-count}
use Rattle.unpacked.proofs.put_decoded.Goals as goal

pub put_kind-requires : goal.put_kind-requires
put_kind-requires c =
    let a = c.args in
    let two = two_numbers a.kind c.requires.0 c.requires.1 in (
      c.requires.0,
      c.requires.1,
      c.requires.2,
      front-count a.kind a.bytes.now a.place a.n _ c.decode_rows-end.result c.decode_rows-end.ensures.2 (omega (arith, two)),
      c.requires.4,
    )
