use lib.Dec.{lit<}
use Rattle.standing.proofs.Accepted.{few_counted}
use Rattle.decoding.proofs.Decoded.{places_in}
use Rattle.areas.proofs.Return.{seventh, soils-count, soils_few, soils-place, stored-rows}
use native.Mathlib.Omega.{arith}
use Rattle.areas.proofs.decode_soils.Goals as goal

pub first_block-requires : goal.first_block-requires
first_block-requires c = (lit< tt, lit< tt, few_counted c.args.bytes.now c.args.c c.requires.0)

pub decode_kind-requires : goal.decode_kind-requires
decode_kind-requires c =
    let t = c.args.bytes.now in
    let acc = c.requires.0 in (
      omega (arith, soils-place t c.args.c acc c.first_block.ensures.0, soils-count t c.args.c acc, places_in t c.args.c acc 6 seventh),
      omega (arith, soils_few t c.args.c acc, c.requires.1),
    )

pub returns : goal.returns
returns c =
    let t = c.args.bytes.now in
    let acc = c.requires.0 in
    let few = soils_few t c.args.c acc in
    (omega (arith, few), stored-rows t c.args.c acc c.args.room.now c.first_block.ensures.0 c.decode_kind.ensures (omega (arith, few, c.requires.1)))
