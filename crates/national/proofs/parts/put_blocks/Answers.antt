use native.Mathlib.Omega.{arith}
use Rattle.decimal.proofs.DigitLaws.{written-more}
use Rattle.phrases.proofs.Room.{ended-length}
use Rattle.national.proofs.Pieces.{as_blocks, blocks-length, stop-length}
use Prim.Native.Nat.{◌≤◌}
use lib.ListN.{length}
use Rattle.decimal.proofs.DigitLaws.{decimal-length}
use Rattle.phrases.specs.Ascii.{codes}
use Rattle.cutting.specs.declared.Stop.TheVariants.{Blocks}
use Rattle.national.specs.Lines.{stop_text}
use Rattle.national.specs.Steps.{stop_room}
use Rattle.national.proofs.parts.put_blocks.Goals as goal

pub put_why-a-requires : goal.put_why-a-requires
put_why-a-requires c =
    omega (arith, c.requires, blocks-length c.args.position c.args.blocks, (let short' : length (stop_text c.args.position (Blocks c.args.blocks)) ≤ stop_room = omega (arith, c.requires.0, blocks-length c.args.position c.args.blocks, stop-length c.args.position (codes "blocks "), decimal-length 2 c.args.position (omega (arith, c.requires.0)), decimal-length 9 c.args.blocks (omega arith)) in short'))

pub put_value-requires : goal.put_value-requires
put_value-requires c =
    let n = blocks-length c.args.position c.args.blocks in
    (c.plain.ensures.form, omega (arith, c.requires, n, (let short' : length (stop_text c.args.position (Blocks c.args.blocks)) ≤ stop_room = omega (arith, c.requires.0, blocks-length c.args.position c.args.blocks, stop-length c.args.position (codes "blocks "), decimal-length 2 c.args.position (omega (arith, c.requires.0)), decimal-length 9 c.args.blocks (omega arith)) in short'), c.put_why-a.auto.out, c.put_why-a.ensures.place, ended-length 10 c.plain.ensures.number))

pub returns : goal.returns
returns c =
    let v = as_blocks c.args.position c.args.blocks _ c.plain.ensures.number (written-more c.put_why-a.ensures c.put_value.ensures) in
    (v, omega (arith, v.place, (let short' : length (stop_text c.args.position (Blocks c.args.blocks)) ≤ stop_room = omega (arith, c.requires.0, blocks-length c.args.position c.args.blocks, stop-length c.args.position (codes "blocks "), decimal-length 2 c.args.position (omega (arith, c.requires.0)), decimal-length 9 c.args.blocks (omega arith)) in short')))
