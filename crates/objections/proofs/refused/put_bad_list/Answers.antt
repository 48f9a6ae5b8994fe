use Prim.Native.Nat.{◌^◌, ◌<◌}
use Rattle.decimal.proofs.DigitLaws.{written-more}
use Rattle.objections.proofs.LineTexts.{refused-fits}
use native.Mathlib.Omega.{arith}
use borrow.Author.Rules.{rules}
use Rattle.objections.proofs.refused.put_bad_list.Goals as goal

-- The first line, and what is told behind it. Assumes nothing.
pub put_refused-next-requires : goal.put_refused-next-requires
put_refused-next-requires c =
    let h : c.args.place < 2 ^ 32 = search rules in
    omega (arith, c.requires.2, refused-fits 10 c.args.place (omega arith) h)

pub put_list-requires : goal.put_list-requires
put_list-requires c =
    let h : c.args.place < 2 ^ 32 = search rules in
    (c.requires.0, c.requires.1, omega (arith, c.requires.2, refused-fits 10 c.args.place (omega arith) h, c.put_refused-next.ensures.place, c.put_refused-next.auto.out))

pub returns : goal.returns
returns c =
    let h : c.args.place < 2 ^ 32 = search rules in (
      written-more c.put_refused-next.ensures c.put_list.ensures.0,
      omega (arith, refused-fits 10 c.args.place (omega arith) h, c.put_refused-next.ensures.place, c.put_list.ensures.1),
    )
