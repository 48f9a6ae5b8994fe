use Prim.Native.Nat.{◌+◌}
use mathlib.Core.Path.{refl}
use mathlib.Core.List.{[], ◌∷◌}
use lib.ListN.{length}
use Rattle.phrases.proofs.Bounds.{plain-short, plain-written}
use native.Mathlib.Omega.{arith}
use borrow.Author.Rules.{rules}
use Rattle.phrases.proofs.put_one.Goals as goal

pub put_lines-requires : goal.put_lines-requires
put_lines-requires c =
    record { enough = omega (arith, c.requires.0); room = omega (arith, c.requires, plain-short c.args.name.now (c.plain.result ∷ []) (c.args.n ∷ []) (rw c.plain.ensures.number refl) (search rules, tt)) }

pub returns : goal.returns
returns c =
    let names = c.args.name.now in
    plain-written names (c.plain.result ∷ []) (c.args.n ∷ []) (rw c.plain.ensures.number refl) (search rules, tt) (length names + 21) (omega (arith, c.requires.0)) c.put_lines.ensures
