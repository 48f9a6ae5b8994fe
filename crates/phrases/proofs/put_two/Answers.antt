use Prim.Native.Nat.{◌+◌}
use mathlib.Core.Path.{refl}
use mathlib.Core.List.{[], ◌∷◌}
use lib.ListN.{length}
use Rattle.phrases.proofs.Bounds.{plain-short, plain-written}
use native.Mathlib.Omega.{arith}
use borrow.Author.Rules.{rules}
use Rattle.phrases.proofs.put_two.Goals as goal

pub put_lines-requires : goal.put_lines-requires
put_lines-requires c =
    let short = plain-short c.args.names.now (c.plain.result ∷ c.plain-2.result ∷ []) (c.args.m ∷ c.args.n ∷ []) (rw (c.plain.ensures.number, c.plain-2.ensures.number) refl) (search rules, (search rules, tt)) in
    record { enough = omega (arith, c.requires.0); room = omega (arith, c.requires, short) }

pub returns : goal.returns
returns c =
    let names = c.args.names.now in
    plain-written names (c.plain.result ∷ c.plain-2.result ∷ []) (c.args.m ∷ c.args.n ∷ []) (rw (c.plain.ensures.number, c.plain-2.ensures.number) refl) (search rules, (search rules, tt)) (length names + 42) (omega (arith, c.requires.0)) c.put_lines.ensures
