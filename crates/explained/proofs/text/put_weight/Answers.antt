use mathlib.Core.Path.{refl}
use mathlib.Core.List.{[], ◌∷◌}
use borrow.Author.Tests.{ne_eqb}
use Rattle.phrases.proofs.Bounds.{plain-short, plain-written}
use native.Mathlib.Omega.{arith}
use borrow.Author.Rules.{rules}
use Rattle.explained.proofs.text.put_weight.Goals as goal

pub put_lines-requires : goal.put_lines-requires
put_lines-requires c =
    let short = plain-short c.args.names.now (c.plain.result ∷ c.plain-2.result ∷ []) (c.args.w.id ∷ c.args.w.part ∷ []) (rw (c.plain.ensures.number, c.plain-2.ensures.number) refl) (search rules, (search rules, tt)) in
    record { enough = omega (arith, c.requires.0); room = omega (arith, c.requires, short) }

pub returns : goal.returns
returns c =
    rw (ne_eqb _ 0 c.if-w-eq0.false) (plain-written c.args.names.now (c.plain.result ∷ c.plain-2.result ∷ []) (c.args.w.id ∷ c.args.w.part ∷ []) (rw (c.plain.ensures.number, c.plain-2.ensures.number) refl) (search rules, (search rules, tt)) 90 (omega (arith, c.requires)) c.put_lines.ensures)
