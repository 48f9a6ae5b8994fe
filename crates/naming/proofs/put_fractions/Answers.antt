use mathlib.Core.Path.{refl}
use mathlib.Core.List.{[], ◌∷◌}
use Rattle.phrases.specs.Lines.{spaces}
use Rattle.phrases.proofs.LineTexts.{as_text}
use Rattle.phrases.proofs.Bounds.{plain-short, plain-written}
use Rattle.naming.proofs.Texts.{fractions_names, fractions_text}
use native.Mathlib.Omega.{arith}
use borrow.Author.Rules.{rules}
use Rattle.naming.proofs.put_fractions.Goals as goal

pub put_lines-requires : goal.put_lines-requires
unfolding spaces
put_lines-requires c =
    record { enough = omega arith; room = omega (arith, c.requires, plain-short fractions_names (c.plain.result ∷ c.plain-2.result ∷ c.plain-3.result ∷ c.plain-4.result ∷ []) (c.args.onsite ∷ c.args.offsite ∷ c.args.decay ∷ c.args.sum ∷ []) (rw (c.plain.ensures.number, c.plain-2.ensures.number, c.plain-3.ensures.number, c.plain-4.ensures.number) refl) (search rules, (search rules, (search rules, (search rules, tt))))) }

pub returns : goal.returns
unfolding spaces
returns c =
    let v = plain-written fractions_names (c.plain.result ∷ c.plain-2.result ∷ c.plain-3.result ∷ c.plain-4.result ∷ []) (c.args.onsite ∷ c.args.offsite ∷ c.args.decay ∷ c.args.sum ∷ []) (rw (c.plain.ensures.number, c.plain-2.ensures.number, c.plain-3.ensures.number, c.plain-4.ensures.number) refl) (search rules, (search rules, (search rules, (search rules, tt)))) 120 (omega arith) c.put_lines.ensures in
    (as_text (fractions_text c.args.onsite c.args.offsite c.args.decay c.args.sum) v.0, v.1)
