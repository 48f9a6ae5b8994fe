use mathlib.Core.Path.{refl}
use mathlib.Core.List.{[], ◌∷◌}
use Rattle.phrases.specs.Lines.{spaces}
use Rattle.phrases.proofs.LineTexts.{as_text}
use Rattle.phrases.proofs.Bounds.{plain-short, plain-written}
use Rattle.wording.proofs.Texts.{wood_names, wood-text}
use native.Mathlib.Omega.{arith}
use borrow.Author.Rules.{rules}
use Rattle.wording.proofs.lines.put_wood.Goals as goal

pub put_lines-requires : goal.put_lines-requires
unfolding spaces
put_lines-requires c =
    record { enough = omega arith; room = omega (arith, c.requires, plain-short wood_names (c.plain.result ∷ c.plain-2.result ∷ []) (c.args.used ∷ c.args.cleared ∷ []) (rw (c.plain.ensures.number, c.plain-2.ensures.number) refl) (search rules, (search rules, tt))) }

pub returns : goal.returns
unfolding spaces
returns c =
    let v = plain-written wood_names (c.plain.result ∷ c.plain-2.result ∷ []) (c.args.used ∷ c.args.cleared ∷ []) (rw (c.plain.ensures.number, c.plain-2.ensures.number) refl) (search rules, (search rules, tt)) 60 (omega arith) c.put_lines.ensures in
    (as_text (wood-text c.args.used c.args.cleared) v.0, v.1)
