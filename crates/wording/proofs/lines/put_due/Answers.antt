use mathlib.Core.Path.{refl}
use mathlib.Core.List.{[], ◌∷◌}
use Rattle.phrases.specs.Lines.{spaces}
use Rattle.phrases.proofs.LineTexts.{as_text}
use Rattle.phrases.proofs.Bounds.{plain-short, plain-written}
use Rattle.wording.proofs.Texts.{due_names, due_text}
use native.Mathlib.Omega.{arith}
use borrow.Author.Rules.{rules}
use Rattle.wording.proofs.lines.put_due.Goals as goal

pub put_lines-requires : goal.put_lines-requires
unfolding spaces
put_lines-requires c =
    record { enough = omega arith; room = omega (arith, c.requires, plain-short due_names (c.plain.result ∷ c.plain-2.result ∷ c.plain-3.result ∷ []) (c.args.number ∷ c.args.blocks ∷ c.args.edition ∷ []) (rw (c.plain.ensures.number, c.plain-2.ensures.number, c.plain-3.ensures.number) refl) (search rules, (search rules, (search rules, tt)))) }

pub returns : goal.returns
unfolding spaces
returns c =
    let v = plain-written due_names (c.plain.result ∷ c.plain-2.result ∷ c.plain-3.result ∷ []) (c.args.number ∷ c.args.blocks ∷ c.args.edition ∷ []) (rw (c.plain.ensures.number, c.plain-2.ensures.number, c.plain-3.ensures.number) refl) (search rules, (search rules, (search rules, tt))) 110 (omega arith) c.put_lines.ensures in
    (as_text (due_text c.args.number c.args.blocks c.args.edition) v.0, v.1)
