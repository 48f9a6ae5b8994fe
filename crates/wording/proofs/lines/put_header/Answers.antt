use mathlib.Core.Path.{refl}
use mathlib.Core.List.{[], ◌∷◌}
use Rattle.phrases.specs.Lines.{spaces}
use Rattle.phrases.proofs.LineTexts.{as_text}
use Rattle.phrases.proofs.Bounds.{plain-short, plain-written}
use Rattle.wording.proofs.Texts.{header_names, header_text}
use native.Mathlib.Omega.{arith}
use borrow.Author.Rules.{rules}
use Rattle.wording.proofs.lines.put_header.Goals as goal

pub put_lines-requires : goal.put_lines-requires
unfolding spaces
put_lines-requires c =
    record { enough = omega arith; room = omega (arith, c.requires, plain-short header_names (c.plain.result ∷ c.plain-2.result ∷ c.plain-3.result ∷ c.plain-4.result ∷ c.plain-5.result ∷ []) (c.args.h.kind ∷ c.args.h.count ∷ c.args.h.number ∷ c.args.h.blocks ∷ c.args.h.edition ∷ []) (rw (c.plain.ensures.number, c.plain-2.ensures.number, c.plain-3.ensures.number, c.plain-4.ensures.number, c.plain-5.ensures.number) refl) (search rules, (search rules, (search rules, (search rules, (search rules, tt)))))) }

pub returns : goal.returns
unfolding spaces
returns c =
    let v = plain-written header_names (c.plain.result ∷ c.plain-2.result ∷ c.plain-3.result ∷ c.plain-4.result ∷ c.plain-5.result ∷ []) (c.args.h.kind ∷ c.args.h.count ∷ c.args.h.number ∷ c.args.h.blocks ∷ c.args.h.edition ∷ []) (rw (c.plain.ensures.number, c.plain-2.ensures.number, c.plain-3.ensures.number, c.plain-4.ensures.number, c.plain-5.ensures.number) refl) (search rules, (search rules, (search rules, (search rules, (search rules, tt))))) 140 (omega arith) c.put_lines.ensures in
    (as_text (header_text c.args.h) v.0, v.1)
