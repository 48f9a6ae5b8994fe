use mathlib.Core.Path.{refl}
use mathlib.Core.List.{[], ◌∷◌}
use Rattle.phrases.specs.Lines.{spaces}
use Rattle.phrases.proofs.LineTexts.{as_text}
use Rattle.phrases.proofs.Bounds.{plain-short, plain-written}
use Rattle.naming.proofs.Texts.{soil_names, soil-text}
use native.Mathlib.Omega.{arith}
use borrow.Author.Rules.{rules}
use Rattle.naming.proofs.put_soil.Goals as goal

pub put_lines-requires : goal.put_lines-requires
unfolding spaces
put_lines-requires c =
    record { enough = omega arith; room = omega (arith, c.requires, plain-short soil_names (c.plain.result ∷ c.plain-2.result ∷ c.plain-3.result ∷ []) (c.args.soil ∷ c.args.current ∷ c.args.former ∷ []) (rw (c.plain.ensures.number, c.plain-2.ensures.number, c.plain-3.ensures.number) refl) (search rules, (search rules, (search rules, tt)))) }

pub returns : goal.returns
unfolding spaces
returns c =
    let v = plain-written soil_names (c.plain.result ∷ c.plain-2.result ∷ c.plain-3.result ∷ []) (c.args.soil ∷ c.args.current ∷ c.args.former ∷ []) (rw (c.plain.ensures.number, c.plain-2.ensures.number, c.plain-3.ensures.number) refl) (search rules, (search rules, (search rules, tt))) 120 (omega arith) c.put_lines.ensures in
    (as_text (soil-text c.args.soil c.args.current c.args.former) v.0, v.1)
