use Prim.Native.Nat.{ℕ}
use mathlib.Core.Path.{refl, ap, ◌∙◌}
use mathlib.Core.List.{[], ◌∷◌}
use Rattle.filing.specs.Lists.{rows_in}
use Rattle.decimal.proofs.DigitLaws.{written-more}
use Rattle.phrases.specs.Ascii.{codes}
use Rattle.phrases.specs.Lines.{number_line, lines_text, spaces}
use Rattle.phrases.proofs.LineTexts.{as_text, more-text, one_text}
use Rattle.naming.specs.Names.{kind_name}
use Rattle.naming.specs.RowLines.{word_line}
use Rattle.objections.proofs.LineTexts.{word-text}
use native.Mathlib.Omega.{arith}
use borrow.Author.Rules.{rules}
use Rattle.objections.proofs.refused.put_found.Goals as goal

pub put_one-requires : goal.put_one-requires
unfolding spaces
put_one-requires c = search rules

pub returns : goal.returns
unfolding spaces lines_text
returns c =
    let a = c.args in
    let rows = c.count-rows.ensures.0 ∙ ap (rows_in a.kind) c.length_at.ensures.0 in
    let named = as_text (word-text [] (codes "kind_name") (kind_name a.kind)) (written-more (written-more c.put-a.ensures c.put_kind_name-b.ensures.0) c.put_byte-c.ensures) in
    let counted = as_text (one_text (codes "rows") _ refl ∙ ap (λ (x : ℕ). lines_text (number_line (codes "rows") x ∷ [])) rows) c.put_one.ensures.0 in (
      more-text (word_line (codes "kind_name") (kind_name a.kind) ∷ []) (number_line (codes "rows") _ ∷ []) named counted,
      omega (arith, c.put-a.ensures.place, c.put_kind_name-b.ensures.1, c.put_byte-c.ensures.place, c.put_one.ensures.1),
    )
