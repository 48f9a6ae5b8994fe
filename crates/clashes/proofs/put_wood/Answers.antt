use Prim.Native.Nat.{◌≤◌}
use mathlib.Core.Path.{◌≡◌, refl, ap, ◌∙◌}
use mathlib.Core.List.{[], ◌∷◌}
use lib.ListN.{length}
use Rattle.filing.specs.Lists.{cut, filed_lists}
use Rattle.phrases.specs.Lines.{spaces, filled_in, amounts}
use Rattle.phrases.proofs.LineTexts.{as_text}
use Rattle.clashes.proofs.Wood.{wood_names, wood_values, wood-short, wood_told}
use native.Mathlib.Omega.{arith}
use borrow.Author.Rules.{rules}
use Rattle.clashes.proofs.put_wood.Goals as goal

pub put_lines-requires : goal.put_lines-requires
unfolding spaces
put_lines-requires c =
    let wood = c.weigh_lists-wood.result in
    let e : amounts (c.whole.result ∷ c.whole-2.result ∷ []) ≡ wood_values wood = rw (c.whole.ensures, c.whole-2.ensures) refl in
    let short' : length (filled_in wood_names (wood_values wood)) ≤ 100 = wood-short {w = wood} (search rules, search rules) (search rules, search rules) in
    record { enough = omega arith; room = omega (arith, c.requires.at_in_bounds, short', ap length (ap (filled_in wood_names) e)) }

pub returns : goal.returns
returns c =
    let a = c.args in
    let f = filed_lists (cut a.lengths.now a.area.now) in
    let wood = c.weigh_lists-wood.result in
    let e : amounts (c.whole.result ∷ c.whole-2.result ∷ []) ≡ wood_values wood = rw (c.whole.ensures, c.whole-2.ensures) refl in
    let short' : length (filled_in wood_names (wood_values wood)) ≤ 100 = wood-short {w = wood} (search rules, search rules) (search rules, search rules) in (
      as_text (ap (filled_in wood_names) e ∙ wood_told f c.weigh_lists-wood.ensures) c.put_lines.ensures,
      omega (arith, c.put_lines.ensures.place, short', ap length (ap (filled_in wood_names) e)),
    )
