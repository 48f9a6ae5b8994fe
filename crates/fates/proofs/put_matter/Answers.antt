use native.Mathlib.Omega.{arith}
use mathlib.Core.Path.{◌≡◌, refl, ap}
use mathlib.Core.List.{[], ◌∷◌}
use lib.ListN.{length}
use Rattle.phrases.specs.Lines.{amounts}
use Rattle.phrases.proofs.LineTexts.{as_text}
use Rattle.fates.proofs.Texts.{masses, names_few, matter-filled, matter-short}
use Rattle.fates.proofs.put_matter.Goals as goal

pub put_lines-requires : goal.put_lines-requires
put_lines-requires c =
    let m = c.args.m in
    let e : amounts (c.whole.result ∷ c.whole-2.result ∷ c.whole-3.result ∷ c.whole-4.result ∷ c.whole-5.result ∷ []) ≡ masses m =
    rw (c.whole.ensures, c.whole-2.ensures, c.whole-3.ensures, c.whole-4.ensures, c.whole-5.ensures) refl in
    record { enough = names_few; room = omega (arith, c.requires.1, matter-short m c.requires.0, ap length (matter-filled m e)) }

pub returns : goal.returns
returns c =
    let m = c.args.m in
    let e : amounts (c.whole.result ∷ c.whole-2.result ∷ c.whole-3.result ∷ c.whole-4.result ∷ c.whole-5.result ∷ []) ≡ masses m =
    rw (c.whole.ensures, c.whole-2.ensures, c.whole-3.ensures, c.whole-4.ensures, c.whole-5.ensures) refl in
    let w = as_text (matter-filled m e) c.put_lines.ensures in
    (w, omega (arith, w.place, matter-short m c.requires.0))
