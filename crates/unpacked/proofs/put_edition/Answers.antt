use Prim.Native.Nat.{ℕ}
use mathlib.Core.Path.{ap}
use mathlib.Core.List.{[], ◌∷◌, ◌++◌}
use native.Mathlib.Omega.{arith}
use Rattle.decimal.specs.Digits.{decimal}
use Rattle.decimal.proofs.DigitLaws.{written-more}
use Rattle.phrases.specs.Ascii.{codes}
use Rattle.phrases.proofs.LineTexts.{as_text}
use Rattle.unpacked.proofs.Numbers.{number_short}
use Rattle.unpacked.proofs.put_edition.Goals as goal

pub write-b-requires : goal.write-b-requires
write-b-requires c =
    omega (arith, c.requires, number_short _ c.args.edition c.of.ensures.number (omega arith), c.put-a.ensures.place, c.put-a.auto.out)

pub put_byte-requires : goal.put_byte-requires
put_byte-requires c =
    omega (arith, c.requires, number_short _ c.args.edition c.of.ensures.number (omega arith), c.put-a.ensures.place, c.put-a.auto.out, c.write-b.ensures.place, c.write-b.auto.out)

pub returns : goal.returns
returns c = (
  as_text (ap (λ (v : ℕ). (codes "edition," ++ decimal v) ++ 10 ∷ []) c.of.ensures.number)
      (written-more (written-more c.put-a.ensures c.write-b.ensures) c.put_byte.ensures),
  omega (arith, number_short _ c.args.edition c.of.ensures.number (omega arith), c.put-a.ensures.place, c.write-b.ensures.place, c.put_byte.ensures.place),
)
