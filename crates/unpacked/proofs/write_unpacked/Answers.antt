use Prim.Native.Nat.{ℕ}
use mathlib.Core.Path.{◌≡◌, ap, ◌∙◌}
use native.Mathlib.Omega.{arith}
use Rattle.form.specs.Block.{edition}
use Rattle.form.specs.declared.Counts.{Counts}
use Rattle.standing.proofs.Accepted.{formed_counts}
use Rattle.rows.specs.Reading.{row_lists}
use Rattle.decimal.proofs.DigitLaws.{written-more}
use Rattle.phrases.proofs.LineTexts.{as_text}
use Rattle.unpacked.specs.Unpacked.{lists_text}
use Rattle.unpacked.proofs.Lines.{text_is}
use Rattle.unpacked.proofs.InTurn.{all_room}
use Rattle.unpacked.proofs.write_unpacked.Goals as goal

pub put_kinds-requires : goal.put_kinds-requires
put_kinds-requires c =
    (c.requires.0, omega (arith, all_room, c.requires.1, c.put_edition-next.ensures.1, c.put_edition-next.auto.out))

pub returns : goal.returns
returns c =
    let b = c.args.bytes.now in
    let told : c.args.counts.edition ≡ edition b 0 = ap (λ (x : Counts). x.edition) (formed_counts b c.args.counts c.requires.0) in (
      as_text (text_is c.args.counts.edition (row_lists b) ∙ ap (λ (e : ℕ). lists_text e (row_lists b)) told)
          (written-more c.put_edition-next.ensures.0 c.put_kinds.ensures.0),
      omega (arith, all_room, c.put_edition-next.ensures.1, c.put_kinds.ensures.1),
    )
