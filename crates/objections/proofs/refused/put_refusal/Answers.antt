use Prim.Native.Nat.{◌^◌, ◌<◌}
use Rattle.filing.specs.Lists.{cut, filed_lists}
use Rattle.decimal.proofs.DigitLaws.{written-more}
use Rattle.phrases.proofs.LineTexts.{as_text, more-text}
use Rattle.clashes.specs.Clashes.{clash_lines}
use Rattle.clashes.proofs.Broken.{used_there}
use Rattle.objections.specs.Objections.{line_lines}
use Rattle.objections.proofs.LineTexts.{refused-fits}
use Rattle.objections.proofs.Rulings.{refusal_text}
use native.Mathlib.Omega.{arith}
use borrow.Author.Rules.{rules}
use Rattle.objections.proofs.refused.put_refusal.Goals as goal

-- The first line, the values that clash, and the line of the row. Assumes nothing.
pub put_refused-a-requires : goal.put_refused-a-requires
put_refused-a-requires c =
    let g : c.args.number < 2 ^ 8 = search rules in
    let h : c.args.place < 2 ^ 32 = search rules in
    omega (arith, c.requires.at_in_bounds, refused-fits c.args.number c.args.place g h)

pub put_clash-b-requires : goal.put_clash-b-requires
put_clash-b-requires c =
    let g : c.args.number < 2 ^ 8 = search rules in
    let h : c.args.place < 2 ^ 32 = search rules in record { good = c.requires.good; area_value = c.requires.area_value; at_in_bounds = omega (arith, c.requires.at_in_bounds, refused-fits c.args.number c.args.place g h, c.put_refused-a.ensures.place, c.put_refused-a.auto.out) }

pub put_row_line-requires : goal.put_row_line-requires
put_row_line-requires c =
    let g : c.args.number < 2 ^ 8 = search rules in
    let h : c.args.place < 2 ^ 32 = search rules in
    let f = filed_lists (cut c.args.lengths.now c.args.area.now) in record { good = c.requires.good; place_value = used_there c.args.edition f c.requires.area_value; at_in_bounds = omega (arith, c.requires.at_in_bounds, refused-fits c.args.number c.args.place g h, c.put_refused-a.ensures.place, c.put_refused-a.auto.out, c.put_clash-b.ensures.1, c.put_clash-b.auto.out) }

pub returns : goal.returns
returns c =
    let a = c.args in
    let g : a.number < 2 ^ 8 = search rules in
    let h : a.place < 2 ^ 32 = search rules in
    let f = filed_lists (cut a.lengths.now a.area.now) in
    let lines = more-text (clash_lines a.edition f a.number a.place) (line_lines a.text.now a.lengths.now a.number a.place) c.put_clash-b.ensures.0 c.put_row_line.ensures.0 in (
      as_text (refusal_text a.text.now a.edition a.lengths.now a.area.now c.requires.area_value) (written-more c.put_refused-a.ensures lines),
      omega (arith, refused-fits a.number a.place g h, c.put_refused-a.ensures.place, c.put_clash-b.ensures.1, c.put_row_line.ensures.1),
    )
