use Rattle.std.proofs.Common.{refl, ap, subst, ◌∙◌, length}
use lib.ListN.{length-replicate}
use Rattle.form.specs.Layout.{kinds}
use Rattle.texts.proofs.Lines.{long-text, no_first, by_first}
use Rattle.texts.specs.Steps.{FirstOf}
use Rattle.texts.proofs.enter.Goals as goal

pub returns-then-text-gt131072 : goal.returns-then-text-gt131072
returns-then-text-gt131072 c =
    record { area_after = long-text c.args.text.now c.if-text-gt131072.true refl; entered_in = ap length c.requires.0 ∙ length-replicate kinds 0 }

pub returns-in-None : goal.returns-in-None
returns-in-None c =
    record {
      area_after = no_first c.args.text.now c.if-text-gt131072.false c.first_line.result c.first_line.ensures.0 c.in-None.is;
      entered_in = ap length c.requires.0 ∙ length-replicate kinds 0;
    }

pub returns-in-Some : goal.returns-in-Some
returns-in-Some c =
    let some = subst (FirstOf c.args.text.now) c.in-Some.is c.first_line.ensures.1 in
    record {
      area_after = by_first c.args.text.now c.if-text-gt131072.false c.first_line.result c.first_line.ensures.0 c.in-Some.is some.some c.read_behind.ensures.area_after;
      entered_in = c.read_behind.ensures.entered_in;
    }
