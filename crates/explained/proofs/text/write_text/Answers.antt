use Prim.Native.Nat.{◌^◌}
use mathlib.Core.Path.{◌≡◌, sym, ap, ap₂, subst, ◌∙◌}
use mathlib.Core.List.{◌++◌}
use lib.Dec.{lit≤}
use Rattle.standing.proofs.Accepted.{formed}
use Rattle.form.specs.Verdict.{verdict_of}
use Rattle.std.specs.Prelude.{Ok, Err}
use Rattle.decimal.proofs.DigitLaws.{written-more}
use Rattle.heaviest.specs.declared.Weights.{Weights}
use Rattle.matter.specs.Matter.{MatterMost}
use Rattle.matter.specs.declared.Matter.{Matter}
use Rattle.matter.proofs.Sizes.{most_le, return_most}
use Rattle.fates.specs.Fates.{matter_lines}
use Rattle.phrases.specs.Lines.{refused_line, lines_text}
use Rattle.reasons.specs.declared.Reason.{Reason}
use Rattle.wording.specs.Wording.{value_lines}
use Rattle.phrases.proofs.LineTexts.{as_text}
use Rattle.explained.specs.Explained.{weights_lines, explained_text}
use Rattle.explained.proofs.Laws.{accepted-explained, refused-text, refused-short}
use native.Mathlib.Omega.{arith}
use Rattle.explained.proofs.text.write_text.Goals as goal

pub weigh_rows-requires : goal.weigh_rows-requires
weigh_rows-requires c = formed _ _ (sym c.judge.ensures ∙ c.in-Ok.is)

pub work_matter-requires : goal.work_matter-requires
work_matter-requires c = formed _ _ (sym c.judge.ensures ∙ c.in-Ok.is)

pub put_accepted-requires : goal.put_accepted-requires
put_accepted-requires c =
    let f = formed c.args.bytes.now _ (sym c.judge.ensures ∙ c.in-Ok.is) in
    (subst (MatterMost (2 ^ 80)) (sym c.work_matter.ensures) (most_le (return_most c.args.bytes.now _ f) (lit≤ tt)), omega (arith, c.requires))

pub put_refused-next-requires : goal.put_refused-next-requires
put_refused-next-requires c =
    omega (arith, c.requires, refused-short c.args.bytes.now (sym c.judge.ensures ∙ c.in-Err.is))

pub put_reason-requires : goal.put_reason-requires
put_reason-requires c =
    omega (arith, c.requires, refused-short c.args.bytes.now (sym c.judge.ensures ∙ c.in-Err.is), c.put_refused-next.ensures.place, c.put_refused-next.auto.out)

pub returns-in-Ok : goal.returns-in-Ok
returns-in-Ok c =
    let e : verdict_of c.args.bytes.now ≡ Ok c.in-Ok.c = sym c.judge.ensures ∙ c.in-Ok.is in
    let t = ap₂ (λ (x : Weights) (y : Matter). lines_text (weights_lines x ++ matter_lines y)) c.weigh_rows.ensures c.work_matter.ensures in
    (as_text (t ∙ sym (ap explained_text (accepted-explained c.args.bytes.now e))) c.put_accepted.ensures.0, c.put_accepted.ensures.1)

pub returns-in-Err : goal.returns-in-Err
returns-in-Err c =
    let e : verdict_of c.args.bytes.now ≡ Err c.in-Err.r = sym c.judge.ensures ∙ c.in-Err.is in (
      as_text (ap (λ (x : Reason). refused_line c.in-Err.r.number c.in-Err.r.place ++ lines_text (value_lines x)) c.reason_of.ensures ∙ sym (refused-text c.args.bytes.now e)) (written-more c.put_refused-next.ensures c.put_reason.ensures.0),
      omega (arith, refused-short c.args.bytes.now e, c.put_refused-next.ensures.place, c.put_reason.ensures.1),
    )
