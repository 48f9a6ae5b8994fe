use Rattle.std.proofs.Common.{◌≡◌, refl, ap, subst, sym, ◌∙◌, length, Result, Err}
use Rattle.std.proofs.lemmas.Result.{err_from_is_err_and}
use lib.ListN.{length-replicate}
use Rattle.form.specs.Layout.{kinds}
use Rattle.heads.specs.declared.TextFault.{TextFault}
use Rattle.texts.specs.declared.Entered.{Entered}
use Rattle.texts.specs.Steps.{entered_as, EnteredIn}
use Rattle.texts.proofs.Lines.{rows_behind_lem}
use Rattle.texts.proofs.read_behind.Goals as goal

pub returns : goal.returns
returns c =
    let a = c.args in
    record {
      area_after = rows_behind_lem a.text.now a.first c.in_ok-head.was c.head_of.ensures c.read_rows.ensures.area_after;
      entered_in = c.read_rows.ensures.entered_in;
    }

pub returns-in_err-head : goal.returns-in_err-head
returns-in_err-head c =
    let a = c.args in
    let p = err_from_is_err_and c.from_residual.result c.from_residual.ensures.1 in
    let gone : c.from_residual.result ≡ Err c.in_err-head.field-0.0 = p.1 ∙ ap Err p.2 in
    record {
      area_after =
          ap (λ (r : Result Entered TextFault). entered_as r a.lengths.now a.area.now) gone
          ∙ rows_behind_lem a.text.now a.first c.in_err-head.was c.head_of.ensures refl;
      entered_in = subst (λ (r : Result Entered TextFault). EnteredIn r a.lengths.now a.area.now) (sym gone) (ap length c.requires.2 ∙ length-replicate kinds 0);
    }
