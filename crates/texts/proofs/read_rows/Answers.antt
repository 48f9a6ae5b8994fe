use Rattle.std.proofs.Common.{◌≡◌, ap, subst, sym, ◌∙◌, length, Result, Err}
use Rattle.std.proofs.lemmas.Result.{err_from_is_err_and}
use lib.ListN.{length-replicate}
use Rattle.form.specs.Layout.{kinds}
use Rattle.heads.specs.declared.TextFault.{TextFault}
use Rattle.texts.specs.declared.Entered.{Entered}
use Rattle.texts.specs.Steps.{entered_as, EnteredIn}
use Rattle.texts.proofs.Turns.{going_start, going_more, going-fault, going_end}
use Rattle.texts.proofs.read_rows.Goals as goal

pub loop-from-init : goal.loop-from-init
loop-from-init c = going_start _ _ _ _ _ _ _ c.requires.0 c.requires.1 c.requires.3 c.requires.4

pub returns-in_err-kept : goal.returns-in_err-kept
returns-in_err-kept c =
    let h = c.loop-from.invariant in
    let eight = c.take_line.ensures.used_in.1 ∙ h.same_lengths ∙ ap length c.requires.3 ∙ length-replicate kinds 0 in
    let p = err_from_is_err_and c.from_residual.result c.from_residual.ensures.1 in
    let gone : c.from_residual.result ≡ Err c.in_err-kept.field-0.0 = p.1 ∙ ap Err p.2 in
    record {
      area_after =
          ap (λ (r : Result Entered TextFault). entered_as r c.take_line.new.lengths c.take_line.new.area) gone
          ∙ going-fault _ _ _ _ _ _ _ _ _ _ _ _ h _ c.next_line-line.ensures _ _ _ c.take_line.ensures.area_after c.in_err-kept.was;
      entered_in = subst (λ (r : Result Entered TextFault). EnteredIn r c.take_line.new.lengths c.take_line.new.area) (sym gone) eight;
    }

pub loop-from-preserved : goal.loop-from-preserved
loop-from-preserved c =
    let t = c.take_line.ensures in
    going_more _ _ _ _ _ _ _ _ _ _ _ _ c.loop-from.invariant _ c.next_line-line.ensures _ _ _ t.area_after c.in_ok-kept.was t.used_in.0 t.used_in.1 t.used_in.2

pub returns : goal.returns
returns c =
    let l = c.loop-from in
    record {
      area_after = going_end _ _ _ _ _ _ _ _ _ _ _ _ l.invariant c.loop-from-test.false;
      entered_in = (l.invariant.same_lengths ∙ ap length c.requires.3 ∙ length-replicate kinds 0, l.invariant.ready.inside);
    }
