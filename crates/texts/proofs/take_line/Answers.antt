use Rattle.std.proofs.Common.{◌≡◌, refl, sym, ap, subst, ◌∙◌, Result, Ok, Err}
use Rattle.std.proofs.lemmas.Result.{err_from_is_err_and}
use Rattle.heads.specs.declared.TextFault.{TextFault}
use Rattle.texts.specs.declared.Kept.{Kept}
use Rattle.texts.specs.Steps.{taken_as, UsedIn}
use Rattle.texts.proofs.Checks.{room_for, line-passed, line-fault, row_asks, line_row, row_inside, row_same, fault_same}
use Rattle.texts.proofs.take_line.Goals as goal

pub returns-then-is_passed : goal.returns-then-is_passed
returns-then-is_passed c =
    let a = c.args in
    record {
      area_after = line-passed a.sep a.n a.line.now a.kept a.lengths.now a.area.now (sym c.is_passed.ensures ∙ c.if-is_passed.true);
      used_in = (c.requires.0.inside, refl, refl);
    }

pub check_line-requires : goal.check_line-requires
check_line-requires c = (room_for c.args.kept c.args.lengths.now c.args.area.now c.requires.0, c.requires.1)

pub returns-in_err-kind : goal.returns-in_err-kind
returns-in_err-kind c =
    let a = c.args in
    let other = sym c.is_passed.ensures ∙ c.if-is_passed.false in
    let p = err_from_is_err_and c.from_residual.result c.from_residual.ensures.1 in
    let gone : c.from_residual.result ≡ Err c.in_err-kind.field-0.0 = p.1 ∙ ap Err p.2 in
    record {
      area_after =
          ap (λ (r : Result Kept TextFault). taken_as r a.lengths.now c.check_line.new.area) gone
          ∙ line-fault a.sep a.n a.line.now a.kept a.lengths.now a.area.now other c.check_line.ensures.value c.in_err-kind.was;
      used_in = (
        subst (λ (r : Result Kept TextFault). UsedIn r c.check_line.new.area) (sym gone) tt,
        refl,
        fault_same a.sep a.n a.line.now a.kept a.lengths.now a.area.now other c.check_line.ensures.value c.in_err-kind.was _ c.check_line.ensures.stored,
      );
    }

pub take_row-requires : goal.take_row-requires
take_row-requires c =
    let a = c.args in
    let other = sym c.is_passed.ensures ∙ c.if-is_passed.false in
    let said = row_asks a.sep a.n a.line.now a.kept a.lengths.now a.area.now other c.check_line.ensures.value c.in_ok-kind.was c.requires.0 in
    record { kind_nonzero = said.0; used_bound = said.1 }

pub returns : goal.returns
returns c =
    let a = c.args in
    let other = sym c.is_passed.ensures ∙ c.if-is_passed.false in
    let was : c.check_line.result ≡ Ok c.in_ok-kind.kind = c.in_ok-kind.was in
    let stored = c.check_line.ensures.stored in
    let row = c.take_row.ensures in
    let same = row_same a.sep a.n a.line.now a.kept a.lengths.now a.area.now other c.check_line.ensures.value was c.requires.0 _ _ _ row.value row.lengths_after stored in
    record {
      area_after = line_row a.sep a.n a.line.now a.kept a.lengths.now a.area.now other c.check_line.ensures.value was c.requires.0 _ _ _ row.value row.lengths_after stored;
      used_in = (row_inside a.sep a.n a.line.now a.kept a.lengths.now a.area.now other c.check_line.ensures.value was c.requires.0 _ _ _ row.value row.lengths_after stored, same.0, same.1);
    }
