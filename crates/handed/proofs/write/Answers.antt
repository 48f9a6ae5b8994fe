use Rattle.std.specs.Prelude.{Err}
use mathlib.Core.Path.{sym, ap, ◌∙◌}
use mathlib.Core.List.{[], ◌∷◌}
use Rattle.std.proofs.lemmas.Result.{err_from_is_err_and}
use Rattle.filing.proofs.Stores.{sets-front}
use Rattle.handed.proofs.Few.{done-small}
use Rattle.handed.proofs.Writing.{ruling_by, size_by, unsized_out, written_out}
use native.Mathlib.Omega.{arith}
use Rattle.handed.proofs.write.Goals as goal

pub returns-then-size-lt1 : goal.returns-then-size-lt1
returns-then-size-lt1 c =
    let a = c.args in let said = unsized_out a.edition a.rows.now a.lengths.now a.room.now a.size.now c.if-size-lt1.true c.without_size.ensures in record { value = said.0; room_after = said.1.0; size_after = said.1.1 }

pub overflow_cast-size : goal.overflow_cast-size
overflow_cast-size c =
    omega (arith, done-small _ _ _ _ (sym c.write.ensures.value ∙ c.in_ok-n.was))

pub returns-in_err-n : goal.returns-in_err-n
returns-in_err-n c =
    let a = c.args in
    let e = c.in_err-n.was in
    let p = err_from_is_err_and c.from_residual.result c.from_residual.ensures.1 in
    let said = written_out a.edition a.rows.now a.lengths.now a.room.now a.size.now _ c.if-size-lt1.false c.write.ensures.value (ap ruling_by (sym e)) c.write.ensures.room_after (ap (size_by a.size.now) (sym e)) in
    record { value = p.1 ∙ ap Err p.2 ∙ said.0; room_after = said.1.0; size_after = said.1.1 }

pub returns : goal.returns
returns c =
    let a = c.args in
    let e = c.in_ok-n.was in
    let said = written_out a.edition a.rows.now a.lengths.now a.room.now a.size.now _ c.if-size-lt1.false c.write.ensures.value (ap ruling_by (sym e)) c.write.ensures.room_after (sets-front a.size.now (_ ∷ []) c.if-size-lt1.false ∙ ap (size_by a.size.now) (sym e)) in
    record { value = said.0; room_after = said.1.0; size_after = said.1.1 }
