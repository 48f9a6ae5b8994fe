use Rattle.std.specs.Prelude.{Ok}
use mathlib.Core.Path.{sym, ap, ◌∙◌}
use Rattle.std.proofs.lemmas.Result.{err_from_is_err_and}
use Rattle.weighed.proofs.Named.{refused_out, none_out, row_out}
use Rattle.weighed.proofs.tell.Goals as goal

pub returns-in_err-heaviest-clause-value : goal.returns-in_err-heaviest-clause-value
returns-in_err-heaviest-clause-value c =
    let p = err_from_is_err_and c.from_residual.result c.from_residual.ensures.1 in
    rw (p.1, p.2) (refused_out c.args.bytes.now c.args.code c.args.room.now _ _ (sym c.heaviest.ensures ∙ c.in_err-heaviest.was)).0

pub returns-in_err-heaviest-clause-room_after : goal.returns-in_err-heaviest-clause-room_after
returns-in_err-heaviest-clause-room_after c = (refused_out c.args.bytes.now c.args.code c.args.room.now _ _ (sym c.heaviest.ensures ∙ c.in_err-heaviest.was)).1

pub returns-in-None : goal.returns-in-None
returns-in-None c =
    let a = c.args in
    let named = sym c.heaviest.ensures ∙ c.in_ok-heaviest.was ∙ ap Ok c.in-None.is in
    let said = none_out a.bytes.now a.code a.room.now _ _ named c.put_three.ensures.value c.put_three.ensures.room_after in
    record { value = said.0; room_after = said.1 }

pub returns-in-Some : goal.returns-in-Some
returns-in-Some c =
    let a = c.args in
    let named = sym c.heaviest.ensures ∙ c.in_ok-heaviest.was ∙ ap Ok c.in-Some.is in
    let said = row_out a.bytes.now a.code a.room.now c.in-Some.w.id c.in-Some.w.part _ _ named c.put_three-in-Some.ensures.value c.put_three-in-Some.ensures.room_after in
    record { value = said.0; room_after = said.1 }
