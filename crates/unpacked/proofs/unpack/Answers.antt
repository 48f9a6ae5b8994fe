use mathlib.Core.Path.{sym, ap, ◌∙◌}
use Rattle.std.specs.Prelude.{Err}
use Rattle.std.proofs.lemmas.Result.{err_from_is_err_and}
use Rattle.unpacked.proofs.Outs.{refused_out}
use Rattle.unpacked.proofs.unpack.Goals as goal

pub returns-in_err-counts : goal.returns-in_err-counts
returns-in_err-counts c =
    let a = c.args in
    let p = err_from_is_err_and c.from_residual.result c.from_residual.ensures.1 in
    let said = refused_out a.bytes.now a.room.now a.size.now (sym c.judge.ensures ∙ c.in_err-counts.was) in
    record { value = p.1 ∙ ap Err p.2 ∙ said.0; room_after = said.1.0; size_after = said.1.1 }

pub unpack_accepted-requires : goal.unpack_accepted-requires
unpack_accepted-requires c = sym c.judge.ensures ∙ c.in_ok-counts.was
