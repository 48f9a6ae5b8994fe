use mathlib.Core.Path.{sym, ap, ◌∙◌}
use Rattle.std.proofs.lemmas.Result.{err_from_is_err_and}
use Rattle.handed.proofs.Writing.{unsized, tried}
use Rattle.handed.proofs.without_size.Goals as goal

pub returns-in_err-write : goal.returns-in_err-write
returns-in_err-write c =
    let a = c.args in
    let p = err_from_is_err_and c.from_residual.result c.from_residual.ensures.1 in
    rw (p.1, p.2) (tried a.edition a.rows.now a.lengths.now _ _ c.write.ensures.value (ap unsized (sym c.in_err-write.was)))

pub returns : goal.returns
returns c =
    let a = c.args in
    tried a.edition a.rows.now a.lengths.now _ _ c.write.ensures.value (ap unsized (sym c.in_ok-write.was))
