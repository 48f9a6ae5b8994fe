use Rattle.std.specs.Prelude.{Err}
use mathlib.Core.Path.{sym, ap, ◌∙◌}
use Rattle.std.proofs.lemmas.Result.{err_from_is_err_and}
use Rattle.form.proofs.EachKind.{kinds_are}
use Rattle.handed.proofs.Reading.{ruling_by, counts_by, judged_out, read_out}
use native.Mathlib.Omega.{arith}
use Rattle.handed.proofs.read.Goals as goal

pub returns-then-counts-lt-COUNTS_ROOM : goal.returns-then-counts-lt-COUNTS_ROOM
returns-then-counts-lt-COUNTS_ROOM c =
    let a = c.args in let said = judged_out a.bytes.now a.rows.now a.counts.now (omega (arith, kinds_are, c.if-counts-lt-COUNTS_ROOM.true)) c.tell.ensures.value c.tell.ensures.counts_after in record { value = said.0; rows_after = said.1.0; counts_after = said.1.1 }

pub put_counts-requires : goal.put_counts-requires
put_counts-requires c = omega (arith, kinds_are, c.if-counts-lt-COUNTS_ROOM.false)

pub returns-in_err-c : goal.returns-in_err-c
returns-in_err-c c =
    let a = c.args in
    let e = c.in_err-c.was in
    let p = err_from_is_err_and c.from_residual.result c.from_residual.ensures.1 in
    let said = read_out a.bytes.now a.rows.now a.counts.now _ (omega (arith, kinds_are, c.if-counts-lt-COUNTS_ROOM.false)) c.read.ensures.value (ap ruling_by (sym e)) c.read.ensures.room_after (ap (counts_by a.counts.now) (sym e)) in
    record { value = p.1 ∙ ap Err p.2 ∙ said.0; rows_after = said.1.0; counts_after = said.1.1 }

pub returns : goal.returns
returns c =
    let a = c.args in
    let e = c.in_ok-c.was in
    let said = read_out a.bytes.now a.rows.now a.counts.now _ (omega (arith, kinds_are, c.if-counts-lt-COUNTS_ROOM.false)) c.read.ensures.value (ap ruling_by (sym e)) c.read.ensures.room_after (c.put_counts.ensures ∙ ap (counts_by a.counts.now) (sym e)) in
    record { value = said.0; rows_after = said.1.0; counts_after = said.1.1 }
