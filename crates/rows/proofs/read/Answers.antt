use mathlib.Core.Path.{sym, ◌∙◌}
use Rattle.std.proofs.lemmas.Result.{err_from_is_err_and}
use Rattle.form.specs.Layout.{kinds}
use Rattle.form.proofs.Order.{none_refused}
use Rattle.standing.proofs.Accepted.{formed}
use Rattle.filing.proofs.Stores.{sets-front}
use Rattle.rows.specs.Reading.{area_to}
use Rattle.rows.proofs.Rows.{judged, short, all_read, enough}
use Rattle.rows.proofs.read.Goals as goal

pub returns-in_err-counts-clause-value : goal.returns-in_err-counts-clause-value
returns-in_err-counts-clause-value c =
    let a = c.args in
    let p = err_from_is_err_and c.from_residual.result c.from_residual.ensures.1 in
    rw (p.1, p.2) (judged a.bytes.now a.room.now (sym c.judge.ensures ∙ c.in_err-counts.was))

pub first_outgrown-requires : goal.first_outgrown-requires
first_outgrown-requires c = formed _ _ (sym c.judge.ensures ∙ c.in_ok-counts.was)

pub returns-in_err-refuse-clause-value : goal.returns-in_err-refuse-clause-value
returns-in_err-refuse-clause-value c =
    let a = c.args in
    let p = err_from_is_err_and c.from_residual-in_err-refuse.result c.from_residual-in_err-refuse.ensures.1 in
    rw (p.1, p.2) (short a.bytes.now a.room.now c.in_ok-counts.counts (sym c.judge.ensures ∙ c.in_ok-counts.was) c.first_outgrown.ensures c.refuse.ensures c.in_err-refuse.was)

pub read_rows-requires : goal.read_rows-requires
read_rows-requires c =
    let none = none_refused 9 _ (sym c.refuse.ensures ∙ c.in_ok-refuse.was) in
    (formed _ _ (sym c.judge.ensures ∙ c.in_ok-counts.was), enough c.args.bytes.now _ (sym c.first_outgrown.ensures ∙ none))

pub returns-clause-value : goal.returns-clause-value
returns-clause-value c =
    let a = c.args in
    all_read a.bytes.now a.room.now c.in_ok-counts.counts (sym c.judge.ensures ∙ c.in_ok-counts.was) c.first_outgrown.ensures c.refuse.ensures c.in_ok-refuse.was

pub returns-clause-room_after : goal.returns-clause-room_after
returns-clause-room_after c =
    let a = c.args in
    let none = sym c.first_outgrown.ensures ∙ none_refused 9 _ (sym c.refuse.ensures ∙ c.in_ok-refuse.was) in
    c.read_rows.ensures ∙ sets-front a.room.now (area_to a.bytes.now kinds) (enough a.bytes.now _ none)
