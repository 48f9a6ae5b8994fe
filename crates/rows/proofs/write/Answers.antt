use mathlib.Core.Path.{sym, ◌∙◌}
use Rattle.std.proofs.lemmas.Result.{err_from_is_err_and}
use Rattle.form.proofs.Search.{first_none}
use Rattle.form.proofs.Order.{none_refused}
use Rattle.lists.proofs.Numbers.{good}
use Rattle.rows.proofs.Return.{list-broken, lists-kept, record_broken, records-kept, sum-broken, sums_kept}
use Rattle.rows.proofs.write.Goals as goal

pub returns-in_err-refuse-clause-value : goal.returns-in_err-refuse-clause-value
returns-in_err-refuse-clause-value c =
    let a = c.args in
    let p = err_from_is_err_and c.from_residual.result c.from_residual.ensures.1 in
    rw (p.1, p.2) (list-broken a.edition a.lengths.now a.rows.now a.room.now c.first_bad_list.ensures c.refuse.ensures c.in_err-refuse.was)

pub rule_records-requires : goal.rule_records-requires
rule_records-requires c = good _ _ _ (first_none _ (sym c.first_bad_list.ensures ∙ none_refused 10 _ (sym c.refuse.ensures ∙ c.in_ok-refuse.was)))

pub returns-in_err-rule_records-clause-value : goal.returns-in_err-rule_records-clause-value
returns-in_err-rule_records-clause-value c =
    let a = c.args in
    let p = err_from_is_err_and c.from_residual-in_err-rule_records.result c.from_residual-in_err-rule_records.ensures.1 in
    rw (p.1, p.2)
    (lists-kept a.edition a.lengths.now a.rows.now a.room.now c.first_bad_list.ensures c.refuse.ensures c.in_ok-refuse.was
    (record_broken a.edition a.lengths.now a.rows.now a.room.now (sym c.rule_records.ensures ∙ c.in_err-rule_records.was)))

pub rule_lists-requires : goal.rule_lists-requires
rule_lists-requires c = good _ _ _ (first_none _ (sym c.first_bad_list.ensures ∙ none_refused 10 _ (sym c.refuse.ensures ∙ c.in_ok-refuse.was)))

pub returns-in_err-rule_lists-clause-value : goal.returns-in_err-rule_lists-clause-value
returns-in_err-rule_lists-clause-value c =
    let a = c.args in
    let p = err_from_is_err_and c.from_residual-in_err-rule_lists.result c.from_residual-in_err-rule_lists.ensures.1 in
    rw (p.1, p.2)
    (lists-kept a.edition a.lengths.now a.rows.now a.room.now c.first_bad_list.ensures c.refuse.ensures c.in_ok-refuse.was
    (records-kept a.edition a.lengths.now a.rows.now a.room.now (sym c.rule_records.ensures ∙ c.in_ok-rule_records.was)
    (sum-broken a.edition a.lengths.now a.rows.now a.room.now (sym c.rule_lists.ensures ∙ c.in_err-rule_lists.was))))

pub write_sound-requires : goal.write_sound-requires
write_sound-requires c = good _ _ _ (first_none _ (sym c.first_bad_list.ensures ∙ none_refused 10 _ (sym c.refuse.ensures ∙ c.in_ok-refuse.was)))

pub returns-clause-value : goal.returns-clause-value
returns-clause-value c =
    let a = c.args in
    lists-kept a.edition a.lengths.now a.rows.now a.room.now c.first_bad_list.ensures c.refuse.ensures c.in_ok-refuse.was
    (records-kept a.edition a.lengths.now a.rows.now a.room.now (sym c.rule_records.ensures ∙ c.in_ok-rule_records.was)
    (sums_kept a.edition a.lengths.now a.rows.now a.room.now (sym c.rule_lists.ensures ∙ c.in_ok-rule_lists.was) c.write_sound.ensures.value))
