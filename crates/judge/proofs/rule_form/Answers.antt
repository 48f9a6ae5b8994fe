use Prim.Native.Nat.{ℕ}
use mathlib.Core.List.{List}
use mathlib.Core.Path.{◌≡◌, sym, ap, ◌∙◌}
use Rattle.std.proofs.lemmas.Result.{err_from_is_err_and}
use Rattle.form.specs.Refusals.{Ruling}
use Rattle.form.specs.Ruling.{ruling}
use Rattle.form.specs.Block.{edition}
use Rattle.form.specs.Records.{filed, record_rules}
use Rattle.form.specs.Verdict.{block_rules, form_rules}
use Rattle.form.proofs.Order.{or_rule, ruling_append}
use Rattle.form.proofs.Lengths.{block_lengths}
use Rattle.judge.proofs.rule_form.Goals as goal

-- the ruling of all, from that of the blocks
joined : (s : List ℕ) {u : Ruling} → ruling (block_rules s) ≡ u → ruling (form_rules s) ≡ or_rule u (ruling (record_rules (edition s 0) (filed s)))
joined s e = ruling_append (block_rules s) (record_rules (edition s 0) (filed s)) ∙ ap (λ (v : Ruling). or_rule v (ruling (record_rules (edition s 0) (filed s)))) e

pub returns-in_err-rule_blocks : goal.returns-in_err-rule_blocks
returns-in_err-rule_blocks c =
    let p = err_from_is_err_and c.from_residual.result c.from_residual.ensures.1 in
    rw (p.1, p.2) (sym (joined c.args.bytes.now (sym c.rule_blocks.ensures ∙ c.in_err-rule_blocks.was)))

pub rule_records-requires : goal.rule_records-requires
rule_records-requires c = block_lengths _ (sym c.rule_blocks.ensures ∙ c.in_ok-rule_blocks.was)

pub returns : goal.returns
returns c =
    c.rule_records.ensures ∙ sym (joined c.args.bytes.now (sym c.rule_blocks.ensures ∙ c.in_ok-rule_blocks.was))
