use Rattle.std.proofs.Common.{rules, ◌≡◌, ◌∙◌, sym, ap, Option, ◌^◌, ◌<◌, length, ℕ, false, List, drop, arith}
use Rattle.std.proofs.lemmas.Result.{err_from_is_err_and}
use Rattle.form.specs.First.{first}
use Rattle.form.specs.Refusals.{Clean, Ruling}
use Rattle.form.specs.Ruling.{rule, refuse, ruling}
use Rattle.form.specs.Block.{blocks, bad_length, bad_check, bad_header, bad_block}
use Rattle.form.specs.Verdict.{block_rules}
use Rattle.form.proofs.Order.{one_broken, one_kept, ruled_by, kept_by}
use Rattle.form.proofs.Lengths.{short}
use Rattle.judge.proofs.rule_blocks.Goals as goal
use Rattle.judge.proofs.rule_blocks.Goals.{After-refuse-3}

pub returns-then-bad_length : goal.returns-then-bad_length
unfolding block_rules
returns-then-bad_length c = sym (one_broken 1 _ _ (sym c.bad_length.ensures ∙ c.if-bad_length.true))

pub first-requires-clause-few : goal.first-requires-clause-few
first-requires-clause-few c = let l : length c.args.bytes.now < 2 ^ 24 = short _ (sym c.bad_length.ensures ∙ c.if-bad_length.false) in omega arith

-- the rules behind the first k decide, where those are kept
abbrev Past : ℕ → List ℕ → Type 0
Past k s = ruling (drop k (block_rules s)) ≡ ruling (block_rules s)

pub returns-in_err-refuse : goal.returns-in_err-refuse
unfolding block_rules
returns-in_err-refuse c =
    let s = c.args.bytes.now in
    let past1 : Past 1 s = sym (one_kept 1 _ _ (sym c.bad_length.ensures ∙ c.if-bad_length.false)) in
    let p = err_from_is_err_and c.from_residual.result c.from_residual.ensures.1 in
    rw (p.1, p.2) (ruled_by _ _ (c.first.ensures (bad_check s) (λ i r l e. search rules)) c.refuse.ensures c.in_err-refuse.was ∙ past1)

pub first-requires-2-clause-few : goal.first-requires-2-clause-few
first-requires-2-clause-few c = let l : length c.args.bytes.now < 2 ^ 24 = short _ (sym c.bad_length.ensures ∙ c.if-bad_length.false) in omega arith

past2 : (s : List ℕ) {x : Option ℕ} {said : Ruling} → bad_length s ≡ false → x ≡ first (bad_check s) (blocks s) → said ≡ refuse 2 x Clean → said ≡ Clean → Past 2 s
unfolding block_rules
past2 s long place refused kept =
    let past1 : Past 1 s = sym (one_kept 1 _ _ long) in
    kept_by (rule 2 (blocks s) (bad_check s)) _ place refused kept ∙ past1

pub returns-in_err-refuse-2 : goal.returns-in_err-refuse-2
unfolding block_rules
returns-in_err-refuse-2 c =
    let s = c.args.bytes.now in
    let p = err_from_is_err_and c.from_residual-in_err-refuse-2.result c.from_residual-in_err-refuse-2.ensures.1 in
    rw (p.1, p.2) (ruled_by _ _ (c.first-2.ensures (bad_header s) (λ i r l e. search rules)) c.refuse-2.ensures c.in_err-refuse-2.was ∙ past2 s (sym c.bad_length.ensures ∙ c.if-bad_length.false) (c.first.ensures (bad_check s) (λ i r l e. search rules)) c.refuse.ensures c.in_ok-refuse.was)

pub first-requires-3-clause-few : goal.first-requires-3-clause-few
first-requires-3-clause-few c = let l : length c.args.bytes.now < 2 ^ 24 = short _ (sym c.bad_length.ensures ∙ c.if-bad_length.false) in omega arith

pub first-requires-3-clause-may : goal.first-requires-3-clause-may
first-requires-3-clause-may c i l κs p q r s t u = (search rules, short _ (sym c.bad_length.ensures ∙ c.if-bad_length.false))

-- what the last rule says is what they all say
last : (c : After-refuse-3) → c.refuse-3.result ≡ ruling (drop 3 (block_rules c.args.bytes.now))
unfolding block_rules ruling
last c = c.refuse-3.ensures ∙ ap (λ (x : Option ℕ). refuse 4 x Clean) (c.first-3.ensures (bad_block c.args.bytes.now) (λ i r l e. search rules))

pub returns : goal.returns
unfolding block_rules
returns c =
    let s = c.args.bytes.now in
    last c ∙ kept_by _ _ (c.first-2.ensures (bad_header s) (λ i r l e. search rules)) c.refuse-2.ensures c.in_ok-refuse-2.was
    ∙ past2 s (sym c.bad_length.ensures ∙ c.if-bad_length.false) (c.first.ensures (bad_check s) (λ i r l e. search rules)) c.refuse.ensures c.in_ok-refuse.was
