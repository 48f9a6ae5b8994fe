use Prim.Native.Nat.{ℕ}
use mathlib.Core.Path.{sym, ap, ◌∙◌}
use lib.ListN.{length}
use Rattle.std.specs.Prelude.{ok_or}
use Rattle.std.proofs.Common.{rules}
use Rattle.std.proofs.lemmas.Result.{err_from_is_err_and}
use Rattle.cutting.specs.declared.Stop.TheVariants.{Blocks}
use Rattle.cutting.specs.Cutting.{sized_by}
use Rattle.cutting.proofs.Laws.{inside_header, header_read, one_allowed, none_allowed, ended-after, no_size, sized_short, sized_there}
use Rattle.cutting.proofs.cut_next.Goals as goal

pub returns-then-is_empty : goal.returns-then-is_empty
returns-then-is_empty c = ended-after c.args.left.now c.args.taken (search rules)

pub returns-then-taken-ge-MOST_RETURNS : goal.returns-then-taken-ge-MOST_RETURNS
returns-then-taken-ge-MOST_RETURNS c = none_allowed c.args.left.now c.args.taken (search rules) c.if-taken-ge-MOST_RETURNS.true

pub returns-then-left-lt6 : goal.returns-then-left-lt6
returns-then-left-lt6 c =
    let a = c.args in
    one_allowed a.left.now a.taken c.if-taken-ge-MOST_RETURNS.false (inside_header a.left.now (search rules) c.if-left-lt6.true)

pub returns-in_err-size : goal.returns-in_err-size
returns-in_err-size c =
    let a = c.args in
    let said = ap (λ o. ok_or o (Blocks c.two_at-blocks.result)) (sym c.size_of.ensures) ∙ sym c.ok_or.ensures.value ∙ c.in_err-size.was in
    let p = err_from_is_err_and c.from_residual.result c.from_residual.ensures.1 in
    rw (p.1, p.2)
    (one_allowed a.left.now a.taken c.if-taken-ge-MOST_RETURNS.false
    (header_read a.left.now (search rules) c.if-left-lt6.false
    (no_size _ (length a.left.now) _ said ∙ ap (λ (b : ℕ). sized_by b (length a.left.now)) c.two_at-blocks.ensures.0)))

pub returns-then-left-size : goal.returns-then-left-size
returns-then-left-size c =
    let a = c.args in
    let said = ap (λ o. ok_or o (Blocks c.two_at-blocks.result)) (sym c.size_of.ensures) ∙ sym c.ok_or.ensures.value ∙ c.in_ok-size.was in
    one_allowed a.left.now a.taken c.if-taken-ge-MOST_RETURNS.false
    (header_read a.left.now (search rules) c.if-left-lt6.false
    (sized_short _ (length a.left.now) c.in_ok-size.size said c.if-left-size.true ∙ ap (λ (b : ℕ). sized_by b (length a.left.now)) c.two_at-blocks.ensures.0))

pub returns : goal.returns
returns c =
    let a = c.args in
    let said = ap (λ o. ok_or o (Blocks c.two_at-blocks.result)) (sym c.size_of.ensures) ∙ sym c.ok_or.ensures.value ∙ c.in_ok-size.was in
    one_allowed a.left.now a.taken c.if-taken-ge-MOST_RETURNS.false
    (header_read a.left.now (search rules) c.if-left-lt6.false
    (sized_there _ (length a.left.now) c.in_ok-size.size said c.if-left-size.false ∙ ap (λ (b : ℕ). sized_by b (length a.left.now)) c.two_at-blocks.ensures.0))
