use mathlib.Core.Path.{refl, sym, ap, ◌∙◌}
use Prim.Native.Nat.{ℕ, ◌*◌, ◌-◌, min}
use Rattle.filing.specs.Lists.{filed_list}
use Rattle.filing.proofs.Parts.{list-used, block_stored}
use borrow.Author.Rules.{rules}
use Rattle.filing.proofs.write_block.Goals as goal

pub returns : goal.returns
unfolding filed_list
returns c =
    let a = c.args in
    let count = c.used_in.ensures ∙ ap (λ (m : ℕ). min 12 (m - 12 * a.b)) c.requires.kind_bound.1 ∙ sym (list-used a.kind a.rows.now a.b) in
    block_stored a.edition (filed_list a.kind a.rows.now) a.start a.n a.b a.out.now refl (search rules) count
    c.write_head.ensures
    c.write_records.ensures
    c.clear.ensures
    c.check_due-check.ensures
    c.put_four.ensures
