use Rattle.std.proofs.Common.{ℕ, sym, ap, ◌∙◌}
use lib.Dec.{eqb}
use lib.ListN.{get_or}
use borrow.Author.Tests.{eq-eqb, ne_eqb}
use Rattle.cells.proofs.WordLaws.{note_by}
use Rattle.cells.proofs.is_note.Goals as goal

pub returns-then-b-eq35 : goal.returns-then-b-eq35
returns-then-b-eq35 c =
    let note = note_by c.args.sep c.front-at.result c.args.line.now c.front-at.ensures.2 in
    let x = get_or c.args.line.now c.front-at.result 0 in
    eq-eqb c.byte_at-b.result 35 c.if-b-eq35.true ∙ sym (note ∙ rw (eq-eqb x 35 (sym c.byte_at-b.ensures ∙ c.if-b-eq35.true)))

pub returns-then-b-eq34 : goal.returns-then-b-eq34
returns-then-b-eq34 c =
    let note = note_by c.args.sep c.front-at.result c.args.line.now c.front-at.ensures.2 in
    let x = get_or c.args.line.now c.front-at.result 0 in
    ap (λ (n : ℕ). eqb n 35) c.byte_at.ensures
    ∙ sym (note ∙ rw (ne_eqb x 35 (λ z. c.if-b-eq35.false (c.byte_at-b.ensures ∙ z)), eq-eqb x 34 (sym c.byte_at-b.ensures ∙ c.if-b-eq34.true)))

pub returns-else-b-eq34 : goal.returns-else-b-eq34
returns-else-b-eq34 c =
    let note = note_by c.args.sep c.front-at.result c.args.line.now c.front-at.ensures.2 in
    let x = get_or c.args.line.now c.front-at.result 0 in
    ne_eqb c.byte_at-b.result 34 c.if-b-eq34.false
    ∙ sym (note ∙ rw (ne_eqb x 35 (λ z. c.if-b-eq35.false (c.byte_at-b.ensures ∙ z)), ne_eqb x 34 (λ z. c.if-b-eq34.false (c.byte_at-b.ensures ∙ z))))
