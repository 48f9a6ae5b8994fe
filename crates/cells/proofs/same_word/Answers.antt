use native.Mathlib.Omega.{arith}
use Rattle.cells.proofs.WordLaws.{other_length, other_letter, same_letter, all_letters}
use Rattle.cells.proofs.same_word.Goals as goal

pub returns-then-word-field : goal.returns-then-word-field
returns-then-word-field c = other_length c.args.word.now c.args.field.now c.if-word-field.true

pub returns-then-word-k : goal.returns-then-word-k
returns-then-word-k c =
    let word = c.args.word.now in
    let field = c.args.field.now in
    other_letter word field c.loop-k.k c.if-word-field.false c.loop-k.invariant.1 c.loop-k-test.true _ c.small_letter-b.ensures c.if-word-k.true

pub loop-k-preserved : goal.loop-k-preserved
loop-k-preserved c =
    let word = c.args.word.now in
    let field = c.args.field.now in
    let t = c.loop-k-test.true in
    let more = same_letter word field c.loop-k.k c.if-word-field.false c.loop-k.invariant.1 t _ c.small_letter-b.ensures c.if-word-k.false in
    (omega arith, more)

pub returns : goal.returns
returns c =
    all_letters c.args.word.now c.args.field.now c.loop-k.k c.if-word-field.false c.loop-k.invariant.1 c.loop-k-test.false
