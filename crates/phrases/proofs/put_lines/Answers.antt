use Prim.Native.Nat.{◌<◌}
use mathlib.Core.Path.{refl, ap, ◌∙◌}
use native.Mathlib.Omega.{arith}
use lib.IntN.{ℤ}
use lib.ListN.{length}
use Rattle.phrases.specs.Lines.{amounts, ended}
use Rattle.phrases.proofs.Filled.{as_left, all_written, letter_written, value_written, value_there, letter_fits, value-fits}
use Rattle.phrases.proofs.Values.{amount_at}
use Rattle.phrases.proofs.put_lines.Goals as goal
use Rattle.phrases.proofs.put_lines.Goals.{then-b-eq32, else-b-eq32}

pub put_byte-to-requires : goal.put_byte-to-requires
put_byte-to-requires c =
    letter_fits (amounts c.args.values.now) _ _ _ _ _ _ _ _ c.loop-b-test.true refl c.loop-b.invariant.1 c.requires.room

pub bounds-values-j : goal.bounds-values-j
bounds-values-j c =
    let there' : c.loop-b.j < length c.args.values.now = omega (arith, c.requires.enough, value_there (amounts c.args.values.now) _ _ _ _ _ _ _ _ c.loop-b-test.true refl c.loop-b.invariant.1 c.if-b-eq32.true) in there'

pub put_value-to-requires : goal.put_value-to-requires
put_value-to-requires c =
    let values = c.args.values.now in
    let there' : c.loop-b.j < length values = omega (arith, c.requires.enough, value_there (amounts values) _ _ _ _ _ _ _ _ c.loop-b-test.true refl c.loop-b.invariant.1 c.if-b-eq32.true) in
    let n = value-fits (amounts values) _ _ _ _ _ _ _ _ c.loop-b-test.true refl c.loop-b.invariant.1 c.if-b-eq32.true c.requires.room in
    let same = c.with_sign.ensures.number ∙ amount_at values c.loop-b.j _ there' in
    (c.with_sign.ensures.form, omega (arith, ap (λ (z : ℤ). length (ended z)) same, n, c.put_byte-to.ensures.place, c.put_byte-to.auto.out))

pub loop-b-preserved : goal.loop-b-preserved
loop-b-preserved c =
    let values = c.args.values.now in
    let v = amounts values in
    let kept = c.put_byte-to.auto.out in (
      elim c.if-b-eq32.branch [
        | then-b-eq32 w ↦ omega (arith, ap length w.out-is, w.put_value-to.auto.out, kept)
        | else-b-eq32 w ↦ omega (arith, ap length w.out-is, kept)
      ],
      elim c.if-b-eq32.branch [
        | then-b-eq32 w ↦
            let there' : c.loop-b.j < length values = omega (arith, c.requires.enough, value_there v _ _ _ _ _ _ _ _ c.loop-b-test.true refl c.loop-b.invariant.1 w.if-b-eq32.true) in
            let same = w.with_sign.ensures.number ∙ amount_at values c.loop-b.j _ there' in
            as_left v _ _ _ _ w.out-is w.j-is w.to-is (value_written v _ _ _ _ _ _ _ _ c.loop-b-test.true refl c.loop-b.invariant.1 _ w.if-b-eq32.true same c.put_byte-to.ensures w.put_value-to.ensures)
        | else-b-eq32 w ↦ as_left v _ _ _ _ w.out-is w.j-is w.to-is (letter_written v _ _ _ _ _ _ _ _ c.loop-b-test.true refl c.loop-b.invariant.1 w.if-b-eq32.false c.put_byte-to.ensures)
      ],
    )

pub returns : goal.returns
returns c = all_written _ _ _ _ _ _ _ _ (omega arith) c.loop-b.invariant.1
