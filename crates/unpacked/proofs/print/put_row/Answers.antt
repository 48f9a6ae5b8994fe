use Prim.Native.Nat.{ℕ, ◌+◌, ◌-◌, ◌*◌, ◌≤◌}
use mathlib.Core.Path.{◌≡◌, refl, sym, ap}
use mathlib.Core.List.{List, [], ◌∷◌, ◌++◌}
use lib.ListN.{length}
use native.Mathlib.Omega.{arith}
use borrow.Author.Rules.{rules}
use Rattle.form.specs.Layout.{numbers_of}
use Rattle.form.proofs.EachKind.{kinds_are}
use Rattle.decimal.proofs.DigitLaws.{written-more}
use Rattle.phrases.proofs.LineTexts.{as_text}
use Rattle.unpacked.specs.Rooms.{row_room}
use Rattle.unpacked.proofs.Numbers.{nothing}
use Rattle.unpacked.proofs.Lines.{tail_none, tail_more, line_is}
use Rattle.unpacked.proofs.InTurn.{two_numbers}
use Rattle.unpacked.proofs.print.put_row.Goals as goal

pub overflow_cast-kind : goal.overflow_cast-kind
overflow_cast-kind c = let k = kinds_are in search rules

pub put_kind_name-to-requires : goal.put_kind_name-to-requires
unfolding row_room
put_kind_name-to-requires c = omega (arith, c.requires.3)

pub loop-i-init : goal.loop-i-init
loop-i-init c = (search rules, refl, as_text (sym (tail_none _ _)) (nothing _ _), search rules)

pub put_byte-next-requires : goal.put_byte-next-requires
unfolding row_room
put_byte-next-requires c = omega (arith, (let inside' : c.loop-i.to + 12 ≤ length c.loop-i.out = omega (arith, c.requires.2, c.requires.3, c.put_kind_name-to.ensures.1, c.put_kind_name-to.auto.out, c.loop-i.invariant.1, c.loop-i.invariant.3, c.loop-i-test.true) in inside'))

pub put_field-to-requires : goal.put_field-to-requires
unfolding row_room
put_field-to-requires c =
    let two = two_numbers c.args.kind c.requires.0 c.requires.1 in (
      omega (arith, c.requires.2, c.loop-i-test.true),
      c.loop-i-test.true,
      omega (arith, two, c.requires.2),
      omega (arith, (let inside' : c.loop-i.to + 12 ≤ length c.loop-i.out = omega (arith, c.requires.2, c.requires.3, c.put_kind_name-to.ensures.1, c.put_kind_name-to.auto.out, c.loop-i.invariant.1, c.loop-i.invariant.3, c.loop-i-test.true) in inside'), c.put_byte-next.ensures.place, c.put_byte-next.auto.out),
    )

pub loop-i-preserved : goal.loop-i-preserved
loop-i-preserved c = (
  search rules,
  omega (arith, c.put_field-to.auto.out, c.put_byte-next.auto.out, c.loop-i.invariant.1),
  as_text (tail_more c.args.kind c.args.row.now c.loop-i.i) (written-more c.loop-i.invariant.2 (written-more c.put_byte-next.ensures c.put_field-to.ensures.0)),
  omega (arith, c.put_field-to.ensures.1, c.put_byte-next.ensures.place, c.loop-i.invariant.3),
)

pub put_byte-requires : goal.put_byte-requires
unfolding row_room
put_byte-requires c =
    omega (arith, c.requires.2, c.requires.3, c.put_kind_name-to.ensures.1, c.put_kind_name-to.auto.out, c.loop-i.invariant.0, c.loop-i.invariant.1, c.loop-i.invariant.3)

pub returns : goal.returns
unfolding row_room
returns c =
    let e : c.loop-i.i ≡ numbers_of c.args.kind = omega (arith, c.loop-i.invariant.0, c.loop-i-test.false, c.requires.2) in (
      as_text (ap (λ (x : List ℕ). x ++ 10 ∷ []) (line_is c.args.kind c.args.row.now c.loop-i.i e))
          (written-more (written-more c.put_kind_name-to.ensures.0 c.loop-i.invariant.2) c.put_byte.ensures),
      omega (arith, e, c.put_kind_name-to.ensures.1, c.loop-i.invariant.3, c.put_byte.ensures.place),
    )
