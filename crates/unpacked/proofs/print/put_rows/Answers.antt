use Prim.Native.Nat.{ℕ, ◌+◌, ◌-◌, ◌*◌, ◌≤◌}
use mathlib.Core.Path.{◌≡◌, refl, sym, ap}
use mathlib.Core.List.{List, [], ◌∷◌, ◌++◌}
use native.Mathlib.Omega.{arith}
use borrow.Author.Rules.{rules}
use Rattle.decimal.proofs.DigitLaws.{written-more}
use Rattle.phrases.proofs.LineTexts.{as_text}
use Rattle.unpacked.specs.Unpacked.{row_line}
use Rattle.unpacked.specs.Rooms.{row_room}
use Rattle.unpacked.proofs.Numbers.{nothing}
use Rattle.unpacked.proofs.Lines.{rows_none, rows_more, row_is}
use Rattle.unpacked.proofs.InTurn.{room_step}
use Rattle.unpacked.proofs.print.put_rows.Goals as goal

-- in a turn: the row's numbers are there, and its line has room
record Here (m i to kind rows room : ℕ) : Type 0 where
  small : m * i + m ≤ 512
  there : m * i + m ≤ rows
  fits : to + row_room kind ≤ room

pub loop-i-init : goal.loop-i-init
loop-i-init c = (search rules, refl, as_text (sym (rows_none _ _)) (nothing _ _), search rules)

pub loop-i-preserved : goal.loop-i-preserved
loop-i-preserved c =
    let k = c.args.kind in
    let r = c.args.rows.now in
    let row = as_text (ap (λ (x : List ℕ). row_line k x ++ 10 ∷ []) (row_is k r c.loop-i.i _ c.numbers-m.ensures.0)) c.put_row-to.ensures.0 in (
      search rules,
      omega (arith, c.put_row-to.auto.out, c.loop-i.invariant.1),
      as_text (rows_more k r c.loop-i.i) (written-more c.loop-i.invariant.2 row),
      omega (arith, c.put_row-to.ensures.1, c.loop-i.invariant.3, room_step (row_room k) c.loop-i.i),
    )
