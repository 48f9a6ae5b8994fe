use Prim.Native.Nat.{ℕ, suc, ◌+◌, ◌-◌, ◌*◌, ◌≤◌, ◌<◌}
use mathlib.Core.Path.{◌≡◌, refl, sym, ap, ap₂, ◌∙◌}
use mathlib.Core.List.{List}
use native.Mathlib.Numerals.{add-one}
use native.Mathlib.Omega.{arith}
use borrow.Author.Rules.{rules}
use Rattle.form.specs.Block.{blocks}
use Rattle.form.specs.Layout.{kinds}
use Rattle.form.specs.Verdict.{row_count}
use Rattle.form.specs.Standing.{blocks_for}
use Rattle.form.proofs.EachKind.{kinds_are}
use Rattle.standing.proofs.Accepted.{counted, few_rows, whole-blocks}
use Rattle.filing.specs.Written.{in_turn}
use Rattle.filing.specs.Tables.{row_on}
use Rattle.decoding.proofs.Decoded.{rows_turn, places_in}
use Rattle.rows.specs.Reading.{rows_of}
use Rattle.rows.proofs.Rows.{start_first, start_next}
use Rattle.cells.specs.Lines.{ended}
use Rattle.decimal.proofs.DigitLaws.{written-more}
use Rattle.phrases.proofs.LineTexts.{as_text}
use Rattle.unpacked.specs.Unpacked.{kind_lines}
use Rattle.unpacked.proofs.Numbers.{nothing}
use Rattle.unpacked.proofs.InTurn.{lines_none, lines_more, room_none, room-more, room_next}
use Rattle.unpacked.proofs.put_kinds.Goals as goal

-- in a turn: the kind, its rows' number and where they stand
record Here (s : List ℕ) (first k n : ℕ) : Type 0 where
  kind : k < kinds
  rows : n ≡ row_count (suc k) s
  few : n ≤ 32
  places : 12 * first + n ≤ 12 * blocks s
  blocks : blocks s ≤ 58

pub loop-k-init : goal.loop-k-init
loop-k-init c = (kinds_are, search rules, sym (start_first _), refl, as_text (sym (lines_none _)) (nothing _ _), omega (arith, room_none))

pub overflow_mul-first : goal.overflow_mul-first
overflow_mul-first c = let h = (let here' : let v = c.loop-k in let a = c.args in Here a.bytes.now v.first v.k c.count_of-n.result = let v = c.loop-k in let a = c.args in let s = a.bytes.now in let acc = c.requires.0 in let h : v.k < kinds = search rules in let n : c.count_of-n.result ≡ row_count (suc v.k) s = rw (add-one v.k) at c.count_of-n.ensures ∙ counted s a.counts acc v.k h in record { kind = h; rows = n; few = rw n (few_rows s a.counts acc (suc v.k)); places = rw n (omega (arith, v.invariant.2, places_in s a.counts acc v.k h)); blocks = omega (arith, (whole-blocks s a.counts acc).1, v.invariant.0) } in here') in search rules

pub put_decoded-to-requires : goal.put_decoded-to-requires
put_decoded-to-requires c =
    let v = c.loop-k in
    let h = (let here' : let v = c.loop-k in let a = c.args in Here a.bytes.now v.first v.k c.count_of-n.result = let v = c.loop-k in let a = c.args in let s = a.bytes.now in let acc = c.requires.0 in let h : v.k < kinds = search rules in let n : c.count_of-n.result ≡ row_count (suc v.k) s = rw (add-one v.k) at c.count_of-n.ensures ∙ counted s a.counts acc v.k h in record { kind = h; rows = n; few = rw n (few_rows s a.counts acc (suc v.k)); places = rw n (omega (arith, v.invariant.2, places_in s a.counts acc v.k h)); blocks = omega (arith, (whole-blocks s a.counts acc).1, v.invariant.0) } in here') in
    (omega arith, omega (arith, h.kind), h.few, h.places, omega (arith, c.requires.1, room_next v.k h.kind, v.invariant.3, v.invariant.5))

pub overflow_add-first : goal.overflow_add-first
overflow_add-first c = let h = (let here' : let v = c.loop-k in let a = c.args in Here a.bytes.now v.first v.k c.count_of-n.result = let v = c.loop-k in let a = c.args in let s = a.bytes.now in let acc = c.requires.0 in let h : v.k < kinds = search rules in let n : c.count_of-n.result ≡ row_count (suc v.k) s = rw (add-one v.k) at c.count_of-n.ensures ∙ counted s a.counts acc v.k h in record { kind = h; rows = n; few = rw n (few_rows s a.counts acc (suc v.k)); places = rw n (omega (arith, v.invariant.2, places_in s a.counts acc v.k h)); blocks = omega (arith, (whole-blocks s a.counts acc).1, v.invariant.0) } in here') in let b = c.blocks_for-first.ensures in search rules

pub loop-k-preserved : goal.loop-k-preserved
loop-k-preserved c =
    let v = c.loop-k in
    let a = c.args in
    let s = a.bytes.now in
    let h = (let here' : let v = c.loop-k in let a = c.args in Here a.bytes.now v.first v.k c.count_of-n.result = let v = c.loop-k in let a = c.args in let s = a.bytes.now in let acc = c.requires.0 in let h : v.k < kinds = search rules in let n : c.count_of-n.result ≡ row_count (suc v.k) s = rw (add-one v.k) at c.count_of-n.ensures ∙ counted s a.counts acc v.k h in record { kind = h; rows = n; few = rw n (few_rows s a.counts acc (suc v.k)); places = rw n (omega (arith, v.invariant.2, places_in s a.counts acc v.k h)); blocks = omega (arith, (whole-blocks s a.counts acc).1, v.invariant.0) } in here') in
    let r : in_turn (row_on (v.k + 1) s) (12 * v.first) c.count_of-n.result ≡ rows_of s (v.k + 1) =
    rw (add-one v.k, v.invariant.2, h.rows) (rows_turn s a.counts c.requires.0 v.k h.kind) in
    let e : suc (v.k + 1) ≡ suc (suc v.k) = omega arith in (
      v.invariant.0,
      omega (arith, h.kind),
      ap₂ (λ (x y : ℕ). x + y) v.invariant.2 (c.blocks_for-first.ensures ∙ ap blocks_for h.rows) ∙ rw e (sym (start_next s v.k)),
      omega (arith, c.put_decoded-to.auto.out, v.invariant.3),
      as_text (lines_more s v.k)
          (written-more v.invariant.4 (as_text (ap (λ (x : List ℕ). ended (kind_lines (v.k + 1) x)) r) c.put_decoded-to.ensures.0)),
      omega (arith, c.put_decoded-to.ensures.1, v.invariant.5, room-more v.k),
    )
