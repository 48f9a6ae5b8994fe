use mathlib.Core.List.{List}
use Prim.Native.Nat.{ℕ, suc, ◌+◌, ◌*◌, ◌≤◌, ◌<◌}
use mathlib.Core.Path.{◌≡◌, sym, ap, ap₂, ◌∙◌}
use native.Mathlib.Numerals.{add-one}
use lib.ListN.{length}
use lib.Seq.{sets}
use Rattle.form.specs.Block.{blocks}
use Rattle.form.specs.Layout.{kinds, numbers_of}
use Rattle.form.specs.Verdict.{row_count}
use Rattle.form.specs.Standing.{blocks_for}
use Rattle.form.proofs.EachKind.{kinds_are}
use Rattle.standing.proofs.Accepted.{counted, few_rows, whole-blocks}
use Rattle.filing.specs.Written.{in_turn}
use Rattle.filing.specs.Tables.{row_on}
use Rattle.filing.proofs.Stores.{filling_none, filling_more, filling_all}
use Rattle.filing.proofs.Laying.{length-next, part_in}
use Rattle.rows.specs.Reading.{rows_of}
use Rattle.decoding.proofs.Decoded.{rows_turn, rows_long, places_in}
use Rattle.rows.proofs.Rows.{need_none, start_first, start_next}
use borrow.Author.Rules.{rules}
use native.Mathlib.Omega.{arith}
use Rattle.rows.proofs.read_rows.Goals as goal

-- in a turn: the kind, its rows' number, where they stand, how many numbers they are and that these have room
record Here (s : List ℕ) (length-room to first k n : ℕ) : Type 0 where
  kind : k < kinds
  rows : n ≡ row_count (suc k) s
  few : n ≤ 32
  places : 12 * first + n ≤ 12 * blocks s
  blocks : blocks s ≤ 58
  long : numbers_of (suc k) * n ≡ length (rows_of s (suc k))
  room : to + length (rows_of s (suc k)) ≤ length-room

pub loop-k-init : goal.loop-k-init
loop-k-init c = (kinds_are, filling_none, sym (need_none c.args.bytes.now), sym (start_first _))

pub overflow_mul-first : goal.overflow_mul-first
overflow_mul-first c = omega (arith, (let here' : let v = c.loop-k in let a = c.args in Here a.bytes.now (length v.room) v.to v.first v.k c.count_of-n.result = let v = c.loop-k in let a = c.args in let s = a.bytes.now in let acc = c.requires.0 in let h : v.k < kinds = search rules in let n : c.count_of-n.result ≡ row_count (suc v.k) s = rw (add-one v.k) at c.count_of-n.ensures ∙ counted s a.counts acc v.k h in record { kind = h; rows = n; few = rw n (few_rows s a.counts acc (suc v.k)); places = rw n (omega (arith, v.invariant.3, places_in s a.counts acc v.k h)); blocks = omega (arith, (whole-blocks s a.counts acc).1, v.invariant.0); long = rw n (sym (rows_long s a.counts acc v.k h)); room = omega (arith, part_in (rows_of s) v.k kinds h, v.invariant.1.same, c.requires.1) } in here'))

pub decode_kind-requires : goal.decode_kind-requires
decode_kind-requires c = let h = (let here' : let v = c.loop-k in let a = c.args in Here a.bytes.now (length v.room) v.to v.first v.k c.count_of-n.result = let v = c.loop-k in let a = c.args in let s = a.bytes.now in let acc = c.requires.0 in let h : v.k < kinds = search rules in let n : c.count_of-n.result ≡ row_count (suc v.k) s = rw (add-one v.k) at c.count_of-n.ensures ∙ counted s a.counts acc v.k h in record { kind = h; rows = n; few = rw n (few_rows s a.counts acc (suc v.k)); places = rw n (omega (arith, v.invariant.3, places_in s a.counts acc v.k h)); blocks = omega (arith, (whole-blocks s a.counts acc).1, v.invariant.0); long = rw n (sym (rows_long s a.counts acc v.k h)); room = omega (arith, part_in (rows_of s) v.k kinds h, v.invariant.1.same, c.requires.1) } in here') in (omega arith, rw (add-one c.loop-k.k) (omega arith))

pub overflow_add-to : goal.overflow_add-to
overflow_add-to c = omega (arith, (let numbers_here' : let a = c.args in c.numbers.result * c.count_of-n.result ≡ length (rows_of a.bytes.now (suc c.loop-k.k)) = rw (rw (add-one c.loop-k.k) at c.numbers.ensures.0) (let here' : let v = c.loop-k in let a = c.args in Here a.bytes.now (length v.room) v.to v.first v.k c.count_of-n.result = let v = c.loop-k in let a = c.args in let s = a.bytes.now in let acc = c.requires.0 in let h : v.k < kinds = search rules in let n : c.count_of-n.result ≡ row_count (suc v.k) s = rw (add-one v.k) at c.count_of-n.ensures ∙ counted s a.counts acc v.k h in record { kind = h; rows = n; few = rw n (few_rows s a.counts acc (suc v.k)); places = rw n (omega (arith, v.invariant.3, places_in s a.counts acc v.k h)); blocks = omega (arith, (whole-blocks s a.counts acc).1, v.invariant.0); long = rw n (sym (rows_long s a.counts acc v.k h)); room = omega (arith, part_in (rows_of s) v.k kinds h, v.invariant.1.same, c.requires.1) } in here').long in numbers_here'), (let here' : let v = c.loop-k in let a = c.args in Here a.bytes.now (length v.room) v.to v.first v.k c.count_of-n.result = let v = c.loop-k in let a = c.args in let s = a.bytes.now in let acc = c.requires.0 in let h : v.k < kinds = search rules in let n : c.count_of-n.result ≡ row_count (suc v.k) s = rw (add-one v.k) at c.count_of-n.ensures ∙ counted s a.counts acc v.k h in record { kind = h; rows = n; few = rw n (few_rows s a.counts acc (suc v.k)); places = rw n (omega (arith, v.invariant.3, places_in s a.counts acc v.k h)); blocks = omega (arith, (whole-blocks s a.counts acc).1, v.invariant.0); long = rw n (sym (rows_long s a.counts acc v.k h)); room = omega (arith, part_in (rows_of s) v.k kinds h, v.invariant.1.same, c.requires.1) } in here'))

pub overflow_add-first : goal.overflow_add-first
overflow_add-first c = omega (arith, (let here' : let v = c.loop-k in let a = c.args in Here a.bytes.now (length v.room) v.to v.first v.k c.count_of-n.result = let v = c.loop-k in let a = c.args in let s = a.bytes.now in let acc = c.requires.0 in let h : v.k < kinds = search rules in let n : c.count_of-n.result ≡ row_count (suc v.k) s = rw (add-one v.k) at c.count_of-n.ensures ∙ counted s a.counts acc v.k h in record { kind = h; rows = n; few = rw n (few_rows s a.counts acc (suc v.k)); places = rw n (omega (arith, v.invariant.3, places_in s a.counts acc v.k h)); blocks = omega (arith, (whole-blocks s a.counts acc).1, v.invariant.0); long = rw n (sym (rows_long s a.counts acc v.k h)); room = omega (arith, part_in (rows_of s) v.k kinds h, v.invariant.1.same, c.requires.1) } in here'), c.blocks_for-first.ensures)

pub loop-k-preserved : goal.loop-k-preserved
loop-k-preserved c =
    let v = c.loop-k in
    let a = c.args in
    let s = a.bytes.now in
    let h = (let here' : let v = c.loop-k in let a = c.args in Here a.bytes.now (length v.room) v.to v.first v.k c.count_of-n.result = let v = c.loop-k in let a = c.args in let s = a.bytes.now in let acc = c.requires.0 in let h : v.k < kinds = search rules in let n : c.count_of-n.result ≡ row_count (suc v.k) s = rw (add-one v.k) at c.count_of-n.ensures ∙ counted s a.counts acc v.k h in record { kind = h; rows = n; few = rw n (few_rows s a.counts acc (suc v.k)); places = rw n (omega (arith, v.invariant.3, places_in s a.counts acc v.k h)); blocks = omega (arith, (whole-blocks s a.counts acc).1, v.invariant.0); long = rw n (sym (rows_long s a.counts acc v.k h)); room = omega (arith, part_in (rows_of s) v.k kinds h, v.invariant.1.same, c.requires.1) } in here') in
    let r : in_turn (row_on (v.k + 1) s) (12 * v.first) c.count_of-n.result ≡ rows_of s (suc v.k) =
    rw (add-one v.k, v.invariant.3, h.rows) (rows_turn s a.counts c.requires.0 v.k h.kind) in
    let e : suc (v.k + 1) ≡ suc (suc v.k) = omega arith in
    let o : 1 + v.k ≡ suc v.k = omega arith in (
      v.invariant.0,
      filling_more v.invariant.1 h.kind (rw o (c.decode_kind.ensures ∙ ap (sets v.room v.to) r)) (rw o (omega (arith, (let numbers_here' : let a = c.args in c.numbers.result * c.count_of-n.result ≡ length (rows_of a.bytes.now (suc c.loop-k.k)) = rw (rw (add-one c.loop-k.k) at c.numbers.ensures.0) (let here' : let v = c.loop-k in let a = c.args in Here a.bytes.now (length v.room) v.to v.first v.k c.count_of-n.result = let v = c.loop-k in let a = c.args in let s = a.bytes.now in let acc = c.requires.0 in let h : v.k < kinds = search rules in let n : c.count_of-n.result ≡ row_count (suc v.k) s = rw (add-one v.k) at c.count_of-n.ensures ∙ counted s a.counts acc v.k h in record { kind = h; rows = n; few = rw n (few_rows s a.counts acc (suc v.k)); places = rw n (omega (arith, v.invariant.3, places_in s a.counts acc v.k h)); blocks = omega (arith, (whole-blocks s a.counts acc).1, v.invariant.0); long = rw n (sym (rows_long s a.counts acc v.k h)); room = omega (arith, part_in (rows_of s) v.k kinds h, v.invariant.1.same, c.requires.1) } in here').long in numbers_here')))),
      omega (arith, v.invariant.2, length-next (rows_of s) v.k, (let numbers_here' : let a = c.args in c.numbers.result * c.count_of-n.result ≡ length (rows_of a.bytes.now (suc c.loop-k.k)) = rw (rw (add-one c.loop-k.k) at c.numbers.ensures.0) (let here' : let v = c.loop-k in let a = c.args in Here a.bytes.now (length v.room) v.to v.first v.k c.count_of-n.result = let v = c.loop-k in let a = c.args in let s = a.bytes.now in let acc = c.requires.0 in let h : v.k < kinds = search rules in let n : c.count_of-n.result ≡ row_count (suc v.k) s = rw (add-one v.k) at c.count_of-n.ensures ∙ counted s a.counts acc v.k h in record { kind = h; rows = n; few = rw n (few_rows s a.counts acc (suc v.k)); places = rw n (omega (arith, v.invariant.3, places_in s a.counts acc v.k h)); blocks = omega (arith, (whole-blocks s a.counts acc).1, v.invariant.0); long = rw n (sym (rows_long s a.counts acc v.k h)); room = omega (arith, part_in (rows_of s) v.k kinds h, v.invariant.1.same, c.requires.1) } in here').long in numbers_here')),
      ap₂ (λ (x y : ℕ). x + y) v.invariant.3 (c.blocks_for-first.ensures ∙ ap blocks_for h.rows) ∙ rw e (sym (start_next s v.k)),
    )

pub returns : goal.returns
returns c = filling_all c.loop-k.invariant.1 (search rules)
