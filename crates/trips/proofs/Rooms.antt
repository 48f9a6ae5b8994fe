-- The rows of a return, filed as lists, are its records. Assumes nothing.
--     list-alike    of one kind; lists-alike, of all
use Prim.Native.Nat.{ℕ, zero, suc, ◌+◌, ◌-◌, ◌*◌, ◌/◌, ◌%◌, ◌<◌, ◌≤◌, min}
use mathlib.Core.Path.{◌≡◌, sym, ap, subst, ◌∙◌}
use mathlib.Core.List.{List}
use native.Mathlib.Nat.{zero-add, mul-div_cancel_left}
use native.Mathlib.Omega.{arith}
use lib.Dec.{ltb}
use lib.ListN.{length, take, drop}
use lib.Seq.{take_at}
use borrow.Author.Tests.{ltb-true}
use Rattle.form.specs.Layout.{kinds, numbers_of}
use Rattle.form.specs.Block.{blocks, kind_of, count_of, blocks_below}
use Rattle.form.specs.Records.{filed}
use Rattle.form.specs.Verdict.{row_count, Formed}
use Rattle.form.specs.Standing.{blocks_for, start_block, start_place}
use Rattle.form.specs.declared.Counts.{Counts}
use Rattle.standing.proofs.Stand.{start_le, start_all, at_start, kind_in, count_in}
use Rattle.standing.proofs.Accepted.{in_order}
use Rattle.filing.specs.Lists.{rows_in, filed_list, behind, filed_from, filed_lists}
use Rattle.filing.specs.Written.{in_turn}
use Rattle.filing.specs.Tables.{row_on}
use Rattle.filing.proofs.Parts.{length-row_on}
use Rattle.filing.proofs.Stands.{stands-whole}
use Rattle.filing.proofs.Turns.{turn_part}
use Rattle.decoding.proofs.Decoded.{rows_turn, rows-counted}
use Rattle.form.proofs.Fields.{some_numbers}
use Rattle.filing.proofs.Choice.{ltb_same}
use Rattle.filing.proofs.Alike.{Alike, alike_then, alike-join, front-alike, back_alike}
use Rattle.rows.specs.Reading.{rows_of, lists_from, row_lists}
use Rattle.rows.proofs.Rows.{start_next, start_first}

-- ---- one kind

module _ (s : List ℕ) (c : Counts) (acc : Formed s c) (k : ℕ) (h : k < kinds) where
  -- the block of a place of the kind
  there : (i : ℕ) → i < 12 * blocks_for (row_count (suc k) s)
      → let b = (start_place (suc k) s + i) / 12 in (kind_of s b ≡ suc k) × (count_of s b ≡ min 12 (row_count (suc k) s - 12 * (i / 12)))
  unfolding start_block
  there i l =
      let o = in_order s c acc in
      let b = (start_place (suc k) s + i) / 12 in
      let below : b < blocks s = omega (arith, start_le s o (suc (suc k)) (suc kinds) (omega arith), start_all s o) in
      let kind = kind_in s o k b (omega arith) (omega arith) h in
      let at = at_start s o (suc k) b below kind in
      let e : blocks_below (suc k) s b ≡ i / 12 = omega arith in
      (kind, count_in s o (suc k) b below kind ∙ ap (λ (x : ℕ). min 12 (row_count (suc k) s - 12 * x)) e)

  used_there : (i : ℕ) → i < 12 * blocks_for (row_count (suc k) s) → ltb i (row_count (suc k) s) ≡ (filed s).used (start_place (suc k) s + i)
  used_there i l =
      let j = start_place (suc k) s + i in
      ltb_same i (row_count (suc k) s) (j % 12) (count_of s (j / 12)) (λ q. omega (arith, (there i l).1)) (λ q. omega (arith, (there i l).1))

  pub list-alike : Alike (filed_list (suc k) (rows_of s (suc k))) 0 (filed s) (start_place (suc k) s) (12 * blocks_for (row_count (suc k) s))
  unfolding filed_list row_on
  list-alike = record {
    at = λ i l.
        record {
          used = rw (zero-add i, rows-counted s c acc k h) (used_there i l);
          kind = sym (there i l).0;
          row = λ t.
              let lt : i < row_count (suc k) s = ltb-true i (row_count (suc k) s) (rw (zero-add i, rows-counted s c acc k h) at t) in
              rw (zero-add i, ← rows_turn s c acc k h)
              (turn_part (row_on (suc k) s) (numbers_of (suc k)) (length-row_on (suc k) s) (row_count (suc k) s) (start_place (suc k) s) i lt
              ∙ rw (there i l).0);
        };
  }

  -- as many places as its blocks have
  pub list-places : (filed_list (suc k) (rows_of s (suc k))).places ≡ 12 * blocks_for (row_count (suc k) s)
  unfolding filed_list
  list-places = ap (λ (x : ℕ). 12 * blocks_for x) (rows-counted s c acc k h)

-- ---- all kinds

module _ (s : List ℕ) (c : Counts) (acc : Formed s c) where
  -- the places of n kinds, from kind k + 1 on
  places_from : (n k : ℕ) → k + n ≤ kinds → start_place (suc k) s + (filed_from (suc k) (lists_from s (suc k) n)).places ≡ start_place (suc (k + n)) s
  unfolding lists_from filed_from behind
  places_from zero k h = let e : k + 0 ≡ k = omega arith in rw e (omega arith)
  places_from (suc n) k h =
      let e : k + suc n ≡ suc k + n = omega arith in
      rw e (omega (arith, places_from n (suc k) (omega arith), list-places s c acc k (omega arith), start_next s k))

  pub lists-places : (filed_lists (row_lists s)).places ≡ 12 * blocks s
  lists-places =
      let e : 0 + kinds ≡ kinds = omega arith in
      omega (arith, rw e at (places_from kinds 0 (omega arith)), start_first s, start_all s (in_order s c acc))

  alike_from : (n k : ℕ) → k + n ≤ kinds
      → Alike (filed_from (suc k) (lists_from s (suc k) n)) 0 (filed s) (start_place (suc k) s) (filed_from (suc k) (lists_from s (suc k) n)).places
  unfolding lists_from filed_from behind
  alike_from zero k h = record { at = λ q l. absurd (omega arith) }
  alike_from (suc n) k h =
      let f = filed_list (suc k) (rows_of s (suc k)) in
      let g = filed_from (suc (suc k)) (lists_from s (suc (suc k)) n) in
      let p = list-places s c acc k (omega arith) in
      let e : start_place (suc k) s + f.places ≡ start_place (suc (suc k)) s = omega (arith, start_next s k) in
      alike-join
      (alike_then (front-alike f g) (subst (λ (m : ℕ). Alike f 0 (filed s) (start_place (suc k) s) m) (sym p) (list-alike s c acc k (omega arith))))
      (alike_then (back_alike f g g.places) (alike_from n (suc k) (omega arith))) (zero-add f.places) e

  pub lists-alike : Alike (filed_lists (row_lists s)) 0 (filed s) 0 (filed_lists (row_lists s)).places
  lists-alike =
      let z : start_place 1 s ≡ 0 = omega (arith, start_first s) in
      rw z at (alike_from kinds 0 (omega arith))
