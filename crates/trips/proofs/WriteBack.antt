-- THE SECOND ROUND TRIP: an accepted return, read and written again, is itself. Assumes nothing.
--     rows-clean      no rule of writing is broken by its rows
--     written_back    and the bytes written are its own
use Prim.Native.Nat.{ℕ, zero, suc, ◌+◌, ◌*◌, ◌/◌, ◌%◌, ◌<◌, ◌≤◌}
use mathlib.Core.Path.{◌≡◌, refl, sym, ap, ap₂, ◌∙◌}
use mathlib.Core.Bool.{false, not, ◌||◌}
use mathlib.Core.List.{List, ◌∷◌, flatten, map}
use native.Mathlib.Nat.{zero-add, mul-zero, mul-mod_right}
use native.Mathlib.Omega.{arith}
use lib.Dec.{ltb, eqb}
use lib.ListN.{length, get_or, length-map}
use borrow.Author.Tests.{lt-ltb, le-ltb, eq-eqb, ltb-true, eqb-true}
use Rattle.form.specs.Ruling.{rule, ruling}
use Rattle.form.specs.Edition.{last_kind}
use Rattle.form.specs.Layout.{kinds, parameters_kind, numbers_of}
use Rattle.form.specs.Block.{blocks, edition, kind_falls, low_behind, ends_low, none_before, fourth_of_kind, bad_count, not_filled, over_filled, stray, bad_check, bad_header, bad_block}
use Rattle.form.specs.Records.{filed}
use Rattle.form.specs.Sums.{filed_rules}
use Rattle.form.specs.Verdict.{block_rules, form_rules, rules, row_count, count_list, Formed}
use Rattle.form.specs.declared.Counts.{Counts}
use Rattle.form.specs.Refusals.{Clean}
use Rattle.form.proofs.Search.{first_is_none}
use Rattle.form.proofs.Order.{kept, Kept, AllKept, ruling-clean, clean-ruling, append_kept, kept_of}
use Rattle.form.proofs.Tests.{or_none}
use Rattle.filing.proofs.Choice.{or_of, implies}
use Rattle.standing.proofs.Accepted.{each_from, counts-listed, formed_counts, in_order, whole-blocks, one_edition, known-edition, no_rows, few_rows, one_row}
use Rattle.filing.specs.Lists.{total, rows_in, filed_lists}
use Rattle.filing.specs.Written.{in_turn, block_of, bytes_of}
use Rattle.filing.proofs.Stands.{Stands, stands_all, Bytes}
use Rattle.filing.proofs.Parts.{length_block}
use Rattle.filing.proofs.Alike.{alike-part, block_alike}
use Rattle.filing.proofs.Cut.{cut-flat, total-flat}
use Rattle.lists.specs.Rules.{bad_list, bad_lengths, not_allowed, bad_at, list_rules}
use Rattle.rows.specs.Reading.{rows_of, lists_from, row_lists, lengths_from, lengths_of}
use Rattle.rows.specs.Writing.{written}
use Rattle.rows.proofs.Return.{places_from, length-written}
use Rattle.decoding.proofs.Decoded.{rows_long, rows-counted}
use Rattle.trips.proofs.Same.{rules_same, solid_lists}
use Rattle.filing.proofs.Turns.{turns_stand}
use Rattle.trips.proofs.Blocks.{block_stands}
use Rattle.trips.proofs.Rooms.{lists-places, lists-alike}

good_list : (kind n : ℕ) → n % numbers_of kind ≡ 0 → rows_in kind n ≤ 32 → (kind ≡ parameters_kind → rows_in kind n ≡ 1) → bad_list kind n ≡ false
unfolding bad_list
good_list kind n m few one =
    or_of (or_of (ap not (eq-eqb (n % numbers_of kind) 0 m)) (le-ltb 32 (rows_in kind n) few))
    (implies (eqb kind parameters_kind) (λ e. eq-eqb (rows_in kind n) 1 (one (eqb-true _ _ e))))

no_stray : (s : List ℕ) (b : ℕ) → bad_block s b ≡ false → stray s b ≡ false
unfolding bad_block
no_stray s b e = (or_none (kind_falls s b || low_behind s b || ends_low s b || none_before s b || fourth_of_kind s b || bad_count s b || not_filled s b || over_filled s b) (stray s b) e).1

-- what rules 2 to 4 say of a block
block_kept : (s : List ℕ) → AllKept (form_rules s) → (b : ℕ) → b < blocks s → (bad_check s b ≡ false) × (bad_header s b ≡ false) × (stray s b ≡ false)
unfolding block_rules Kept
block_kept s a b l = (kept_of 2 a b l, kept_of 3 a b l, no_stray s b (kept_of 4 a b l))

module _ (s : List ℕ) (c : Counts) (acc : Formed s c) where
  lists_length : (k n : ℕ) → length (lists_from s k n) ≡ n
  unfolding lists_from
  lists_length k zero = refl
  lists_length k (suc n) = ap suc (lists_length (suc k) n)

  list_at : (n k i : ℕ) → i < n → get_or (map length (lists_from s k n)) i 0 ≡ length (rows_of s (k + i))
  unfolding lists_from
  list_at zero k i h = absurd (omega arith)
  list_at (suc n) k zero h = let e : k + 0 ≡ k = omega arith in rw e
  list_at (suc n) k (suc i) h = let e : k + suc i ≡ suc k + i = omega arith in rw e (list_at n (suc k) i (omega arith))

  -- as the counts give them
  lengths_from_lem : (n k : ℕ) → k + n ≡ kinds → lengths_from (suc k) (each_from (λ x. row_count x s) (suc k) n) ≡ map length (lists_from s (suc k) n)
  unfolding lengths_from each_from lists_from
  lengths_from_lem zero k h = refl
  lengths_from_lem (suc n) k h =
      ap₂ (λ (x : ℕ) (y : List ℕ). x ∷ y) (sym (rows_long s c acc k (omega arith))) (lengths_from_lem n (suc k) (omega arith))

  pub lengths_are : lengths_of c ≡ map length (row_lists s)
  lengths_are =
      ap (λ (x : Counts). lengths_from 1 (count_list x)) (formed_counts s c acc)
      ∙ ap (lengths_from 1) (counts-listed s)
      ∙ lengths_from_lem kinds 0 (omega arith)

  list_good : (k : ℕ) → k < kinds → bad_list (suc k) (get_or (map length (row_lists s)) k 0) ≡ false
  list_good k h =
      let e : 1 + k ≡ suc k = omega arith in
      let n = rows-counted s c acc k h in
      rw (list_at kinds 1 k h, e)
      (good_list (suc k) (length (rows_of s (suc k))) (rw (rows_long s c acc k h) (mul-mod_right (numbers_of (suc k)) (row_count (suc k) s)))
      (rw n (few_rows s c acc (suc k))) (λ p. rw (n, p) (one_row s c acc)))

  lengths_good : bad_lengths (map length (row_lists s)) (length (flatten (row_lists s))) ≡ false
  unfolding bad_lengths
  lengths_good =
      rw (eq-eqb (length (map length (row_lists s))) kinds (length-map (row_lists s) length ∙ lists_length 1 kinds), eq-eqb (total (map length (row_lists s))) _ (total-flat (row_lists s)))

  -- a kind that the edition does not have has no row
  none_allowed : (k : ℕ) → k < kinds → last_kind (edition s 0) < suc k → get_or (map length (row_lists s)) k 0 ≡ 0
  none_allowed k h l =
      let e : 1 + k ≡ suc k = omega arith in
      let z : numbers_of (suc k) * row_count (suc k) s ≡ 0 = rw (no_rows s c acc (suc k) l) (mul-zero (numbers_of (suc k))) in
      list_at kinds 1 k h ∙ rw e (rows_long s c acc k h ∙ z)

  allowed : (k : ℕ) → k < kinds → not_allowed (edition s 0) (suc k) (get_or (map length (row_lists s)) k 0) ≡ false
  unfolding not_allowed
  allowed k h = implies (ltb (last_kind (edition s 0)) (suc k)) (λ q. eq-eqb _ 0 (none_allowed k h (ltb-true _ _ q)))

  all_good : (p : ℕ) → p < suc kinds → bad_at (edition s 0) (map length (row_lists s)) (length (flatten (row_lists s))) p ≡ false
  all_good zero h = or_of (ap not (lt-ltb 0 (last_kind (edition s 0)) (known-edition s c acc))) lengths_good
  all_good (suc k) h = or_of (allowed k (omega arith)) (list_good k (omega arith))

  -- of an accepted return, no rule of its filed records is broken
  filed-clean : ruling (rules s) ≡ Clean → ruling (filed_rules (edition s 0) (filed s)) ≡ Clean
  unfolding block_rules
  filed-clean clean = clean-ruling (append_kept (block_rules s) (filed_rules (edition s 0) (filed s)) (ruling-clean clean)).1

  pub rows-clean : ruling (rules s) ≡ Clean → ruling (list_rules (edition s 0) (map length (row_lists s)) (flatten (row_lists s))) ≡ Clean
  unfolding list_rules
  rows-clean clean =
      let f = filed_lists (row_lists s) in
      let e = edition s 0 in
      let records = filed-clean clean in
      let same = rules_same e f (filed s) (lists-alike s c acc) (lists-places s c acc) (solid_lists 1 (row_lists s)) in
      rw (cut-flat (row_lists s))
      (sym (kept (rule 10 (suc kinds) (bad_at e (map length (row_lists s)) (length (flatten (row_lists s))))) (filed_rules e f)
      (first_is_none (bad_at e (map length (row_lists s)) (length (flatten (row_lists s)))) (suc kinds) all_good) (sym (same ∙ records))))

  pub written_back : Bytes s → written (edition s 0) (row_lists s) ≡ s
  unfolding bytes_of
  written_back small =
      let f = filed_lists (row_lists s) in
      let e = edition s 0 in
      let n : f.places / 12 ≡ blocks s = omega (arith, lists-places s c acc) in
      let w = whole-blocks s c acc in
      let long : length s ≡ length (written e (row_lists s)) = omega (arith, length-written e (row_lists s), places_from 1 (row_lists s), lists-places s c acc) in
      let stands : Stands s 0 (in_turn (block_of e f 0 (blocks s)) 0 (blocks s)) =
      turns_stand (block_of e f 0 (blocks s)) 512 (length_block f e 0 (blocks s)) s (blocks s) 0 0 block in
      sym (stands_all s (written e (row_lists s)) long (rw n stands))
    where
      block : (b : ℕ) → b < blocks s → Stands s (0 + 512 * b) (block_of (edition s 0) (filed_lists (row_lists s)) 0 (blocks s) (0 + b))
      block b l =
          let f = filed_lists (row_lists s) in
          let k = block_kept s (ruling-clean acc.clean) b l in
          let w = whole-blocks s c acc in
          let e = edition s 0 in
          let same = block_alike {f = f} {g = filed s} e b b 0 0 (blocks s) (alike-part (lists-alike s c acc) (12 * b) 12 (omega (arith, lists-places s c acc)) (zero-add (12 * b)) (zero-add (12 * b))) refl in
          rw (zero-add (512 * b), zero-add b, same)
          (block_stands s b small (omega arith) e (one_edition s c acc b l) k.0 k.1 k.2 (in_order s c acc b l).twelve)
