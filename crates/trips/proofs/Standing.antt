-- The return of row lists that break no rule: what is read of each of its blocks and records. Assumes nothing.
use Prim.Native.Nat.{ℕ, zero, suc, ◌+◌, ◌-◌, ◌*◌, ◌%◌, ◌<◌, ◌≤◌, min}
use mathlib.Core.Path.{◌≡◌, sym, ap, subst, ◌∙◌}
use mathlib.Core.Bool.{Bool, true, false}
use mathlib.Core.List.{List, ◌∷◌, map}
use native.Mathlib.Nat.{zero-add, add-zero}
use native.Mathlib.Omega.{arith}
use lib.Dec.{ltb, lit<}
use lib.ListN.{length, get_or}
use borrow.Author.Tests.{ltb-true}
use Rattle.form.specs.Ruling.{Rule, ruling}
use Rattle.form.specs.Layout.{kinds, parameters_kind, layout, numbers_of, row_at, stray_at, above_limit}
use Rattle.form.specs.Edition.{last_kind}
use Rattle.form.specs.Block.{most_blocks, blocks, kind_of, count_of, record_at, stray_record}
use Rattle.form.specs.Records.{Filed, filed, field_above, broken_by}
use Rattle.form.specs.Sums.{filed_rules}
use Rattle.form.specs.Refusals.{Clean}
use Rattle.form.proofs.Order.{Kept, AllKept, more, ruling-clean, kept_of}
use Rattle.form.proofs.Tests.{and_rest, either}
use Rattle.form.proofs.EachKind.{parameters-kind, few_kinds, small-edition}
use Rattle.form.proofs.Places.{block_of_lem, position_of}
use Rattle.filing.specs.Lists.{Lists, of_kind, cut, rows_in, row_of, filed_list, filed_lists}
use Rattle.filing.specs.Written.{record_of, in_turn, record_on, used_from, block_of}
use Rattle.filing.proofs.Stands.{Stands, stands-whole, record_read, zeros-read}
use Rattle.filing.proofs.Parts.{length_block, list-used}
use Rattle.filing.proofs.Choice.{ltb_same}
use Rattle.filing.proofs.Alike.{Same, Alike, alike-part, used-alike}
use Rattle.filing.proofs.Cut.{cut-length, cut-long}
use Rattle.lists.specs.Rules.{Good, list_rules, blocks_from}
use Rattle.lists.proofs.Numbers.{good, edition_good, kind_good}
use Rattle.rows.specs.Writing.{written}
use Rattle.rows.proofs.Return.{places_from, written_turn, length-written}
use Rattle.filing.proofs.Turns.{turn_stands}
use Rattle.trips.proofs.Blocks.{Read, block_read}
use Rattle.trips.proofs.Shape.{blocks_at, start_of, start_next, start_mono, start_all, Where, list_at}
use Rattle.trips.proofs.Fitting.{fits, length-row_of}

-- the list that a block is of, and which of the list's blocks it is
abbrev pub list_of : {l : Lists} {b : ℕ} → Where l b → List ℕ
list_of {l} w = of_kind l (suc w.k)

-- how many rows it has
abbrev pub rows_at : {l : Lists} {b : ℕ} → Where l b → ℕ
rows_at {l} w = rows_in (suc w.k) (length (of_kind l (suc w.k)))

abbrev pub nth : {l : Lists} {b : ℕ} → Where l b → ℕ
nth {l} {b} w = b - start_of l w.k

-- lists that break no rule, in an edition
pub record Clear (e : ℕ) (l : Lists) : Type 0 where
  pub records : AllKept (filed_rules e (filed_lists l))
  pub each : length l ≡ kinds
  pub whole : (k : ℕ) → k < kinds → length (of_kind l (suc k)) % numbers_of (suc k) ≡ 0
  pub few : (k : ℕ) → k < kinds → rows_in (suc k) (length (of_kind l (suc k))) ≤ 32
  pub one : rows_in parameters_kind (length (of_kind l parameters_kind)) ≡ 1
  pub edition : 0 < last_kind e
  pub allows : (k : ℕ) → k < kinds → last_kind e < suc k → length (of_kind l (suc k)) ≡ 0

kept-head : {r : Rule} {rs : List Rule} → AllKept (r ∷ rs) → Kept r × AllKept rs
kept-head (more h rest) = (h, rest)

-- what clean rules say of lengths and lists
pub kept-lists : (e : ℕ) (lengths area : List ℕ) → ruling (list_rules e lengths area) ≡ Clean
    → Good lengths (length area) × AllKept (filed_rules e (filed_lists (cut lengths area)))
unfolding list_rules Kept
kept-lists e lengths area clean = let k = kept-head (ruling-clean clean) in (good e lengths (length area) k.0, k.1)

pub clear : (e : ℕ) (lengths area : List ℕ) → ruling (list_rules e lengths area) ≡ Clean → Clear e (cut lengths area)
unfolding list_rules Kept
clear e lengths area clean =
    let h = kept-head (ruling-clean clean) in
    let g = good e lengths (length area) h.0 in
    let long : (k : ℕ) → k < kinds → length (of_kind (cut lengths area) (suc k)) ≡ get_or lengths k 0 =
    λ k l. cut-long lengths area (omega (arith, g.all)) k (omega (arith, g.each)) in
    record {
      records = h.1;
      each = cut-length lengths area ∙ g.each;
      whole = λ k l. rw (long k l) (g.whole k l);
      few = λ k l. rw (long k l) (g.few k l);
      one = rw (long (parameters_kind - 1) parameters-kind) g.one;
      edition = ltb-true 0 (last_kind e) (edition_good e lengths (length area) h.0);
      allows = λ k l z. long k l ∙ kind_good e lengths (length area) h.0 k l z;
    }

-- 6 is kept at each place
field-kept : (e : ℕ) (f : Filed) → AllKept (filed_rules e f) → (j : ℕ) → j < f.places → broken_by f e field_above j ≡ false
unfolding Kept
field-kept e f a = kept_of 6 a

module _ (e : ℕ) (l : Lists) (ok : Clear e l) where
  all_blocks : blocks_from 1 (map length l) ≡ start_of l kinds
  all_blocks = sym (start_all l) ∙ ap (start_of l) ok.each

  pub places-blocks : (filed_lists l).places ≡ 12 * start_of l kinds
  places-blocks = places_from 1 l ∙ rw all_blocks

  pub written-blocks : written e l ≡ in_turn (block_of e (filed_lists l) 0 (start_of l kinds)) 0 (start_of l kinds)
  written-blocks = written_turn e l ∙ rw all_blocks

  pub long : length (written e l) ≡ 512 * start_of l kinds
  long = length-written e l ∙ rw all_blocks

  -- at most three blocks for the rows of a kind, and one for the parameters
  few_starts : (k : ℕ) → k ≤ kinds → start_of l k ≤ 3 * k
  unfolding start_of
  few_starts zero h = omega arith
  few_starts (suc k) h = omega (arith, few_starts k (omega arith), ok.few k h)

  -- the parameters' one block, behind those of the kinds before them
  pub one_block : start_of l parameters_kind ≡ start_of l (parameters_kind - 1) + 1
  one_block = start_next l (parameters_kind - 1) ∙ omega (arith, ok.one)

  few_behind : (d : ℕ) → parameters_kind + d ≤ kinds → start_of l (parameters_kind + d) ≤ 3 * (parameters_kind - 1 + d) + 1
  few_behind zero h = omega (arith, few_starts (parameters_kind - 1) (omega arith), one_block)
  few_behind (suc d) h =
      let q : parameters_kind + suc d ≡ suc (parameters_kind + d) = omega arith in
      rw q (omega (arith, few_behind d (omega arith), start_next l (parameters_kind + d), ok.few (parameters_kind + d) (omega arith)))

  pub few_blocks : (1 ≤ start_of l kinds) × (start_of l kinds ≤ most_blocks)
  few_blocks =
      let d : parameters_kind + (kinds - parameters_kind) ≡ kinds = omega (arith, parameters-kind) in
      (omega (arith, one_block, start_mono l parameters_kind kinds parameters-kind), omega (arith, rw d at (few_behind (kinds - parameters_kind) (omega arith)), parameters-kind))

  pub blocks_there : blocks (written e l) ≡ start_of l kinds
  blocks_there = omega (arith, long)

  -- ---- a block

  module _ (b : ℕ) (w : Where l b) where
    pub nth_block : nth w < blocks_at l (suc w.k)
    nth_block = omega (arith, w.from, w.below, start_next l w.k)

    alike_there : Alike (filed_lists l) (12 * b) (filed_list (suc w.k) (list_of w)) (12 * nth w) 12
    alike_there =
        alike-part (list_at l w.k (omega (arith, w.kind, ok.each))) (12 * nth w) 12 (omega (arith, nth_block)) (omega (arith, w.from)) (zero-add (12 * nth w))

    pub in_all : b < start_of l kinds
    in_all = omega (arith, w.below, start_mono l (suc w.k) kinds w.kind)

    kind_there : (r : ℕ) → r < 12 → (filed_lists l).kind (12 * b + r) ≡ suc w.k
    unfolding filed_list
    kind_there r h = (alike_there.at r h).kind

    used_there : used_from (filed_lists l) (12 * b) 12 ≡ min 12 (rows_at w - 12 * nth w)
    used_there = used-alike 12 alike_there ∙ list-used (suc w.k) (list_of w) (nth w)

    first_kind : (filed_lists l).kind (12 * b) ≡ suc w.k
    first_kind = rw (add-zero (12 * b)) at (kind_there 0 (lit< tt))

    pub read : Read e (written e l) (filed_lists l) (start_of l kinds) b
    read =
        let f = filed_lists l in
        let whole = subst (λ (x : List ℕ). Stands (written e l) 0 x) written-blocks (stands-whole (written e l)) in
        let one = turn_stands (block_of e f 0 (start_of l kinds)) 512 (length_block f e 0 (start_of l kinds)) (written e l) (start_of l kinds) 0 0 b in_all whole in
        block_read e (written e l) f (start_of l kinds) b (rw first_kind (omega (arith, w.kind, few_kinds))) (rw used_there (omega arith)) (small-edition e ok.edition) (omega (arith, in_all, few_blocks, few_kinds)) (omega (arith, few_blocks, few_kinds))
        (rw (zero-add (512 * b), zero-add b) at one)

    pub kind_is : kind_of (written e l) b ≡ suc w.k
    kind_is = read.kind ∙ first_kind

    pub count_is : count_of (written e l) b ≡ min 12 (rows_at w - 12 * nth w)
    count_is = read.count ∙ used_there

    used_is : (r : ℕ) → r < 12 → (filed_lists l).used (12 * b + r) ≡ ltb r (count_of (written e l) b)
    unfolding filed_list
    used_is r h = (alike_there.at r h).used ∙ ltb_same (12 * nth w + r) (rows_at w) r _ (λ q. omega (arith, count_is)) (λ q. omega (arith, count_is))

    -- ---- a record

    module _ (r : ℕ) (h : r < 12) where
      row_there : (filed_lists l).used (12 * b + r) ≡ true → (filed_lists l).row (12 * b + r) ≡ row_of (suc w.k) (list_of w) (12 * nth w + r)
      unfolding filed_list
      row_there u = (alike_there.at r h).row u

      within : (filed_lists l).used (12 * b + r) ≡ true → above_limit (layout (suc w.k)) (row_of (suc w.k) (list_of w) (12 * nth w + r)) ≡ false
      unfolding broken_by
      within u =
          let k = field-kept e (filed_lists l) ok.records (12 * b + r) (omega (arith, in_all, places-blocks)) in
          rw (kind_there r h, row_there u) at (and_rest ((filed_lists l).used (12 * b + r)) _ u k)

      -- a used record is read as its row, and has no stray byte
      used-read : (filed_lists l).used (12 * b + r) ≡ true
          → (row_at (layout (kind_of (written e l) b)) (written e l) (record_at b r) ≡ (filed_lists l).row (12 * b + r))
          × (stray_at (layout (kind_of (written e l) b)) (written e l) (record_at b r) ≡ false)
      unfolding record_on filed_list
      used-read u =
          let row = row_of (suc w.k) (list_of w) (12 * nth w + r) in
          let st : Stands (written e l) (record_at b r + 0) (record_of (layout (suc w.k)) row) =
          rw (add-zero (record_at b r)) (rw (u, kind_there r h, row_there u) at (read.records r h)) in
          let in_list = ltb-true (12 * nth w + r) (rows_at w) (sym (alike_there.at r h).used ∙ u) in
          rw (kind_is, row_there u)
          (record_read 0 (layout (suc w.k)) row (written e l) (record_at b r) (fits (suc w.k) row (within u)) (length-row_of (suc w.k) (list_of w) (12 * nth w + r) in_list) st)

      -- the record that is read is the one that was written
      pub place_same : Same (filed_lists l) (12 * b + r) (filed (written e l)) (12 * b + r)
      place_same = record {
        used = rw (block_of_lem b r h, position_of b r h) (used_is r h);
        kind = rw (block_of_lem b r h) (kind_there r h ∙ sym kind_is);
        row = λ u. rw (block_of_lem b r h, position_of b r h) (sym (used-read u).0);
      }

      pub no_stray : stray_record (written e l) b r ≡ false
      unfolding stray_record record_on
      no_stray =
          either (λ (x : Bool). x ≡ false) (ltb r (count_of (written e l) b)) (λ t. (used-read (used_is r h ∙ t)).1)
          (λ t. zeros-read 40 (written e l) (record_at b r) (rw (used_is r h ∙ t) at (read.records r h)))
