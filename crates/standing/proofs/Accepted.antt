-- What it says of a return that its rules are kept. `formed` takes `verdict_of s ≡ Accepted c`; each law behind it takes `Formed s c` and nothing else. Assumes nothing.
--     accepted-ruling    no rule is broken, of an accepted return; formed, which is one that can be read row by row
--     formed_counts      the counts are the sums of the kinds' counts; counted, kind by kind
--     whole-blocks       one block or more, not more than a return can have, and no byte more
--     check_right        each block's check is the one that is due; block_kept, rule 4; id_kept, rule 5
--     one_edition        one edition throughout; known-edition, which there is; no_rows, none of a kind that it does not have
--     few_rows           at most 32 rows of a kind; one_row, one parameter row
--     first_block_lem        a kind's first block, by the counts
--     rows_are           the rows of a kind stand one after the other from the place that the counts give; row_is, each by its bytes; inside, in the bytes
--     row_kept           every rule of one row, by its number: within, 6 (limit_of, a field of a row); spent, 7 of a conversion row; none_scattered, 14
use Prim.Native.Nat.{ℕ, zero, suc, ◌+◌, ◌*◌, ◌/◌, ◌%◌, ◌<◌, ◌≤◌}
use mathlib.Core.Path.{◌≡◌, refl, sym, ap, ap₂, ◌∙◌}
use mathlib.Core.Bool.{Bool, true, false, cond, not}
use mathlib.Core.List.{List, [], ◌∷◌}
use native.Mathlib.Decide.{dec_lt}
use native.Mathlib.Numerals.{one-add}
use native.Mathlib.Omega.{arith}
use borrow.Author.Tests.{lt-ltb, ltb-false, eqb-false}
use lib.ListN.{length, get_or, drop, get_or-eq_default}
use lib.Seq.{get_or-drop}
use lib.Dec.{ltb, eqb}
use Rattle.form.specs.Ruling.{rule, ruling}
use Rattle.form.specs.declared.Field.{Field}
use Rattle.form.specs.Layout.{Layout, kinds, parameters_kind, layout, row_at, above_limit}
use Rattle.form.specs.Edition.{last_kind}
use Rattle.form.specs.Block.{most_blocks, longest, blocks, kind_of, edition, record_at, check_said, check_due, bad_length, bad_check, bad_block}
use Rattle.form.specs.Records.{filed, RowTest, RowRule, row_rules, bad_id, broken_by, over_places, record_rules, is_scattered, overspent, numbered, test_numbered}
use Rattle.form.specs.Sums.{sum_rules}
use Rattle.form.specs.Verdict.{Formed, block_rules, form_rules, rules, row_count, rows, counts_of, count_list, count_in, verdict_of}
use Rattle.form.specs.Standing.{blocks_for, start_block, first_block, start_place, rows_from}
use Rattle.form.specs.declared.Counts.{Counts}
use Rattle.form.specs.Refusals.{Clean}
use Rattle.std.specs.Prelude.{Ok}
use Rattle.form.proofs.Tests.{and_rest, or_none, all_fail, same_of}
use Rattle.form.proofs.Order.{AllKept, Kept, none, more, ruling-clean, ruling_append, or_clean, append_kept, kept_of}
use Rattle.form.proofs.Places.{broken_at}
use Rattle.form.proofs.EachKind.{kinds_are, one_kind}
use Rattle.form.proofs.Meaning.{clean_of}
use Rattle.form.proofs.Lengths.{length-kept}
use Rattle.standing.proofs.Stand.{Headed, headed, Ordered, ordered, needed, Lies, lying, only_row}
use Rattle.standing.proofs.StandRows.{from_at, from_length, row_at_lem, rows_stand}

-- a field of a row whose fields are all within their limits
pub limit_of : (l : Layout) (r : List ℕ) (i : ℕ) (f : Field) → i < length l → above_limit l r ≡ false → get_or r i 0 ≤ (get_or l i f).limit
unfolding above_limit
limit_of [] r i f h e = absurd (omega arith)
limit_of (x ∷ l) r zero f h e = ltb-false x.limit (get_or r 0 0) (or_none _ (above_limit l (drop 1 r)) e).0
limit_of (x ∷ l) r (suc i) f h e =
    let g = limit_of l (drop 1 r) i f (omega arith) (or_none (ltb x.limit (get_or r 0 0)) (above_limit l (drop 1 r)) e).1 in
    rw (get_or-drop 1 r i 0, one-add i) at g

-- f i, f (i + 1) and so on, n of them
unfoldable pub each_from : (ℕ → ℕ) → ℕ → ℕ → List ℕ
each_from f i zero = []
each_from f i (suc n) = f i ∷ each_from f (suc i) n

each_at : (f : ℕ → ℕ) (n i k : ℕ) → k < n → get_or (each_from f i n) k 0 ≡ f (i + k)
unfolding each_from
each_at f zero i k h = absurd (omega arith)
each_at f (suc n) i zero h = let e : i + 0 ≡ i = omega arith in rw e
each_at f (suc n) i (suc k) h = let e : i + suc k ≡ suc i + k = omega arith in rw e (each_at f n (suc i) k (omega arith))

-- the counts, listed kind by kind
pub counts-listed : (s : List ℕ) → count_list (counts_of s) ≡ each_from (λ k. row_count k s) 1 kinds
unfolding kinds each_from
counts-listed s = refl

counts-length : (c : Counts) → length (count_list c) ≡ kinds
unfolding kinds
counts-length c = refl

-- an accepted return is formed
module _ (s : List ℕ) (c : Counts) (acc : verdict_of s ≡ Ok c) where
  judged : (ruling (rules s) ≡ Clean) × (c ≡ counts_of s)
  unfolding verdict_of
  judged = clean_of s (ruling (rules s)) c acc

  pub accepted-ruling : ruling (rules s) ≡ Clean
  accepted-ruling = judged.0

  pub formed : Formed s c
  formed = record { clean = or_clean (ruling (form_rules s)) _ (sym (ruling_append (form_rules s) (sum_rules (filed s))) ∙ accepted-ruling); counts = judged.1 }

module _ (s : List ℕ) (c : Counts) (acc : Formed s c) where
  pub formed_counts : c ≡ counts_of s
  formed_counts = acc.counts

  -- the count of each kind
  pub counted : (k : ℕ) → k < kinds → count_in c (suc k) ≡ row_count (suc k) s
  counted k h =
      ap (λ (x : Counts). count_in x (suc k)) formed_counts
      ∙ ap (λ (x : List ℕ). get_or x k 0) (counts-listed s)
      ∙ rw (one-add k) at (each_at (λ x. row_count x s) kinds 1 k h)

  kept : AllKept (block_rules s) × AllKept (record_rules (edition s 0) (filed s))
  kept = append_kept (block_rules s) (record_rules (edition s 0) (filed s)) (ruling-clean acc.clean)

  pub in_order : Ordered s (blocks s)
  in_order = ordered s kept.0

  headed_at : (b : ℕ) → b < blocks s → Headed s b
  unfolding block_rules Kept
  headed_at b l = headed s b (kept_of 3 kept.0 b l)

  -- rule 4, at every block
  pub block_kept : (b : ℕ) → b < blocks s → bad_block s b ≡ false
  unfolding block_rules Kept
  block_kept = kept_of 4 kept.0

  -- the check of each block is right
  pub check_right : (b : ℕ) → b < blocks s → check_said s b ≡ check_due s b
  unfolding block_rules Kept bad_check
  check_right b l = same_of (check_said s b) (check_due s b) (kept_of 2 kept.0 b l)

  pub whole-blocks : (1 ≤ blocks s) × (blocks s ≤ most_blocks) × (length s ≡ 512 * blocks s)
  unfolding bad_length
  whole-blocks =
      let f = all_fail (eqb (length s) 0) (ltb longest (length s) ∷ not (eqb (length s % 512) 0) ∷ []) (length-kept s kept.0) in
      let z : length s ≡ 0 → ⊥ = eqb-false (length s) 0 f.0 in
      omega (arith, ltb-false, same_of)

  -- one edition throughout, which there is
  pub one_edition : (b : ℕ) → b < blocks s → edition s b ≡ edition s 0
  one_edition b l = (headed_at b l).alike

  pub known-edition : 0 < last_kind (edition s 0)
  known-edition = (headed_at 0 whole-blocks.0).edition

  pub few_rows : (k : ℕ) → row_count k s ≤ 32
  few_rows k = (needed s in_order k (blocks s) (omega arith)).rows

  -- a kind's first block, by the counts
  pub first_block_lem : (k : ℕ) → k ≤ suc kinds → first_block k c ≡ start_block k s
  unfolding first_block start_block
  first_block_lem zero h = refl
  first_block_lem (suc zero) h = refl
  first_block_lem (suc (suc k)) h = ap₂ (λ (x y : ℕ). x + blocks_for y) (first_block_lem (suc k) (omega arith)) (counted k (omega arith))

  -- at most 32 rows of each kind, by the counts
  pub few_counted : (k : ℕ) → count_in c k ≤ 32
  few_counted zero = omega arith
  few_counted (suc k) = go (dec_lt k kinds)
    where
      go : Dec (k < kinds) → count_in c (suc k) ≤ 32
      go (yes h) = rw (counted k h) (few_rows (suc k))
      go (no h) = let z : count_in c (suc k) ≡ 0 = get_or-eq_default (count_list c) 0 {n = k} (omega (arith, counts-length c)) in omega arith

  pub rows_are : (k : ℕ) → rows k s ≡ rows_from (filed s) (start_place k s) (row_count k s)
  rows_are k = rows_stand s in_order k

  pub rows-length : (k : ℕ) → length (rows k s) ≡ row_count k s
  rows-length k = ap length (rows_are k) ∙ from_length (filed s) (start_place k s) (row_count k s)

  pub lies : (k i : ℕ) → 1 ≤ k → k ≤ kinds → i < row_count k s → Lies s k i
  lies k i lo hi l = lying s in_order k i l

  -- no row of a kind that the edition does not have
  pub no_rows : (k : ℕ) → last_kind (edition s 0) < k → row_count k s ≡ 0
  no_rows k h = go (dec_lt 0 (row_count k s))
    where
      go : Dec (0 < row_count k s) → row_count k s ≡ 0
      go (yes l) =
          let p = lying s in_order k 0 l in
          let b = start_block k s + 0 / 12 in
          let q : kind_of s b ≤ last_kind (edition s 0) = rw (one_edition b p.below) at (headed_at b p.below).high in
          absurd (omega (arith, p.kind))
      go (no l) = omega arith

  pub one_row : row_count parameters_kind s ≡ 1
  one_row = only_row s in_order whole-blocks.0

  module _ (k i : ℕ) (lo : 1 ≤ k) (hi : k ≤ kinds) (l : i < row_count k s) where
    -- by its bytes
    pub row_is : get_or (rows k s) i [] ≡ row_at (layout k) s (record_at (start_block k s + i / 12) (i % 12))
    row_is =
        let position : 12 * start_block k s + i ≡ 12 * (start_block k s + i / 12) + i % 12 = omega arith in
        rw (rows_are k, from_at (filed s) (start_place k s) (row_count k s) i l, position)
        (row_at_lem s (start_block k s + i / 12) (i % 12) (omega arith) ∙ rw (lying s in_order k i l).kind)

    -- its forty bytes are there
    pub inside : record_at (start_block k s + i / 12) (i % 12) + 40 ≤ length s
    inside = let w = whole-blocks in let p = (lying s in_order k i l).below in omega arith

    -- a rule of one row that is kept at every place is kept by the row
    row-rule : (t : RowTest) → ((j : ℕ) → j < 12 * blocks s → broken_by (filed s) (edition s 0) t j ≡ false) → t (edition s 0) k (get_or (rows k s) i []) ≡ false
    row-rule t h =
        let p = lying s in_order k i l in
        let b = start_block k s + i / 12 in
        let f = and_rest _ _ (lt-ltb _ _ p.used) (sym (broken_at s b (i % 12) (omega arith) (edition s 0) t) ∙ h (12 * b + i % 12) (omega arith)) in
        rw row_is (rw p.kind at f)

    numbered-kept : (n : ℕ) (qs : List RowRule) → AllKept (over_places (edition s 0) (filed s) qs) → numbered n qs (edition s 0) k (get_or (rows k s) i []) ≡ false
    unfolding Kept
    numbered-kept n [] none = refl
    numbered-kept n (q ∷ qs) (more h a) = go (eqb n q.number) (numbered-kept n qs a)
      where
        go : (b : Bool) → numbered n qs (edition s 0) k (get_or (rows k s) i []) ≡ false → cond b q.breaks (numbered n qs) (edition s 0) k (get_or (rows k s) i []) ≡ false
        go true e = row-rule q.breaks h
        go false e = e

    -- the rule of one row that has a number
    pub row_kept : (n : ℕ) → test_numbered n (edition s 0) k (get_or (rows k s) i []) ≡ false
    row_kept n = numbered-kept n row_rules (append_kept (rule 5 (12 * blocks s) (bad_id (filed s)) ∷ []) _ kept.1).1

    pub within : above_limit (layout k) (get_or (rows k s) i []) ≡ false
    within = row_kept 6

  pub spent : (i : ℕ) → i < row_count 1 s → overspent (get_or (rows 1 s) i []) ≡ false
  spent i l = row_kept 1 i (omega arith) one_kind l 7

  -- "Edition 3 has no unit code 1": of each stock row
  pub none_scattered : edition s 0 ≡ 3 → (i : ℕ) → i < length (rows 2 s) → is_scattered (get_or (rows 2 s) i []) ≡ false
  none_scattered three i l =
      let kept_14 = row_kept 2 i (omega arith) (omega (arith, kinds_are)) (omega (arith, rows-length 2)) 14 in
      rw three at kept_14

  -- rule 5, at every place
  pub id_kept : (j : ℕ) → j < 12 * blocks s → bad_id (filed s) j ≡ false
  unfolding Kept
  id_kept = kept_of 5 kept.1
