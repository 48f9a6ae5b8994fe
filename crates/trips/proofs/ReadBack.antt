-- THE FIRST ROUND TRIP: row lists that break no rule, written and read again, are themselves. Assumes nothing.
--     accepted_back    the bytes written are accepted; counts_back, with the counts of the rows
--     scattered_back   and as many rows of scattered trees
--     rows_back        and their rows are the lists; edition_back, in their edition; each_back, the rows of a kind one by one
use Prim.Native.Nat.{ℕ, zero, suc, ◌+◌, ◌-◌, ◌*◌, ◌/◌, ◌%◌, ◌<◌, ◌≤◌, min}
use mathlib.Core.Path.{◌≡◌, refl, sym, ap, ap₂, subst, ◌∙◌}
use mathlib.Core.Bool.{true, false}
use mathlib.Core.List.{List, [], ◌∷◌, flatten}
use native.Mathlib.Nat.{add-zero, zero-add, mul-suc, mul-zero, div-add-mod, zero-div}
use native.Mathlib.Decide.{dec_lt, ℕ_discrete}
use native.Mathlib.Numerals.{add-one}
use native.Mathlib.Omega.{arith}
use lib.Dec.{ltb, eqb}
use lib.ListN.{length, take, drop, drop_of_length-le}
use lib.Seq.{take_all, take-add, drop-drop, drop-cons}
use borrow.Author.Tests.{lt-ltb, le-ltb, lt-leb, eq-eqb, ne_eqb, ltb-true, eqb-true}
use Rattle.form.specs.Layout.{kinds, parameters_kind, numbers_of}
use Rattle.form.specs.Edition.{last_kind}
use Rattle.form.specs.Block.{longest, blocks, kind_of, count_of, edition, blocks_below, bad_length, bad_check, bad_header, kind_falls, low_behind, ends_low, none_before, earlier, bad_count, not_filled, over_filled, stray_record, stray, bad_block}
use Rattle.form.specs.Records.{Filed, filed, filed_rows}
use Rattle.form.specs.Sums.{scattered_in, filed_rules}
use Rattle.form.specs.Verdict.{block_rules, count_below, row_count, rows, counts_of, verdict_of}
use Rattle.form.specs.Standing.{blocks_for, start_block, start_place, rows_from}
use Rattle.std.specs.Prelude.{Ok}
use Rattle.form.proofs.Search.{any_none}
use Rattle.form.proofs.Order.{Kept, AllKept, more, ruling-clean, clean-ruling}
use Rattle.form.proofs.EachKind.{parameters-kind}
use Rattle.standing.proofs.Stand.{blocks-yes, blocks_no}
use Rattle.standing.proofs.StandRows.{from_same}
use Rattle.form.proofs.Meaning.{accepted}
use Rattle.standing.proofs.Accepted.{formed, rows_are}
use Rattle.filing.specs.Lists.{Lists, of_kind, rows_in, row_of, filed_list, filed_lists}
use Rattle.filing.specs.Written.{in_turn}
use Rattle.filing.proofs.Choice.{or_of, unless, implies}
use Rattle.filing.proofs.Alike.{Alike, turn_same}
use Rattle.rows.specs.Reading.{rows_of, lists_from, row_lists}
use Rattle.rows.specs.Writing.{written}
use Rattle.decoding.proofs.Decoded.{flat_from}
use Rattle.trips.proofs.Same.{kind_same, rules_same, solid_lists}
use Rattle.trips.proofs.Shape.{blocks_at, start_of, start_next, start_mono, Where, whereis, where_rises, list_at}
use Rattle.trips.proofs.Standing.{rows_at, nth, Clear, places-blocks, long, one_block, few_blocks, blocks_there, nth_block, read, kind_is, count_is, place_same, no_stray}

-- n rows in d blocks of twelve, and in one more
twelve-more : (n d : ℕ) → min n (12 * d) + min 12 (n - 12 * d) ≡ min n (12 * suc d)
twelve-more n d = omega arith

-- of the places up to m, and one more, those from a to z
in_part : (m a z : ℕ) → a ≤ m → m < z → (min m z - a ≡ m - a) × (min (suc m) z - a ≡ suc (m - a))
in_part m a z lo hi = (omega arith, omega arith)

-- a block more, of the kind or not
module _ (k : ℕ) (s : List ℕ) (m : ℕ) where
  count_yes : kind_of s m ≡ k → count_below k s (suc m) ≡ count_below k s m + count_of s m
  unfolding count_below
  count_yes e = rw (eq-eqb (kind_of s m) k e)

  count_no : (kind_of s m ≡ k → ⊥) → count_below k s (suc m) ≡ count_below k s m
  unfolding count_below
  count_no h = rw (ne_eqb (kind_of s m) k h) (omega arith)

-- rows of w numbers each, one after the other
turn_take : (w : ℕ) (r : List ℕ) (i n : ℕ) → in_turn (λ j. take w (drop (w * j) r)) i n ≡ take (w * n) (drop (w * i) r)
unfolding in_turn
turn_take w r i zero = rw (mul-zero w)
turn_take w r i (suc n) =
    let q : w * suc n ≡ w + w * n = omega (arith, mul-suc w n) in
    let p : w * suc i ≡ w * i + w = mul-suc w i in
    rw (turn_take w r (suc i) n, q, p, take-add w (w * n) (drop (w * i) r), drop-drop w (w * i) r)

module _ (ed : ℕ) (l : Lists) (ok : Clear ed l) where
  -- their return
  abbrev s : List ℕ
  s = written ed l

  -- block b, below as many as there are
  place : (b : ℕ) → b < blocks s → Where l b
  place b h = whereis l b kinds (omega arith) (omega (arith, blocks_there ed l ok))

  -- ---- rules 1 to 3

  length-kept : bad_length s ≡ false
  unfolding bad_length
  length-kept =
      let n = long ed l ok in
      let f = few_blocks ed l ok in
      rw (ne_eqb (length s) 0 (λ e. omega arith), le-ltb longest (length s) (omega arith), eq-eqb (length s % 512) 0 (omega arith))

  check-kept : (b : ℕ) → b < blocks s → bad_check s b ≡ false
  unfolding bad_check
  check-kept b h = rw (eq-eqb _ _ (read ed l ok b (place b h)).check)

  -- the edition has the kind of each block: a kind that it has not has no row
  allowed : (b : ℕ) (w : Where l b) → suc w.k ≤ last_kind ed
  allowed b w = go (dec_lt (last_kind ed) (suc w.k))
    where
      go : Dec (last_kind ed < suc w.k) → suc w.k ≤ last_kind ed
      go (yes z) =
          let n : rows_at w ≡ 0 = rw (ok.allows w.k w.kind z) (zero-div (numbers_of (suc w.k))) in
          absurd (omega (arith, nth_block ed l ok b w))
      go (no z) = omega arith

  pub edition_back : edition s 0 ≡ ed
  edition_back = (read ed l ok 0 (place 0 (omega (arith, blocks_there ed l ok, (few_blocks ed l ok).0)))).edition

  header_kept : (b : ℕ) → b < blocks s → bad_header s b ≡ false
  unfolding bad_header
  header_kept b h =
      let w = place b h in
      let r = read ed l ok b w in
      let k = kind_is ed l ok b w in
      let n = blocks_there ed l ok in
      rw (
        le-ltb (kind_of s b) 1 (omega arith),
        le-ltb (last_kind (edition s b)) (kind_of s b) (rw r.edition (omega (arith, allowed b w))),
        eq-eqb _ b r.number,
        eq-eqb _ (blocks s) (r.said ∙ sym n),
        lt-ltb 0 (last_kind (edition s b)) (rw r.edition ok.edition),
        eq-eqb (edition s b) (edition s 0) (r.edition ∙ sym edition_back),
      )

  -- ---- rule 4

  -- the blocks of kind k + 1 among the first m, and their rows
  abbrev Below : ℕ → ℕ → Type 0
  Below k m =
      let n = min m (start_of l (suc k)) - start_of l k in
      (blocks_below (suc k) s m ≡ n) × (count_below (suc k) s m ≡ min (rows_in (suc k) (length (of_kind l (suc k)))) (12 * n))

  below : (k m : ℕ) → m ≤ blocks s → k < kinds → Below k m
  unfolding blocks_below count_below
  below k zero h k₄ = (omega arith, omega arith)
  below k (suc m) h k₄ = go (place m h) (below k m (omega arith) k₄) (ℕ_discrete (place m h).k k)
    where
      go : (w : Where l m) → Below k m → Dec (w.k ≡ k) → Below k (suc m)
      go w b (yes q) =
          let t =
          subst (λ (x : ℕ). (start_of l x ≤ m) × (m < start_of l (suc x)) × (count_of s m ≡ min 12 (rows_in (suc x) (length (of_kind l (suc x))) - 12 * (m - start_of l x)))) q
          (w.from, w.below, count_is ed l ok m w) in
          let e = kind_is ed l ok m w ∙ ap suc q in
          let p = in_part m (start_of l k) (start_of l (suc k)) t.0 t.1 in (
            blocks-yes (suc k) s m e ∙ rw (p.1, b.0, p.0) (add-one (m - start_of l k)),
            count_yes (suc k) s m e ∙ rw (p.1, b.1, p.0, t.2) (twelve-more _ (m - start_of l k)),
          )
      go w b (no q) =
          let d : kind_of s m ≡ suc k → ⊥ = λ z. q (omega (arith, kind_is ed l ok m w)) in
          (blocks_no (suc k) s m d ∙ b.0 ∙ apart (dec_lt w.k k), count_no (suc k) s m d ∙ b.1 ∙ rw (apart (dec_lt w.k k)))
        where
          apart : Dec (w.k < k) → min m (start_of l (suc k)) - start_of l k ≡ min (suc m) (start_of l (suc k)) - start_of l k
          apart (yes z) = omega (arith, start_mono l (suc w.k) k z)
          apart (no z) = omega (arith, start_mono l (suc k) w.k (omega arith))

  -- what is known of block b: its kind, its count, its number among its kind's blocks, and where these stand
  module _ (b : ℕ) (h : b < blocks s) (w : Where l b) (kind : kind_of s b ≡ suc w.k) (before : earlier s b ≡ nth w)
      (count : count_of s b ≡ min 12 (rows_at w - 12 * nth w)) (nth_in : nth w < blocks_at l (suc w.k)) (rows : rows_at w ≤ 32)
      (next : start_of l (suc w.k) ≡ start_of l w.k + blocks_at l (suc w.k)) (all : blocks s ≡ start_of l kinds) where
    falls-kept : kind_falls s b ≡ false
    unfolding kind_falls
    falls-kept =
        let v = place (b - 1) (omega arith) in
        unless (ltb 0 b) (λ q. le-ltb (kind_of s b) (kind_of s (b - 1)) (omega (arith, kind_is ed l ok (b - 1) v, where_rises l v w (omega arith))))

    -- the parameters have one row, in one block
    alone : kind_of s b ≡ parameters_kind → (rows_at w ≡ 1) × (start_of l (parameters_kind - 1) ≤ b)
    alone e =
        let q : w.k ≡ parameters_kind - 1 = omega arith in
        (subst (λ (x : ℕ). rows_in (suc x) (length (of_kind l (suc x))) ≡ 1) (sym q) ok.one, subst (λ (x : ℕ). start_of l x ≤ b) q w.from)

    behind-kept : low_behind s b ≡ false
    unfolding low_behind
    behind-kept = unless _ (λ m. unless _ (λ e. lt-leb _ parameters_kind (next_up (ltb-true _ _ m) (eqb-true _ _ e))))
      where
        next_up : b + 1 < blocks s → kind_of s b ≡ parameters_kind → parameters_kind < kind_of s (b + 1)
        next_up m e = go (place (b + 1) m)
          where
            go : Where l (b + 1) → parameters_kind < kind_of s (b + 1)
            go v = up (dec_lt v.k parameters_kind)
              where
                up : Dec (v.k < parameters_kind) → parameters_kind < kind_of s (b + 1)
                up (yes z) = absurd (omega (arith, (alone e).1, one_block ed l ok, start_mono l (suc v.k) parameters_kind z))
                up (no z) = omega (arith, kind_is ed l ok (b + 1) v)

    ends-kept : ends_low s b ≡ false
    unfolding ends_low
    ends-kept = unless _ (λ q. le-ltb (kind_of s b) parameters_kind (up (eqb-true _ _ q) (dec_lt w.k (parameters_kind - 1))))
      where
        up : b + 1 ≡ blocks s → Dec (w.k < parameters_kind - 1) → parameters_kind ≤ kind_of s b
        up q (yes z) = absurd (omega (arith, one_block ed l ok, start_mono l (suc w.k) (parameters_kind - 1) z, start_mono l parameters_kind kinds parameters-kind))
        up q (no z) = omega arith

    led-kept : none_before s b ≡ false
    unfolding none_before
    led-kept = unless _ (λ q. ne_eqb _ 0 (one_led (ltb-true parameters_kind (kind_of s b) q)))
      where
        one_led : parameters_kind < kind_of s b → blocks_below parameters_kind s b ≡ 0 → ⊥
        one_led q z =
            omega (arith, one_block ed l ok, start_mono l parameters_kind w.k (omega arith), (below (parameters_kind - 1) b (omega arith) parameters-kind).0)

    count_kept : bad_count s b ≡ false
    unfolding bad_count
    count_kept =
        let n = count_of s b in
        or_of (or_of (le-ltb n 1 (omega arith)) (le-ltb 12 n (omega arith)))
        (implies (eqb (kind_of s b) parameters_kind) (λ q. eq-eqb n 1 (omega (arith, alone (eqb-true _ _ q)))))

    -- the next block is of its kind too
    full : b + 1 < blocks s → kind_of s (b + 1) ≡ kind_of s b → count_of s b ≡ 12
    full m e =
        let v = place (b + 1) m in
        let q : v.k ≡ w.k = omega (arith, kind_is ed l ok (b + 1) v) in
        let t : b + 1 < start_of l (suc w.k) = subst (λ (x : ℕ). b + 1 < start_of l (suc x)) q v.below in
        omega arith

    filled-kept : not_filled s b ≡ false
    unfolding not_filled
    filled-kept = unless _ (λ m. implies _ (λ e. eq-eqb _ 12 (full (ltb-true _ _ m) (eqb-true _ _ e))))

    over-kept : over_filled s b ≡ false
    over-kept = let n = earlier s b in unless (eqb n 2) (λ q. le-ltb 8 (count_of s b) (omega (arith, eqb-true n 2 q)))

    stray-kept : stray s b ≡ false
    unfolding stray
    stray-kept = or_of (any_none (stray_record s b) 12 (no_stray ed l ok b w)) (read ed l ok b w).zeros

    block_so : bad_block s b ≡ false
    unfolding bad_block
    block_so = simp (falls-kept, behind-kept, ends-kept, led-kept, lt-leb 3 (earlier s b) (omega arith), count_kept, filled-kept, over-kept, stray-kept)

  block_kept : (b : ℕ) → b < blocks s → bad_block s b ≡ false
  block_kept b h =
      let w = place b h in
      let e = kind_is ed l ok b w in
      let before : earlier s b ≡ nth w = rw e ((below w.k b (omega arith) w.kind).0 ∙ omega arith) in
      block_so b h w e before (count_is ed l ok b w) (nth_block ed l ok b w) (ok.few w.k w.kind) (start_next l w.k) (blocks_there ed l ok)

  -- ---- the rules of filed records

  places_there : (filed_lists l).places ≡ 12 * blocks s
  places_there = omega (arith, places-blocks ed l ok, blocks_there ed l ok)

  -- the records that are read are those that were written
  all_alike : Alike (filed_lists l) 0 (filed s) 0 (filed_lists l).places
  all_alike = record {
    at = λ j h.
        let e : 0 + j ≡ 12 * (j / 12) + j % 12 = omega arith in
        rw e (place_same ed l ok (j / 12) (place (j / 12) (omega (arith, places_there))) (j % 12) (omega arith));
  }

  records_there : AllKept (filed_rules (edition s 0) (filed s))
  records_there =
      rw edition_back
      (ruling-clean (sym (rules_same ed (filed_lists l) (filed s) all_alike places_there (solid_lists 1 l)) ∙ clean-ruling ok.records))

  pub accepted_back : verdict_of s ≡ Ok (counts_of s)
  unfolding block_rules Kept
  accepted_back = (accepted s).1 (more (λ p h. length-kept) (more check-kept (more header_kept (more block_kept records_there))))

  -- ---- the counts and the rows

  -- as many rows are read as were given
  pub counts_back : (k : ℕ) → k < kinds → row_count (suc k) s ≡ rows_in (suc k) (length (of_kind l (suc k)))
  counts_back k h =
      (below k (blocks s) (omega arith) h).1 ∙ omega (arith, blocks_there ed l ok, start_mono l (suc k) kinds h, start_next l k)

  -- and as many of scattered trees
  pub scattered_back : scattered_in (rows 2 s) ≡ scattered_in (filed_rows (filed_lists l) 2)
  scattered_back = ap scattered_in (sym (kind_same ed (filed_lists l) (filed s) all_alike places_there 2))

  start_is : (k : ℕ) → k < kinds → start_block (suc k) s ≡ start_of l k
  unfolding start_block start_of
  start_is zero h = refl
  start_is (suc k) h = ap₂ (λ (a n : ℕ). a + blocks_for n) (start_is k (omega arith)) (counts_back k (omega arith))

  -- the row at a place of a list
  row_is : (k i : ℕ) → k < kinds → i < rows_in (suc k) (length (of_kind l (suc k))) → (filed s).row (12 * start_of l k + i) ≡ row_of (suc k) (of_kind l (suc k)) (0 + i)
  unfolding filed_list
  row_is k i h m =
      let a = list_at l k (omega (arith, ok.each)) in
      let j : ℕ = 12 * start_of l k + i in
      let m' : i < 12 * blocks_at l (suc k) = omega arith in
      let u : (filed_lists l).used j ≡ true = (a.at i m').used ∙ rw (zero-add i) (lt-ltb i (rows_in (suc k) (length (of_kind l (suc k)))) m) in
      let top : j < (filed_lists l).places = omega (arith, places-blocks ed l ok, start_mono l (suc k) kinds h, start_next l k) in
      sym (rw (zero-add j) at ((all_alike.at j top).row (rw (zero-add j) u))) ∙ (a.at i m').row u

  kind_back : (k : ℕ) → k < kinds → rows_of s (suc k) ≡ of_kind l (suc k)
  kind_back k h =
      let r = of_kind l (suc k) in
      let n = rows_in (suc k) (length r) in
      let w = numbers_of (suc k) in
      ap flatten (rows_are s (counts_of s) (formed s (counts_of s) accepted_back) (suc k))
      ∙ flat_from (filed s) (start_place (suc k) s) (row_count (suc k) s)
      ∙ ap₂ (λ (j m : ℕ). in_turn (filed s).row j m) (ap (λ (x : ℕ). 12 * x) (start_is k h)) (counts_back k h)
      ∙ turn_same (filed s).row (row_of (suc k) r) (12 * start_of l k) 0 n (λ i m. row_is k i h m)
      ∙ turn_take w r 0 n
      ∙ rw (mul-zero w) (take_all (w * n) r (omega (arith, div-add-mod (length r) w, ok.whole k h)))

  lists_back : (n k : ℕ) → k + n ≡ kinds → lists_from s (suc k) n ≡ drop k l
  unfolding lists_from
  lists_back zero k h = sym (drop_of_length-le l {i = k} (omega (arith, ok.each)))
  lists_back (suc n) k h =
      rw (kind_back k (omega arith), lists_back n (suc k) (omega arith)) (sym (drop-cons l k [] (omega (arith, ok.each))))

  pub rows_back : row_lists s ≡ l
  rows_back = lists_back kinds 0 (omega arith)

  pub each_back : (k : ℕ) → k < kinds → rows (suc k) s ≡ rows_from (filed_list (suc k) (of_kind l (suc k))) 0 (rows_in (suc k) (length (of_kind l (suc k))))
  unfolding filed_list
  each_back k h =
      let r = of_kind l (suc k) in
      rows_are s (counts_of s) (formed s (counts_of s) accepted_back) (suc k)
      ∙ ap₂ (λ (j m : ℕ). rows_from (filed s) j m) (ap (λ (x : ℕ). 12 * x) (start_is k h)) (counts_back k h)
      ∙ from_same (filed s) (filed_list (suc k) r) (12 * start_of l k) 0 (rows_in (suc k) (length r)) (λ i m. row_is k i h m)
