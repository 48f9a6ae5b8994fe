-- How the blocks and rows of an accepted return stand: the kinds in order, each kind's blocks full but its last, its rows one after the other.
-- Assumes nothing.
--     headed        what rule 3 says of a block; ordered, what rules 3 and 4 say of each, as plain facts
--     start_all     the blocks of all kinds are all there are
--     at_start      a block's number is its kind's first block plus how many of its kind come before it
--     needed        a kind takes as many blocks as its rows need, at most three, for at most 32 rows
--     kind_in, count_in    the kind and the count of a block, by its number; lying, where a kind's rows stand; only_row, of parameters there is one
use Prim.Native.Nat.{ℕ, zero, suc, ◌+◌, ◌-◌, ◌*◌, ◌/◌, ◌%◌, ◌<◌, ◌≤◌, min}
use mathlib.Core.Path.{◌≡◌, refl, sym, ap, ◌∙◌}
use mathlib.Core.Bool.{false, not, ◌&&◌}
use mathlib.Core.List.{List, [], ◌∷◌}
use native.Mathlib.Nat.{add-zero}
use native.Mathlib.Decide.{dec_lt, ℕ_discrete}
use native.Mathlib.Numerals.{add-one}
use native.Mathlib.Omega.{arith}
use borrow.Author.Tests.{lt-ltb, eq-eqb, ne_eqb, ltb-true, ltb-false, leb-true, leb-false, eqb-false, not-false}
use lib.Dec.{ltb, leb, eqb}
use Rattle.form.specs.First.{first}
use Rattle.form.specs.Block.{blocks, kind_of, count_of, block_number, blocks_said, edition, blocks_below, bad_header, kind_falls, low_behind, ends_low, none_before, fourth_of_kind, bad_count, not_filled, over_filled, stray, bad_block}
use Rattle.form.specs.Layout.{kinds, parameters_kind}
use Rattle.form.specs.Edition.{last_kind}
use Rattle.form.specs.Verdict.{block_rules, count_below, row_count}
use Rattle.form.specs.Standing.{blocks_for, start_block}
use Rattle.std.specs.Prelude.{None, Option, Some}
use Rattle.form.proofs.Search.{Says, first_says}
use Rattle.form.proofs.Order.{AllKept, Kept, none, more}
use Rattle.form.proofs.Tests.{all_fail, same_of, and_rest}
use Rattle.form.proofs.EachKind.{last-kinds}

-- what rule 3 says of a block, test by test
pub record Headed (s : List ℕ) (b : ℕ) : Type 0 where
  pub low : 1 ≤ kind_of s b
  pub high : kind_of s b ≤ last_kind (edition s b)
  pub number : block_number s b ≡ b
  pub said : blocks_said s b ≡ blocks s
  pub alike : edition s b ≡ edition s 0
  pub edition : 0 < last_kind (edition s b)

pub headed : (s : List ℕ) (b : ℕ) → bad_header s b ≡ false → Headed s b
unfolding bad_header
headed s b e =
    let k = kind_of s b in
    let last = last_kind (edition s b) in
    let f = all_fail (ltb k 1) (ltb last k ∷ not (eqb (block_number s b) b) ∷ not (eqb (blocks_said s b) (blocks s)) ∷ not (ltb 0 last) ∷ not (eqb (edition s b) (edition s 0)) ∷ []) e in
    let h = ltb-true 0 last (not-false _ f.1.1.1.1.0) in
    omega (arith, ltb-false, same_of)

-- what rules 3 and 4 say of block b of n, as plain facts
pub record Fine (s : List ℕ) (n b : ℕ) : Type 0 where
  pub low : 1 ≤ kind_of s b
  pub high : kind_of s b ≤ kinds
  pub rises : (a : ℕ) → suc a ≡ b → kind_of s a ≤ kind_of s b
  pub ends : suc b ≡ n → parameters_kind ≤ kind_of s b
  pub led : parameters_kind < kind_of s b → blocks_below parameters_kind s b ≡ 0 → ⊥
  pub third : blocks_below (kind_of s b) s b < 3
  pub some : 1 ≤ count_of s b
  pub twelve : count_of s b ≤ 12
  pub one : kind_of s b ≡ parameters_kind → count_of s b ≡ 1
  pub filled : suc b < n → kind_of s (suc b) ≡ kind_of s b → count_of s b ≡ 12
  pub few : 12 * blocks_below (kind_of s b) s b + count_of s b ≤ 32

-- a kind's third block has at most eight rows: with those before it at most 32
most : (e c : ℕ) → e < 3 → c ≤ 12 → (eqb e 2 && ltb 8 c) ≡ false → 12 * e + c ≤ 32
most zero c t h f = omega arith
most (suc zero) c t h f = omega arith
most (suc (suc e)) c t h f = let q : suc (suc e) ≡ 2 = omega arith in omega (arith, ltb-false 8 c (and_rest _ _ (eq-eqb (suc (suc e)) 2 q) f))

fine : (s : List ℕ) (b : ℕ) → Headed s b → bad_block s b ≡ false → Fine s (blocks s) b
unfolding bad_block kind_falls ends_low none_before bad_count not_filled
fine s b h e =
    let k = kind_of s b in
    let f = all_fail (kind_falls s b) (low_behind s b ∷ ends_low s b ∷ none_before s b ∷ fourth_of_kind s b ∷ bad_count s b ∷ not_filled s b ∷ over_filled s b ∷ stray s b ∷ []) e in
    let c = all_fail (ltb (count_of s b) 1) (ltb 12 (count_of s b) ∷ (eqb k parameters_kind && not (eqb (count_of s b) 1)) ∷ []) f.1.1.1.1.1.0 in
    let next : b + 1 ≡ suc b = add-one b in
    record {
      low = h.low;
      high = omega (arith, last-kinds (edition s b));
      rises = λ a q. let p : b - 1 ≡ a = omega arith in rw p at (ltb-false k _ (and_rest _ _ (lt-ltb 0 b (omega arith)) f.0));
      ends = λ q. ltb-false k parameters_kind (and_rest _ _ (eq-eqb (b + 1) (blocks s) (next ∙ q)) f.1.1.0);
      led = λ q. eqb-false _ 0 (and_rest _ _ (lt-ltb parameters_kind k q) f.1.1.1.0);
      third = leb-false 3 _ f.1.1.1.1.0;
      some = ltb-false (count_of s b) 1 c.0;
      twelve = ltb-false 12 (count_of s b) c.1.0;
      one = λ q. same_of (count_of s b) 1 (and_rest _ _ (eq-eqb k parameters_kind q) c.1.1.0);
      filled = λ l q. same_of (count_of s b) 12 (and_rest _ _ (eq-eqb _ k (ap (kind_of s) next ∙ q)) (and_rest _ _ (lt-ltb (b + 1) (blocks s) (omega arith)) f.1.1.1.1.1.1.0));
      few = most _ (count_of s b) (leb-false 3 _ f.1.1.1.1.0) (ltb-false 12 (count_of s b) c.1.0) f.1.1.1.1.1.1.1.0;
    }

abbrev pub Ordered : List ℕ → ℕ → Type 0
Ordered s n = (b : ℕ) → b < n → Fine s n b

pub ordered : (s : List ℕ) → AllKept (block_rules s) → Ordered s (blocks s)
unfolding block_rules Kept
ordered s (more h₁ (more h₂ (more h₃ (more h₄ none)))) = λ b l. fine s b (headed s b (h₃ b l)) (h₄ b l)

-- where row i of a kind stands
pub record Lies (s : List ℕ) (k i : ℕ) : Type 0 where
  pub below : start_block k s + i / 12 < blocks s
  pub kind : kind_of s (start_block k s + i / 12) ≡ k
  pub used : i % 12 < count_of s (start_block k s + i / 12)

-- ---- one block more, of the kind or not

module _ (k : ℕ) (s : List ℕ) (m : ℕ) where
  pub blocks-yes : kind_of s m ≡ k → blocks_below k s (suc m) ≡ blocks_below k s m + 1
  unfolding blocks_below
  blocks-yes e = rw (eq-eqb (kind_of s m) k e)

  pub blocks_no : (kind_of s m ≡ k → ⊥) → blocks_below k s (suc m) ≡ blocks_below k s m
  unfolding blocks_below
  blocks_no h = rw (ne_eqb (kind_of s m) k h) (omega arith)

-- ---- the blocks of a kind stand between two cuts

module _ (s : List ℕ) (o : Ordered s (blocks s)) where
  -- kinds never fall
  kinds_rise : (a b : ℕ) → a ≤ b → b < blocks s → kind_of s a ≤ kind_of s b
  kinds_rise a zero h l = let e : a ≡ 0 = omega arith in rw e (omega arith)
  kinds_rise a (suc b) h l = go (λ g. kinds_rise a b g (omega arith)) (ℕ_discrete a (suc b))
    where
      go : (a ≤ b → kind_of s a ≤ kind_of s b) → Dec (a ≡ suc b) → kind_of s a ≤ kind_of s (suc b)
      go r (yes e) = rw e (omega arith)
      go r (no d) = omega (arith, r (omega arith), (o (suc b) l).rises b refl)

  -- the first block of kind k or above, or their number: there the blocks of the kinds below k end
  abbrev place : Option ℕ → ℕ
  place (Some i) = i
  place None = blocks s

  abbrev cut : ℕ → ℕ
  cut k = place (first (λ b. leb k (kind_of s b)) (blocks s))

  record Parted (k v : ℕ) : Type 0 where
    end : v ≤ blocks s
    below : (b : ℕ) → b < v → kind_of s b < k
    above : (b : ℕ) → v ≤ b → b < blocks s → k ≤ kind_of s b

  parted : (k : ℕ) → Parted k (cut k)
  parted k = go (first (λ b. leb k (kind_of s b)) (blocks s)) (first_says (λ b. leb k (kind_of s b)) (blocks s))
    where
      go : (t : Option ℕ) → Says (λ b. leb k (kind_of s b)) (blocks s) t → Parted k (place t)
      go (Some i) h = record {
        end = omega arith;
        below = λ b l. leb-false k (kind_of s b) (h.2 b l);
        above = λ b g l. omega (arith, leb-true k (kind_of s i) h.1, kinds_rise i b g l);
      }
      go None h = record { end = omega arith; below = λ b l. leb-false k (kind_of s b) (h b l); above = λ b g l. absurd (omega arith) }

  -- of the first m blocks, those between its cuts are of a kind
  blocks_are : (k m : ℕ) → m ≤ blocks s → blocks_below k s m + min m (cut k) ≡ min m (cut (suc k))
  unfolding blocks_below
  blocks_are k zero l = omega arith
  blocks_are k (suc m) l = go (blocks_are k m (omega arith)) (dec_lt m (cut k)) (dec_lt m (cut (suc k)))
    where
      go : blocks_below k s m + min m (cut k) ≡ min m (cut (suc k)) → Dec (m < cut k) → Dec (m < cut (suc k))
          → blocks_below k s (suc m) + min (suc m) (cut k) ≡ min (suc m) (cut (suc k))
      go h (yes a) (yes b) = omega (arith, blocks_no k s m (omega (arith, (parted k).below m a)))
      go h (yes a) (no b) = absurd (omega (arith, (parted k).below m a, (parted (suc k)).above m (omega arith) l))
      go h (no a) (yes b) = omega (arith, blocks-yes k s m (omega (arith, (parted k).above m (omega arith) l, (parted (suc k)).below m b)))
      go h (no a) (no b) = omega (arith, blocks_no k s m (omega (arith, (parted (suc k)).above m (omega arith) l)))

  between : (k b : ℕ) → b < blocks s → kind_of s b ≡ k → (cut k ≤ b) × (b < cut (suc k)) × (b ≡ cut k + blocks_below k s b)
  between k b l e = go (dec_lt b (cut k)) (dec_lt b (cut (suc k)))
    where
      go : Dec (b < cut k) → Dec (b < cut (suc k)) → (cut k ≤ b) × (b < cut (suc k)) × (b ≡ cut k + blocks_below k s b)
      go (yes h) d = absurd (omega (arith, (parted k).below b h))
      go (no h) (no g) = absurd (omega (arith, (parted (suc k)).above b (omega arith) l))
      go (no h) (yes g) = omega (arith, blocks_are k b (omega arith))

  kind_between : (k b : ℕ) → cut k ≤ b → b < cut (suc k) → (b < blocks s) × (kind_of s b ≡ k)
  kind_between k b lo hi =
      let l : b < blocks s = omega (arith, (parted (suc k)).end) in
      (l, omega (arith, (parted k).above b lo l, (parted (suc k)).below b hi))

  -- the rows in the first d blocks of a kind: all but the last are full
  unfoldable rows_in : ℕ → ℕ → ℕ
  rows_in k zero = 0
  rows_in k (suc d) = 12 * d + count_of s (cut k + d)

  full : (k d : ℕ) → cut k + d < cut (suc k) → rows_in k d ≡ 12 * d
  unfolding rows_in
  full k zero h = refl
  full k (suc d) h =
      let p = kind_between k (cut k + d) (omega arith) (omega arith) in
      let q = kind_between k (suc (cut k + d)) (omega arith) (omega arith) in
      omega (arith, (o (cut k + d) p.0).filled q.0 (q.1 ∙ sym p.1))

  counts_are : (k m : ℕ) → m ≤ blocks s → count_below k s m ≡ rows_in k (blocks_below k s m)
  unfolding count_below blocks_below rows_in
  counts_are k zero l = refl
  counts_are k (suc m) l = go (counts_are k m (omega arith)) (ℕ_discrete (kind_of s m) k)
    where
      go : count_below k s m ≡ rows_in k (blocks_below k s m) → Dec (kind_of s m ≡ k) → count_below k s (suc m) ≡ rows_in k (blocks_below k s (suc m))
      go h (yes e) = let b = between k m l e in rw (eq-eqb (kind_of s m) k e, add-one (blocks_below k s m), h, full k (blocks_below k s m) (omega arith), ← b.2)
      go h (no d) = rw (ne_eqb (kind_of s m) k d, add-zero, add-zero) h

  pub full_at : (k m : ℕ) → m < blocks s → kind_of s m ≡ k → count_below k s m ≡ 12 * blocks_below k s m
  full_at k m l e = counts_are k m (omega arith) ∙ full k (blocks_below k s m) (omega (arith, between k m l e))

  -- a kind takes just the blocks that its rows need, at most three, and has at most 32 rows
  pub record Needed (k m : ℕ) : Type 0 where
    pub lower : count_below k s m ≤ 12 * blocks_below k s m
    pub upper : 12 * blocks_below k s m ≤ count_below k s m + 11
    pub three : blocks_below k s m ≤ 3
    pub rows : count_below k s m ≤ 32

  pub needed : (k m : ℕ) → m ≤ blocks s → Needed k m
  unfolding rows_in
  needed k m l = go (blocks_below k s m) refl
    where
      go : (d : ℕ) → blocks_below k s m ≡ d → Needed k m
      go zero e = let c : count_below k s m ≡ 0 = counts_are k m l ∙ ap (rows_in k) e in omega arith
      go (suc d) e =
          let c : count_below k s m ≡ 12 * d + count_of s (cut k + d) = counts_are k m l ∙ ap (rows_in k) e in
          let i : cut k + d < cut (suc k) = omega (arith, blocks_are k m l) in
          let p = kind_between k (cut k + d) (omega arith) i in
          let f = o (cut k + d) p.0 in
          let q = between k (cut k + d) p.0 p.1 in
          omega (arith, rw p.1 at f.third, rw p.1 at f.few)

  -- a kind takes the blocks that its rows need
  kind-blocks : (k : ℕ) → cut k + blocks_for (row_count k s) ≡ cut (suc k)
  kind-blocks k = let w = needed k (blocks s) (omega arith) in omega (arith, blocks_are k (blocks s) (omega arith), (parted k).end, (parted (suc k)).end)

  first-cut : (k : ℕ) → k ≤ 1 → cut k ≡ 0
  first-cut k h = go (dec_lt 0 (cut k))
    where
      go : Dec (0 < cut k) → cut k ≡ 0
      go (yes l) = absurd (omega (arith, (parted k).below 0 l, (o 0 (omega (arith, (parted k).end))).low))
      go (no l) = omega arith

  -- a kind's first block comes behind the blocks of the kinds before it
  start_is : (k : ℕ) → start_block k s ≡ cut k
  unfolding start_block
  start_is zero = sym (first-cut 0 (omega arith))
  start_is (suc zero) = sym (first-cut 1 (omega arith))
  start_is (suc (suc k)) = omega (arith, start_is (suc k), kind-blocks (suc k))

  -- the blocks of all kinds are all there are
  pub start_all : start_block (suc kinds) s ≡ blocks s
  start_all = start_is (suc kinds) ∙ go (dec_lt (cut (suc kinds)) (blocks s))
    where
      go : Dec (cut (suc kinds) < blocks s) → cut (suc kinds) ≡ blocks s
      go (yes l) = absurd (omega (arith, (parted (suc kinds)).above (cut (suc kinds)) (omega arith) l, (o (cut (suc kinds)) l).high))
      go (no l) = omega (arith, (parted (suc kinds)).end)

  -- a block's number is its kind's first block plus how many of its kind come before it
  pub at_start : (k b : ℕ) → b < blocks s → kind_of s b ≡ k → b ≡ start_block k s + blocks_below k s b
  at_start k b l e = omega (arith, start_is k, (between k b l e).2)

  pub start_le : (j k : ℕ) → j ≤ k → start_block j s ≤ start_block k s
  start_le j k h = go (dec_lt (cut k) (cut j))
    where
      go : Dec (cut k < cut j) → start_block j s ≤ start_block k s
      go (yes l) =
          absurd (omega (arith, (parted j).below (cut k) l, (parted k).above (cut k) (omega arith) (omega (arith, (parted j).end))))
      go (no l) = omega (arith, start_is j, start_is k)

  -- the blocks from a kind's first to the next kind's first are of that kind
  pub kind_in : (k b : ℕ) → start_block (suc k) s ≤ b → b < start_block (suc (suc k)) s → k < kinds → kind_of s b ≡ suc k
  kind_in k b lo hi below = (kind_between (suc k) b (omega (arith, start_is (suc k))) (omega (arith, start_is (suc (suc k))))).1

  -- a block holds twelve of its kind's rows, or what is left of them
  pub count_in : (k b : ℕ) → b < blocks s → kind_of s b ≡ k → count_of s b ≡ min 12 (row_count k s - 12 * blocks_below k s b)
  unfolding rows_in
  count_in k b l e = go (between k b l e) (blocks_are k (blocks s) (omega arith)) (dec_lt (suc b) (cut (suc k)))
    where
      go : (cut k ≤ b) × (b < cut (suc k)) × (b ≡ cut k + blocks_below k s b)
          → blocks_below k s (blocks s) + min (blocks s) (cut k) ≡ min (blocks s) (cut (suc k)) → Dec (suc b < cut (suc k))
          → count_of s b ≡ min 12 (row_count k s - 12 * blocks_below k s b)
      go p a (yes h) =
          let q = kind_between k (suc b) (omega arith) h in
          omega (arith, (parted k).end, (o b l).filled q.0 (q.1 ∙ sym e), (needed k (blocks s) (omega arith)).upper)
      go p a (no h) =
          let f : blocks_below k s (blocks s) ≡ suc (blocks_below k s b) = omega (arith, (parted (suc k)).end) in
          let c : row_count k s ≡ 12 * blocks_below k s b + count_of s b = rw (f, ← p.2) at (counts_are k (blocks s) (omega arith)) in
          omega (arith, (o b l).twelve)

  -- row i of a kind stands in one of the kind's blocks, in a used record
  pub lying : (k i : ℕ) → i < row_count k s → Lies s k i
  lying k i l =
      let p = kind_between k (start_block k s + i / 12) (omega (arith, start_is k)) (omega (arith, start_is k, kind-blocks k)) in
      let q = at_start k (start_block k s + i / 12) p.0 p.1 in
      record { below = p.0; kind = p.1; used = omega (arith, count_in k (start_block k s + i / 12) p.0 p.1) }

  -- one row of parameters: in the first block of their kind or a later one
  pub only_row : 0 < blocks s → row_count parameters_kind s ≡ 1
  only_row some = go (dec_lt b (blocks s)) (ℕ_discrete (kind_of s b) parameters_kind)
    where
      b : ℕ
      b = cut parameters_kind

      p : Parted parameters_kind b
      p = parted parameters_kind

      go : Dec (b < blocks s) → Dec (kind_of s b ≡ parameters_kind) → row_count parameters_kind s ≡ 1
      go (yes l) (yes e) = omega (arith, count_in parameters_kind b l e, between parameters_kind b l e, (o b l).one e)
      go (yes l) (no d) =
          absurd ((o b l).led (omega (arith, p.above b (omega arith) l)) (omega (arith, blocks_are parameters_kind b (omega arith))))
      go (no l) d =
          let m : blocks s - 1 < blocks s = omega arith in
          absurd (omega (arith, (o (blocks s - 1) m).ends (omega arith), p.below (blocks s - 1) (omega (arith, p.end))))
