-- The rows of a kind of an accepted return stand one after the other. Assumes nothing.
--     rows_stand    rows k s are the rows at row_count k s places from start_place k s on
--     row_at_lem        the row at such a place, by block and position
--     from_length, from_at    how many rows a run of places has, and each of them; from_same, each by its equal
--     in_line       rows of which each stands as far behind the first as there are before it; tally, how many there are before a place
use Prim.Native.Nat.{ℕ, zero, suc, ◌+◌, ◌*◌, ◌/◌, ◌%◌, ◌<◌, ◌≤◌, min}
use mathlib.Core.Path.{◌≡◌, refl, ap, ap₂, ◌∙◌}
use mathlib.Core.Bool.{Bool, true, false, cond, ◌&&◌, and-false}
use mathlib.Core.List.{List, [], ◌∷◌, ◌++◌, append-nil}
use native.Mathlib.Nat.{add-zero}
use native.Mathlib.Decide.{dec_lt}
use native.Mathlib.Numerals.{add-one}
use native.Mathlib.Omega.{arith}
use borrow.Author.Tests.{lt-ltb, le-ltb, ltb-true, eqb-true}
use lib.ListN.{length, get_or}
use lib.Dec.{ltb, eqb}
use Rattle.form.specs.Block.{blocks, kind_of, count_of}
use Rattle.form.specs.Records.{Filed, filed, rows_below}
use Rattle.form.specs.Verdict.{count_below, row_count, rows}
use Rattle.form.specs.Standing.{start_place, rows_from}
use Rattle.form.proofs.Tests.{and-true}
use Rattle.form.proofs.Places.{block_of_lem, position_of, row_in}
use Rattle.standing.proofs.Stand.{Ordered, full_at, at_start}

module _ (f : Filed) where
  pub from_snoc : (j n : ℕ) → rows_from f j (suc n) ≡ rows_from f j n ++ (f.row (j + n) ∷ [])
  unfolding rows_from
  from_snoc j zero = rw (add-zero j)
  from_snoc j (suc n) = let e : j + suc n ≡ suc j + n = omega arith in rw e (ap (λ (l : List (List ℕ)). f.row j ∷ l) (from_snoc (suc j) n))

  pub from_length : (j n : ℕ) → length (rows_from f j n) ≡ n
  unfolding rows_from
  from_length j zero = refl
  from_length j (suc n) = ap suc (from_length (suc j) n)

  pub from_at : (j n i : ℕ) → i < n → get_or (rows_from f j n) i [] ≡ f.row (j + i)
  unfolding rows_from
  from_at j zero i l = absurd (omega arith)
  from_at j (suc n) zero l = rw (add-zero j)
  from_at j (suc n) (suc i) l = let e : j + suc i ≡ suc j + i = omega arith in rw e (from_at (suc j) n i (omega arith))

  module _ (k : ℕ) where
    -- how many of the first n places hold a row of the kind
    unfoldable pub tally : ℕ → ℕ
    tally zero = 0
    tally (suc n) = tally n + cond (f.used n && eqb (f.kind n) k) 1 0

    -- rows of which each stands as far behind place i as there are before it
    pub in_line : (i n : ℕ) → ((j : ℕ) → j < n → (f.used j && eqb (f.kind j) k) ≡ true → j ≡ i + tally j) → rows_below f k n ≡ rows_from f i (tally n)
    unfolding rows_below rows_from tally
    in_line i zero h = refl
    in_line i (suc n) h = go (f.used n && eqb (f.kind n) k) (h n (omega arith)) (in_line i n (λ j l. h j (omega arith)))
      where
        go : (b : Bool) → (b ≡ true → n ≡ i + tally n) → rows_below f k n ≡ rows_from f i (tally n)
            → rows_below f k n ++ cond b (f.row n ∷ []) [] ≡ rows_from f i (tally n + cond b 1 0)
        go true e q = rw (q, add-one (tally n), from_snoc i (tally n), ← e refl)
        go false e q = rw (add-zero (tally n), append-nil (rows_below f k n)) q

-- the rows at places, each by its equal
pub from_same : (f g : Filed) (i j n : ℕ) → ((k : ℕ) → k < n → f.row (i + k) ≡ g.row (j + k)) → rows_from f i n ≡ rows_from g j n
unfolding rows_from
from_same f g i j zero h = refl
from_same f g i j (suc n) h =
    ap₂ (λ (x : List ℕ) (y : List (List ℕ)). x ∷ y)
    (rw (add-zero i, add-zero j) at (h 0 (omega arith)))
    (from_same f g (suc i) (suc j) n
    (λ k l.
    let a : suc i + k ≡ i + suc k = omega arith in
    let b : suc j + k ≡ j + suc k = omega arith in
    rw (a, b) (h (suc k) (omega arith))))

-- one place more of a block with c rows, of the kind or not
one_more : (e : Bool) (r c : ℕ) → min r (cond e c 0) + cond (ltb r c && e) 1 0 ≡ min (suc r) (cond e c 0)
one_more false r c = rw (and-false (ltb r c)) (omega arith)
one_more true r c = go (dec_lt r c)
  where
    go : Dec (r < c) → min r c + cond (ltb r c && true) 1 0 ≡ min (suc r) c
    go (yes l) = rw (lt-ltb r c l) (omega arith)
    go (no l) = rw (le-ltb r c (omega arith)) (omega arith)

capped : (e : Bool) (c : ℕ) → c ≤ 12 → min 12 (cond e c 0) ≡ cond e c 0
capped true c h = omega arith
capped false c h = omega arith

pub row_at_lem : (s : List ℕ) (b r : ℕ) → r < 12 → (filed s).row (12 * b + r) ≡ row_in s b r
row_at_lem s b r l = rw (block_of_lem b r l, position_of b r l)

module _ (s : List ℕ) (o : Ordered s (blocks s)) (k : ℕ) where
  -- the places of the first b blocks, and r more
  places_in : (b r : ℕ) → r ≤ 12 → tally (filed s) k (12 * b + r) ≡ tally (filed s) k (12 * b) + min r (cond (eqb (kind_of s b) k) (count_of s b) 0)
  unfolding tally
  places_in b zero l = rw (add-zero (12 * b)) (omega arith)
  places_in b (suc r) l =
      let z : 12 * b + suc r ≡ suc (12 * b + r) = omega arith in
      rw (z, places_in b r (omega arith), block_of_lem b r l, position_of b r l) (omega (arith, one_more (eqb (kind_of s b) k) r (count_of s b)))

  places_of : (m : ℕ) → m ≤ blocks s → tally (filed s) k (12 * m) ≡ count_below k s m
  unfolding tally count_below
  places_of zero l = refl
  places_of (suc m) l =
      let z : 12 * suc m ≡ 12 * m + 12 = omega arith in
      rw (z, places_in m 12 (omega arith), places_of m (omega arith), capped (eqb (kind_of s m) k) (count_of s m) (o m l).twelve)

  -- THE LAW by which a sheet is a plain loop
  pub rows_stand : rows k s ≡ rows_from (filed s) (start_place k s) (row_count k s)
  rows_stand = in_line (filed s) k (start_place k s) (12 * blocks s) stands ∙ ap (rows_from (filed s) (start_place k s)) (places_of (blocks s) (omega arith))
    where
      stands : (j : ℕ) → j < 12 * blocks s → ((filed s).used j && eqb ((filed s).kind j) k) ≡ true → j ≡ start_place k s + tally (filed s) k j
      stands j h e =
          let l : j / 12 < blocks s = omega arith in
          let a = and-true (ltb (j % 12) (count_of s (j / 12))) (eqb (kind_of s (j / 12)) k) e in
          let q = eqb-true (kind_of s (j / 12)) k a.1 in
          let w : 12 * (j / 12) + j % 12 ≡ j = omega arith in
          let t = rw (w, a.1, places_of (j / 12) (omega arith)) at (places_in (j / 12) (j % 12) (omega arith)) in
          omega (arith, ltb-true (j % 12) (count_of s (j / 12)) a.0, at_start s o k (j / 12) l q, full_at s o k (j / 12) l q)
