-- The lines that are rows, in their order, kind after kind. Assumes nothing.
--     rows_of                 the lines that are not passed over; rows-said, rows-counted, rows-place: what they say, how many they are, where they stand
--     said_by, flat, many     what one says, what all say, and how many are of a kind
--     Rising                 kinds that never fall
--     Split, split           so the rows of the lowest kind come first, and the others behind them
use Prim.Native.Nat.{ℕ, zero, suc, ◌+◌, ◌*◌, ◌≤◌, ◌<◌}
use mathlib.Core.Path.{◌≡◌, refl, sym, ap, subst, ◌∙◌}
use mathlib.Core.Bool.{Bool, true, false, cond}
use mathlib.Core.List.{List, [], ◌∷◌, ◌++◌}
use native.Mathlib.Nat.{mul-zero, mul-suc}
use native.Mathlib.Omega.{arith}
use borrow.Author.Tests.{eqb-true, eqb-false, ne_eqb}
use lib.Dec.{eqb}
use lib.ListN.{length, get_or, take, drop, length-append}
use lib.Seq.{drop-append-add, take_at}
use Rattle.form.specs.Layout.{numbers_of}
use Rattle.rowtext.specs.Said.{numbers_said}
use Rattle.rowtext.proofs.Laws.{first-length}
use Rattle.heads.specs.Heads.{is_passed}
use Rattle.texts.specs.Texts.{kind_in}
use Rattle.texts.specs.Steps.{said_in, count_in}

module _ (sep : ℕ) where
  unfoldable pub rows_of : List (List ℕ) → List (List ℕ)
  rows_of [] = []
  rows_of (l ∷ ls) = cond (is_passed sep l) (rows_of ls) (l ∷ rows_of ls)

  abbrev pub said_by : List ℕ → List ℕ
  said_by l = numbers_said sep (kind_in sep l) l

  unfoldable pub flat : List (List ℕ) → List ℕ
  flat [] = []
  flat (l ∷ rs) = said_by l ++ flat rs

  unfoldable pub many : ℕ → List (List ℕ) → ℕ
  many k [] = 0
  many k (l ∷ rs) = cond (eqb (kind_in sep l) k) (suc (many k rs)) (many k rs)

  -- none below k, and none below one before it
  abbrev pub Rising : ℕ → List (List ℕ) → Type 0
  Rising k [] = Unit {0}
  Rising k (l ∷ rs) = (k ≤ kind_in sep l) × Rising (kind_in sep l) rs

  -- ---- among all lines

  pub rows-said : (ls : List (List ℕ)) → said_in sep ls ≡ flat (rows_of ls)
  unfolding said_in flat rows_of
  rows-said [] = refl
  rows-said (l ∷ ls) = by (is_passed sep l) (rows-said ls)
    where
      by : (p : Bool) → said_in sep ls ≡ flat (rows_of ls) → cond p (said_in sep ls) (said_by l ++ said_in sep ls) ≡ flat (cond p (rows_of ls) (l ∷ rows_of ls))
      by true e = e
      by false e = ap (λ (x : List ℕ). said_by l ++ x) e

  pub rows-counted : (ls : List (List ℕ)) → count_in sep ls ≡ length (rows_of ls)
  unfolding count_in rows_of
  rows-counted [] = refl
  rows-counted (l ∷ ls) = by (is_passed sep l) (rows-counted ls)
    where
      by : (p : Bool) → count_in sep ls ≡ length (rows_of ls) → cond p (count_in sep ls) (suc (count_in sep ls)) ≡ length (cond p (rows_of ls) (l ∷ rows_of ls))
      by true e = e
      by false e = ap suc e

  -- a line that counts, by how many such lines stand before it
  pub rows-place : (ls : List (List ℕ)) (i : ℕ) → i < length ls → is_passed sep (get_or ls i []) ≡ false → get_or (rows_of ls) (count_in sep (take i ls)) [] ≡ get_or ls i []
  unfolding count_in rows_of
  rows-place [] i h c = absurd (omega arith)
  rows-place (l ∷ ls) zero h c = rw c
  rows-place (l ∷ ls) (suc i) h c = by (is_passed sep l) (rows-place ls i (omega arith) c)
    where
      by : (p : Bool) → get_or (rows_of ls) (count_in sep (take i ls)) [] ≡ get_or ls i []
          → get_or (cond p (rows_of ls) (l ∷ rows_of ls)) (cond p (count_in sep (take i ls)) (suc (count_in sep (take i ls)))) [] ≡ get_or ls i []
      by true e = e
      by false e = e

  -- ---- the rows of the lowest kind, and the others

  many_none : (j k : ℕ) (rs : List (List ℕ)) → k < j → Rising j rs → many k rs ≡ 0
  unfolding many
  many_none j k [] h r = refl
  many_none j k (l ∷ rs) h r =
      let n : eqb (kind_in sep l) k ≡ false = ne_eqb (kind_in sep l) k (λ z. omega (arith, z, h, r.0)) in
      rw n (many_none (kind_in sep l) k rs (omega (arith, h, r.0)) r.1)

  -- the first c rows are of kind k, each where it stands in the numbers; the others are of kinds above it
  pub record Split (k c : ℕ) (rs : List (List ℕ)) : Type 0 where
    pub inside : c ≤ length rs
    pub long : numbers_of k * c ≤ length (flat rs)
    pub rest : flat (drop c rs) ≡ drop (numbers_of k * c) (flat rs)
    pub above : Rising (suc k) (drop c rs)
    pub others : (m : ℕ) → k < m → many m (drop c rs) ≡ many m rs
    pub each : (i : ℕ) → i < c → (kind_in sep (get_or rs i []) ≡ k) × (take (numbers_of k) (drop (numbers_of k * i) (flat rs)) ≡ said_by (get_or rs i []))

  none_split : (k : ℕ) (rs : List (List ℕ)) → Rising (suc k) rs → Split k 0 rs
  none_split k rs r = record {
    inside = omega arith;
    long = omega (arith, mul-zero (numbers_of k));
    rest = ap (λ (n : ℕ). drop n (flat rs)) (sym (mul-zero (numbers_of k)));
    above = r;
    others = λ m h. refl;
    each = λ i h. absurd (omega arith);
  }

  -- a row of kind k more in front
  one_split : (k c : ℕ) (l : List ℕ) (rs : List (List ℕ)) → kind_in sep l ≡ k → Split k c rs → Split k (suc c) (l ∷ rs)
  unfolding many flat
  one_split k c l rs e w = record {
    inside = omega (arith, w.inside);
    long = omega (arith, w.long, said-long, mul-suc (numbers_of k) c, length-append (said_by l) (flat rs));
    rest = w.rest ∙ sym (past c);
    above = w.above;
    others = λ m h. w.others m h ∙ sym (another m h);
    each = each_row;
  }
    where
      said-long : length (said_by l) ≡ numbers_of k
      said-long = first-length sep (kind_in sep l) l (numbers_of (kind_in sep l)) ∙ ap numbers_of e

      past : (i : ℕ) → drop (numbers_of k * suc i) (said_by l ++ flat rs) ≡ drop (numbers_of k * i) (flat rs)
      past i =
          let n : numbers_of k * suc i ≡ length (said_by l) + numbers_of k * i = omega (arith, mul-suc (numbers_of k) i, said-long) in
          ap (λ (x : ℕ). drop x (said_by l ++ flat rs)) n ∙ drop-append-add (said_by l) (flat rs) (numbers_of k * i)

      another : (m : ℕ) → k < m → cond (eqb (kind_in sep l) m) (suc (many m rs)) (many m rs) ≡ many m rs
      another m h = let n : eqb (kind_in sep l) m ≡ false = ne_eqb (kind_in sep l) m (λ z. omega (arith, z, h, e)) in rw n

      each_row : (i : ℕ) → i < suc c
          → (kind_in sep (get_or (l ∷ rs) i []) ≡ k) × (take (numbers_of k) (drop (numbers_of k * i) (said_by l ++ flat rs)) ≡ said_by (get_or (l ∷ rs) i []))
      each_row zero h = (
        e,
        ap (λ (x : ℕ). take (numbers_of k) (drop x (said_by l ++ flat rs))) (mul-zero (numbers_of k)) ∙ take_at (said_by l) (flat rs) (numbers_of k) said-long,
      )
      each_row (suc i) h = let a = w.each i (omega arith) in (a.0, ap (take (numbers_of k)) (past i) ∙ a.1)

  pub split : (k : ℕ) (rs : List (List ℕ)) → Rising k rs → Split k (many k rs) rs
  unfolding many
  split k [] r = none_split k [] tt
  split k (l ∷ rs) r = by (eqb (kind_in sep l) k) refl (λ z. split k rs z)
    where
      by : (q : Bool) → eqb (kind_in sep l) k ≡ q → (Rising k rs → Split k (many k rs) rs) → Split k (cond q (suc (many k rs)) (many k rs)) (l ∷ rs)
      by true q more =
          let e = eqb-true (kind_in sep l) k q in
          one_split k (many k rs) l rs e (more (subst (λ (x : ℕ). Rising x rs) e r.1))
      by false q more =
          let n : kind_in sep l ≡ k → ⊥ = eqb-false (kind_in sep l) k q in
          let z : many k rs ≡ 0 = many_none (kind_in sep l) k rs (omega (arith, n, r.0)) r.1 in
          subst (λ (c : ℕ). Split k c (l ∷ rs)) (sym z) (none_split k (l ∷ rs) (omega (arith, n, r.0), r.1))
