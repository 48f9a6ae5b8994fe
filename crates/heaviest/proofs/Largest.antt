-- What the heaviest of some rows is, for any rows and any part; and of an accepted return. Assumes nothing.
--     heaviest_is_row     a part that is not 0 is that of one of the rows, with its id
--     heaviest-largest    no row has a larger part
--     heaviest-lowest     no row with the same part has a lower id, where the ids rise
--     heaviest-zero       the part is 0 just where the sum of the parts is
--     heaviest_weighs     all of it, of an accepted return; onsite_weighs, offsite_weighs, decay_weighs, of the three
--     weighs_one          only one part is so, and where it is not 0 only one id
use Prim.Native.Nat.{ℕ, zero, suc, ◌+◌, ◌<◌, ◌≤◌}
use mathlib.Core.Path.{◌≡◌, refl, sym, ap, subst, ◌∙◌}
use mathlib.Core.Logic.{◌↔◌, ◌⊎◌, inl, inr, ⊎_elim}
use mathlib.Core.List.{List, []}
use native.Mathlib.Nat.{eq-or-lt_of_le, le_of_suc-le-suc}
use native.Mathlib.Decide.{dec_lt}
use native.Mathlib.Omega.{arith}
use borrow.Author.Tests.{lt-ltb, le-ltb}
use lib.ListN.{length, take, get_or}
use lib.Seq.{take_all}
use Rattle.form.specs.Records.{id_of}
use Rattle.form.specs.Verdict.{rows, Formed}
use Rattle.form.specs.declared.Counts.{Counts}
use Rattle.form.specs.Sums.{sum_of}
use Rattle.totals.specs.Columns.{onsite_part, offsite_part, decay_part}
use Rattle.totals.proofs.Sums.{sum-next, sum_le, sum_below}
use Rattle.heaviest.specs.Heaviest.{no_weight, heavier, heavier_of, heaviest_in, heaviest_of}
use Rattle.heaviest.specs.Largest.{OneOf, Weighs}
use Rattle.heaviest.specs.declared.Weight.{Weight}
use Rattle.heaviest.proofs.Rising.{conversion_ids_rise}
use Rattle.heaviest.proofs.Walk.{heaviest_none, heaviest-suc}

-- the ids of rows rise
abbrev pub Rise : List (List ℕ) → Type 0
Rise rs = (i j : ℕ) → i < j → j < length rs → id_of (get_or rs i []) < id_of (get_or rs j [])

-- what is so of n and of every number below it
upto : (n : ℕ) (P : ℕ → Type 0) → P n → ((i : ℕ) → i < n → P i) → (i : ℕ) → i < suc n → P i
upto n P here below i l = ⊎_elim (λ e. subst P (sym e) here) (λ m. below i m) (eq-or-lt_of_le (le_of_suc-le-suc l))

module _ (rs : List (List ℕ)) (f : List ℕ → ℕ) where
  -- w is one of the first n rows
  record Seen (n : ℕ) (w : Weight) : Type 0 where
    index : ℕ
    seen : index < n
    its_id : id_of (get_or rs index []) ≡ w.id
    its_part : f (get_or rs index []) ≡ w.part

  -- w is the heaviest of the first n rows; where none has a part, it is still what stood before them
  record Best (n : ℕ) (w : Weight) : Type 0 where
    from : (w ≡ no_weight) ⊎ Seen n w
    largest : (i : ℕ) → i < n → f (get_or rs i []) ≤ w.part
    lowest : Rise rs → (i : ℕ) → i < n → f (get_or rs i []) ≡ w.part → w.id ≤ id_of (get_or rs i [])

  module _ (n : ℕ) (w : Weight) (l : n < length rs) (b : Best n w) where
    -- row n is heavier: no row before it has as much
    new : w.part < f (get_or rs n []) → Best (suc n) (record { id = id_of (get_or rs n []); part = f (get_or rs n []) })
    new h = record {
      from = inr (record { index = n; seen = omega arith; its_id = refl; its_part = refl });
      largest = upto n (λ i. f (get_or rs i []) ≤ f (get_or rs n [])) (omega arith) (λ i m. omega (arith, b.largest i m));
      lowest = λ a. upto n (λ i. f (get_or rs i []) ≡ f (get_or rs n []) → id_of (get_or rs n []) ≤ id_of (get_or rs i [])) (λ e. omega arith) (λ i m e. absurd (omega (arith, b.largest i m)));
    }

    -- row n is not: an equal one before it has a lower id
    old : f (get_or rs n []) ≤ w.part → Best (suc n) w
    old h = record {
      from = still b.from;
      largest = upto n (λ i. f (get_or rs i []) ≤ w.part) h b.largest;
      lowest = λ a. upto n (λ i. f (get_or rs i []) ≡ w.part → w.id ≤ id_of (get_or rs i [])) (λ e. lower a b.from) (b.lowest a);
    }
      where
        still : (w ≡ no_weight) ⊎ Seen n w → (w ≡ no_weight) ⊎ Seen (suc n) w
        still (inl e) = inl e
        still (inr o) = inr (record { index = o.index; seen = omega arith; its_id = o.its_id; its_part = o.its_part })

        lower : Rise rs → (w ≡ no_weight) ⊎ Seen n w → w.id ≤ id_of (get_or rs n [])
        lower a (inl e) = let z : w.id ≡ 0 = ap (λ (x : Weight). x.id) e in omega arith
        lower a (inr o) = omega (arith, a o.index n o.seen l)

    best_next : Best (suc n) (heavier_of f w (get_or rs n []))
    unfolding heavier
    best_next = go (dec_lt w.part (f (get_or rs n [])))
      where
        go : Dec (w.part < f (get_or rs n [])) → Best (suc n) (heavier_of f w (get_or rs n []))
        go (yes h) = rw (lt-ltb w.part (f (get_or rs n [])) h) (new h)
        go (no h) = let g : f (get_or rs n []) ≤ w.part = omega arith in rw (le-ltb w.part (f (get_or rs n [])) g) (old g)

  best : (n : ℕ) → n ≤ length rs → Best n (heaviest_in f (take n rs))
  best zero l = rw (heaviest_none f rs) (record { from = inl refl; largest = λ i m. absurd (omega arith); lowest = λ a i m e. absurd (omega arith) })
  best (suc n) l = rw (heaviest-suc f rs n l) (best_next n (heaviest_in f (take n rs)) l (best n (omega arith)))

  all : Best (length rs) (heaviest_in f rs)
  all = rw (take_all (length rs) rs (omega arith)) at (best (length rs) (omega arith))

  pub heaviest_is_row : 0 < (heaviest_in f rs).part → OneOf rs f (heaviest_in f rs)
  heaviest_is_row h = go all.from
    where
      go : (heaviest_in f rs ≡ no_weight) ⊎ Seen (length rs) (heaviest_in f rs) → OneOf rs f (heaviest_in f rs)
      go (inl e) = let z : (heaviest_in f rs).part ≡ 0 = ap (λ (x : Weight). x.part) e in absurd (omega arith)
      go (inr o) = record { index = o.index; there = o.seen; its_id = o.its_id; its_part = o.its_part }

  pub heaviest-largest : (i : ℕ) → i < length rs → f (get_or rs i []) ≤ (heaviest_in f rs).part
  heaviest-largest = all.largest

  pub heaviest-lowest : Rise rs → (i : ℕ) → i < length rs → f (get_or rs i []) ≡ (heaviest_in f rs).part → (heaviest_in f rs).id ≤ id_of (get_or rs i [])
  heaviest-lowest = all.lowest

  -- a row's part is no more than the sum
  in_sum : (i : ℕ) → i < length rs → f (get_or rs i []) ≤ sum_of f rs
  in_sum i l = omega (arith, sum-next f rs i l, sum_le f rs (i + 1))

  pub heaviest-zero : ((heaviest_in f rs).part ≡ 0) ↔ (sum_of f rs ≡ 0)
  heaviest-zero = (λ e. omega (arith, sum_below f 0 rs (λ j l. omega (arith, heaviest-largest j l))), λ e. go e all.from)
    where
      go : sum_of f rs ≡ 0 → (heaviest_in f rs ≡ no_weight) ⊎ Seen (length rs) (heaviest_in f rs) → (heaviest_in f rs).part ≡ 0
      go e (inl q) = ap (λ (x : Weight). x.part) q
      go e (inr o) = omega (arith, in_sum o.index o.seen)

module _ (s : List ℕ) (c : Counts) (acc : Formed s c) where
  pub heaviest_weighs : (f : List ℕ → ℕ) → Weighs s f (heaviest_in f (rows 1 s))
  heaviest_weighs f = record {
    is_row = heaviest_is_row (rows 1 s) f;
    largest = heaviest-largest (rows 1 s) f;
    lowest_id = heaviest-lowest (rows 1 s) f (conversion_ids_rise s c acc);
    none_at_zero = heaviest-zero (rows 1 s) f;
  }

  pub onsite_weighs : Weighs s onsite_part (heaviest_of s).onsite
  onsite_weighs = heaviest_weighs onsite_part

  pub offsite_weighs : Weighs s offsite_part (heaviest_of s).offsite
  offsite_weighs = heaviest_weighs offsite_part

  pub decay_weighs : Weighs s decay_part (heaviest_of s).decay
  decay_weighs = heaviest_weighs decay_part

module _ {s : List ℕ} {f : List ℕ → ℕ} where
  no_more : {v w : Weight} → Weighs s f v → Weighs s f w → v.part ≤ w.part
  no_more {v} {w} a b = go (dec_lt 0 v.part)
    where
      go : Dec (0 < v.part) → v.part ≤ w.part
      go (yes h) = let o = a.is_row h in omega (arith, b.largest o.index o.there)
      go (no h) = omega arith

  not_higher : {v w : Weight} → Weighs s f v → Weighs s f w → v.part ≡ w.part → 0 < v.part → w.id ≤ v.id
  not_higher a b e h = let o = a.is_row h in omega (arith, b.lowest_id o.index o.there (o.its_part ∙ e))

  pub weighs_one : {v w : Weight} → Weighs s f v → Weighs s f w → (v.part ≡ w.part) × (0 < v.part → v.id ≡ w.id)
  weighs_one {v} {w} a b =
      let e : v.part ≡ w.part = omega (arith, no_more a b, no_more b a) in
      (e, λ h. omega (arith, not_higher a b e h, not_higher b a (sym e) (omega arith)))
