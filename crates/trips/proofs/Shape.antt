-- Where the blocks of row lists stand: kind by kind, each with its list's records. Assumes nothing.
--     start_of       the first block of a list; whereis, the list that a block is of
--     list_at       the records of a list, where they stand among all
use Prim.Native.Nat.{ℕ, zero, suc, ◌+◌, ◌-◌, ◌*◌, ◌<◌, ◌≤◌}
use mathlib.Core.Path.{◌≡◌, refl}
use mathlib.Core.List.{[], map}
use native.Mathlib.Nat.{zero-add, add-zero}
use native.Mathlib.Decide.{dec_lt}
use native.Mathlib.Omega.{arith}
use lib.ListN.{length, get_or, drop, drop_of_length-le}
use lib.Seq.{drop-cons}
use Rattle.form.specs.Layout.{kinds}
use Rattle.filing.specs.Lists.{Lists, of_kind, blocks_of, filed_list, behind, filed_from, filed_lists}
use Rattle.filing.proofs.Alike.{Alike, alike-part, alike_then, front-alike, back_alike}
use Rattle.lists.specs.Rules.{blocks_from}

-- the blocks that the list of a kind takes
abbrev pub blocks_at : Lists → ℕ → ℕ
blocks_at l kind = blocks_of kind (length (of_kind l kind))

-- the blocks before those of kind k + 1
unfoldable pub start_of : Lists → ℕ → ℕ
start_of l zero = 0
start_of l (suc k) = start_of l k + blocks_at l (suc k)

pub start_next : (l : Lists) (k : ℕ) → start_of l (suc k) ≡ start_of l k + blocks_at l (suc k)
unfolding start_of
start_next l k = refl

start_up : (l : Lists) (j d : ℕ) → start_of l j ≤ start_of l (j + d)
start_up l j zero = rw (add-zero j) (omega arith)
start_up l j (suc d) =
    let e : j + suc d ≡ suc (j + d) = omega arith in
    rw e (omega (arith, start_up l j d, start_next l (j + d)))

pub start_mono : (l : Lists) (j k : ℕ) → j ≤ k → start_of l j ≤ start_of l k
start_mono l j k h = let e : j + (k - j) ≡ k = omega arith in rw e at (start_up l j (k - j))

-- the blocks of the kinds up to one, and of those after it
start_split : (l : Lists) (k : ℕ) → k ≤ length l → start_of l k + blocks_from (suc k) (map length (drop k l)) ≡ blocks_from 1 (map length l)
unfolding start_of blocks_from
start_split l zero h = omega arith
start_split l (suc k) h = omega (arith, rw (drop-cons l k [] h) at (start_split l k (omega arith)))

pub start_all : (l : Lists) → start_of l (length l) ≡ blocks_from 1 (map length l)
unfolding blocks_from
start_all l =
    let none : drop (length l) l ≡ [] = drop_of_length-le l {i = length l} (omega arith) in
    omega (arith, rw none at (start_split l (length l) (omega arith)))

-- block b is one of kind k + 1
pub record Where (l : Lists) (b : ℕ) : Type 0 where
  pub k : ℕ
  pub kind : k < kinds
  pub from : start_of l k ≤ b
  pub below : b < start_of l (suc k)

pub whereis : (l : Lists) (b n : ℕ) → n ≤ kinds → b < start_of l n → Where l b
unfolding start_of
whereis l b zero h l₀ = absurd (omega arith)
whereis l b (suc n) h l₀ = go (λ x. whereis l b n (omega arith) x) (dec_lt b (start_of l n))
  where
    go : (b < start_of l n → Where l b) → Dec (b < start_of l n) → Where l b
    go w (yes x) = w x
    go w (no x) = record { k = n; kind = h; from = omega arith; below = l₀ }

-- a later block is of no earlier kind
pub where_rises : (l : Lists) {b c : ℕ} (v : Where l b) (w : Where l c) → b ≤ c → v.k ≤ w.k
where_rises l v w h = go (dec_lt w.k v.k)
  where
    go : Dec (w.k < v.k) → v.k ≤ w.k
    go (yes g) = absurd (omega (arith, start_mono l (suc w.k) v.k g, w.below, v.from))
    go (no g) = omega arith

-- ---- the records of each list

-- the lists from one on, among all
from_at : (l : Lists) (k m : ℕ) → k ≤ length l → Alike (filed_lists l) (12 * start_of l k) (filed_from (suc k) (drop k l)) 0 m
unfolding start_of filed_from filed_list
from_at l zero m h = record { at = λ q b. record { used = refl; kind = refl; row = λ u. refl } }
from_at l (suc k) m h =
    let n = blocks_at l (suc k) in
    let f = filed_list (suc k) (get_or l k []) in
    let g = filed_from (suc (suc k)) (drop (suc k) l) in
    let a : Alike (filed_lists l) (12 * start_of l k) (behind f g) 0 (12 * n + m) = rw (drop-cons l k [] h) at (from_at l k (12 * n + m) (omega arith)) in
    alike_then (alike-part a (12 * n) m {j' = 12 * n} (omega arith) (omega arith) (zero-add (12 * n))) (back_alike f g m)

pub list_at : (l : Lists) (k : ℕ) → k < length l → Alike (filed_lists l) (12 * start_of l k) (filed_list (suc k) (of_kind l (suc k))) 0 (12 * blocks_at l (suc k))
unfolding filed_from filed_list
list_at l k h =
    alike_then (from_at l k (12 * blocks_at l (suc k)) (omega arith))
    (rw (drop-cons l k [] h) (front-alike (filed_list (suc k) (get_or l k [])) (filed_from (suc (suc k)) (drop (suc k) l))))
