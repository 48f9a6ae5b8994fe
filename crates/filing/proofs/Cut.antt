-- An area cut into the lists of the kinds. Assumes nothing.
--     cut_at        the list of a kind is the part behind those before it; cut-long, as long as it is to be
--     flat-cut      the parts one after the other are the area; cut-flat, lists laid one after the other and cut again
--     total-next    the lengths added up, one more
use Prim.Native.Nat.{ℕ, zero, suc, ◌+◌, ◌-◌, ◌≤◌, ◌<◌}
use mathlib.Core.Path.{◌≡◌, refl, sym, ap, ap₂, ◌∙◌}
use mathlib.Core.List.{List, [], ◌∷◌, ◌++◌, flatten, map}
use native.Mathlib.Nat.{add-sub_cancel_left}
use native.Mathlib.Numerals.{add-one}
use native.Mathlib.Omega.{arith}
use lib.ListN.{length, get_or, take, drop, length-drop, length-append, take-append-drop}
use lib.Seq.{length-take-le, drop-drop, take_at, drop_at}
use Rattle.filing.specs.Lists.{Lists, cut, total}

pub cut-length : (ns r : List ℕ) → length (cut ns r) ≡ length ns
unfolding cut
cut-length [] r = refl
cut-length (n ∷ ns) r = ap suc (cut-length ns (drop n r))

pub cut_at : (ns r : List ℕ) (i : ℕ) → i < length ns → get_or (cut ns r) i [] ≡ take (get_or ns i 0) (drop (total (take i ns)) r)
unfolding cut total
cut_at [] r i h = absurd (omega arith)
cut_at (n ∷ ns) r zero h = refl
cut_at (n ∷ ns) r (suc i) h = cut_at ns (drop n r) i (omega arith) ∙ ap (take (get_or ns i 0)) (drop-drop (total (take i ns)) n r)

-- ---- the lengths added up

pub total_none : (ns : List ℕ) → total (take 0 ns) ≡ 0
unfolding total
total_none ns = refl

total-suc : (ns : List ℕ) (i : ℕ) → i < length ns → total (take (suc i) ns) ≡ total (take i ns) + get_or ns i 0
unfolding total
total-suc [] i h = absurd (omega arith)
total-suc (n ∷ ns) zero h = omega arith
total-suc (n ∷ ns) (suc i) h = omega (arith, total-suc ns i (omega arith))

pub total-next : (ns : List ℕ) (i : ℕ) → i < length ns → total (take (i + 1) ns) ≡ total (take i ns) + get_or ns i 0
total-next ns i h = rw (add-one i) (total-suc ns i h)

pub total-part : (ns : List ℕ) (i : ℕ) → total (take i ns) ≤ total ns
unfolding total
total-part ns zero = omega arith
total-part [] (suc i) = omega arith
total-part (n ∷ ns) (suc i) = omega (arith, total-part ns i)

-- ---- the parts

-- as the code cuts them
pub part_at : (ns r : List ℕ) (k : ℕ) {from m : ℕ} → k < length ns → from ≡ total (take k ns) → m ≡ get_or ns k 0
    → take (from + m - from) (drop from r) ≡ get_or (cut ns r) k []
part_at ns r k {from} {m} h ef em = rw (add-sub_cancel_left from m, em, ef) (sym (cut_at ns r k h))

module _ (ns r : List ℕ) (fits : total ns ≤ length r) where
  pub part_end : (i : ℕ) → i < length ns → total (take i ns) + get_or ns i 0 ≤ length r
  part_end i h = omega (arith, total-next ns i h, total-part ns (i + 1))

  pub cut-long : (i : ℕ) → i < length ns → length (get_or (cut ns r) i []) ≡ get_or ns i 0
  cut-long i h = ap length (cut_at ns r i h) ∙ length-take-le (get_or ns i 0) (drop (total (take i ns)) r) (rw length-drop (omega (arith, part_end i h)))

pub cut-lengths : (ns r : List ℕ) → total ns ≤ length r → map length (cut ns r) ≡ ns
unfolding cut total
cut-lengths [] r h = refl
cut-lengths (n ∷ ns) r h =
    ap₂ (λ (x : ℕ) (y : List ℕ). x ∷ y) (length-take-le n r (omega arith)) (cut-lengths ns (drop n r) (rw length-drop (omega arith)))

pub flat-cut : (ns r : List ℕ) → total ns ≡ length r → flatten (cut ns r) ≡ r
unfolding cut total flatten
flat-cut [] [] h = refl
flat-cut [] (x ∷ r) h = absurd (omega arith)
flat-cut (n ∷ ns) r h = ap (λ (x : List ℕ). take n r ++ x) (flat-cut ns (drop n r) (rw length-drop (omega arith))) ∙ take-append-drop n r

pub cut-flat : (l : Lists) → cut (map length l) (flatten l) ≡ l
unfolding cut flatten
cut-flat [] = refl
cut-flat (x ∷ l) = rw (take_at x (flatten l) (length x) refl, drop_at x (flatten l) (length x) refl, cut-flat l)

pub total-flat : (l : Lists) → total (map length l) ≡ length (flatten l)
unfolding total flatten
total-flat [] = refl
total-flat (x ∷ l) = simp (length-append, total-flat l)
