-- Parts of a text. Assumes nothing.
--     opened                     what is left of a text, taken apart
--     part_length, part_at       how long a part is, and what stands in it
--     part_none, part-front, part_end     a part that is empty, taken apart at its front, and at its end
--     part-rest                  a part up to the end
--     last_is                    the last byte by its place; last_at, that of a part
use Prim.Native.Nat.{ℕ, suc, ◌+◌, ◌-◌, ◌<◌, ◌≤◌}
use mathlib.Core.Path.{◌≡◌, refl, sym, ap, ◌∙◌}
use mathlib.Core.List.{List, [], ◌∷◌, ◌++◌}
use native.Mathlib.Omega.{arith}
use native.Mathlib.Numerals.{add-one}
use lib.ListN.{length, take, drop, get_or, length-drop}
use lib.Seq.{length-take-le, take_all, take-suc, drop-cons, get_or-drop, get_or-take}
use Rattle.cells.specs.Lines.{part, last_of}

pub opened : (l : List ℕ) (k : ℕ) → k < length l → drop k l ≡ get_or l k 0 ∷ drop (k + 1) l
opened l k h = drop-cons l k 0 h ∙ ap (λ (j : ℕ). get_or l k 0 ∷ drop j l) (sym (add-one k))

pub part_length : (from to : ℕ) (l : List ℕ) → from ≤ to → to ≤ length l → length (part from to l) ≡ to - from
part_length from to l a b = length-take-le (to - from) (drop from l) (omega (arith, length-drop from l))

pub part_at : (from to i : ℕ) (l : List ℕ) → i < to - from → get_or (part from to l) i 0 ≡ get_or l (from + i) 0
part_at from to i l h = get_or-take (to - from) (drop from l) i 0 h ∙ get_or-drop from l i 0

pub part_none : (k : ℕ) (l : List ℕ) → part k k l ≡ []
part_none k l = let e : k - k ≡ 0 = omega arith in ap (λ (n : ℕ). take n (drop k l)) e

pub part-front : (from to : ℕ) (l : List ℕ) → from < to → to ≤ length l → part from to l ≡ get_or l from 0 ∷ part (from + 1) to l
part-front from to l a b =
    let n : to - from ≡ suc (to - (from + 1)) = omega arith in
    ap (λ (k : ℕ). take k (drop from l)) n ∙ ap (take (suc (to - (from + 1)))) (opened l from (omega arith))

pub part_end : (from k : ℕ) (l : List ℕ) → from ≤ k → k < length l → part from (k + 1) l ≡ part from k l ++ get_or l k 0 ∷ []
part_end from k l a b =
    let n : k + 1 - from ≡ suc (k - from) = omega arith in
    let m : from + (k - from) ≡ k = omega arith in
    ap (λ (j : ℕ). take j (drop from l)) n
    ∙ take-suc (drop from l) (k - from) 0 (omega (arith, length-drop from l))
    ∙ ap (λ (b : ℕ). part from k l ++ b ∷ []) (get_or-drop from l (k - from) 0 ∙ ap (λ (j : ℕ). get_or l j 0) m)

pub part-rest : (from : ℕ) (l : List ℕ) → part from (length l) l ≡ drop from l
part-rest from l = take_all (length l - from) (drop from l) (omega (arith, length-drop from l))

pub last_is : (l : List ℕ) → last_of l ≡ get_or l (length l - 1) 0
unfolding last_of
last_is [] = refl
last_is (b ∷ []) = refl
last_is (b ∷ c ∷ l) =
    let e : suc (suc (length l)) - 1 ≡ suc (suc (length l) - 1) = omega arith in
    last_is (c ∷ l) ∙ ap (λ (k : ℕ). get_or (b ∷ c ∷ l) k 0) (sym e)

pub last_at : (from to : ℕ) (l : List ℕ) → from < to → to ≤ length l → last_of (part from to l) ≡ get_or l (to - 1) 0
last_at from to l a b =
    let n : length (part from to l) - 1 ≡ to - from - 1 = omega (arith, part_length from to l (omega arith) b) in
    let m : from + (to - from - 1) ≡ to - 1 = omega arith in
    last_is (part from to l) ∙ ap (λ (k : ℕ). get_or (part from to l) k 0) n ∙ part_at from to (to - from - 1) l (omega arith) ∙ ap (λ (k : ℕ). get_or l k 0) m
