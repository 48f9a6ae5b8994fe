-- Laws of the table. Assumes nothing.
--     at              a test that passes at every element passes at each
--     cell            where the figures of an entry lie among the cells
--     decoded         the code's numbers, read as figures, are the cells: at each place
--     mark_told       the code's marks are those of the marked entries
--     whole-entry     an entry by its parts
use Rattle.std.specs.Prelude.{Option, None}
use Prim.Native.Nat.{ℕ, zero, suc, ◌+◌, ◌*◌, ◌<◌}
use mathlib.Core.Path.{◌≡◌, refl, sym, ap, subst, ◌∙◌}
use mathlib.Core.Bool.{Bool, true, false, not, ◌&&◌}
use mathlib.Core.List.{List, [], ◌∷◌, map}
use native.Mathlib.Nat.{add-zero, zero-add, add-suc, suc-add, le_of_suc-le-suc, not-suc-le-zero}
use native.Mathlib.Omega.{arith}
use lib.Dec.{T}
use lib.IntN.{ℤ}
use lib.ListN.{length, get_or, get_or-map}
use Rattle.entries52.specs.Table.{Printed, none}
use Rattle.entries52.specs.Entries.{rate_of, marked, among, entry_of}
use Rattle.entries52.specs.Rule.{every}
use Rattle.entries52.specs.Cells.{cells, figure_of}

both_left : (a b : Bool) → T (a && b) → T a
both_left true b t = tt
both_left false b t = t

both_right : (a b : Bool) → T (a && b) → T b
both_right true b t = t
both_right false b t = absurd t

module _ {A : Type 0} (f : ℕ → A → Bool) (d : A) where
  from : (xs : List A) (i : ℕ) → T (every f i xs) → (k : ℕ) → k < length xs → T (f (i + k) (get_or xs k d))
  from [] i t k h = absurd (not-suc-le-zero h)
  from (x ∷ xs) i t zero h = subst (λ (m : ℕ). T (f m x)) (sym (add-zero i)) (both_left (f i x) (every f (suc i) xs) t)
  from (x ∷ xs) i t (suc k) h =
      subst (λ (m : ℕ). T (f m (get_or xs k d))) (suc-add i k ∙ sym (add-suc i k))
      (from xs (suc i) (both_right (f i x) (every f (suc i) xs) t) k (le_of_suc-le-suc h))

  pub at : (xs : List A) → T (every f 0 xs) → (k : ℕ) → k < length xs → T (f k (get_or xs k d))
  at xs t k h = subst (λ (m : ℕ). T (f m (get_or xs k d))) (zero-add k) (from xs 0 t k h)

-- the three figures of an entry
abbrev pub three : Printed → List (Option ℤ)
three p = p.area1980 ∷ p.area1990 ∷ p.rate ∷ []

pub cell : (t : List Printed) (k j : ℕ) → j < 3 → get_or (cells t) (3 * k + j) None ≡ get_or (three (get_or t k none)) j None
cell [] k zero h = refl
cell [] k (suc zero) h = refl
cell [] k (suc (suc zero)) h = refl
cell [] k (suc (suc (suc j))) h = refl
cell (p ∷ t) zero zero h = refl
cell (p ∷ t) zero (suc zero) h = refl
cell (p ∷ t) zero (suc (suc zero)) h = refl
cell (p ∷ t) zero (suc (suc (suc j))) h = absurd (not-suc-le-zero (le_of_suc-le-suc (le_of_suc-le-suc (le_of_suc-le-suc h))))
cell (p ∷ t) (suc k) j h =
    let e : 3 * suc k + j ≡ suc (suc (suc (3 * k + j))) = omega arith in
    rw e (cell t k j h)

-- the place is inside, so that it does not matter what stands outside
inside : {A : Type 0} (l : List A) (n : ℕ) (d e : A) → n < length l → get_or l n d ≡ get_or l n e
inside [] n d e h = absurd (not-suc-le-zero h)
inside (x ∷ l) zero d e h = refl
inside (x ∷ l) (suc n) d e h = inside l n d e (le_of_suc-le-suc h)

pub decoded : (l : List ℤ) (t : List (Option ℤ)) (d : ℤ) (n : ℕ) → map figure_of l ≡ t → n < length t → figure_of (get_or l n d) ≡ get_or t n None
decoded l t d n e h =
    sym (get_or-map figure_of l n d) ∙ ap (λ (s : List (Option ℤ)). get_or s n (figure_of d)) e ∙ inside t n (figure_of d) None h

-- the code's marks, each tried against the list of marked entries
abbrev alike : Bool → Bool → Bool
alike true b = b
alike false b = not b

alike_same : (a b : Bool) → T (alike a b) → a ≡ b
alike_same true true t = refl
alike_same true false t = absurd t
alike_same false true t = absurd t
alike_same false false t = refl

abbrev pub agrees : ℕ → Bool → Bool
agrees n b = alike b (among n marked)

pub mark_told : (l : List Bool) (n : ℕ) → T (every agrees 0 l) → n < length l → get_or l n false ≡ among n marked
mark_told l n t h = alike_same (get_or l n false) (among n marked) (at agrees false l t n h)

-- an entry by its parts
pub whole-entry :
    (p : Printed) (m : Bool) {a b t r : Option ℤ} {k : Bool} →
    a ≡ p.area1980 → b ≡ p.area1990 → t ≡ p.rate → r ≡ rate_of a b t → k ≡ m →
    record { area1980 = a; area1990 = b; rate = r; marked = k } ≡ entry_of p m
whole-entry p m ea eb et er ek = rw (er, ea, eb, et, ek)
