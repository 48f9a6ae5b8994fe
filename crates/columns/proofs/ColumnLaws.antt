-- The decimals of the columns. Assumes nothing.
--     told            a function of a field's number gives the decimals of the columns, by one test that the checker computes
--     few_decimals    a field has at most four; with_few, beside what they are
--     by_unit         the decimals go by the unit in a stock row alone, and there only behind the unit itself
--     kind_is         a kind, as it is told
--     name_met, name-passed    a word by the first of some names: it names that kind, or what the others say
use Prim.Native.Nat.{ℕ, zero, suc, ◌≤◌, ◌<◌}
use mathlib.Core.Path.{◌≡◌, refl, sym, ap, subst, ◌∙◌}
use mathlib.Core.Bool.{Bool, true, false, not, ◌&&◌}
use mathlib.Core.List.{List, [], ◌∷◌}
use native.Mathlib.Omega.{arith}
use borrow.Author.Tests.{leb-true, eqb-true, not-false}
use lib.Dec.{leb, eqb}
use lib.ListN.{length, get_or}
use Rattle.std.specs.Prelude.{Some, None}
use Rattle.form.specs.Layout.{kinds}
use Rattle.form.specs.First.{any}
use Rattle.cells.specs.Cells.{same_word}
use Rattle.form.proofs.Tests.{and-true, taken, left}
use Rattle.form.proofs.Search.{any_each}
use Rattle.columns.specs.Columns.{Column, plain, columns, decimals_of, named_from, kind_or_none}

-- ---- by its number

-- a field whose decimals are told otherwise than its column has them
unfoldable pub mistold : (ℕ → ℕ) → List Column → ℕ → Bool
mistold t l i = not (eqb (t i) (get_or l i plain).decimals)

pub told : (t : ℕ → ℕ) (l : List Column) → any (mistold t l) (length l) ≡ false → (i : ℕ) → i < length l → t i ≡ (get_or l i plain).decimals
unfolding mistold
told t l e i h = eqb-true (t i) (get_or l i plain).decimals (not-false _ (any_each (mistold t l) (length l) e i h))

-- ---- of every kind

few_in : List Column → Bool
few_in [] = true
few_in (c ∷ cs) = leb c.decimals 4 && few_in cs

few_in_lem : (l : List Column) → few_in l ≡ true → (i : ℕ) → (get_or l i plain).decimals ≤ 4
unfolding few_in
few_in_lem [] e i = omega arith
few_in_lem (c ∷ cs) e zero = leb-true c.decimals 4 (and-true (leb c.decimals 4) (few_in cs) e).0
few_in_lem (c ∷ cs) e (suc i) = few_in_lem cs (and-true (leb c.decimals 4) (few_in cs) e).1 i

all_few : List (List Column) → Bool
all_few [] = true
all_few (l ∷ ls) = few_in l && all_few ls

few_among : (ls : List (List Column)) → all_few ls ≡ true → (k i : ℕ) → (get_or (get_or ls k []) i plain).decimals ≤ 4
unfolding all_few
few_among [] e k i = omega arith
few_among (l ∷ ls) e zero i = few_in_lem l (and-true (few_in l) (all_few ls) e).0 i
few_among (l ∷ ls) e (suc k) i = few_among ls (and-true (few_in l) (all_few ls) e).1 k i

-- whatever the unit is
all_few_lem : (unit : ℕ) (trees : Bool) → eqb unit 1 ≡ trees → all_few ([] ∷ columns unit) ≡ true
unfolding all_few few_in
all_few_lem unit true e = rw e
all_few_lem unit false e = rw e

pub few_decimals : (kind unit i : ℕ) → decimals_of kind unit i ≤ 4
few_decimals kind unit i = few_among ([] ∷ columns unit) (all_few_lem unit (eqb unit 1) refl) kind i

pub with_few : {r : ℕ} (kind unit i : ℕ) → r ≡ decimals_of kind unit i → (r ≡ decimals_of kind unit i) × (r ≤ 4)
with_few kind unit i e = (e, rw e (few_decimals kind unit i))

pub by_unit : (kind u v i : ℕ) → (kind ≡ 2 → 2 ≤ i → u ≡ v) → decimals_of kind u i ≡ decimals_of kind v i
by_unit zero u v i h = refl
by_unit (suc zero) u v i h = refl
by_unit (suc (suc zero)) u v zero h = refl
by_unit (suc (suc zero)) u v (suc zero) h = refl
by_unit (suc (suc zero)) u v (suc (suc i)) h = ap (λ (w : ℕ). decimals_of 2 w (suc (suc i))) (h refl (omega arith))
by_unit (suc (suc (suc k))) u v i h = refl

-- ---- the kind that a word names

module _ (k : ℕ) (n : List ℕ) (ns : List (List ℕ)) (word : List ℕ) {b : Bool} (e : b ≡ same_word n word) where
  pub name_met : b ≡ true → k ≡ named_from k (n ∷ ns) word
  unfolding named_from
  name_met t = taken _ (sym e ∙ t) refl

  pub name-passed : {r : ℕ} → b ≡ false → r ≡ named_from (suc k) ns word → r ≡ named_from k (n ∷ ns) word
  unfolding named_from
  name-passed t more = left _ (sym e ∙ t) more

-- a kind, as it is told
pub kind_is : {k n : ℕ} → suc k ≡ n → suc k ≤ kinds → (Some (suc k) ≡ kind_or_none n) × (n ≤ kinds)
kind_is e h = (ap kind_or_none e, subst (λ (x : ℕ). x ≤ kinds) e h)

-- and back
pub none_named : (n : ℕ) → None ≡ kind_or_none n → n ≡ 0
none_named zero e = refl
none_named (suc n) e = let z : ◌≡◌ {A = ℕ} 0 1 = cc in absurd (omega arith)

pub some_named : (k n : ℕ) → Some k ≡ kind_or_none n → (k ≡ n) × (0 < k)
some_named k zero e = let z : ◌≡◌ {A = ℕ} 0 1 = cc in absurd (omega arith)
some_named k (suc n) e = let q : k ≡ suc n = cc in (q, omega (arith, q))
