-- Tests as the code's branches meet them. Assumes nothing.
--     on, off         of `a && b`: a holds, and it is b; a fails
--     and-true        `a && b` holds: both hold; and_rest, it fails and a holds: b fails; or_none, `a || b` fails: both fail
--     all_fail        a chain of `||` fails: each of its tests fails; same_of, by a test that two numbers differ
--     guarded         of `a && b`: the second part by what the first says
--     taken, left     of a choice: by a test that holds, by one that fails; either, what holds of both
use Prim.Native.Nat.{ℕ}
use mathlib.Core.Path.{◌≡◌, refl, sym, ap, ◌∙◌}
use mathlib.Core.Bool.{Bool, true, false, cond, not, ◌&&◌, ◌||◌, true≢false, false≢true}
use mathlib.Core.List.{List, [], ◌∷◌}
use borrow.Author.Tests.{eqb-true, not-false}
use lib.Dec.{eqb}

pub on : {a b r : Bool} → a ≡ true → r ≡ b → r ≡ (a && b)
on {a} {b} e q = q ∙ ap (λ (t : Bool). t && b) (sym e)

pub off : {a : Bool} (b : Bool) → a ≡ false → false ≡ (a && b)
off b e = ap (λ (t : Bool). t && b) (sym e)

pub and-true : (a b : Bool) → (a && b) ≡ true → (a ≡ true) × (b ≡ true)
and-true true b e = (refl, e)
and-true false b e = absurd (false≢true e)

pub and_rest : (a b : Bool) → a ≡ true → (a && b) ≡ false → b ≡ false
and_rest true b e f = f
and_rest false b e f = absurd (false≢true e)

pub or_none : (a b : Bool) → (a || b) ≡ false → (a ≡ false) × (b ≡ false)
or_none true b e = absurd (true≢false e)
or_none false b e = (refl, e)

-- tests in a row, as `||` chains them, and that each of them fails
abbrev pub or_all : Bool → List Bool → Bool
or_all a [] = a
or_all a (b ∷ bs) = or_all (a || b) bs

abbrev pub Fail : List Bool → Type 0
Fail [] = Unit {0}
Fail (b ∷ bs) = (b ≡ false) × Fail bs

pub all_fail : (a : Bool) (bs : List Bool) → or_all a bs ≡ false → Fail (a ∷ bs)
all_fail a [] e = (e, tt)
all_fail a (b ∷ bs) e = let r = all_fail (a || b) bs e in let h = or_none a b r.0 in (h.0, (h.1, r.1))

pub same_of : (a b : ℕ) → not (eqb a b) ≡ false → a ≡ b
same_of a b e = eqb-true a b (not-false (eqb a b) e)

-- behind a test that holds, only what is so when it holds counts
pub guarded : (a : Bool) {x y : Bool} → (a ≡ true → x ≡ y) → (a && x) ≡ (a && y)
guarded true h = h refl
guarded false h = refl

-- what holds of both holds of the choice
pub either : {A : Type 0} (P : A → Type 0) (b : Bool) {x y : A} → (b ≡ true → P x) → (b ≡ false → P y) → P (cond b x y)
either P true h g = h refl
either P false h g = g refl

module _ {A : Type 0} {b : Bool} where
  pub taken : {x r : A} (y : A) → b ≡ true → r ≡ x → r ≡ cond b x y
  taken {x} y e q = q ∙ ap (λ (t : Bool). cond t x y) (sym e)

  pub left : {y r : A} (x : A) → b ≡ false → r ≡ y → r ≡ cond b x y
  left {y} x e q = q ∙ ap (λ (t : Bool). cond t x y) (sym e)
