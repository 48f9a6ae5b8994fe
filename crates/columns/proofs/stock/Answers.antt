use Prim.Native.Nat.{ℕ, ◌<◌}
use mathlib.Core.Path.{◌≡◌, refl, ◌∙◌}
use mathlib.Core.Bool.{Bool, true, false, cond}
use borrow.Author.Tests.{eq-eqb, ne_eqb, le-ltb}
use lib.Dec.{eqb, ltb}
use lib.ListN.{length, get_or}
use Rattle.form.specs.First.{any}
use Rattle.form.proofs.Tests.{taken, left}
use Rattle.columns.specs.Columns.{plain, stock}
use Rattle.columns.proofs.ColumnLaws.{mistold, told}
use Rattle.columns.proofs.stock.Goals as goal

-- By the field's number, and by the unit behind it. Assumes nothing.
-- by the code's tests
abbrev by : ℕ → ℕ → ℕ
by unit i = cond (ltb i 2) 0 (cond (eqb i 4) 3 (cond (eqb unit 1) (cond (eqb i 2) 4 0) 2))

-- for trees, and for land
as_told : (unit : ℕ) (trees : Bool) → eqb unit 1 ≡ trees → any (mistold (by unit) (stock unit)) (length (stock unit)) ≡ false
unfolding any mistold
as_told unit true e = rw e
as_told unit false e = rw e

by_is : (unit i : ℕ) → i < length (stock unit) → by unit i ≡ (get_or (stock unit) i plain).decimals
by_is unit = told (by unit) (stock unit) (as_told unit (eqb unit 1) refl)

pub returns-then-unit-ne1 : goal.returns-then-unit-ne1
returns-then-unit-ne1 c =
    left _ (le-ltb _ _ c.if-i-lt2.false) (left _ (ne_eqb _ _ c.if-i-eq4.false) (left _ (ne_eqb _ _ c.if-unit-ne1.true) refl))
    ∙ by_is c.args.unit _ c.requires

pub returns-then-i-eq2 : goal.returns-then-i-eq2
returns-then-i-eq2 c =
    (let trees' : (r : ℕ) → r ≡ cond (eqb c.args.i 2) 4 0 → r ≡ by c.args.unit c.args.i = λ r e. left _ (le-ltb _ _ c.if-i-lt2.false) (left _ (ne_eqb _ _ c.if-i-eq4.false) (taken _ (eq-eqb _ _ c.if-unit-ne1.false) e)) in trees' _) (taken _ (eq-eqb _ _ c.if-i-eq2.true) refl) ∙ by_is c.args.unit _ c.requires

pub returns-else-i-eq2 : goal.returns-else-i-eq2
returns-else-i-eq2 c =
    (let trees' : (r : ℕ) → r ≡ cond (eqb c.args.i 2) 4 0 → r ≡ by c.args.unit c.args.i = λ r e. left _ (le-ltb _ _ c.if-i-lt2.false) (left _ (ne_eqb _ _ c.if-i-eq4.false) (taken _ (eq-eqb _ _ c.if-unit-ne1.false) e)) in trees' _) (left _ (ne_eqb _ _ c.if-i-eq2.false) refl) ∙ by_is c.args.unit _ c.requires
