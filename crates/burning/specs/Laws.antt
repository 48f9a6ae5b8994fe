-- The laws that what goes off keeps as a thing that is added up (trait AddsUp). Assumes nothing.
use Rattle.std.specs.Prelude.{ℕ, ◌+◌, ◌*◌, ◌^◌, ◌≤◌}
use Rattle.std.proofs.Common.{arith}
use Rattle.wide.specs.Numbers.{value}
use Rattle.totals.specs.Laws.{amounts}
use Rattle.burning.specs.Released.{plus, none, Room, ReleasedMost}
use Rattle.burning.specs.declared.Released.{Released}

pub released_none : ReleasedMost 0 none
released_none = let z = amounts 0 in record { carbon = omega arith; ch4 = omega arith; co = omega arith; n2o = omega arith; nox = omega arith }

pub released_both : (m n : ℕ) (a b : Released) → ReleasedMost m a → ReleasedMost n b → ReleasedMost (m + n) (plus a b)
unfolding plus
released_both m n a b p q = record {
  carbon = omega (arith, amounts (value a.carbon.0 + value b.carbon.0));
  ch4 = omega (arith, amounts (value a.ch4.0 + value b.ch4.0));
  co = omega (arith, amounts (value a.co.0 + value b.co.0));
  n2o = omega (arith, amounts (value a.n2o.0 + value b.n2o.0));
  nox = omega (arith, amounts (value a.nox.0 + value b.nox.0));
}

has_room : {n : ℕ} {t : Released} → ReleasedMost n t → n ≤ 32 * 10 ^ 29 → Room t
has_room p l = (omega (arith, p.carbon), omega (arith, p.ch4), omega (arith, p.co), omega (arith, p.n2o), omega (arith, p.nox))

pub released_fit : (m : ℕ) (a b : Released) → m ≤ 32 * 10 ^ 29 → ReleasedMost m a → ReleasedMost (10 ^ 29) b → Room a × Room b
released_fit m a b l p q = (has_room p l, has_room q (omega arith))
