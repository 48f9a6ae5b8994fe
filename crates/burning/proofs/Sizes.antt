-- How large what goes off can be. Assumes nothing.
--     released_fits    what goes off of some carbon has room to be rounded
use Prim.Native.Nat.{◌*◌, ◌^◌, ◌<◌}
use native.Mathlib.Omega.{arith}
use Rattle.wide.specs.Numbers.{value}
use Rattle.wide.proofs.Laws.{value_words}
use Rattle.totals.specs.declared.Carbon.{Carbon}
use Rattle.totals.proofs.Limits.{thousand}
use Rattle.burning.specs.Released.{Thousandths, released_of}
use Rattle.burning.specs.Gases.{Fits}
use Rattle.burning.specs.declared.Ratios.{Ratios}

pub released_fits : (c : Carbon) (by : Ratios) → value c.0 < 2 ^ 80 → Thousandths by → Fits (released_of c by)
unfolding released_of
released_fits c by h t =
    let n = value c.0 in (
      omega (arith, (value_words (n * by.ch4)).number, thousand 80 n by.ch4 h t.ch4),
      omega (arith, (value_words (n * by.co)).number, thousand 80 n by.co h t.co),
      omega (arith, (value_words (n * by.nc * by.n2o)).number, thousand 90 (n * by.nc) by.n2o (thousand 80 n by.nc h t.nc) t.n2o),
      omega (arith, (value_words (n * by.nc * by.nox)).number, thousand 90 (n * by.nc) by.nox (thousand 80 n by.nc h t.nc) t.nox),
    )
