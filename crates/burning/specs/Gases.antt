-- The gases of 5-3, and of the sheets that have "gases as in 5-3", in tonnes. Every rounded tonne cites the one rule.
use Rattle.std.specs.Prelude.{ℕ, ◌*◌, ◌^◌, ◌<◌}
use Rattle.wide.specs.Numbers.{value, words_of}
use Rattle.wide.specs.Rounding.{nearest}
use Rattle.burning.specs.declared.CarbonReleased.{CarbonReleased}
use Rattle.burning.specs.declared.NitrogenReleased.{NitrogenReleased}
use Rattle.burning.specs.declared.Released.{Released}
use Rattle.burning.specs.declared.Gas.{Gas}
use Rattle.burning.specs.declared.Gases.{Gases}

abbrev pub gas : ℕ → Gas
gas n = record { 0 = words_of n }

-- 5-3: "CH4 = 4 C x ratio / (3 x 10^12)", "CO = 7 C x ratio / (3 x 10^12)", with carbon in 10^-12 kt. A sheet that counts carbon in units so many times finer has that many times the divisor.
abbrev pub gas_of_carbon : ℕ → CarbonReleased → ℕ → Gas
gas_of_carbon thirds c finer = gas (nearest (thirds * value c.0) (3 * 10 ^ 12 * finer))

-- "N2O = 11 C x N/C x ratio / (7 x 10^15)", "NOx = 23 C x N/C x ratio / (7 x 10^15)", likewise
abbrev pub gas_of_nitrogen : ℕ → NitrogenReleased → ℕ → Gas
gas_of_nitrogen sevenths n finer = gas (nearest (sevenths * value n.0) (7 * 10 ^ 15 * finer))

-- the four, "in tonnes, rounded"
unfoldable pub gases_of : Released → ℕ → Gases
gases_of t finer = record {
  ch4 = gas_of_carbon 4 t.ch4 finer;
  co = gas_of_carbon 7 t.co finer;
  n2o = gas_of_nitrogen 11 t.n2o finer;
  nox = gas_of_nitrogen 23 t.nox finer;
}

-- each has room to be rounded
abbrev pub Fits : Released → Type 0
Fits t = (value t.ch4.0 < 2 ^ 102) × (value t.co.0 < 2 ^ 102) × (value t.n2o.0 < 2 ^ 102) × (value t.nox.0 < 2 ^ 102)
