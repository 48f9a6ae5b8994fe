-- What goes off with each gas: of some carbon, and summed over rows that have their own ratios.
use Rattle.std.specs.Prelude.{ℕ, ◌+◌, ◌*◌, ◌^◌, ◌≤◌, ◌<◌, List}
use Rattle.wide.specs.Numbers.{value, words_of}
use Rattle.form.specs.Bytes.{number}
use Rattle.form.specs.Sums.{sum_of}
use Rattle.totals.specs.Masses.{carbon}
use Rattle.totals.specs.declared.Carbon.{Carbon}
use Rattle.burning.specs.declared.CarbonReleased.{CarbonReleased}
use Rattle.burning.specs.declared.NitrogenReleased.{NitrogenReleased}
use Rattle.burning.specs.declared.Ratios.{Ratios}
use Rattle.burning.specs.declared.Released.{Released}

-- a mass by its number
abbrev pub of_carbon : ℕ → CarbonReleased
of_carbon n = record { 0 = words_of n }

abbrev pub of_nitrogen : ℕ → NitrogenReleased
of_nitrogen n = record { 0 = words_of n }

-- all "0 to 1,000; 0.001"
pub record Thousandths (by : Ratios) : Type 0 where
  pub nc : by.nc ≤ 1000
  pub ch4 : by.ch4 ≤ 1000
  pub co : by.co ≤ 1000
  pub n2o : by.n2o ≤ 1000
  pub nox : by.nox ≤ 1000

-- five numbers of two bytes each, in the order of §5: "N/C, CH4, CO, N2O and NOx"
abbrev pub ratios_at : List ℕ → ℕ → Ratios
ratios_at s at = record { nc = number 2 s at; ch4 = number 2 s (at + 2); co = number 2 s (at + 4); n2o = number 2 s (at + 6); nox = number 2 s (at + 8) }

-- carbon by the gas's ratio, or carbon by N/C and the gas's ratio
unfoldable pub released_of : Carbon → Ratios → Released
released_of c by =
    let n = value c.0 in
    record {
      carbon = c;
      ch4 = of_carbon (n * by.ch4);
      co = of_carbon (n * by.co);
      n2o = of_nitrogen (n * by.nc * by.n2o);
      nox = of_nitrogen (n * by.nc * by.nox);
    }

-- of a row whose carbon and ratios these are
abbrev pub row_of : (List ℕ → ℕ) → (List ℕ → Ratios) → List ℕ → Released
row_of c by r = released_of (carbon (c r)) (by r)

-- of nothing
abbrev pub none : Released
none = record { carbon = carbon 0; ch4 = of_carbon 0; co = of_carbon 0; n2o = of_nitrogen 0; nox = of_nitrogen 0 }

-- two of them together
unfoldable pub plus : Released → Released → Released
plus t p = record {
  carbon = carbon (value t.carbon.0 + value p.carbon.0);
  ch4 = of_carbon (value t.ch4.0 + value p.ch4.0);
  co = of_carbon (value t.co.0 + value p.co.0);
  n2o = of_nitrogen (value t.n2o.0 + value p.n2o.0);
  nox = of_nitrogen (value t.nox.0 + value p.nox.0);
}

-- "each gas summed exactly over the rows": of rows whose carbon and ratios these are
unfoldable pub burned_by : (List ℕ → ℕ) → (List ℕ → Ratios) → List (List ℕ) → Released
burned_by c by rows = record {
  carbon = carbon (sum_of c rows);
  ch4 = of_carbon (sum_of (λ r. c r * (by r).ch4) rows);
  co = of_carbon (sum_of (λ r. c r * (by r).co) rows);
  n2o = of_nitrogen (sum_of (λ r. c r * (by r).nc * (by r).n2o) rows);
  nox = of_nitrogen (sum_of (λ r. c r * (by r).nc * (by r).nox) rows);
}

-- there is room for one row more
abbrev pub Room : Released → Type 0
Room t =
    (value t.carbon.0 < 2 ^ 110) × (value t.ch4.0 < 2 ^ 110) × (value t.co.0 < 2 ^ 110) × (value t.n2o.0 < 2 ^ 110) × (value t.nox.0 < 2 ^ 110)

-- each of the five is at most n
pub record ReleasedMost (n : ℕ) (t : Released) : Type 0 where
  pub carbon : value t.carbon.0 ≤ n
  pub ch4 : value t.ch4.0 ≤ n
  pub co : value t.co.0 ≤ n
  pub n2o : value t.n2o.0 ≤ n
  pub nox : value t.nox.0 ≤ n
