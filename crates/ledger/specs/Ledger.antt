-- The columns of 5-1 and 5-2 that add up over returns: of one return from its rows, and of several by addition.
use Rattle.std.specs.Prelude.{ℕ, ◌+◌, ◌^◌, ◌<◌, List, [], ◌∷◌, pos, ◌+ℤ◌}
use Rattle.wide.specs.Numbers.{value}
use Rattle.wide.specs.Signs.{amount}
use Rattle.form.specs.Sums.{column_k}
use Rattle.totals.specs.Masses.{dry_matter, carbon}
use Rattle.totals.specs.Columns.{column_e}
use Rattle.totals.specs.Sums.{totals_of}
use Rattle.totals.specs.declared.Carbon.{Carbon}
use Rattle.totals.specs.declared.DryMatter.{DryMatter}
use Rattle.totals.specs.declared.Totals.{Totals}
use Rattle.units.specs.Columns.{net_carbon, column_m, column_o}
use Rattle.matter.specs.Matter.{matter_of, no_matter, plus_matter, MatterMost}
use Rattle.matter.specs.declared.Matter.{Matter}
use Rattle.ledger.specs.declared.Ledger.{Ledger}

-- a return's entry, from its sums and its N; O is by 01 "M x N"
unfoldable pub entered : Carbon → DryMatter → Totals → Matter → ℕ → Ledger
entered e k t matter n = record {
  e = e;
  k = k;
  l = t.cleared;
  o = column_o (column_m k t.cleared) n;
  onsite = t.onsite;
  offsite = t.offsite;
  decay = t.decay;
  matter = matter;
}

-- from its rows: E is of the stock rows, K of the harvest rows, the others of the conversion rows
abbrev pub ledger_of : (conversion stock harvest : List (List ℕ)) → ℕ → Ledger
ledger_of conversion stock harvest n = entered (carbon (column_e stock)) (dry_matter (column_k harvest)) (totals_of conversion) (matter_of conversion) n

-- of no return, of two, and of several
abbrev pub none : Ledger
none = record { e = carbon 0; k = dry_matter 0; l = dry_matter 0; o = net_carbon (pos 0); onsite = carbon 0; offsite = carbon 0; decay = carbon 0; matter = no_matter }

unfoldable pub plus : Ledger → Ledger → Ledger
plus a b = record {
  e = carbon (value a.e.0 + value b.e.0);
  k = dry_matter (value a.k.0 + value b.k.0);
  l = dry_matter (value a.l.0 + value b.l.0);
  o = net_carbon (amount a.o.0 +ℤ amount b.o.0);
  onsite = carbon (value a.onsite.0 + value b.onsite.0);
  offsite = carbon (value a.offsite.0 + value b.offsite.0);
  decay = carbon (value a.decay.0 + value b.decay.0);
  matter = plus_matter a.matter b.matter;
}

abbrev pub sum_ledgers : List Ledger → Ledger
sum_ledgers [] = none
sum_ledgers (g ∷ gs) = plus g (sum_ledgers gs)

-- what even five hundred of the largest returns stay below
pub record Bounded (g : Ledger) : Type 0 where
  pub e : value g.e.0 < 2 ^ 64
  pub k : value g.k.0 < 2 ^ 64
  pub l : value g.l.0 < 2 ^ 64
  pub o : value g.o.0.size < 2 ^ 90
  pub onsite : value g.onsite.0 < 2 ^ 80
  pub offsite : value g.offsite.0 < 2 ^ 80
  pub decay : value g.decay.0 < 2 ^ 80
  pub matter : MatterMost (2 ^ 80) g.matter
