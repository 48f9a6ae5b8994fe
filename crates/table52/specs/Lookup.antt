-- "A lookup by country and zone .. answers the three figures with the mark, or says which is not given."
use Rattle.std.specs.Prelude.{ℕ, ◌+◌, ◌*◌, cond, ltb, Result, Ok, Err}
use Rattle.entries52.specs.Table.{countries, zones}
use Rattle.entries52.specs.declared.Entry.{Entry}
use Rattle.entries52.specs.Entries.{entry_at}
use Rattle.table52.specs.declared.OffTable.{OffTable}
use Rattle.table52.specs.declared.OffTable.TheVariants.{Country, Zone}

-- "Refusals: country or zone number off the table, in that order."
unfoldable pub looked_up : ℕ → ℕ → Result Entry OffTable
looked_up country zone =
    cond (ltb country countries)
    (cond (ltb zone zones) (Ok (entry_at (zones * country + zone))) (Err Zone))
    (Err Country)
