-- Worksheets 5-1 and 5-2, each column from those that it is made of, in the unit of 01's "Worksheet rules": from one return's ledger, or from that of several.
use Rattle.units.specs.Columns.{column_m, column_p, column_q, reported, sum_of_both, co2_of}
use Rattle.ledger.specs.declared.Ledger.{Ledger}
use Rattle.ledger.specs.declared.Stocks.{Stocks}
use Rattle.ledger.specs.declared.Conversion.{Conversion}

unfoldable pub stocks_of : Ledger → Stocks
stocks_of g =
    let p = column_p g.e g.o in
    let q = column_q p in
    record { e = g.e; k = g.k; l = g.l; m = column_m g.k g.l; o = g.o; p = p; q = q; report = reported q }

-- "R is their sum."
unfoldable pub conversion_of : Ledger → Conversion
conversion_of g =
    let r = sum_of_both g.onsite g.offsite in
    record { onsite = g.onsite; offsite = g.offsite; r = r; decay = g.decay; co2 = co2_of (sum_of_both r g.decay) }
