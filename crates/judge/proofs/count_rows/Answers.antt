use Prim.Native.Nat.{◌^◌, ◌≤◌, ◌<◌}
use mathlib.Core.Path.{ap, ◌∙◌}
use lib.ListN.{length}
use Rattle.form.specs.Verdict.{counts_of}
use Rattle.form.specs.Standing.{blocks_for}
use Rattle.form.proofs.Lengths.{clean-length}
use Rattle.sums.proofs.Parts.{stock_block}
use Rattle.judge.proofs.count_rows.Goals as goal

pub rows_of-conversion-requires : goal.rows_of-conversion-requires
rows_of-conversion-requires c = (let short' : let b = c.args.bytes.now in (8 ≤ length b) × (length b < 2 ^ 24) = clean-length c.args.bytes.now c.requires.clean in short').1

pub rows_of-stock-requires : goal.rows_of-stock-requires
rows_of-stock-requires c = (let short' : let b = c.args.bytes.now in (8 ≤ length b) × (length b < 2 ^ 24) = clean-length c.args.bytes.now c.requires.clean in short').1

pub two_at-requires : goal.two_at-requires
two_at-requires c = (let short' : let b = c.args.bytes.now in (8 ≤ length b) × (length b < 2 ^ 24) = clean-length c.args.bytes.now c.requires.clean in short').0

pub rows_of-requires : goal.rows_of-requires
rows_of-requires c = (let short' : let b = c.args.bytes.now in (8 ≤ length b) × (length b < 2 ^ 24) = clean-length c.args.bytes.now c.requires.clean in short').1

pub rows_of-requires-2 : goal.rows_of-requires-2
rows_of-requires-2 c = (let short' : let b = c.args.bytes.now in (8 ≤ length b) × (length b < 2 ^ 24) = clean-length c.args.bytes.now c.requires.clean in short').1

pub rows_of-requires-3 : goal.rows_of-requires-3
rows_of-requires-3 c = (let short' : let b = c.args.bytes.now in (8 ≤ length b) × (length b < 2 ^ 24) = clean-length c.args.bytes.now c.requires.clean in short').1

pub rows_of-requires-4 : goal.rows_of-requires-4
rows_of-requires-4 c = (let short' : let b = c.args.bytes.now in (8 ≤ length b) × (length b < 2 ^ 24) = clean-length c.args.bytes.now c.requires.clean in short').1

pub rows_of-requires-5 : goal.rows_of-requires-5
rows_of-requires-5 c = (let short' : let b = c.args.bytes.now in (8 ≤ length b) × (length b < 2 ^ 24) = clean-length c.args.bytes.now c.requires.clean in short').1

pub rows_of-requires-6 : goal.rows_of-requires-6
rows_of-requires-6 c = (let short' : let b = c.args.bytes.now in (8 ≤ length b) × (length b < 2 ^ 24) = clean-length c.args.bytes.now c.requires.clean in short').1

pub count_scattered-requires : goal.count_scattered-requires
count_scattered-requires c =
    record { formed = c.requires; first_value = (c.blocks_for.ensures ∙ ap blocks_for c.rows_of-conversion.ensures ∙ stock_block (counts_of c.args.bytes.now), c.rows_of-stock.ensures) }
