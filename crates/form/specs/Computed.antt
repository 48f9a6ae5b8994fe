-- A verdict that the checker can compute, for the worked cases of 01 (crate promises).
use Rattle.std.specs.Prelude.{ℕ, List}
use Rattle.form.specs.First.{first, any}
use Rattle.form.specs.Ruling.{ruling}
use Rattle.form.specs.Bytes.{number, stray_in}
use Rattle.form.specs.Layout.{kinds, row_from, stray_from, above_limit}
use Rattle.form.specs.Edition.{last_kind}
use Rattle.form.specs.Block.{weighed, check_due, bad_length, bad_check, bad_header, kind_falls, low_behind, ends_low, none_before, blocks_below, bad_count, not_filled, stray_record, stray, bad_block}
use Rattle.form.specs.Records.{counted_difference, bad_id, broken_by, rows_below}
use Rattle.form.specs.Sums.{sum_of, scattered_part, harvest_part, cleared_part, area_in, uneven, uneven_below, lowest_uneven, soil_uneven}
use Rattle.form.specs.Verdict.{block_rules, count_below, verdict_of}
use Rattle.form.specs.Refusals.{Verdict}

-- the verdict, opened for computing: `unfolding computed` opens all that this line names
unfoldable pub computed : List ℕ → Verdict
unfolding first any ruling number stray_in kinds last_kind row_from stray_from above_limit weighed check_due bad_length bad_check bad_header kind_falls low_behind ends_low none_before blocks_below bad_count not_filled stray_record stray bad_block counted_difference bad_id broken_by rows_below sum_of scattered_part harvest_part cleared_part area_in uneven uneven_below lowest_uneven soil_uneven block_rules count_below verdict_of
computed s = verdict_of s
