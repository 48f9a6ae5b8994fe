-- The text of a file that the checker can compute, for worked cases. Assumes nothing.
use Rattle.std.specs.Prelude.{ℕ}
use mathlib.Core.List.{List, flat_map}
use Rattle.wide.specs.Numbers.{value, words_of}
use Rattle.wide.specs.Rounding.{even_of, settled}
use Rattle.decimal.specs.Digits.{digits}
use Rattle.form.specs.Bytes.{number}
use Rattle.form.specs.Computed.{computed}
use Rattle.form.specs.Layout.{kinds, row_from}
use Rattle.form.specs.Records.{rows_below}
use Rattle.form.specs.Sums.{sum_of, harvest_part, cleared_part}
use Rattle.totals.specs.Columns.{stock_part, onsite_part, offsite_part, decay_part}
use Rattle.totals.specs.Sums.{totals_of}
use Rattle.matter.specs.Matter.{lost_biomass, oxidised_onsite_part, charcoal_onsite_part, oxidised_offsite_part, charcoal_offsite_part, unburned_part, matter_of, plus_matter}
use Rattle.phrases.specs.Lines.{refused_line, lines_text}
use Rattle.fates.specs.Fates.{matter_lines}
use Rattle.ledger.specs.Ledger.{entered, plus}
use Rattle.ledger.specs.Derived.{stocks_of, conversion_of}
use Rattle.cutting.specs.Cutting.{sized_by, next_of, end_of, cut_from}
use Rattle.gathered.specs.Gathered.{accepted_of, refused_of, tally_of}
use Rattle.national.specs.Lines.{refusal_line, stop_text, totals_by}
use Rattle.national.specs.Nation.{refusals_from, printed_nation}

-- opened for computing: `unfolding computed_nation` opens all that this line names
unfoldable pub computed_nation : List ℕ → List ℕ
unfolding flat_map digits value words_of even_of settled computed number kinds row_from rows_below sum_of harvest_part cleared_part stock_part onsite_part offsite_part decay_part totals_of lost_biomass oxidised_onsite_part charcoal_onsite_part oxidised_offsite_part charcoal_offsite_part unburned_part matter_of plus_matter refused_line lines_text matter_lines entered plus stocks_of conversion_of sized_by next_of end_of cut_from accepted_of refused_of tally_of refusal_line stop_text totals_by refusals_from
computed_nation s = printed_nation s
