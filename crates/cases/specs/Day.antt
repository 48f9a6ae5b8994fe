-- "One day's return, whole": the worked day of 01, from its rows to its bytes and back.
use Rattle.std.specs.Prelude.{ℕ, suc, ◌≡◌, refl, replicate, None, Ok, Some, Option}
use Rattle.std.proofs.Common.{sym, ap, subst, ◌∙◌}
use mathlib.Core.List.{List, [], ◌∷◌, ◌++◌, flatten}
use Rattle.form.specs.First.{first}
use Rattle.form.specs.Ruling.{refuse, ruling}
use Rattle.form.specs.Bytes.{number, little_endian}
use Rattle.form.specs.Layout.{kinds, row_from, above_limit}
use Rattle.form.specs.Edition.{last_kind}
use Rattle.form.specs.Block.{weighed}
use Rattle.form.specs.Records.{counted_difference, bad_id, broken_by, rows_below}
use Rattle.form.specs.Sums.{sum_of, scattered_part, harvest_part, cleared_part, soil_uneven}
use Rattle.form.specs.Verdict.{count_below, counts_of, verdict_of}
use Rattle.form.specs.declared.Counts.{Counts}
use Rattle.form.specs.Refusals.{Clean, Refused}
use Rattle.rows.specs.Answers.{Written}
use Rattle.filing.specs.Lists.{cut, total, filed_list, behind, filed_from}
use Rattle.filing.specs.Written.{record_from, in_turn, head_of, sealed, record_on, used_from, body_of, block_of, bytes_of}
use Rattle.lists.specs.Rules.{bad_list, bad_lengths, not_allowed, list_rules}
use Rattle.lists.specs.Examples.{parameters_day, day_lengths, day_area}
use Rattle.rows.specs.Reading.{outgrown, read_answer, room_after}
use Rattle.rows.specs.Writing.{written, write_answer, bytes_after}
use Rattle.rows.proofs.Rows.{short, all_read}
use Rattle.trips.proofs.RoundTrips.{accepted_again}
use Rattle.worksheets.specs.Sheets.{standard, parameter_numbers}

-- its bytes, as examples/day.return has them
abbrev pub day : List ℕ
day = (1 ∷ 1 ∷ 0 ∷ 0 ∷ 4 ∷ 0 ∷ 1 ∷ 0 ∷ 7 ∷ 0 ∷ 0 ∷ 0 ∷ 200 ∷ 0 ∷ 0 ∷ 0 ∷ 232 ∷ 3 ∷ 100 ∷ 0 ∷ 144 ∷ 1 ∷ 132 ∷ 3 ∷ 244 ∷ 1 ∷ 200 ∷ 0 ∷ 132 ∷ 3 ∷ 244 ∷ 1 ∷ 44 ∷ 1 ∷ 0 ∷ 0 ∷ 232 ∷ 3 ∷ 100 ∷ 0 ∷ 44 ∷ 1 ∷ 244 ∷ 1 ∷ []) ++ (replicate 464 0 ++ ((251 ∷ 250 ∷ 0 ∷ 0 ∷ 2 ∷ 1 ∷ 1 ∷ 0 ∷ 4 ∷ 0 ∷ 1 ∷ 0 ∷ 1 ∷ 0 ∷ 0 ∷ 0 ∷ 0 ∷ 0 ∷ 168 ∷ 2 ∷ 232 ∷ 3 ∷ 0 ∷ 0 ∷ 244 ∷ 1 ∷ []) ++ (replicate 486 0 ++ ((219 ∷ 45 ∷ 0 ∷ 0 ∷ 3 ∷ 1 ∷ 2 ∷ 0 ∷ 4 ∷ 0 ∷ 1 ∷ 0 ∷ 1 ∷ 0 ∷ 0 ∷ 0 ∷ 244 ∷ 1 ∷ 0 ∷ 0 ∷ 182 ∷ 3 ∷ 0 ∷ 0 ∷ 44 ∷ 1 ∷ []) ++ (replicate 486 0 ++ ((159 ∷ 28 ∷ 0 ∷ 0 ∷ 4 ∷ 1 ∷ 3 ∷ 0 ∷ 4 ∷ 0 ∷ 1 ∷ 0 ∷ 0 ∷ 0 ∷ 0 ∷ 0 ∷ 244 ∷ 1 ∷ 12 ∷ 0 ∷ 60 ∷ 0 ∷ 10 ∷ 0 ∷ 7 ∷ 0 ∷ 121 ∷ []) ++ (replicate 485 0 ++ ((124 ∷ 29 ∷ 0 ∷ 0 ∷ [])))))))))

-- "Parameters: the defaults."
pub day-parameters : parameters_day ≡ parameter_numbers standard
day-parameters = refl

-- the answer of a write, opened for computing
unfoldable answered : List ℕ → List ℕ → List ℕ → Written
unfolding first ruling kinds last_kind above_limit counted_difference bad_id broken_by rows_below sum_of harvest_part cleared_part soil_uneven cut total filed_list behind filed_from bad_list bad_lengths not_allowed list_rules little_endian record_from in_turn head_of sealed weighed record_on used_from body_of block_of bytes_of write_answer
answered lengths rows room = write_answer 1 lengths rows room

-- written to one byte more than it needs, and to one less
pub day-written : write_answer 1 day_lengths day_area (replicate 2049 9) ≡ Ok 2048
unfolding answered
day-written = refl

pub day-bytes : bytes_after 1 day_lengths day_area (replicate 2049 9) (Ok 2048) ≡ day ++ (9 ∷ [])
unfolding answered
day-bytes = refl

short-bytes : write_answer 1 day_lengths day_area (replicate 2047 9) ≡ Refused 9 0
unfolding answered
short-bytes = refl

-- its edition and its row counts
abbrev pub day_counts : Counts
day_counts = record { edition = 1; conversion = 1; stock = 1; harvest = 1; parameters = 1; abandoned = 0; savanna = 0; soils = 0; crops = 0; scattered = 0 }

-- judged by the round trip, and so but once: its bytes are what is written of its rows, which no rule refuses
day-clean : ruling (list_rules 1 day_lengths day_area) ≡ Clean
unfolding answered
day-clean = refl

day_is : written 1 (cut day_lengths day_area) ≡ day
unfolding answered
day_is = refl

day-counts : counts_of day ≡ day_counts
unfolding number count_below row_from rows_below sum_of scattered_part
day-counts = refl

pub day_judged : verdict_of day ≡ Ok day_counts
day_judged =
    subst (λ (s : List ℕ). verdict_of s ≡ Ok (counts_of s)) day_is (accepted_again 1 day_lengths day_area day-clean) ∙ ap Ok day-counts

-- read to a room of one number more than the rows need, and to rooms that end inside a kind's rows
fits : first (outgrown day 32) (suc kinds) ≡ None
unfolding first kinds rows_below row_from number flatten in_turn
fits = refl

pub day-read : read_answer day (replicate 32 9) ≡ Ok (record { edition = 1; conversion = 1; stock = 1; harvest = 1; parameters = 1; abandoned = 0; savanna = 0; soils = 0; crops = 0; scattered = 0 })
day-read = sym (all_read day (replicate 32 9) day_counts day_judged refl refl (ap (λ (x : Option ℕ). refuse 9 x Clean) fits))

pub day-rows : room_after day (replicate 32 9) (Ok (record { edition = 1; conversion = 1; stock = 1; harvest = 1; parameters = 1; abandoned = 0; savanna = 0; soils = 0; crops = 0; scattered = 0 })) ≡ day_area ++ (9 ∷ [])
unfolding kinds rows_below row_from number flatten in_turn
day-rows = refl

harvest-outgrown : first (outgrown day 24) (suc kinds) ≡ Some 3
unfolding first kinds rows_below row_from number flatten in_turn
harvest-outgrown = refl

short-room : read_answer day (replicate 24 9) ≡ Refused 9 3
short-room = sym (short day (replicate 24 9) day_counts day_judged refl refl (ap (λ (x : Option ℕ). refuse 9 x Clean) harvest-outgrown))

conversion-outgrown : first (outgrown day 0) (suc kinds) ≡ Some 1
unfolding first kinds rows_below row_from number flatten in_turn
conversion-outgrown = refl

no_room : read_answer day [] ≡ Refused 9 1
no_room = sym (short day [] day_counts day_judged refl refl (ap (λ (x : Option ℕ). refuse 9 x Clean) conversion-outgrown))
