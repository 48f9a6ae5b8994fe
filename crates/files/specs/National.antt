-- §10's cases, each a whole file with its whole text: no return, one, the worked day twice, a refused return between two good ones, and the stops but for a 501st return,
-- which would take the checker too long and is a theorem (promises/National.many-stops).
use Rattle.std.specs.Prelude.{ℕ, suc, ◌≤◌, ◌≡◌, refl, length, replicate}
use Prim.Native.String.{String}
use Rattle.std.proofs.Common.{ap, ap₂, ◌∙◌, lit≤}
use mathlib.Core.List.{List, [], ◌∷◌, ◌++◌, flat_map}
use Rattle.form.specs.Bytes.{number}
use Rattle.form.specs.Computed.{computed}
use Rattle.form.specs.Layout.{kinds, row_from}
use Rattle.form.specs.Block.{blocks_below}
use Rattle.form.specs.Records.{counted_difference, rows_below}
use Rattle.form.specs.Sums.{sum_of, harvest_part, cleared_part}
use Rattle.form.specs.Verdict.{count_below, verdict_of}
use Rattle.form.specs.Refusals.{Refused, Verdict}
use Rattle.wide.specs.Numbers.{value, words_of}
use Rattle.wide.specs.Rounding.{even_of, settled}
use Rattle.decimal.specs.Digits.{digits}
use Rattle.totals.specs.Columns.{stock_part, onsite_part, offsite_part, decay_part}
use Rattle.totals.specs.Sums.{totals_of}
use Rattle.phrases.specs.Ascii.{codes}
use Rattle.matter.specs.Matter.{lost_biomass, oxidised_onsite_part, charcoal_onsite_part, oxidised_offsite_part, charcoal_offsite_part, unburned_part, matter_of, plus_matter}
use Rattle.phrases.specs.Lines.{refused_line, lines_text}
use Rattle.fates.specs.Fates.{matter_lines}
use Rattle.ledger.specs.Ledger.{entered, plus}
use Rattle.ledger.specs.Derived.{stocks_of, conversion_of}
use Rattle.cutting.specs.Cutting.{most_returns, Cut, Piece, Pieces, end_to_end}
use Rattle.cutting.specs.declared.Stop.TheVariants.{Whole}
use Rattle.cutting.proofs.Files.{whole_file}
use Rattle.gathered.specs.Gathered.{ledger_in, accepted_of, refused_of, tally_of}
use Rattle.gathered.specs.declared.Tally.{Tally}
use Rattle.gathered.proofs.Tallies.{front_by, tally-front}
use Rattle.national.specs.Lines.{Refusal, refusal_line, stop_text, totals_by}
use Rattle.national.specs.Nation.{refusal_by, refusals_from, refusals_text, nation_by, nation_text, end_text, printed_nation}
use Rattle.national.specs.Computed.{computed_nation}
use Rattle.cases.specs.Day.{day, day_judged}

-- lines of text
text : List String → List ℕ
text [] = []
text (l ∷ ls) = codes l ++ 10 ∷ text ls

-- a lone parameter block of zero values, with its check; its header says so many blocks
block : ℕ → ℕ → List ℕ
block n check = 4 ∷ 1 ∷ 0 ∷ 0 ∷ n ∷ 0 ∷ 1 ∷ 0 ∷ (replicate 500 0 ++ check ∷ 0 ∷ 0 ∷ 0 ∷ [])

-- ---- whole files: what they print goes by their returns' verdicts, and that of the worked day is known (cases/Day)
abbrev printed_by : List Refusal → Tally → List ℕ
printed_by rs t = refusals_text rs ++ end_text t Whole

of_returns : (rs : List (List ℕ)) → Pieces rs → length rs ≤ most_returns → printed_nation (end_to_end rs) ≡ printed_by (refusals_from 1 rs) (tally_of rs)
of_returns rs p h = ap (λ (c : Cut). nation_text (nation_by c)) (whole_file most_returns rs p h)

day_piece : Piece day
unfolding number kinds
day_piece = record { some = lit≤ tt; few = lit≤ tt; long = refl }

-- the worked day in front of other returns: no refusal, and its ledger is added
day_passes : (i : ℕ) (rs : List (List ℕ)) → refusals_from i (day ∷ rs) ≡ refusals_from (suc i) rs
unfolding refusals_from
day_passes i rs = ap (λ (v : Verdict). refusal_by i v ++ refusals_from (suc i) rs) day_judged

abbrev day_front : Tally → Tally
day_front t = record { accepted = suc t.accepted; refused = t.refused; ledger = plus (ledger_in day) t.ledger }

day-added : (rs : List (List ℕ)) → tally_of (day ∷ rs) ≡ day_front (tally_of rs)
day-added rs = tally-front day rs ∙ ap (λ (v : Verdict). front_by day v (tally_of rs)) day_judged

-- the text of a tally, opened for computing: `unfolding computed_text` opens all that this line names
unfoldable computed_text : Tally → List ℕ
unfolding flat_map digits value words_of even_of settled number kinds row_from counted_difference rows_below count_below blocks_below sum_of harvest_part cleared_part stock_part onsite_part offsite_part decay_part totals_of lost_biomass oxidised_onsite_part charcoal_onsite_part oxidised_offsite_part charcoal_offsite_part unburned_part matter_of plus_matter lines_text matter_lines entered plus stocks_of conversion_of accepted_of refused_of tally_of refusal_line refused_line stop_text totals_by refusals_from
computed_text t = end_text t Whole

-- its figures as `sheets` prints them
single : List String
single = "E 340000000" ∷ "K 775000" ∷ "L 36000000" ∷ "M 41500000" ∷ "P 13250000000" ∷ "Q 48583" ∷ "report -48583" ∷ "onsite 32400000000000" ∷ "offsite 16200000000000" ∷ "decay 40500000000000" ∷ "co2 326700" ∷ "oxidised_onsite 64800000000" ∷ "charcoal_onsite 7200000000" ∷ "oxidised_offsite 32400000000" ∷ "charcoal_offsite 3600000000" ∷ "unburned 72000000000" ∷ []

one_computed : printed_by (refusals_from 2 []) (day_front (tally_of [])) ≡ text ("accepted 1" ∷ "refused 0" ∷ single)
unfolding computed_text text single
one_computed = refl

one : printed_nation (end_to_end (day ∷ [])) ≡ text ("accepted 1" ∷ "refused 0" ∷ single)
unfolding Pieces
one = of_returns (day ∷ []) (day_piece, tt) (lit≤ tt) ∙ ap₂ printed_by (day_passes 1 []) (day-added []) ∙ one_computed

-- "A return present twice counts twice": every exact total is doubled, and Q, 11 x 26,500,000,000 / 3,000,000 = 97,166.67, is rounded from the doubled P
twice : List String
twice = "E 680000000" ∷ "K 1550000" ∷ "L 72000000" ∷ "M 83000000" ∷ "P 26500000000" ∷ "Q 97167" ∷ "report -97167" ∷ "onsite 64800000000000" ∷ "offsite 32400000000000" ∷ "decay 81000000000000" ∷ "co2 653400" ∷ "oxidised_onsite 129600000000" ∷ "charcoal_onsite 14400000000" ∷ "oxidised_offsite 64800000000" ∷ "charcoal_offsite 7200000000" ∷ "unburned 144000000000" ∷ []

twice_computed : printed_by (refusals_from 3 []) (day_front (day_front (tally_of []))) ≡ text ("accepted 2" ∷ "refused 0" ∷ twice)
unfolding computed_text text twice
twice_computed = refl

day_twice : printed_nation (end_to_end (day ∷ day ∷ [])) ≡ text ("accepted 2" ∷ "refused 0" ∷ twice)
unfolding Pieces
day_twice =
    of_returns (day ∷ day ∷ []) (day_piece, (day_piece, tt)) (lit≤ tt)
    ∙ ap₂ printed_by (day_passes 1 (day ∷ []) ∙ day_passes 2 []) (day-added (day ∷ []) ∙ ap day_front (day-added []))
    ∙ twice_computed

-- good, refused, good: 2, at block 0, for the wrong check
wrong_check : verdict_of (block 1 17) ≡ Refused 2 0
unfolding computed block
wrong_check = refl

wrong_piece : Piece (block 1 17)
unfolding number kinds block
wrong_piece = record { some = lit≤ tt; few = lit≤ tt; long = refl }

abbrev wrong_front : Tally → Tally
wrong_front t = record { accepted = t.accepted; refused = suc t.refused; ledger = t.ledger }

wrong_listed : (i : ℕ) (rs : List (List ℕ)) → refusals_from i (block 1 17 ∷ rs) ≡ record { position = i; number = 2; place = 0 } ∷ refusals_from (suc i) rs
unfolding refusals_from
wrong_listed i rs = ap (λ (v : Verdict). refusal_by i v ++ refusals_from (suc i) rs) wrong_check

wrong_added : (rs : List (List ℕ)) → tally_of (block 1 17 ∷ rs) ≡ wrong_front (tally_of rs)
wrong_added rs = tally-front (block 1 17) rs ∙ ap (λ (v : Verdict). front_by (block 1 17) v (tally_of rs)) wrong_check

between_computed : printed_by (record { position = 2; number = 2; place = 0 } ∷ refusals_from 4 []) (day_front (wrong_front (day_front (tally_of [])))) ≡ text ("return 2 refused 2 0" ∷ "accepted 2" ∷ "refused 1" ∷ twice)
unfolding computed_text text twice
between_computed = refl

good_refused_good : printed_nation (end_to_end (day ∷ block 1 17 ∷ day ∷ [])) ≡ text ("return 2 refused 2 0" ∷ "accepted 2" ∷ "refused 1" ∷ twice)
unfolding Pieces
good_refused_good =
    of_returns (day ∷ block 1 17 ∷ day ∷ []) (day_piece, (wrong_piece, (day_piece, tt))) (lit≤ tt)
    ∙ ap₂ printed_by
    (day_passes 1 (block 1 17 ∷ day ∷ []) ∙ wrong_listed 2 (day ∷ []) ∙ ap (λ (l : List Refusal). record { position = 2; number = 2; place = 0 } ∷ l) (day_passes 3 []))
    (day-added (block 1 17 ∷ day ∷ []) ∙ ap day_front (wrong_added (day ∷ []) ∙ ap wrong_front (day-added [])))
    ∙ between_computed

-- ---- no return, and the stops, behind one good return that has no figures
no_figures : List String
no_figures = "E 0" ∷ "K 0" ∷ "L 0" ∷ "M 0" ∷ "P 0" ∷ "Q 0" ∷ "report 0" ∷ "onsite 0" ∷ "offsite 0" ∷ "decay 0" ∷ "co2 0" ∷ "oxidised_onsite 0" ∷ "charcoal_onsite 0" ∷ "oxidised_offsite 0" ∷ "charcoal_offsite 0" ∷ "unburned 0" ∷ []

-- "An empty file is no return": counts and figures 0
no_return : printed_nation [] ≡ text ("accepted 0" ∷ "refused 0" ∷ no_figures)
unfolding computed_nation text no_figures
no_return = refl

none_said : printed_nation (block 1 18 ++ block 0 13) ≡ text ("stopped 2 blocks 0" ∷ "accepted 1" ∷ "refused 0" ∷ no_figures)
unfolding computed_nation text no_figures block
none_said = refl

long-said : printed_nation (block 1 18 ++ block 23 13) ≡ text ("stopped 2 blocks 23" ∷ "accepted 1" ∷ "refused 0" ∷ no_figures)
unfolding computed_nation text no_figures block
long-said = refl

-- five bytes, and one block of two, and of twenty-two, the most
head-short : printed_nation (block 1 18 ++ replicate 5 1) ≡ text ("stopped 2 short" ∷ "accepted 1" ∷ "refused 0" ∷ no_figures)
unfolding computed_nation text no_figures block
head-short = refl

rest-short : printed_nation (block 1 18 ++ block 2 18) ≡ text ("stopped 2 short" ∷ "accepted 1" ∷ "refused 0" ∷ no_figures)
unfolding computed_nation text no_figures block
rest-short = refl

most_short : printed_nation (block 1 18 ++ block 22 18) ≡ text ("stopped 2 short" ∷ "accepted 1" ∷ "refused 0" ∷ no_figures)
unfolding computed_nation text no_figures block
most_short = refl
