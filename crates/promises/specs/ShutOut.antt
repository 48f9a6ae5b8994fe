-- What the contracts shut out, in the words of "What a contract has to say". A theorem takes a wrong answer to be right for every input, and finds the input where it is not.
use Rattle.std.specs.Prelude.{ℕ, ◌*◌, ◌^◌, ◌<◌, ◌≤◌, ◌≡◌, List, [], ℤ, get_or, take, replicate, Ok}
use Rattle.std.proofs.Common.{sym, ap, ◌∙◌, arith}
use Rattle.std.specs.Float.{binary64}
use Rattle.std.specs.Float.Ieee.{to_bits}
use Rattle.form.specs.Verdict.{rows, counts_of, verdict_of}
use Rattle.form.specs.declared.Counts.{Counts}
use Rattle.form.specs.Refusals.{Refused}
use Rattle.standing.proofs.Accepted.{formed, formed_counts}
use Rattle.lists.specs.Examples.{day_lengths, day_area}
use Rattle.rows.specs.Reading.{read_answer, room_after}
use Rattle.rows.specs.Writing.{write_answer, bytes_after}
use Rattle.form.specs.Sums.{sum_of}
use Rattle.totals.specs.Columns.{onsite_part}
use Rattle.wide.specs.Numbers.{value}
use Rattle.wide.specs.Signs.{amount}
use Rattle.wide.proofs.Laws.{value_words}
use Rattle.worksheets.specs.declared.sheets.Figures.{Figures}
use Rattle.worksheets.specs.Answers.{worked, refusal, outcome_by, outcome_of}
use Rattle.listed.specs.Listed.{listed, figure_count, figure_at}
use Rattle.doubles.specs.Double.{double}
use Rattle.nearness.specs.Near.{Near}
use Rattle.doubles.specs.Subtotals.{times, part_of}
use Rattle.steps.proofs.Told.{worked_not_refused}
use Rattle.steps.proofs.Doubles.{near-zero, in_order, from_the_last}
use Rattle.cases.specs.Day.{day, day-written, day-bytes, day-read, day-rows}
use Rattle.cases.proofs.Single.{nth, land_case, land-answered, lone-answered, many-answered, each_differs, first-row, first_block_lem}

-- "a function that refuses everything"
pub not_always_refused : ((s : List ℕ) → (n : ℕ) × (p : ℕ) × (outcome_of s ≡ refusal n p)) → ⊥
not_always_refused h = let r = h (nth 1).bytes in worked_not_refused _ r.0 r.1 (sym lone-answered ∙ r.2)

pub judge_not_always_refused : ((s : List ℕ) → (n : ℕ) × (p : ℕ) × (verdict_of s ≡ Refused n p)) → ⊥
judge_not_always_refused h = not_always_refused (λ s. let r = h s in (r.0, r.1, ap (outcome_by s) r.2))

-- "one with a fixed figure": no figure of the printed list, by its place, is the same for every return; the worked day with a row each of grass, scattered trees, abandoned land, savanna and wheat and two of soil, and the lone block of zero values differ in each
pub no_fixed_figure : (i : ℕ) → i < figure_count → (x : ℤ) → ((s : List ℕ) (v : Figures) → outcome_of s ≡ worked v → amount (figure_at (listed v) i).value ≡ x) → ⊥
no_fixed_figure i l x always = each_differs i l (always (nth land_case).bytes _ land-answered ∙ sym (always (nth 1).bytes _ lone-answered))

-- "one that writes nothing": the day written to a room of nines, and its rows read to one
pub write_writes : ((edition : ℕ) (lengths rows room : List ℕ) (n : ℕ) → write_answer edition lengths rows room ≡ Ok n → bytes_after edition lengths rows room (Ok n) ≡ room) → ⊥
write_writes h =
    let e : ◌≡◌ {A = ℕ} 1 9 = ap (λ (s : List ℕ). get_or s 0 0) (sym day-bytes ∙ h 1 day_lengths day_area (replicate 2049 9) 2048 day-written) in
    omega arith

pub read_reads : ((s room : List ℕ) (c : Counts) → read_answer s room ≡ Ok c → room_after s room (Ok c) ≡ room) → ⊥
read_reads h =
    let e : ◌≡◌ {A = ℕ} 7 9 = ap (λ (s : List ℕ). get_or s 0 0) (sym day-rows ∙ h day (replicate 32 9) _ day-read) in
    omega arith

-- "one that totals only the first row or block": 32 rows of 10^19 each, in three blocks
pub not_the_first-row : ((s : List ℕ) (v : Figures) → outcome_of s ≡ worked v → value v.conversion.onsite.0 ≡ onsite_part (get_or (rows 1 s) 0 [])) → ⊥
not_the_first-row h = let e : ◌≡◌ {A = ℕ} 320000000000000000000 (10 ^ 19) = sym (value_words 320000000000000000000).number ∙ h (nth 5).bytes _ many-answered ∙ first-row in omega arith

pub not_the_first_block : ((s : List ℕ) (v : Figures) → outcome_of s ≡ worked v → value v.conversion.onsite.0 ≡ sum_of onsite_part (take 12 (rows 1 s))) → ⊥
not_the_first_block h = let e : ◌≡◌ {A = ℕ} 320000000000000000000 (12 * 10 ^ 19) = sym (value_words 320000000000000000000).number ∙ h (nth 5).bytes _ many-answered ∙ first_block_lem in omega arith

-- "A double of always zero breaks demand 3 as soon as a subtotal isn't zero."
pub zero-double : (n exact : ℕ) → n ≤ 32 → Near n (double 0) exact → exact ≡ 0
zero-double n exact h near = near-zero n exact h near

-- "An invented n or row count breaks demand 2": the counts are the sums of the kinds' counts, and that of scattered trees is of the stock rows with unit code 1
pub no_invented_count : (s : List ℕ) (c : Counts) → verdict_of s ≡ Ok c → c ≡ counts_of s
no_invented_count s c e = formed_counts s c (formed s c e)

-- "Doubles near the exact value with other bits break the named order of operations": the factors of one row from the last to the first have other bits
pub order_matters : part_of 999999 9999 999 999 999 ≡ times (times (times (times (double 999) 999) 999) 9999) 999999 → ⊥
order_matters e =
    let z : ◌≡◌ {A = ℕ} 4891273282717480353 4891273282717480354 = sym in_order ∙ ap (to_bits binary64) e ∙ from_the_last in
    omega arith
