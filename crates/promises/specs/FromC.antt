-- What success leaves in lent memory, from C, and demands 2 and 3 of that memory: the call gets back 0, and the answer stands "at the front; later elements
-- keep their values".
-- What a refusal leaves is in Demand1; the heaviest row from C is in Heaviest, the lookup's entry in Table52.
use Rattle.std.specs.Prelude.{ℕ, suc, ◌≤◌, ◌<◌, ◌≡◌, refl, List, [], ◌∷◌, ◌++◌, get_or, take, Ok}
use Rattle.std.proofs.Common.{sym, ◌∙◌, le-ltb}
use Rattle.std.proofs.Math.Path.{ap}
use Rattle.std.specs.Float.{binary64}
use Rattle.std.specs.Float.Ieee.{of_bits, to_bits}
use Rattle.std.proofs.Math.ListN.{length, drop}
use Rattle.form.specs.Bytes.{number, little_endian}
use Rattle.form.specs.Layout.{kinds}
use Rattle.form.specs.Ruling.{too_short, ruling, on_front}
use Rattle.form.specs.Records.{filed_rows}
use Rattle.form.specs.Sums.{scattered_in}
use Rattle.form.specs.Verdict.{rules, rows, counts_of, count_list, verdict_of}
use Rattle.form.specs.declared.Counts.{Counts}
use Rattle.form.specs.Refusals.{Clean}
use Rattle.form.proofs.Order.{kept-before, one_kept, long_enough}
use Rattle.standing.proofs.Accepted.{formed, formed_counts, accepted-ruling}
use Rattle.filing.specs.Lists.{cut, total, rows_in, filed_lists}
use Rattle.rows.specs.Reading.{area_to, lengths_from}
use Rattle.rows.specs.Writing.{write_rules, write_answer, bytes_after}
use Rattle.rows.proofs.Return.{done_by}
use Rattle.totals.specs.Codes.{by_code, wrong_code}
use Rattle.worksheets.specs.Sheets.{by_kind, figures_of}
use Rattle.wide.specs.Numbers.{value}
use Rattle.doubles.specs.Subtotals.{subtotals_of}
use Rattle.nearness.specs.Near.{Near}
use Rattle.listed.specs.Listed.{figure_numbers, numbers_room}
use Rattle.counted.specs.Counts.{held, counts_room, judge_call, counts_judged}
use Rattle.tabled.specs.Figures.{figures_answer, figures_told}
use Rattle.charted.specs.Subtotal.{subtotal_call, double_by, bits_told}
use Rattle.handed.specs.Rows.{read_call, rows_read, counts_read, write_call, blocks_written, size_written}
use Rattle.handed.proofs.Calls.{read_kept, write_called}
use Rattle.door.specs.Door.{code_of}
use Rattle.steps.proofs.Doubles.{subtotal_fits, bits_back, by_code-holds}
use Rattle.promises.specs.Demand3.{demand_3}

-- ---- of an accepted return, in rooms that are long enough
module _ (s : List ℕ) (c : Counts) (accepted : verdict_of s ≡ Ok c) where
  counts_are : c ≡ counts_of s
  counts_are = formed_counts s c (formed s c accepted)

  clean : ruling (rules s) ≡ Clean
  clean = accepted-ruling s c accepted

  -- niloferq_judge: the edition, then the rows of each kind, last the rows of scattered trees
  pub c_judge_told : (room : List ℕ) → counts_room ≤ length room
      → (code_of (judge_call s room) ≡ 0) × (counts_judged s room ≡ on_front (c.edition ∷ (count_list c ++ (c.scattered ∷ []))) room)
  c_judge_told room h =
      rw (kept-before (rules s) (too_short counts_room room ∷ []) clean ∙ long_enough counts_room room h)
      (refl, ap (λ (x : Counts). on_front (held x) room) (sym counts_are))

  -- niloferq_figures: the figures of the sheets, in the order of the lines
  pub c_figures_told : (room : List ℕ) → numbers_room ≤ length room
      → (code_of (figures_answer s room) ≡ 0) × (figures_told s room ≡ on_front (figure_numbers (figures_of (by_kind s))) room)
  c_figures_told room h = rw (kept-before (rules s) (too_short numbers_room room ∷ []) clean ∙ long_enough numbers_room room h) (refl, refl)

  -- niloferq_subtotal: "the first eight bytes of that room then hold the double's bits, little-endian"
  module _ (code : ℕ) (room : List ℕ) (h : code ≤ 2) (long : 8 ≤ length room) where
    pub c_subtotal_told : (code_of (subtotal_call s code room) ≡ 0)
        × (bits_told s code room ≡ on_front (little_endian 8 (to_bits binary64 (double_by code (subtotals_of (rows 1 s))))) room)
    c_subtotal_told =
        let k = one_kept 11 _ (too_short 8 room ∷ []) (le-ltb 2 code h) ∙ long_enough 8 room long in
        rw (kept-before (rules s) (wrong_code code ∷ too_short 8 room ∷ []) clean ∙ k)
        (refl, refl)

    -- read back, these eight bytes are the double that `subtotals` answers
    pub c_subtotal_read : of_bits binary64 (number 8 (bits_told s code room) 0) ≡ double_by code (subtotals_of (rows 1 s))
    c_subtotal_read =
        ap (λ (l : List ℕ). of_bits binary64 (number 8 l 0)) c_subtotal_told.1
        ∙ bits_back (double_by code (subtotals_of (rows 1 s))) room (subtotal_fits code (rows 1 s))

    -- demand 3 of these eight bytes: the double that they are is as near to its exact subtotal
    pub c_demand_3 : let v = (figures_of (by_kind s)).conversion in
        Near c.conversion (of_bits binary64 (number 8 (bits_told s code room) 0))
        (by_code code (value v.onsite.0) (value v.offsite.0) (value v.decay.0))
    c_demand_3 = let d = demand_3 s c accepted in rw c_subtotal_read (by_code-holds (Near c.conversion) code d.onsite d.offsite d.decay)

  -- niloferq_read: the rows, kind after kind; and in the other room what the judge leaves there
  pub c_read_told : (area counts : List ℕ) → length (area_to s kinds) ≤ length area → counts_room ≤ length counts
      → (code_of (read_call s area counts) ≡ 0) × (rows_read s area counts ≡ on_front (area_to s kinds) area)
      × (counts_read s area counts ≡ on_front (c.edition ∷ (count_list c ++ (c.scattered ∷ []))) counts)
  c_read_told area counts l h =
      rw (read_kept s area counts clean l h) (refl, refl, ap (λ (x : Counts). on_front (held x) counts) (sym counts_are))

-- ---- "Good rows written as a return read back as those rows", by niloferq_write and niloferq_read
-- what niloferq_write left: as many bytes of its room as it says
abbrev pub bytes_left : List ℕ → List ℕ → List ℕ
bytes_left room size = take (get_or size 0 0) room

pub record ReadsBackC (edition : ℕ) (lengths rows s area counts : List ℕ) : Type 0 where
  pub code : code_of (read_call s area counts) ≡ 0
  pub same_edition : get_or (counts_read s area counts) 0 0 ≡ edition
  pub counted : (k : ℕ) → k < kinds → get_or (counts_read s area counts) (suc k) 0 ≡ rows_in (suc k) (get_or lengths k 0)
  pub scattered : get_or (counts_read s area counts) (suc kinds) 0 ≡ scattered_in (filed_rows (filed_lists (cut lengths rows)) 2)
  pub front : rows_read s area counts ≡ on_front rows area

-- ---- "an accepted return, read and written again, is the same bytes", by niloferq_read and niloferq_write
-- what niloferq_read left, by its room of counts: the edition, how many numbers each kind's rows have, and the rows
abbrev pub edition_left : List ℕ → ℕ
edition_left counts = get_or counts 0 0

abbrev pub lengths_left : List ℕ → List ℕ
lengths_left counts = lengths_from 1 (take kinds (drop 1 counts))

abbrev pub rows_left : List ℕ → List ℕ → List ℕ
rows_left area counts = take (total (lengths_left counts)) area

pub record WritesBackC (s : List ℕ) (edition : ℕ) (rows lengths room size : List ℕ) : Type 0 where
  pub code : code_of (write_call edition rows lengths room size) ≡ 0
  pub front : blocks_written edition rows lengths room size ≡ on_front s room
  pub sized : size_written edition rows lengths room size ≡ on_front (length s ∷ []) size

-- from what the write in Rattle answers
pub written_from : (s : List ℕ) (edition : ℕ) (rows lengths room size : List ℕ)
    → write_answer edition lengths rows room ≡ Ok (length s) → bytes_after edition lengths rows room (Ok (length s)) ≡ on_front s room → 1 ≤ length size
    → WritesBackC s edition rows lengths room size
unfolding write_answer
written_from s edition rows lengths room size done front h =
    let k = write_called edition rows lengths room size (length s) done h in
    let n = (done_by edition (cut lengths rows) (ruling (write_rules edition lengths rows room)) done).1 in
    record { code = ap code_of k; front = rw k front; sized = rw k (ap (λ (x : ℕ). on_front (x ∷ []) size) n) }
