-- DEMAND 2. "Figures are the 1996 Workbook's columns, kept as exact whole numbers and rounded once, at the final tonne. Good rows written as a return read back as
-- those rows; an accepted return, read and written again, is the same bytes."
use Rattle.std.specs.Prelude.{ℕ, suc, ◌+◌, ◌-◌, ◌*◌, ◌^◌, ◌<◌, ◌≤◌, ◌≡◌, refl, cond, List, length, get_or, ltb, eqb, ℤ, pos, neg_ℤ, ◌-ℤ◌, ◌*ℤ◌, Ok}
use Rattle.std.proofs.Common.{sym, ap, subst, ◌∙◌, arith, lit<}
use Rattle.form.specs.Ruling.{on_front}
use Rattle.form.specs.Layout.{kinds}
use Rattle.form.specs.Bytes.{byte_at}
use Rattle.form.specs.Records.{unit_code, filed_rows, area_of, before, after, onsite, onsite_oxidised, onsite_carbon, offsite, offsite_oxidised, offsite_carbon, ten_year_area, ten_year_before, ten_year_after, decay, decay_carbon, counted_difference, difference, ten_year_difference}
use Rattle.form.proofs.Periods.{thinner_none, plain}
use Rattle.form.specs.Verdict.{rows, counts_of, count_in, verdict_of}
use Rattle.form.specs.declared.Counts.{Counts}
use Rattle.filing.specs.Lists.{cut, rows_in, filed_lists}
use Rattle.rows.specs.Reading.{read_answer, room_after, lengths_of}
use Rattle.rows.specs.Writing.{write_answer, bytes_after}
use Rattle.trips.proofs.Again.{returned, read-accepted, read-edition, read-counts, read-scattered, read-rows, left_behind, write_done, write_same}
use Rattle.standing.proofs.Accepted.{formed, formed_counts}
use Rattle.wide.specs.Numbers.{value}
use Rattle.wide.specs.Signs.{amount, signed_of, nearest_z}
use Rattle.wide.proofs.Laws.{value_words}
use Rattle.wide.proofs.SignLaws.{nearest_turned, form-holds}
use Rattle.form.specs.Sums.{sum_of, scattered_part, scattered_in, commercial, tonnes_per_m3, fuelwood, other_use, area_now, area_then, harvest_part, cleared_part}
use Rattle.totals.specs.Columns.{rate, stock_amount, stock_carbon, stock_part, onsite_part, offsite_part, decay_part, thinner_part, thinner_total}
use Rattle.totals.specs.Sums.{totals_of}
use Rattle.totals.proofs.Accepted.{columns-small}
use Rattle.totals.specs.Abandoned.{young_area, young_rate, young_carbon, older_area, older_rate, older_carbon, abandoned_part}
use Rattle.savannas.specs.Savannas.{burned_area, biomass, really_burned, live, live_oxidised, live_carbon, dead_oxidised, dead_carbon, nitrogen_ratio, ch4_ratio, co_ratio, n2o_ratio, nox_ratio, carbon_share, carbon_part, savannas_of}
use Rattle.savannas.specs.declared.Savannas.{Savannas}
use Rattle.crops.specs.Crops.{production, residue_ratio, dry_fraction, burned_fraction, oxidised_fraction, carbon_fraction, crop_nitrogen, crop_ch4, crop_co, crop_n2o, crop_nox, residue_carbon, crops_of}
use Rattle.crops.specs.declared.Crops.{Crops}
use Rattle.soils.specs.Soils.{native_carbon, base_factor, tillage_factor, input_factor, soil_carbon, stock_now, stock_then, all_stocks, soils_of}
use Rattle.soils.specs.declared.Soils.{Soils}
use Rattle.soils.proofs.Rows.{sums-small}
use Rattle.burning.specs.Released.{released_of, burned_by}
use Rattle.burning.specs.Gases.{gases_of}
use Rattle.burning.specs.declared.Gases.{Gases}
use Rattle.ledger.specs.Ledger.{entered}
use Rattle.ledger.specs.Derived.{stocks_of, conversion_of}
use Rattle.ledger.specs.declared.Ledger.{Ledger}
use Rattle.ledger.specs.declared.Stocks.{Stocks}
use Rattle.ledger.specs.declared.Conversion.{Conversion}
use Rattle.worksheets.specs.Sheets.{by_kind, given, abandoned_of, figures_of}
use Rattle.gathered.specs.Gathered.{ledger_in}
use Rattle.worksheets.specs.declared.sheets.Parameters.{Parameters}
use Rattle.worksheets.specs.declared.sheets.Abandoned.{Abandoned}
use Rattle.steps.proofs.Figures.{part, product, products}
use Rattle.steps.proofs.Scattered.{scattered_le}
use Rattle.promises.specs.Rounding.{Rounded, rounds, rounds_net, rounds_plain}

-- "its difference counts as 0": what a period counts with, by its densities before and after, in every column below and in the doubles
pub thinner-counts_0 : (b a : ℕ) → b < a → counted_difference b a ≡ 0
thinner-counts_0 = thinner_none

pub else_the_difference : (b a : ℕ) → a ≤ b → counted_difference b a ≡ b - a
else_the_difference = plain

-- "carbon of both" parts of a savanna row, the live and the dead: "The dead fraction is 1,000 less the live one."
abbrev pub carbon_of : List ℕ → ℕ
carbon_of r = burned_area r * biomass r * really_burned r * (live r * live_oxidised r * live_carbon r + (1000 - live r) * dead_oxidised r * dead_carbon r)

-- "5-1", as 01 has it, with the differences that count; the parameter row gives N. A mass is the number `value` of its two words, or `amount` with a sign
pub record Sheet5-1 (s : List ℕ) (v : Stocks) : Type 0 where
  pub E : value v.e.0 ≡ sum_of (λ r. stock_amount r * rate r * stock_carbon r) (rows 2 s)
  pub K : value v.k.0 ≡ sum_of (λ r. commercial r * tonnes_per_m3 r + 1000 * (fuelwood r + other_use r)) (rows 3 s)
  pub L : value v.l.0 ≡ sum_of (λ r. area_of r * difference r * offsite r) (rows 1 s)
  pub M : amount v.m.0 ≡ pos (100 * value v.k.0) -ℤ pos (value v.l.0)
  pub O : amount v.o.0 ≡ amount v.m.0 *ℤ pos (given (by_kind s)).n
  pub P : amount v.p.0 ≡ pos (100 * value v.e.0) -ℤ amount v.o.0
  pub Q : Rounded (pos 11 *ℤ amount v.p.0) 3000000 (amount v.q.0)
  pub report : amount v.report.0 ≡ neg_ℤ (amount v.q.0)
  pub report_rounded : Rounded (neg_ℤ (pos 11 *ℤ amount v.p.0)) 3000000 (amount v.report.0)

-- "5-2"
pub record Sheet5-2 (s : List ℕ) (v : Conversion) : Type 0 where
  pub onsite : value v.onsite.0 ≡ sum_of (λ r. area_of r * difference r * onsite r * onsite_oxidised r * onsite_carbon r) (rows 1 s)
  pub offsite : value v.offsite.0 ≡ sum_of (λ r. area_of r * difference r * offsite r * offsite_oxidised r * offsite_carbon r) (rows 1 s)
  pub R : value v.r.0 ≡ value v.onsite.0 + value v.offsite.0
  pub decay : value v.decay.0 ≡ sum_of (λ r. ten_year_area r * ten_year_difference r * decay r * 1000 * decay_carbon r) (rows 1 s)
  pub CO2 : Rounded (pos (11 * (value v.r.0 + value v.decay.0))) (3 * 10 ^ 9) (pos (value v.co2.0))

-- "the number of (row, period) pairs with after above before"
abbrev pub thinner_pairs : List ℕ → ℕ
thinner_pairs s = sum_of (λ r. cond (ltb (before r) (after r)) 1 0 + cond (ltb (ten_year_before r) (ten_year_after r)) 1 0) (rows 1 s)

-- "how many such rows there were": of the stock rows, those with unit code 1
abbrev pub scattered_rows : List ℕ → ℕ
scattered_rows s = sum_of (λ r. cond (eqb (unit_code r) 1) 1 0) (rows 2 s)

-- "5-3, from on-site carbon only"; the parameter row gives the ratios
pub record Sheet5-3 (c : ℕ) (p : Parameters) (v : Gases) : Type 0 where
  pub CH4 : Rounded (pos (4 * c * p.ch4)) (3 * 10 ^ 12) (pos (value v.ch4.0))
  pub CO : Rounded (pos (7 * c * p.co)) (3 * 10 ^ 12) (pos (value v.co.0))
  pub N2O : Rounded (pos (11 * c * p.nc * p.n2o)) (7 * 10 ^ 15) (pos (value v.n2o.0))
  pub NOx : Rounded (pos (23 * c * p.nc * p.nox)) (7 * 10 ^ 15) (pos (value v.nox.0))

-- 5-4, as the request for it has it: "the sum of the two products over the rows, then CO2 by 11/3, rounded once"
pub record Sheet5-4 (s : List ℕ) (v : Abandoned) : Type 0 where
  pub uptake : value v.uptake.0 ≡ sum_of (λ r. young_area r * young_rate r * young_carbon r + older_area r * older_rate r * older_carbon r) (rows 5 s)
  pub CO2 : Rounded (pos (11 * value v.uptake.0)) 30000 (pos (value v.co2.0))

-- 4-3, as the request for it has it: the row's own ratios; "each gas summed exactly over the rows and rounded once"
pub record Sheet4-3 (s : List ℕ) (v : Savannas) : Type 0 where
  pub carbon : value v.carbon.0 ≡ sum_of carbon_of (rows 6 s)
  pub CH4 : Rounded (pos (4 * sum_of (λ r. carbon_of r * ch4_ratio r) (rows 6 s))) (3 * 10 ^ 15) (pos (value v.gases.ch4.0))
  pub CO : Rounded (pos (7 * sum_of (λ r. carbon_of r * co_ratio r) (rows 6 s))) (3 * 10 ^ 15) (pos (value v.gases.co.0))
  pub N2O : Rounded (pos (11 * sum_of (λ r. carbon_of r * nitrogen_ratio r * n2o_ratio r) (rows 6 s))) (7 * 10 ^ 18) (pos (value v.gases.n2o.0))
  pub NOx : Rounded (pos (23 * sum_of (λ r. carbon_of r * nitrogen_ratio r * nox_ratio r) (rows 6 s))) (7 * 10 ^ 18) (pos (value v.gases.nox.0))

-- "Soil carbon is the product of native carbon and the three factors, and a stock is that times the area", summed over the rows: now, and twenty years ago
abbrev pub carbon_of_soil : List ℕ → ℕ
carbon_of_soil r = native_carbon r * base_factor r * tillage_factor r * input_factor r

abbrev pub stocks_now : List ℕ → ℕ
stocks_now s = sum_of (λ r. carbon_of_soil r * area_now r) (rows 7 s)

abbrev pub stocks_then : List ℕ → ℕ
stocks_then s = sum_of (λ r. carbon_of_soil r * area_then r) (rows 7 s)

-- 5-5, as the request for it has it: "the sum of stocks now less that of twenty years ago, over 20, signed, kept exact and rounded once to tonnes of carbon", where a stock counts in 10^-4 t
pub record Sheet5-5 (s : List ℕ) (v : Soils) : Type 0 where
  pub soil : amount v.soil.0 ≡ pos (stocks_now s) -ℤ pos (stocks_then s)
  pub change : Rounded (pos (stocks_now s) -ℤ pos (stocks_then s)) (20 * 10 ^ 4) (amount v.change.0)

-- 4-4, as the request for it has it: "production .., residue ratio .., dry matter, burned and oxidised fractions .., carbon fraction", multiplied, and the crop's own ratios; "each summed exactly over the rows and rounded once"
abbrev pub carbon_of_crop : List ℕ → ℕ
carbon_of_crop r = production r * residue_ratio r * dry_fraction r * burned_fraction r * (oxidised_fraction r * carbon_fraction r)

pub record Sheet4-4 (s : List ℕ) (v : Crops) : Type 0 where
  pub carbon : value v.carbon.0 ≡ sum_of carbon_of_crop (rows 8 s)
  pub CH4 : Rounded (pos (4 * sum_of (λ r. carbon_of_crop r * crop_ch4 r) (rows 8 s))) (3 * 10 ^ 16) (pos (value v.gases.ch4.0))
  pub CO : Rounded (pos (7 * sum_of (λ r. carbon_of_crop r * crop_co r) (rows 8 s))) (3 * 10 ^ 16) (pos (value v.gases.co.0))
  pub N2O : Rounded (pos (11 * sum_of (λ r. carbon_of_crop r * crop_nitrogen r * crop_n2o r) (rows 8 s))) (7 * 10 ^ 19) (pos (value v.gases.n2o.0))
  pub NOx : Rounded (pos (23 * sum_of (λ r. carbon_of_crop r * crop_nitrogen r * crop_nox r) (rows 8 s))) (7 * 10 ^ 19) (pos (value v.gases.nox.0))

-- "rounded once, at the final tonne": Q, the report and CO2 from the columns of one return, or from their sums over several
pub q_rounded : (g : Ledger) → Rounded (pos 11 *ℤ amount (stocks_of g).p.0) 3000000 (amount (stocks_of g).q.0)
unfolding stocks_of
q_rounded g = rounds_net (pos 11 *ℤ amount (stocks_of g).p.0) 3000000 (lit< tt)

pub report_rounded : (g : Ledger) → Rounded (neg_ℤ (pos 11 *ℤ amount (stocks_of g).p.0)) 3000000 (amount (stocks_of g).report.0)
unfolding stocks_of
report_rounded g =
    let x = pos 11 *ℤ amount (stocks_of g).p.0 in
    let q = (stocks_of g).q in
    subst (Rounded (neg_ℤ x) 3000000) (nearest_turned x 3000000 (lit< tt) ∙ ap neg_ℤ (sym (form-holds (nearest_z x 3000000)).number) ∙ sym (form-holds (neg_ℤ (amount q.0))).number) (rounds (neg_ℤ x) 3000000 (lit< tt))

pub co2_rounded : (g : Ledger) → Rounded (pos (11 * (value (conversion_of g).r.0 + value (conversion_of g).decay.0))) (3 * 10 ^ 9) (pos (value (conversion_of g).co2.0))
unfolding conversion_of
co2_rounded g = rounds_plain _ (lit< tt) (part 11 _)

-- the figures are the columns: of every list of bytes, so of every accepted return
pub figures_5_1 : (s : List ℕ) → Sheet5-1 s (figures_of (by_kind s)).stocks
unfolding stocks_of entered totals_of stock_part harvest_part cleared_part
figures_5_1 s =
    let g = ledger_in s in
    record {
      E = (value_words _).number;
      K = (value_words _).number;
      L = (value_words _).number;
      M = (form-holds _).number;
      O = (form-holds _).number;
      P = (form-holds _).number;
      Q = q_rounded g;
      report = (form-holds _).number;
      report_rounded = report_rounded g;
    }

pub figures_5_2 : (s : List ℕ) → Sheet5-2 s (figures_of (by_kind s)).conversion
unfolding conversion_of entered totals_of onsite_part offsite_part decay_part
figures_5_2 s = record { onsite = (value_words _).number; offsite = (value_words _).number; R = (value_words _).number; decay = (value_words _).number; CO2 = co2_rounded (ledger_in s) }

pub figures-thinner : (s : List ℕ) → value (figures_of (by_kind s)).thinner.0 ≡ thinner_pairs s
unfolding thinner_part
figures-thinner s = (value_words (thinner_pairs s)).number

-- two periods of each of 32 rows
pub few_thinner : (s : List ℕ) (c : Counts) → verdict_of s ≡ Ok c → value (figures_of (by_kind s)).thinner.0 ≤ 64
few_thinner s c accepted = omega (arith, (columns-small s c (formed s c accepted)).6, (value_words (thinner_total (rows 1 s))).number)

pub figures_5_3 : (s : List ℕ) → Sheet5-3 (value (figures_of (by_kind s)).conversion.onsite.0) (given (by_kind s)) (figures_of (by_kind s)).gases
unfolding conversion_of entered totals_of released_of gases_of
figures_5_3 s = record {
  CH4 = rounds_plain _ (lit< tt) (product 4 _ _);
  CO = rounds_plain _ (lit< tt) (product 7 _ _);
  N2O = rounds_plain _ (lit< tt) (products 11 _ _ _);
  NOx = rounds_plain _ (lit< tt) (products 23 _ _ _);
}

pub figures_5_4 : (s : List ℕ) → Sheet5-4 s (figures_of (by_kind s)).abandoned
unfolding abandoned_of abandoned_part
figures_5_4 s = record { uptake = (value_words _).number; CO2 = rounds_plain _ (lit< tt) refl }

pub figures_4_3 : (s : List ℕ) → Sheet4-3 s (figures_of (by_kind s)).savannas
unfolding savannas_of burned_by gases_of carbon_share carbon_part
figures_4_3 s = record { carbon = (value_words _).number; CH4 = rounds_plain _ (lit< tt) (part 4 _); CO = rounds_plain _ (lit< tt) (part 7 _); N2O = rounds_plain _ (lit< tt) (part 11 _); NOx = rounds_plain _ (lit< tt) (part 23 _) }

pub figures_4_4 : (s : List ℕ) → Sheet4-4 s (figures_of (by_kind s)).crops
unfolding crops_of burned_by gases_of residue_carbon
figures_4_4 s = record { carbon = (value_words _).number; CH4 = rounds_plain _ (lit< tt) (part 4 _); CO = rounds_plain _ (lit< tt) (part 7 _); N2O = rounds_plain _ (lit< tt) (part 11 _); NOx = rounds_plain _ (lit< tt) (part 23 _) }

pub figures_5_5 : (s : List ℕ) → Sheet5-5 s (figures_of (by_kind s)).soils
unfolding soils_of all_stocks soil_carbon stock_now stock_then
figures_5_5 s =
    let z = pos (stocks_now s) -ℤ pos (stocks_then s) in
    let e = (form-holds z).number in
    record { soil = e; change = subst (λ (x : ℤ). Rounded z (20 * 10 ^ 4) (amount (signed_of (nearest_z x (20 * 10 ^ 4))))) (sym e) (rounds_net z (20 * 10 ^ 4) (lit< tt)) }

-- the rows of scattered trees, as a figure and in the answer's counts
pub figures-scattered : (s : List ℕ) → value (figures_of (by_kind s)).scattered.0 ≡ scattered_rows s
unfolding scattered_part
figures-scattered s = (value_words (scattered_rows s)).number

pub counts-scattered : (s : List ℕ) (c : Counts) → verdict_of s ≡ Ok c → c.scattered ≡ scattered_rows s
unfolding scattered_part
counts-scattered s c accepted = ap (λ (x : Counts). x.scattered) (formed_counts s c (formed s c accepted))

-- no more of them than stock rows
pub few_scattered : (s : List ℕ) (c : Counts) → verdict_of s ≡ Ok c → c.scattered ≤ c.stock
few_scattered s c accepted = scattered_le s c accepted

-- no sum overflows: 32 stocks of at most 2.7 x 10^16 are below 2^60, so either sum is one word
pub soils_fit : (s : List ℕ) (c : Counts) → verdict_of s ≡ Ok c → (stocks_now s < 2 ^ 60) × (stocks_then s < 2 ^ 60)
unfolding soil_carbon stock_now stock_then
soils_fit s c accepted = let w = sums-small s c (formed s c accepted) in (omega (arith, w.0), omega (arith, w.1))

-- ---- "Good rows written as a return read back as those rows"
-- Whatever write answers other than a refusal: the bytes that it left at the front of its room, read to any room that is long enough for the rows, are
-- accepted with the edition that they were written in and the counts of the rows, of scattered trees too, and the rows, kind after kind, stand at the front of that room.
pub record ReadsBack (edition : ℕ) (lengths rows : List ℕ) (s room : List ℕ) : Type 0 where
  pub accepted : read_answer s room ≡ Ok (counts_of s)
  pub same_edition : (counts_of s).edition ≡ edition
  pub counts : (k : ℕ) → k < kinds → count_in (counts_of s) (suc k) ≡ rows_in (suc k) (get_or lengths k 0)
  pub scattered : (counts_of s).scattered ≡ scattered_in (filed_rows (filed_lists (cut lengths rows)) 2)
  pub front : room_after s room (Ok (counts_of s)) ≡ on_front rows room

pub written_reads_back : (edition : ℕ) (lengths rows bytes : List ℕ) (n : ℕ) → write_answer edition lengths rows bytes ≡ Ok n
    → (room : List ℕ) → length rows ≤ length room → ReadsBack edition lengths rows (returned edition lengths rows bytes n) room
written_reads_back edition lengths rows bytes n done room long = record {
  accepted = read-accepted edition lengths rows bytes n done room long;
  same_edition = read-edition edition lengths rows bytes n done;
  counts = read-counts edition lengths rows bytes n done;
  scattered = read-scattered edition lengths rows bytes n done;
  front = read-rows edition lengths rows bytes n done room (counts_of (returned edition lengths rows bytes n));
}

-- ---- "an accepted return, read and written again, is the same bytes"
-- Whatever read answers other than a refusal: the rows that it left at the front of its room, cut by the counts that it answered and written, in the edition that it
-- answered, to any room that is long enough, are as many bytes as the return has, and the same.
pub record WritesBack (s : List ℕ) (edition : ℕ) (lengths rows room : List ℕ) : Type 0 where
  pub done : write_answer edition lengths rows room ≡ Ok (length s)
  pub front : bytes_after edition lengths rows room (Ok (length s)) ≡ on_front s room

-- The definitions speak of lists of any numbers, so it is said that these are bytes; of what is lent as `&[u8]` that is known (Lent).
abbrev pub Bytes : List ℕ → Type 0
Bytes s = (i : ℕ) → i < length s → byte_at s i < 256

pub read_writes_back : (s : List ℕ) → Bytes s → (room : List ℕ) (c : Counts) → read_answer s room ≡ Ok c
    → (bytes : List ℕ) → length s ≤ length bytes → WritesBack s c.edition (lengths_of c) (left_behind s room c) bytes
read_writes_back s small room c read bytes long = record {
  done = write_done s room c read small bytes long;
  front = write_same s room c read small bytes long;
}
