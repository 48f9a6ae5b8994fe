-- §13: "A compiler asks what became of the biomass the worksheet doesn't burn to gas. The sheet's answer record gains five exact dry-matter totals in 10^-9 kt ..
-- Each is defined from the rows on its own. Together they equal a million times the sum of area times counted difference, for every accepted return, and the same holds
-- of each row's five parts. The record is shared with the national line and the explaining tool, which print all five."
use Rattle.std.specs.Prelude.{ℕ, ◌+◌, ◌-◌, ◌*◌, ◌^◌, ◌<◌, ◌≤◌, ◌≡◌, length, get_or, take, drop, Ok}
use Rattle.std.proofs.Common.{sym, ap, subst, ◌∙◌, arith}
use mathlib.Core.List.{List, [], ◌++◌, append_assoc, flat_map}
use Rattle.form.specs.Records.{area_of, before, after, onsite, onsite_oxidised, offsite, offsite_oxidised, counted_difference}
use Rattle.form.specs.Sums.{sum_of}
use Rattle.form.specs.Verdict.{rows, verdict_of}
use Rattle.form.specs.declared.Counts.{Counts}
use Rattle.explained.specs.Explanation.{Accepted}
use Rattle.standing.proofs.Accepted.{formed}
use Rattle.wide.specs.Numbers.{value}
use Rattle.wide.proofs.Laws.{value_words}
use Rattle.matter.specs.Matter.{lost_biomass, oxidised_onsite_part, charcoal_onsite_part, oxidised_offsite_part, charcoal_offsite_part, unburned_part, matter_of, together, plus_matter, MatterMost}
use Rattle.matter.specs.declared.Matter.{Matter}
use Rattle.matter.proofs.Whole.{row-parted, row-whole, return-together}
use Rattle.matter.proofs.Sizes.{most_le, return_most}
use Rattle.ledger.specs.Ledger.{entered, plus}
use Rattle.worksheets.specs.Sheets.{by_kind, figures_of}
use Rattle.worksheets.specs.Answers.{worked, outcome_of}
use Rattle.worksheets.specs.declared.sheets.Figures.{Figures}
use Rattle.worksheets.proofs.Accepted.{worked_out}
use Rattle.heaviest.specs.Heaviest.{heaviest_of}
use Rattle.phrases.specs.Lines.{lines_text}
use Rattle.phrases.proofs.LineTexts.{text_append}
use Rattle.fates.specs.Fates.{matter_lines, matter_text}
use Rattle.listed.specs.Listed.{Figure, listed}
use Rattle.report.specs.Lines.{line_of, text_of, printed}
use Rattle.report.proofs.InARow.{masses_at, lines_have}
use Rattle.explained.specs.Explained.{explanation_of, weights_lines, explained_text, explained}
use Rattle.explained.proofs.Laws.{accepted-explained}
use Rattle.cutting.specs.Cutting.{cut_file}
use Rattle.cutting.proofs.Going.{few_cut}
use Rattle.gathered.specs.Gathered.{accepted_of, tally_of}
use Rattle.gathered.proofs.Exact.{column-sum, matter-whole}
use Rattle.gathered.proofs.Sizes.{tally-sized}
use Rattle.gathered.proofs.Tallies.{counted}
use Rattle.national.specs.Lines.{stop_text, columns_text}
use Rattle.national.specs.Nation.{refusals_text, nation_of, printed_nation}

-- ---- the five totals of a return, each from its conversion rows on its own
-- "area times counted difference", of a row
abbrev pub cleared_of : List ℕ → ℕ
cleared_of r = area_of r * counted_difference (before r) (after r)

-- "oxidised on site, charcoal on site, oxidised off site, charcoal off site, and left unburned, the last from 1,000 less the two burned fractions"
pub record FiveTotals (s : List ℕ) (m : Matter) : Type 0 where
  pub oxidised_onsite : value m.onsite.oxidised.0 ≡ sum_of (λ r. cleared_of r * onsite r * onsite_oxidised r) (rows 1 s)
  pub charcoal_onsite : value m.onsite.charcoal.0 ≡ sum_of (λ r. cleared_of r * onsite r * (1000 - onsite_oxidised r)) (rows 1 s)
  pub oxidised_offsite : value m.offsite.oxidised.0 ≡ sum_of (λ r. cleared_of r * offsite r * offsite_oxidised r) (rows 1 s)
  pub charcoal_offsite : value m.offsite.charcoal.0 ≡ sum_of (λ r. cleared_of r * offsite r * (1000 - offsite_oxidised r)) (rows 1 s)
  pub unburned : value m.unburned.0 ≡ sum_of (λ r. cleared_of r * (1000 - (onsite r + offsite r)) * 1000) (rows 1 s)

-- of every list of bytes, so of every accepted return
pub figures-matter : (s : List ℕ) → FiveTotals s (figures_of (by_kind s)).matter
unfolding entered matter_of lost_biomass oxidised_onsite_part charcoal_onsite_part oxidised_offsite_part charcoal_offsite_part unburned_part
figures-matter s = record {
  oxidised_onsite = (value_words _).number;
  charcoal_onsite = (value_words _).number;
  oxidised_offsite = (value_words _).number;
  charcoal_offsite = (value_words _).number;
  unburned = (value_words _).number;
}

-- of an accepted return nothing is cut off where a fraction is taken from 1,000: neither is above it, nor are the two burned ones together
pub fractions_within : (s : List ℕ) (c : Counts) → verdict_of s ≡ Ok c → (i : ℕ) → i < length (rows 1 s)
    → let r = get_or (rows 1 s) i [] in (onsite_oxidised r ≤ 1000) × (offsite_oxidised r ≤ 1000) × (onsite r + offsite r ≤ 1000)
fractions_within s c e i l = let p = row-parted s c (formed s c e) i l in (p.onsite_oxidised, p.offsite_oxidised, p.both)

-- ---- "Together they equal a million times the sum of area times counted difference, for every accepted return": of whatever `figures` answers other than a refusal
pub every_tonne : (s : List ℕ) (f : Figures) → outcome_of s ≡ worked f → together f.matter ≡ 1000000 * sum_of cleared_of (rows 1 s)
unfolding entered lost_biomass
every_tonne s f e =
    let w = worked_out s f (sym e) in
    ap (λ (x : Figures). together x.matter) w.figures ∙ return-together s w.counts (formed s w.counts w.accepted)

-- "and the same holds of each row's five parts"
pub every_tonne_of_a_row : (s : List ℕ) (c : Counts) → verdict_of s ≡ Ok c → (i : ℕ) → i < length (rows 1 s)
    → let r = get_or (rows 1 s) i [] in
    cleared_of r * onsite r * onsite_oxidised r
    + cleared_of r * onsite r * (1000 - onsite_oxidised r)
    + cleared_of r * offsite r * offsite_oxidised r
    + cleared_of r * offsite r * (1000 - offsite_oxidised r)
    + cleared_of r * (1000 - (onsite r + offsite r)) * 1000
    ≡ 1000000 * cleared_of r
unfolding lost_biomass oxidised_onsite_part charcoal_onsite_part oxidised_offsite_part charcoal_offsite_part unburned_part
every_tonne_of_a_row s c e i l = row-whole (get_or (rows 1 s) i []) (row-parted s c (formed s c e) i l)

-- a return's are one word each: at most 3.2 x 10^17
pub one_word : (s : List ℕ) (f : Figures) → outcome_of s ≡ worked f → MatterMost (32 * 10 ^ 16) f.matter × (32 * 10 ^ 16 < 2 ^ 64)
unfolding entered
one_word s f e =
    let w = worked_out s f (sym e) in
    (subst (λ (x : Figures). MatterMost (32 * 10 ^ 16) x.matter) (sym w.figures) (return_most s w.counts (formed s w.counts w.accepted)), omega arith)

-- ---- the national line: each is the sum over the accepted returns, and together they are a million times the biomass that all of these cleared
pub record NationalTotals (rs : List (List ℕ)) (m : Matter) : Type 0 where
  pub oxidised_onsite : value m.onsite.oxidised.0 ≡ sum_of (λ r. value (figures_of (by_kind r)).matter.onsite.oxidised.0) rs
  pub charcoal_onsite : value m.onsite.charcoal.0 ≡ sum_of (λ r. value (figures_of (by_kind r)).matter.onsite.charcoal.0) rs
  pub oxidised_offsite : value m.offsite.oxidised.0 ≡ sum_of (λ r. value (figures_of (by_kind r)).matter.offsite.oxidised.0) rs
  pub charcoal_offsite : value m.offsite.charcoal.0 ≡ sum_of (λ r. value (figures_of (by_kind r)).matter.offsite.charcoal.0) rs
  pub unburned : value m.unburned.0 ≡ sum_of (λ r. value (figures_of (by_kind r)).matter.unburned.0) rs

pub national_matter : (s : List ℕ) → NationalTotals (accepted_of (cut_file s).returns) (nation_of s).tally.ledger.matter
unfolding tally_of plus plus_matter
national_matter s =
    let rs = accepted_of (cut_file s).returns in
    record {
      oxidised_onsite = column-sum (λ g. value g.matter.onsite.oxidised.0) (value_words 0).number (λ a b. (value_words _).number) rs;
      charcoal_onsite = column-sum (λ g. value g.matter.onsite.charcoal.0) (value_words 0).number (λ a b. (value_words _).number) rs;
      oxidised_offsite = column-sum (λ g. value g.matter.offsite.oxidised.0) (value_words 0).number (λ a b. (value_words _).number) rs;
      charcoal_offsite = column-sum (λ g. value g.matter.offsite.charcoal.0) (value_words 0).number (λ a b. (value_words _).number) rs;
      unburned = column-sum (λ g. value g.matter.unburned.0) (value_words 0).number (λ a b. (value_words _).number) rs;
    }

pub every_tonne_of_a_nation : (s : List ℕ)
    → together (nation_of s).tally.ledger.matter ≡ 1000000 * sum_of (λ r. sum_of cleared_of (rows 1 r)) (accepted_of (cut_file s).returns)
unfolding tally_of lost_biomass
every_tonne_of_a_nation s = matter-whole (cut_file s).returns

-- five hundred returns: at most 1.6 x 10^20, which is two words
pub two_words : (s : List ℕ) → MatterMost (16 * 10 ^ 19) (nation_of s).tally.ledger.matter
two_words s =
    let t = (nation_of s).tally in
    most_le (tally-sized (cut_file s).returns).matter (omega (arith, counted (cut_file s).returns, few_cut s))

-- ---- the explaining tool: of an accepted return the record that the sheets answer
pub explained-matter : (s : List ℕ) (f : Figures) → outcome_of s ≡ worked f → explanation_of s ≡ Accepted (heaviest_of s) f.matter
unfolding entered
explained-matter s f e =
    let w = worked_out s f (sym e) in
    accepted-explained s w.accepted ∙ ap (λ (x : Figures). Accepted (heaviest_of s) x.matter) (sym w.figures)

-- ---- "which print all five": what is printed of a return has the five lines in a row, and what is explained of it and the national line end with them, by the same names in the same order
-- between the lines of some figures before them and some behind
pub record HasInARow (lines text : List ℕ) : Type 0 where
  pub before_them : List Figure
  pub behind_them : List Figure
  pub whole : text ≡ flat_map line_of before_them ++ (lines ++ flat_map line_of behind_them)

pub record EndsWith (lines text : List ℕ) : Type 0 where
  pub front : List ℕ
  pub whole : text ≡ front ++ lines

pub sheets_print : (s : List ℕ) (f : Figures) → outcome_of s ≡ worked f → HasInARow (matter_text f.matter) (printed s)
sheets_print s f e = record { before_them = take masses_at (listed f); behind_them = drop (masses_at + 5) (listed f); whole = ap text_of e ∙ lines_have f }

pub explanation_prints : (s : List ℕ) (f : Figures) → outcome_of s ≡ worked f → EndsWith (matter_text f.matter) (explained s)
explanation_prints s f e =
    let w = weights_lines (heaviest_of s) in
    record { front = lines_text w; whole = ap explained_text (explained-matter s f e) ∙ text_append w (matter_lines f.matter) }

pub nation_prints : (s : List ℕ) → EndsWith (matter_text (nation_of s).tally.ledger.matter) (printed_nation s)
nation_prints s =
    let n = nation_of s in
    let t = n.tally in
    let refusals = refusals_text n.refusals in
    let stop = stop_text _ n.stop in
    let five = matter_text t.ledger.matter in
    record {
      front = refusals ++ (stop ++ columns_text t);
      whole = sym (append_assoc refusals (stop ++ columns_text t) five ∙ ap (λ (x : List ℕ). refusals ++ x) (append_assoc stop (columns_text t) five));
    }
