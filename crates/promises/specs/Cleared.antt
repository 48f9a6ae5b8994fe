-- §9. "Our chart readers compare two versions of a return and must not see a smaller bar for a bigger clearing." The first return is s, the second t:
-- both accepted, of any editions. "Nothing is claimed of P, Q or the report": they are made of the other kinds too, of which nothing is asked.
use Rattle.std.specs.Prelude.{ℕ, ◌≤◌, ◌<◌, ◌≡◌, refl, List, [], length, get_or, ◌≤ℤ◌, Ok}
use Rattle.std.proofs.Common.{sym, ◌∙◌, le_refl, arith}
use Rattle.std.proofs.Math.Path.{ap}
use Rattle.form.specs.Records.{id_of, area_of, before, after, onsite, onsite_oxidised, onsite_carbon, offsite, offsite_oxidised, offsite_carbon}
use Rattle.form.specs.Records.{ten_year_area, ten_year_before, ten_year_after, decay, decay_carbon}
use Rattle.form.specs.Verdict.{rows}
use Rattle.wide.specs.Numbers.{value, words_of}
use Rattle.wide.specs.Signs.{amount}
use Rattle.wide.proofs.Laws.{value_words}
use Rattle.worksheets.specs.Answers.{worked, outcome_of, said, answered}
use Rattle.worksheets.specs.declared.sheets.Figures.{Figures}
use Rattle.doubles.specs.Subtotals.{answer_of}
use Rattle.doubles.specs.declared.Doubles.{Doubles}
use Rattle.nearness.specs.NoLower.{NoLower}
use Rattle.nearness.proofs.Cleared.{RowRaised, onsite_raised, offsite_raised, decay_raised}
use Rattle.cases.proofs.Single.{lone-answered, grown-answered, none_cleared}

-- ---- the premise
-- "each area, fraction and density before of the second is at least the first's, and each density after at most the first's": r is a conversion row of
-- the first return, q one of the second; their numbers in 01's order
pub record RowMoreCleared (r q : List ℕ) : Type 0 where
  pub same_id : id_of r ≡ id_of q
  pub area : area_of r ≤ area_of q
  pub density-before : before r ≤ before q
  pub density-after : after q ≤ after r
  pub onsite-fraction : onsite r ≤ onsite q
  pub onsite_oxidised_lem : onsite_oxidised r ≤ onsite_oxidised q
  pub onsite-carbon : onsite_carbon r ≤ onsite_carbon q
  pub offsite-fraction : offsite r ≤ offsite q
  pub offsite_oxidised_lem : offsite_oxidised r ≤ offsite_oxidised q
  pub offsite-carbon : offsite_carbon r ≤ offsite_carbon q
  pub ten_year_area_lem : ten_year_area r ≤ ten_year_area q
  pub ten_year_before_lem : ten_year_before r ≤ ten_year_before q
  pub ten_year_after_lem : ten_year_after q ≤ ten_year_after r
  pub decay-fraction : decay r ≤ decay q
  pub decay-carbon : decay_carbon r ≤ decay_carbon q

-- "the same conversion ids in the same order": as many rows, and each is so of the row at its place. Of the other kinds of rows nothing is asked
pub record MoreCleared (s t : List ℕ) : Type 0 where
  pub as_many : length (rows 1 s) ≡ length (rows 1 t)
  pub row_by_row : (i : ℕ) → i < length (rows 1 s) → RowMoreCleared (get_or (rows 1 s) i []) (get_or (rows 1 t) i [])

-- ---- what is promised
-- "none of the three exact subtotals is lower in the second": those of worksheet 5-2, in the figures f and g that the sheets answer
pub record ExactNoLower (s t : List ℕ) (f g : Figures) : Type 0 where
  pub onsite : value f.conversion.onsite.0 ≤ value g.conversion.onsite.0
  pub offsite : value f.conversion.offsite.0 ≤ value g.conversion.offsite.0
  pub decay : value f.conversion.decay.0 ≤ value g.conversion.decay.0
  pub first-answer : said (answered (outcome_of s)) ≡ worked f
  pub second-answer : said (answered (outcome_of t)) ≡ worked g

-- "nor is any of the three doubles": of d and e, which `subtotals` answers. NoLower x y: the doubles x and y are whole numbers, and y's is at least x's;
-- IEEE 754's own `<=` says so too
pub record DoublesNoLower (s t : List ℕ) (d e : Doubles) : Type 0 where
  pub onsite : NoLower d.onsite e.onsite
  pub offsite : NoLower d.offsite e.offsite
  pub decay : NoLower d.decay e.decay
  pub first-answer : answer_of s ≡ Ok d
  pub second-answer : answer_of t ≡ Ok e

pub raised : {r q : List ℕ} → RowMoreCleared r q → RowRaised r q
raised {r} {q} m = record {
  onsite = onsite_raised r q m.area m.density-before m.density-after m.onsite-fraction m.onsite_oxidised_lem m.onsite-carbon;
  offsite = offsite_raised r q m.area m.density-before m.density-after m.offsite-fraction m.offsite_oxidised_lem m.offsite-carbon;
  decay = decay_raised r q m.ten_year_area_lem m.ten_year_before_lem m.ten_year_after_lem m.decay-fraction m.decay-carbon;
}

pub as_said : {a b : ℕ} → a ≤ b → value (words_of a) ≤ value (words_of b)
as_said {a} {b} h = rw ((value_words a).number, (value_words b).number) h

-- equality is good: every return clears as much as itself
same_row : (r : List ℕ) → RowMoreCleared r r
same_row r = search le_refl

pub as_much_as_itself : (s : List ℕ) → MoreCleared s s
as_much_as_itself s = record { as_many = refl; row_by_row = λ i l. same_row (get_or (rows 1 s) i []) }

-- a claim of P would be false: it falls where less is grown, whatever is cleared
no_rows : (s t : List ℕ) → rows 1 s ≡ [] → rows 1 t ≡ [] → MoreCleared s t
no_rows s t p q = record { as_many = ap length p ∙ sym (ap length q); row_by_row = λ i l. absurd (omega (arith, ap length p)) }

pub p_may_fall : ((s t : List ℕ) (f g : Figures) → outcome_of s ≡ worked f → outcome_of t ≡ worked g → MoreCleared s t
    → amount f.stocks.p.0 ≤ℤ amount g.stocks.p.0) → ⊥
unfolding value words_of
p_may_fall claim = (claim _ _ _ _ grown-answered lone-answered (no_rows _ _ none_cleared.0 none_cleared.1)).le
