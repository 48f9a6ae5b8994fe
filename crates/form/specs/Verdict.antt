-- "Reading: 1 to 9. Sheets and doubles: 1 to 8": the rules of the bytes alone in the paper's order, the row counts, and the verdict.
use Rattle.std.specs.Prelude.{ℕ, zero, suc, ◌+◌, ◌≡◌, cond, List, [], ◌∷◌, ◌++◌, get_or, eqb, Ok, Err}
use Rattle.form.specs.Ruling.{Rule, rule, ruling}
use Rattle.form.specs.Block.{blocks, kind_of, count_of, edition, bad_length, bad_check, bad_header, bad_block}
use Rattle.form.specs.Records.{filed, filed_rows, record_rules}
use Rattle.form.specs.Sums.{scattered_in, sum_rules}
use Rattle.form.specs.declared.Counts.{Counts}
use Rattle.form.specs.Refusals.{Clean, Ruling, Verdict}

unfoldable pub block_rules : List ℕ → List Rule
block_rules s =
    rule 1 1 (λ p. bad_length s)
    ∷ rule 2 (blocks s) (bad_check s)
    ∷ rule 3 (blocks s) (bad_header s)
    ∷ rule 4 (blocks s) (bad_block s)
    ∷ []

-- 1 to 7 and 14, what a block or a row says by itself: a return that keeps these has its rows where the counts say, each within its limits
abbrev pub form_rules : List ℕ → List Rule
form_rules s = block_rules s ++ record_rules (edition s 0) (filed s)

-- and behind them what the rows add up to
abbrev pub rules : List ℕ → List Rule
rules s = form_rules s ++ sum_rules (filed s)

-- the sum of the counts of a kind's blocks, among the first n
unfoldable pub count_below : ℕ → List ℕ → ℕ → ℕ
count_below k s zero = 0
count_below k s (suc n) = count_below k s n + cond (eqb (kind_of s n) k) (count_of s n) 0

-- how many rows of a kind a return has: "n is the sum of the kind-1 counts"
abbrev pub row_count : ℕ → List ℕ → ℕ
row_count k s = count_below k s (blocks s)

-- the rows of a kind, in order
abbrev pub rows : ℕ → List ℕ → List (List ℕ)
rows k s = filed_rows (filed s) k

-- the edition, the row counts, and behind the kinds how many stock rows are of scattered trees. A new kind is a new line.
abbrev pub counts_of : List ℕ → Counts
counts_of s = record {
  edition = edition s 0;
  conversion = row_count 1 s;
  stock = row_count 2 s;
  harvest = row_count 3 s;
  parameters = row_count 4 s;
  abandoned = row_count 5 s;
  savanna = row_count 6 s;
  soils = row_count 7 s;
  crops = row_count 8 s;
  scattered = scattered_in (rows 2 s);
}

-- the counts as a list by kind, from 1 on. A new kind is a new line.
abbrev pub count_list : Counts → List ℕ
count_list c =
    c.conversion
    ∷ c.stock
    ∷ c.harvest
    ∷ c.parameters
    ∷ c.abandoned
    ∷ c.savanna
    ∷ c.soils
    ∷ c.crops
    ∷ []

-- the count of a kind; another number is no kind and has no rows
abbrev pub count_in : Counts → ℕ → ℕ
count_in c kind = get_or (0 ∷ count_list c) kind 0

-- "its answer, or one refusal number with its place"
abbrev pub verdict_by : List ℕ → Ruling → Verdict
verdict_by s Clean = Ok (counts_of s)
verdict_by s (Err r) = Err r

-- a return that can be read row by row: no rule is broken but perhaps one that adds rows up, and these are the counts
pub record Formed (s : List ℕ) (c : Counts) : Type 0 where
  pub clean : ruling (form_rules s) ≡ Clean
  pub counts : c ≡ counts_of s

unfoldable pub verdict_of : List ℕ → Verdict
verdict_of s = verdict_by s (ruling (rules s))
