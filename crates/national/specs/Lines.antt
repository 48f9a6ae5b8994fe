-- §10: the lines that `nation` prints, each "ended by a line feed". Assumes nothing.
use Rattle.std.specs.Prelude.{ℕ, suc, ◌≤◌, ℤ, pos, Ok}
use mathlib.Core.List.{List, [], ◌∷◌, ◌++◌, map, flat_map}
use Rattle.wide.specs.Numbers.{value}
use Rattle.wide.specs.Signs.{amount}
use Rattle.wide.specs.declared.Wide.{Wide}
use Rattle.wide.specs.declared.signed.Signed.{Signed}
use Rattle.decimal.specs.Digits.{decimal}
use Rattle.phrases.specs.Ascii.{codes}
use Rattle.phrases.specs.Lines.{line, refused_line}
use Rattle.form.specs.Refusals.{Refused, Verdict}
use Rattle.ledger.specs.Derived.{stocks_of, conversion_of}
use Rattle.ledger.specs.declared.Stocks.{Stocks}
use Rattle.ledger.specs.declared.Conversion.{Conversion}
use Rattle.fates.specs.Fates.{matter_text}
use Rattle.cutting.specs.declared.Stop.{Stop}
use Rattle.cutting.specs.declared.Stop.TheVariants.{Whole, Blocks, Short, Many}
use Rattle.gathered.specs.declared.Tally.{Tally}

-- "A refused return is listed by its position, from 1, with number and place"
pub record Refusal : Type 0 where
  pub position : ℕ
  pub number : ℕ
  pub place : ℕ

-- `return POSITION refused NUMBER PLACE`
unfoldable pub refusal_line : Refusal → List ℕ
refusal_line r = codes "return " ++ (decimal r.position ++ 32 ∷ refused_line r.number r.place)

-- `stopped POSITION`, a space, and why, with the line feed
abbrev pub stop_line : ℕ → List ℕ → List ℕ
stop_line i why = codes "stopped " ++ (decimal i ++ 32 ∷ why)

-- `blocks N`, "a first header that says 0 blocks or more than" a return has; `short`, "a file that ends inside a return"; `many`, "a 501st return";
-- nothing of a whole file
unfoldable pub stop_text : ℕ → Stop → List ℕ
stop_text i Whole = []
stop_text i (Blocks n) = stop_line i (codes "blocks " ++ (decimal n ++ 10 ∷ []))
stop_text i Short = stop_line i (codes "short" ++ 10 ∷ [])
stop_text i Many = stop_line i (codes "many" ++ 10 ∷ [])

-- a name and a number
pub record Total : Type 0 where
  pub name : List ℕ
  pub number : ℤ

abbrev pub total : List ℕ → ℕ → Total
total name n = record { name = name; number = pos n }

abbrev pub exact : List ℕ → Wide → Total
exact name w = total name (value w)

abbrev pub net : List ℕ → Signed → Total
net name z = record { name = name; number = amount z }

-- how many were accepted and refused; "exact national totals of E, K, L, M, P, on-site, off-site and decay carbon, with Q, the report and co2"
unfoldable pub totals_by : ℕ → ℕ → Stocks → Conversion → List Total
totals_by accepted refused s c =
    total (codes "accepted") accepted
    ∷ total (codes "refused") refused
    ∷ exact (codes "E") s.e.0
    ∷ exact (codes "K") s.k.0
    ∷ exact (codes "L") s.l.0
    ∷ net (codes "M") s.m.0
    ∷ net (codes "P") s.p.0
    ∷ net (codes "Q") s.q.0
    ∷ net (codes "report") s.report.0
    ∷ exact (codes "onsite") c.onsite.0
    ∷ exact (codes "offsite") c.offsite.0
    ∷ exact (codes "decay") c.decay.0
    ∷ exact (codes "co2") c.co2.0
    ∷ []

abbrev pub numbers_in : List Total → List ℤ
numbers_in xs = map (λ (x : Total). x.number) xs

-- "rounded once from them": worksheets 5-1 and 5-2 of the sum of the ledgers
abbrev pub totals_in : Tally → List Total
totals_in t = totals_by t.accepted t.refused (stocks_of t.ledger) (conversion_of t.ledger)

abbrev pub total_line : Total → List ℕ
total_line x = line x.name x.number

abbrev pub columns_text : Tally → List ℕ
columns_text t = flat_map total_line (totals_in t)

-- behind `co2` what became of the cleared biomass, of the sum of the ledgers too
abbrev pub totals_text : Tally → List ℕ
totals_text t = columns_text t ++ matter_text t.ledger.matter
