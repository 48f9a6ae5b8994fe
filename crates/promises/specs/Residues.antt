-- §14: "Two accepted returns that differ only in kind-8 rows, and in the headers and checks that these force, have the same figures in every other sheet."
-- Both accepted, of any editions; s is the one, t the other. The figures of crop residues are in Demand2.
use Rattle.std.specs.Prelude.{ℕ, zero, suc, ◌+◌, ◌*◌, ◌<◌, ◌≤◌, ◌≡◌, refl, List, [], ◌∷◌, Ok, Err}
use Rattle.std.proofs.Common.{sym, ap, ◌∙◌, arith, lit≤}
use Rattle.form.specs.Bytes.{byte_at}
use Rattle.form.specs.Layout.{kinds}
use Rattle.form.specs.Block.{blocks, kind_of}
use Rattle.form.specs.Ruling.{ruling}
use Rattle.form.specs.Verdict.{rules, rows, verdict_of}
use Rattle.form.specs.declared.Counts.{Counts}
use Rattle.form.specs.Refusals.{Clean, Ruling}
use Rattle.form.proofs.EachKind.{kinds_are, one_kind}
use Rattle.form.proofs.Order.{kept-before}
use Rattle.standing.proofs.Accepted.{accepted-ruling}
use Rattle.totals.specs.Codes.{wrong_code}
use Rattle.worksheets.specs.Sheets.{by_kind}
use Rattle.worksheets.specs.Answers.{worked, outcome_of}
use Rattle.worksheets.specs.declared.sheets.Figures.{Figures}
use Rattle.worksheets.proofs.Accepted.{worked_out}
use Rattle.doubles.specs.Subtotals.{answer_by, answer_of, subtotals_of}
use Rattle.heaviest.specs.Heaviest.{part_by, heaviest_in, named_of, named_by, heaviest_answer}
use Rattle.steps.proofs.Residues.{but_for_crops, other_sheets}
use Rattle.cases.specs.Cases.{wheat}
use Rattle.cases.proofs.Single.{nth, land_case, bare_case, land-answered, bare_answered, wheat_alone}

-- ---- the premise, of the rows: those of every other kind are the same
abbrev pub SameRows : List ℕ → List ℕ → Type 0
SameRows s t = (k : ℕ) → 1 ≤ k → k ≤ kinds → (k ≡ 8 → ⊥) → rows k s ≡ rows k t

-- ---- and of the bytes
-- block b is the same in both, but for the number of blocks and the edition in its header, offsets 4 to 7, and its check, offsets 508 to 511
pub record BlockAlike (s t : List ℕ) (b : ℕ) : Type 0 where
  pub head : (i : ℕ) → i < 4 → byte_at s (512 * b + i) ≡ byte_at t (512 * b + i)
  pub body : (i : ℕ) → 8 ≤ i → i < 508 → byte_at s (512 * b + i) ≡ byte_at t (512 * b + i)

-- a block of another kind than 8, in either return, is in the other too, and alike; of the blocks of kind 8, and of how many there are, nothing is asked
pub record DifferInCrops (s t : List ℕ) : Type 0 where
  pub from_one : (b : ℕ) → b < blocks s → (kind_of s b ≡ 8 → ⊥) → (b < blocks t) × BlockAlike s t b
  pub from_other : (b : ℕ) → b < blocks t → (kind_of t b ≡ 8 → ⊥) → (b < blocks s) × BlockAlike s t b

-- the second is a case of the first
pub alike-rows : (s t : List ℕ) → DifferInCrops s t → SameRows s t
alike-rows s t d k lo hi other =
    but_for_crops s t (BlockAlike s t) (λ b i a. a.head i) (λ b i a. a.body i) d.from_one d.from_other k other

-- two returns that it holds of, and whose crop rows differ: the worked day with rows of every kind, with its wheat and without it
pub a_pair : SameRows (nth land_case).bytes (nth bare_case).bytes × (rows 8 (nth land_case).bytes ≡ wheat ∷ []) × (rows 8 (nth bare_case).bytes ≡ [])
a_pair = (λ k lo hi other. alone k lo hi other, wheat_alone.1, wheat_alone.2)
  where
    alone : (k : ℕ) → 1 ≤ k → k ≤ kinds → (k ≡ 8 → ⊥) → rows k (nth land_case).bytes ≡ rows k (nth bare_case).bytes
    alone zero lo hi other = absurd (omega arith)
    alone (suc k) lo hi other = wheat_alone.0 k (omega (arith, kinds_are))

pub a_pair_accepted : (outcome_of (nth land_case).bytes ≡ (nth land_case).answer.sheets) × (outcome_of (nth bare_case).bytes ≡ (nth bare_case).answer.sheets)
a_pair_accepted = (land-answered, bare_answered)

-- ---- what is promised
-- "the same figures in every other sheet": each field of the figures but `crops`
pub record SameOtherSheets (f g : Figures) : Type 0 where
  pub sheet_5_1 : f.stocks ≡ g.stocks
  pub sheet_5_2 : f.conversion ≡ g.conversion
  pub thinner : f.thinner ≡ g.thinner
  pub sheet_5_3 : f.gases ≡ g.gases
  pub sheet_5_4 : f.abandoned ≡ g.abandoned
  pub sheet_4_3 : f.savannas ≡ g.savannas
  pub sheet_5_5 : f.soils ≡ g.soils
  pub scattered : f.scattered ≡ g.scattered
  pub matter : f.matter ≡ g.matter

-- of what the sheets answer
pub other_sheets_same : (s t : List ℕ) → SameRows s t → (f g : Figures) → outcome_of s ≡ worked f → outcome_of t ≡ worked g → SameOtherSheets f g
other_sheets_same s t h f g a b =
    let e = other_sheets (by_kind s) (by_kind t) (λ k l. h (suc k) (omega arith) (omega (arith, kinds_are)) (λ q. omega arith)) in
    rw ((worked_out s f (sym a)).figures, (worked_out t g (sym b)).figures) (record {
      sheet_5_1 = ap (λ (x : Figures). x.stocks) e;
      sheet_5_2 = ap (λ (x : Figures). x.conversion) e;
      thinner = ap (λ (x : Figures). x.thinner) e;
      sheet_5_3 = ap (λ (x : Figures). x.gases) e;
      sheet_5_4 = ap (λ (x : Figures). x.abandoned) e;
      sheet_4_3 = ap (λ (x : Figures). x.savannas) e;
      sheet_5_5 = ap (λ (x : Figures). x.soils) e;
      scattered = ap (λ (x : Figures). x.scattered) e;
      matter = ap (λ (x : Figures). x.matter) e;
    })

module _ (s t : List ℕ) (h : SameRows s t) (c d : Counts) (one : verdict_of s ≡ Ok c) (other : verdict_of t ≡ Ok d) where
  cleared : rows 1 s ≡ rows 1 t
  cleared = h 1 (lit≤ tt) one_kind (λ e. omega arith)

  -- the three doubles, bit by bit
  pub doubles_same : answer_of s ≡ answer_of t
  doubles_same =
      ap (answer_by s) one ∙ ap (λ (r : List (List ℕ)). Ok (subtotals_of r)) cleared ∙ sym (ap (answer_by t) other)

  -- the heaviest rows, by the code of a subtotal, which may be refused
  pub heaviest_same : (code : ℕ) → heaviest_answer s code ≡ heaviest_answer t code
  heaviest_same code =
      ap (named_by s code) (kept-before (rules s) (wrong_code code ∷ []) (accepted-ruling s c one))
      ∙ by_ruling (ruling (wrong_code code ∷ []))
      ∙ sym (ap (named_by t code) (kept-before (rules t) (wrong_code code ∷ []) (accepted-ruling t d other)))
    where
      by_ruling : (u : Ruling) → named_by s code u ≡ named_by t code u
      by_ruling Clean = ap (λ (r : List (List ℕ)). named_of (heaviest_in (part_by code) r)) cleared
      by_ruling (Err r) = refl

-- ---- and so of the bytes, 02's own sentence: two accepted returns that differ only in crop rows and what these force
pub record SameButForCrops (s t : List ℕ) : Type 0 where
  pub sheets : (f g : Figures) → outcome_of s ≡ worked f → outcome_of t ≡ worked g → SameOtherSheets f g
  pub doubles : answer_of s ≡ answer_of t
  pub heaviest : (code : ℕ) → heaviest_answer s code ≡ heaviest_answer t code
