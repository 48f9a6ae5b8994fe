-- "chosen by the paper's fixed order": "Each number is tried over the whole input before the next, and the lowest place is given."
-- Least rs n p says that n is the first number of the list whose rule is broken anywhere, and p its lowest broken place; AllKept rs, that no rule is broken anywhere.
use Rattle.std.specs.Prelude.{ℕ, ◌+◌, ◌*◌, ◌<◌, ◌≡◌, ◌↔◌, List, [], ◌∷◌, Err}
use Rattle.std.proofs.Common.{ap, arith}
use Rattle.form.specs.Ruling.{Rule, ruling}
use Rattle.form.specs.Refusals.{Clean, Refused, Ruling}
use Rattle.form.proofs.Order.{Least, AllKept, Means, ruling_means, ruling_least, ruling-clean, least_ruling, clean-ruling}
use Rattle.door.specs.Door.{code_of}
use Rattle.door.proofs.Codes.{Bounded, code-refused, code-clean}

-- the numbers of some rules, in their order
unfoldable pub numbers : List Rule → List ℕ
numbers [] = []
numbers (r ∷ rs) = r.number ∷ numbers rs

-- refused by number and place just where that is the first broken rule at its lowest place, and answered just where no rule is broken
pub record ByOrder (rs : List Rule) (Refused : ℕ → ℕ → Type 0) (Answered : Type 0) : Type 0 where
  pub refused_by : (n p : ℕ) → Refused n p ↔ Least rs n p
  pub answered_by : Answered ↔ AllKept rs

-- so it is always one of the two: a refusal, or the answer
pub data Ends (Refused : ℕ → ℕ → Type 0) (Answered : Type 0) : Type 0 where
  refused : (n p : ℕ) → Refused n p → Ends Refused Answered
  answered : Answered → Ends Refused Answered

module _ {rs : List Rule} {Refused : ℕ → ℕ → Type 0} {Answered : Type 0} (chosen : ByOrder rs Refused Answered) where
  ends_by : (v : Ruling) → Means rs v → Ends Refused Answered
  ends_by Clean k = answered (chosen.answered_by.1 k)
  ends_by (Err r) l = refused r.number r.place ((chosen.refused_by r.number r.place).1 l)

  pub always : Ends Refused Answered
  always = ends_by (ruling rs) (ruling_means rs)

-- an answer that is made of a ruling, and is one ruling's alone, is chosen by the order
pub by_order : {X : Type 0} (g : Ruling → X) → ((u v : Ruling) → g u ≡ g v → u ≡ v) → (rs : List Rule)
    → ByOrder rs (λ n p. g (ruling rs) ≡ g (Refused n p)) (g (ruling rs) ≡ g Clean)
by_order g one rs = record {
  refused_by = λ n p. (λ e. ruling_least (one _ _ e), λ l. ap g (least_ruling l));
  answered_by = (λ e. ruling-clean (one _ _ e), λ k. ap g (clean-ruling k));
}

-- ---- from C: "1,000 times the refusal number plus the place"
-- the number is not 0 and the place is below 1,000, so that a code is one refusal's alone, and never 0
pub record Coded (code n p : ℕ) : Type 0 where
  pub sum : code ≡ 1000 * n + p
  pub number : 0 < n
  pub place : p < 1000

pub code_one : {code n p m q : ℕ} → Coded code n p → Coded code m q → (n ≡ m) × (p ≡ q)
code_one c d = (omega (arith, c, d), omega (arith, c, d))

-- where every refusal of some rules has such a number and place, their code is chosen by the order: a refusal's, or 0
pub by_code : {rs : List Rule} → Bounded rs → ByOrder rs (Coded (code_of (ruling rs))) (code_of (ruling rs) ≡ 0)
by_code {rs} b = record {
  refused_by = λ n p. (
    λ c. code-refused b (ruling rs) (ruling_means rs) n p c.number c.place c.sum,
    λ l. record { sum = ap code_of (least_ruling l); number = (b n p l).0; place = (b n p l).1 },
  );
  answered_by = (code-clean b (ruling rs) (ruling_means rs), λ k. ap code_of (clean-ruling k));
}
