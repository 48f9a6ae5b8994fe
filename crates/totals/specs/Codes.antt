-- A subtotal of carbon named by a number: the charting program's, and the row that weighs most in it.
use Rattle.std.specs.Prelude.{ℕ, cond, ltb, eqb}
use Rattle.form.specs.Ruling.{Rule, rule}

-- "a subtotal's code: 0 on-site, 1 off-site, 2 decay": the one that is named, of one for each subtotal
abbrev pub by_code : {X : Type 0} → ℕ → X → X → X → X
by_code code onsite offsite decay = cond (eqb code 0) onsite (cond (eqb code 1) offsite decay)

-- 11: "a subtotal's code above 2", place 0
abbrev pub wrong_code : ℕ → Rule
wrong_code code = rule 11 1 (λ p. ltb 2 code)
