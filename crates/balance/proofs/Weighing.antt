-- Rule 12, of the wood that rows add up to. Assumes nothing.
--     wood-rules    by the two masses, or by the columns: the same ruling
--     wood-broken, wood-kept    of the rules that add rows up, where 12 is broken, and where it is kept
use Prim.Native.Nat.{ℕ, ◌*◌}
use mathlib.Core.Path.{◌≡◌, sym, ap, ap₂, ◌∙◌}
use mathlib.Core.List.{List, [], ◌∷◌}
use lib.Dec.{ltb}
use Rattle.form.specs.Ruling.{rule, ruling}
use Rattle.form.specs.Records.{Filed, filed_rows}
use Rattle.form.specs.Sums.{column_k, column_l, cleared_above, sum_rules}
use Rattle.std.specs.Prelude.{Err}
use Rattle.form.specs.Refusals.{Clean, Ruling}
use Rattle.form.specs.declared.Refusal.{Refusal}
use Rattle.form.proofs.Order.{ruled_before, kept-before}
use Rattle.areas.specs.Areas.{soil_rules}
use Rattle.wide.proofs.Laws.{value_words}
use Rattle.balance.specs.Wood.{wood_of, wood_rules}
use Rattle.balance.specs.declared.Wood.{Wood}

pub wood-rules : (harvest conversion : List (List ℕ)) → ruling (wood_rules (wood_of harvest conversion)) ≡ ruling (rule 12 1 (λ p. cleared_above harvest conversion) ∷ [])
wood-rules harvest conversion =
    ap₂ (λ (u l : ℕ). ruling (rule 12 1 (λ p. ltb u l) ∷ [])) (value_words (100 * column_k harvest)).number (value_words (column_l conversion)).number

-- the rules in their order: 12, and behind it 13
module _ (f : Filed) {w : Wood} {v : Ruling} (said : v ≡ ruling (wood_rules w)) (weighed : w ≡ wood_of (filed_rows f 3) (filed_rows f 1)) where
  wood-ruling : ruling (rule 12 1 (λ p. cleared_above (filed_rows f 3) (filed_rows f 1)) ∷ []) ≡ v
  wood-ruling = sym (said ∙ ap (λ (x : Wood). ruling (wood_rules x)) weighed ∙ wood-rules (filed_rows f 3) (filed_rows f 1))

  pub wood-broken : {e : Refusal} → v ≡ Err e → Err e ≡ ruling (sum_rules f)
  wood-broken e = sym (ruled_before (rule 12 1 (λ p. cleared_above (filed_rows f 3) (filed_rows f 1)) ∷ []) (soil_rules f) (wood-ruling ∙ e))

  pub wood-kept : {u : Ruling} → v ≡ Clean → u ≡ ruling (soil_rules f) → u ≡ ruling (sum_rules f)
  wood-kept e q = q ∙ sym (kept-before (rule 12 1 (λ p. cleared_above (filed_rows f 3) (filed_rows f 1)) ∷ []) (soil_rules f) (wood-ruling ∙ e))
