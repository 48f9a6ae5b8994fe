-- The text of rows by the first rule that they break. Assumes nothing.
--     line_told, no_line    the line of the row, of every number but 12
--     refusal_text          a rule behind 10: its number is not 10; packed_text, no rule
--     of_records, of_sums   where 10 is kept: the rule that the code found
--     of_list, behind-list  10, or the rules behind it
use Prim.Native.Nat.{ℕ, suc, ◌*◌}
use mathlib.Core.Path.{◌≡◌, refl, ap, ◌∙◌}
use mathlib.Core.Bool.{false≢true}
use mathlib.Core.List.{List, [], ◌∷◌, ◌++◌}
use borrow.Author.Tests.{eq-eqb, ne_eqb}
use lib.ListN.{length}
use lib.IntN.{pos}
use Rattle.form.specs.First.{first}
use Rattle.form.specs.Layout.{kinds}
use Rattle.form.specs.Ruling.{rule, ruling}
use Rattle.form.specs.Records.{Filed, record_rules}
use Rattle.form.specs.Sums.{sum_rules, filed_rules}
use Rattle.form.specs.Refusals.{Clean, Refused, Ruling}
use Rattle.std.specs.Prelude.{None, Some}
use Rattle.form.proofs.Order.{ruled, kept, ruled_before, kept-before, ruling_least, least_has}
use Rattle.filing.specs.Lists.{cut, filed_lists}
use Rattle.lists.specs.Rules.{bad_at, Good, blocks_from, list_rules}
use Rattle.rows.proofs.Return.{written-long}
use Rattle.phrases.specs.Ascii.{codes}
use Rattle.phrases.specs.Lines.{line, number_line, refused_line, lines_text}
use Rattle.texts.specs.Texts.{row_line}
use Rattle.clashes.specs.Clashes.{clash_lines}
use Rattle.clashes.specs.Stands.{row_index}
use Rattle.objections.specs.Objections.{list_lines, line_lines, text_by}

module _ (text lengths : List ℕ) {n : ℕ} (p : ℕ) where
  pub no_line : n ≡ 12 → [] ≡ line_lines text lengths n p
  no_line e = rw (eq-eqb n 12 e) refl

  pub line_told : (n ≡ 12 → ⊥) → {i l : ℕ} → i ≡ row_index lengths p → l ≡ row_line i text → number_line (codes "line") l ∷ [] ≡ line_lines text lengths n p
  line_told e {i} {l} q r = rw (ne_eqb n 12 e) (ap (λ (x : ℕ). number_line (codes "line") x ∷ []) (r ∙ ap (λ (j : ℕ). row_line j text) q))

not_ten : (e : ℕ) (f : Filed) {n p : ℕ} → ruling (filed_rules e f) ≡ Refused n p → n ≡ 10 → ⊥
not_ten e f b q = false≢true (rw q at (least_has (ruling_least b)))

module _ (text : List ℕ) (e : ℕ) (lengths area : List ℕ) where
  pub refusal_text : {n p : ℕ} → ruling (filed_rules e (filed_lists (cut lengths area))) ≡ Refused n p
      → refused_line n p ++ lines_text (clash_lines e (filed_lists (cut lengths area)) n p ++ line_lines text lengths n p) ≡ text_by text e lengths area (Refused n p)
  refusal_text {n} {p} b = rw (ne_eqb n 10 (not_ten e (filed_lists (cut lengths area)) b)) refl

  pub packed_text : Good lengths (length area) → line (codes "packed") (pos (512 * blocks_from 1 lengths)) ≡ text_by text e lengths area Clean
  packed_text g = ap (λ (n : ℕ). line (codes "packed") (pos n)) (written-long e (blocks_from 1 lengths) lengths area g refl)

  pub of_records : {n p : ℕ} → ruling (record_rules e (filed_lists (cut lengths area))) ≡ Refused n p → ruling (filed_rules e (filed_lists (cut lengths area))) ≡ Refused n p
  of_records b = ruled_before (record_rules e (filed_lists (cut lengths area))) (sum_rules (filed_lists (cut lengths area))) b

  pub of_sums : {u : Ruling} → ruling (record_rules e (filed_lists (cut lengths area))) ≡ Clean → ruling (sum_rules (filed_lists (cut lengths area))) ≡ u
      → ruling (filed_rules e (filed_lists (cut lengths area))) ≡ u
  of_sums c b = kept-before (record_rules e (filed_lists (cut lengths area))) (sum_rules (filed_lists (cut lengths area))) c ∙ b

  pub of_list : {p : ℕ} → first (bad_at e lengths (length area)) (suc kinds) ≡ Some p
      → refused_line 10 p ++ lines_text (list_lines e lengths p) ≡ text_by text e lengths area (ruling (list_rules e lengths area))
  unfolding list_rules
  of_list b = ap (text_by text e lengths area) (ruled (rule 10 (suc kinds) (bad_at e lengths (length area))) (filed_rules e (filed_lists (cut lengths area))) b)

  pub behind-list : first (bad_at e lengths (length area)) (suc kinds) ≡ None
      → text_by text e lengths area (ruling (filed_rules e (filed_lists (cut lengths area)))) ≡ text_by text e lengths area (ruling (list_rules e lengths area))
  unfolding list_rules
  behind-list c = ap (text_by text e lengths area) (kept (rule 10 (suc kinds) (bad_at e lengths (length area))) (filed_rules e (filed_lists (cut lengths area))) c refl)
