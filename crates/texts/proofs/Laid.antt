-- What is known of the rows of a text without a fault. Assumes nothing.
--     Laid                       the lengths of the kinds' parts and the area: whole rows, at most 32 of a kind
--     text_laid                  the rows that a text says are laid so
use Prim.Native.Nat.{ℕ, suc, ◌*◌, ◌%◌, ◌≤◌, ◌<◌}
use mathlib.Core.Path.{◌≡◌, refl, sym, ap, subst, ◌∙◌}
use mathlib.Core.Bool.{Bool, true, false, cond}
use mathlib.Core.List.{List, [], ◌∷◌}
use native.Mathlib.Omega.{arith}
use native.Mathlib.Nat.{mul-mod_right, div-le_of_le-mul, mul-le-mul_left}
use lib.Dec.{eqb, ltb}
use lib.ListN.{length, get_or}
use Rattle.std.specs.Prelude.{Result, Ok, Err}
use Rattle.form.specs.Layout.{kinds, numbers_of}
use Rattle.filing.specs.Lists.{total, rows_in}
use Rattle.cells.specs.Lines.{text_lines}
use Rattle.heads.specs.declared.Fault.TheVariants as F
use Rattle.heads.specs.declared.TextFault.{TextFault}
use Rattle.heads.specs.declared.Head.{Head}
use Rattle.heads.specs.Heads.{fault, head_of}
use Rattle.texts.specs.Texts.{Sofar, nothing, rows, faulty, rows_from, rows_by, lines_read, longest_text, text_read}
use Rattle.texts.specs.Steps.{HeadLine, head_line, rows_behind, Step, onward, stopped, line_step, Sound}
use Rattle.texts.proofs.Lines.{by_head}
use Rattle.texts.proofs.Rows.{sound_none, sound_step, rows_after, step_rows}

-- as they may be written: one length for each kind, all numbers counted, whole rows, at most 32 of a kind, every number in 32 bits
pub record Laid (lengths area : List ℕ) : Type 0 where
  pub each : length lengths ≡ kinds
  pub sum : total lengths ≡ length area
  pub whole : (k : ℕ) → get_or lengths k 0 % numbers_of (suc k) ≡ 0
  pub few : (k : ℕ) → rows_in (suc k) (get_or lengths k 0) ≤ 32
  pub small : (i : ℕ) → get_or area i 0 < 4294967296

sound_laid : (st : Sofar) → Sound st → Laid st.lengths st.area
sound_laid st s = record {
  each = s.each;
  sum = s.sum;
  whole = λ k. ap (λ (x : ℕ). x % numbers_of (suc k)) (s.parts k) ∙ mul-mod_right (numbers_of (suc k)) (s.rows_at k);
  few = λ k.
      let h = mul-le-mul_left (numbers_of (suc k)) (s.few k) in
      div-le_of_le-mul (numbers_of (suc k)) (subst (λ (x : ℕ). x ≤ numbers_of (suc k) * 32) (sym (s.parts k)) h);
  small = s.small;
}

module _ {e : ℕ} {lengths area : List ℕ} where
  rows_laid : (edition sep n : ℕ) (st : Sofar) (ls : List (List ℕ)) → Sound st → rows_from edition sep n st ls ≡ rows e lengths area → Laid lengths area
  unfolding rows_from
  rows_laid edition sep n st [] s q =
      let a : st.lengths ≡ lengths = cc in
      let b : st.area ≡ area = cc in
      subst (λ (x : List ℕ). Laid x area) a (subst (λ (x : List ℕ). Laid st.lengths x) b (sound_laid st s))
  rows_laid edition sep n st (l ∷ ls) s q =
      by (line_step sep st (suc n) l) refl (sym (step_rows edition sep n st l ls) ∙ q) (λ st'. rows_laid edition sep (suc n) st' ls)
    where
      by : (x : Step) → line_step sep st (suc n) l ≡ x → rows_after edition sep (suc n) x ls ≡ rows e lengths area
          → ((st' : Sofar) → Sound st' → rows_from edition sep (suc n) st' ls ≡ rows e lengths area → Laid lengths area) → Laid lengths area
      by (onward st') p g more = more st' (sound_step sep st st' (suc n) l s p) g
      by (stopped f) p g more = let z : ◌≡◌ {A = ℕ} 0 1 = cc in absurd (omega arith)

  behind_laid : (h : Result Head TextFault) (n : ℕ) (ls : List (List ℕ)) → rows_by h n ls ≡ rows e lengths area → Laid lengths area
  behind_laid (Ok h) n ls q = rows_laid h.edition h.separator n nothing ls sound_none q
  behind_laid (Err f) n ls q = let z : ◌≡◌ {A = ℕ} 0 1 = cc in absurd (omega arith)

  lines_laid : (q : Bool) (h : HeadLine) → cond q (faulty (fault 0 F.Edition)) (rows_behind h) ≡ rows e lengths area → Laid lengths area
  lines_laid true h p = let z : ◌≡◌ {A = ℕ} 0 1 = cc in absurd (omega arith)
  lines_laid false h p = behind_laid (head_of h.number h.line) h.number h.behind p

  pub text_laid : (text : List ℕ) → text_read text ≡ rows e lengths area → Laid lengths area
  unfolding text_read
  text_laid text q = by (ltb longest_text (length text)) q
    where
      by : (b : Bool) → cond b (faulty (fault 0 F.Long)) (lines_read 0 (text_lines text)) ≡ rows e lengths area → Laid lengths area
      by true p = let z : ◌≡◌ {A = ℕ} 0 1 = cc in absurd (omega arith)
      by false p = lines_laid (eqb (head_line 0 (text_lines text)).number 0) (head_line 0 (text_lines text)) (sym (by_head 0 (text_lines text)) ∙ p)
