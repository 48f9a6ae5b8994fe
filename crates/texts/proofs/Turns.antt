-- A loop over the lines with rows: what it has read, and what is left. Assumes nothing.
--     Going, going_start, going_more, going-fault, going_end     its turns
use Prim.Native.Nat.{ℕ, ◌+◌, ◌≤◌}
use mathlib.Core.Path.{◌≡◌, refl, sym, ap, subst, ◌∙◌}
use mathlib.Core.List.{List, []}
use native.Mathlib.Numerals.{add-one}
use native.Mathlib.Omega.{arith}
use lib.ListN.{length, drop, replicate}
use Rattle.std.specs.Prelude.{Result, Ok, Err}
use Rattle.form.specs.Layout.{kinds}
use Rattle.cells.specs.Lines.{part, lines_of, LineAt}
use Rattle.cells.specs.declared.Line.{Line}
use Rattle.cells.proofs.LineLaws.{lines_end}
use Rattle.heads.specs.declared.TextFault.{TextFault}
use Rattle.texts.specs.declared.Kept.{Kept}
use Rattle.texts.specs.Texts.{Sofar, nothing, rows_from}
use Rattle.texts.specs.Steps.{Step, onward, line_step, kept_as, taken_as, UsedIn, area_room, Sound, Ready, entered_as}
use Rattle.texts.proofs.Rows.{sound_none, sound_step, rows_after, step_rows}

module _ (text : List ℕ) (e sep at n : ℕ) (lengths₀ area₀ : List ℕ) where
  -- the rows of the lines passed are kept, and the rest of the text goes on from them
  pub record Going (lengths area : List ℕ) (kept : Kept) (from number : ℕ) : Type 0 where
    pub within : from ≤ length text
    pub counted : number ≤ from
    pub ready : Ready kept lengths area
    pub same_lengths : length lengths ≡ length lengths₀
    pub same_area : length area ≡ length area₀
    pub rest : rows_from e sep number (kept_as kept lengths area) (lines_of (drop from text)) ≡ rows_from e sep n nothing (lines_of (drop at text))

  pub going_start : n ≤ at → at ≤ length text → lengths₀ ≡ replicate kinds 0 → area_room ≤ length area₀
      → Going lengths₀ area₀ (record { kind = 0; count = 0; used = 0 }) at n
  going_start c w z r = record {
    within = w;
    counted = c;
    ready = record { sound = subst (λ (x : Sofar). Sound x) (sym none) sound_none; inside = omega arith; roomy = r };
    same_lengths = refl;
    same_area = refl;
    rest = ap (λ (x : Sofar). rows_from e sep n x (lines_of (drop at text))) none;
  }
    where
      none : kept_as (record { kind = 0; count = 0; used = 0 }) lengths₀ area₀ ≡ nothing
      none = ap (λ (x : List ℕ). record { kind = 0; count = 0; lengths = x; area = [] }) z

  module _ (lengths area : List ℕ) (kept : Kept) (from number : ℕ) (c : Going lengths area kept from number) where
    pub going_end : length text ≤ from → entered_as (Ok (record { edition = e; used = kept.used })) lengths area ≡ rows_from e sep n nothing (lines_of (drop at text))
    unfolding rows_from
    going_end h = sym (ap (rows_from e sep number (kept_as kept lengths area)) (lines_end text from h)) ∙ c.rest

    module _ (r : Line) (l : LineAt text from r) (t : Result Kept TextFault) (lengths' area' : List ℕ)
        (s : taken_as t lengths' area' ≡ line_step sep (kept_as kept lengths area) (number + 1) (part r.from r.to text)) where
      -- the text from this line on, by what is known behind it
      behind : rows_after e sep (number + 1) (taken_as t lengths' area') (lines_of (drop r.next text)) ≡ rows_from e sep n nothing (lines_of (drop at text))
      behind =
          ap (λ (x : Step). rows_after e sep (number + 1) x (lines_of (drop r.next text))) s
          ∙ ap (λ (i : ℕ). rows_after e sep i (line_step sep (kept_as kept lengths area) i (part r.from r.to text)) (lines_of (drop r.next text))) (add-one number)
          ∙ sym (step_rows e sep number (kept_as kept lengths area) (part r.from r.to text) (lines_of (drop r.next text)))
          ∙ sym (ap (rows_from e sep number (kept_as kept lengths area)) l.lines)
          ∙ c.rest

      pub going-fault : {f : TextFault} → t ≡ Err f → entered_as (Err f) lengths' area' ≡ rows_from e sep n nothing (lines_of (drop at text))
      going-fault q = sym (ap (λ (x : Result Kept TextFault). rows_after e sep (number + 1) (taken_as x lengths' area') (lines_of (drop r.next text))) q) ∙ behind

      pub going_more : {k : Kept} → t ≡ Ok k → UsedIn t area' → length lengths' ≡ length lengths → length area' ≡ length area
          → Going lengths' area' k r.next (number + 1)
      going_more {k} q u g a = record {
        within = l.within;
        counted = omega (arith, c.counted, l.onward);
        ready = record {
          sound = sound_step sep (kept_as kept lengths area) (kept_as k lengths' area') (number + 1) (part r.from r.to text) c.ready.sound (sym s ∙ as_on);
          inside = subst (λ (x : Result Kept TextFault). UsedIn x area') q u;
          roomy = omega (arith, c.ready.roomy, a);
        };
        same_lengths = g ∙ c.same_lengths;
        same_area = a ∙ c.same_area;
        rest = sym (ap (λ (x : Step). rows_after e sep (number + 1) x (lines_of (drop r.next text))) as_on) ∙ behind;
      }
        where
          as_on : taken_as t lengths' area' ≡ onward (kept_as k lengths' area')
          as_on = ap (λ (x : Result Kept TextFault). taken_as x lengths' area') q
