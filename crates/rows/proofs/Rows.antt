-- The rows of an accepted return, kind by kind, as they are decoded. Assumes nothing.
--     need_next       the room that the kinds need, one more
--     judged, short, all_read    the answers, from rule to rule
use Prim.Native.Nat.{ℕ, suc, ◌+◌, ◌*◌, ◌≤◌, ◌<◌}
use mathlib.Core.Path.{◌≡◌, refl, sym, ap, ◌∙◌}
use mathlib.Core.List.{List, [], ◌∷◌}
use native.Mathlib.Omega.{arith}
use lib.ListN.{length}
use borrow.Author.Tests.{ltb-false}
use Rattle.form.specs.First.{first}
use Rattle.form.specs.Layout.{kinds, numbers_of}
use Rattle.form.specs.Ruling.{rule, refuse, ruling}
use Rattle.form.specs.Verdict.{rules, row_count, verdict_by, verdict_of, Formed}
use Rattle.form.specs.Standing.{blocks_for, start_block}
use Rattle.form.specs.declared.Counts.{Counts}
use Rattle.form.specs.Refusals.{Clean, Ruling}
use Rattle.form.specs.declared.Refusal.{Refusal}
use Rattle.std.specs.Prelude.{None, Ok, Err, Option}
use Rattle.form.proofs.Search.{first_none}
use Rattle.form.proofs.Order.{ruled_by, kept_by, ruled_before, kept-before}
use Rattle.form.proofs.Meaning.{refused-ruling}
use Rattle.standing.proofs.Accepted.{accepted-ruling, formed, formed_counts}
use Rattle.filing.specs.Written.{in_turn}
use Rattle.filing.proofs.Laying.{length-next}
use Rattle.decoding.proofs.Decoded.{rows_long}
use Rattle.rows.specs.Reading.{rows_of, area_to, outgrown, read_rules, read_answer}

module _ (s : List ℕ) (c : Counts) (acc : Formed s c) (k : ℕ) (h : k < kinds) where
  -- one kind more
  pub need_next : length (area_to s (k + 1)) ≡ length (area_to s k) + numbers_of (suc k) * row_count (suc k) s
  need_next = length-next (rows_of s) k ∙ ap (λ (x : ℕ). length (area_to s k) + x) (rows_long s c acc k h)

pub start_next : (s : List ℕ) (k : ℕ) → start_block (suc (suc k)) s ≡ start_block (suc k) s + blocks_for (row_count (suc k) s)
unfolding start_block
start_next s k = refl

pub start_first : (s : List ℕ) → start_block 1 s ≡ 0
unfolding start_block
start_first s = refl

pub need_none : (s : List ℕ) → length (area_to s 0) ≡ 0
unfolding in_turn
need_none s = refl

-- ---- the answers, from rule to rule

module _ (s : List ℕ) (room : List ℕ) where
  pub judged : {w : Refusal} → verdict_of s ≡ Err w → Err w ≡ read_answer s room
  unfolding read_answer
  judged {w} e = ap (verdict_by s) (sym (ruled_before (rules s) (rule 9 (suc kinds) (outgrown s (length room)) ∷ []) (refused-ruling s w.number w.place e)))

  module _ (c : Counts) (acc : verdict_of s ≡ Ok c) where
    last : ruling (read_rules s room) ≡ ruling (rule 9 (suc kinds) (outgrown s (length room)) ∷ [])
    last = kept-before (rules s) (rule 9 (suc kinds) (outgrown s (length room)) ∷ []) (accepted-ruling s c acc)

    module _ {x : Option ℕ} {said : Ruling} (place : x ≡ first (outgrown s (length room)) (suc kinds)) (refused : said ≡ refuse 9 x Clean) where
      pub short : {w : Refusal} → said ≡ Err w → Err w ≡ read_answer s room
      unfolding read_answer
      short e = ap (verdict_by s) (ruled_by (rule 9 (suc kinds) (outgrown s (length room))) [] place refused e ∙ sym last)

      pub all_read : said ≡ Clean → Ok c ≡ read_answer s room
      unfolding read_answer ruling
      all_read e =
          ap Ok (formed_counts s c (formed s c acc)) ∙ ap (verdict_by s) (kept_by (rule 9 (suc kinds) (outgrown s (length room))) [] place refused e ∙ sym last)

-- the room is long enough for all rows
pub enough : (s : List ℕ) (m : ℕ) → first (outgrown s m) (suc kinds) ≡ None → length (area_to s kinds) ≤ m
enough s m e = ltb-false m (length (area_to s kinds)) (first_none (outgrown s m) e kinds (omega arith))
