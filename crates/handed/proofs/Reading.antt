-- The ways out of reading from C; enough, where there is room for the counts, the rules of reading are left. Assumes nothing.
use Prim.Native.Nat.{ℕ, zero, suc, ◌≤◌, ◌<◌}
use mathlib.Core.Path.{◌≡◌, refl, sym, ap, ◌∙◌}
use mathlib.Core.List.{List, [], ◌∷◌}
use native.Mathlib.Omega.{arith}
use borrow.Author.Tests.{lt-ltb, le-ltb}
use lib.ListN.{length}
use Rattle.form.specs.Layout.{kinds}
use Rattle.form.specs.Ruling.{rule, too_short, on_front, refuse, ruling}
use Rattle.form.specs.Verdict.{rules, verdict_by}
use Rattle.form.specs.Refusals.{Clean, Refused, Ruling, Verdict}
use Rattle.std.specs.Prelude.{Ok, Option, Err}
use Rattle.form.proofs.Search.{first-zero, first_found, first_same}
use Rattle.form.proofs.Order.{or_rule, ruling_append, ruled, too_short_lem}
use Rattle.rows.specs.Reading as rows
use Rattle.rows.proofs.Rows.{need_none}
use Rattle.counted.specs.Counts.{held, counts_room, judge_call, counts_after}
use Rattle.handed.specs.Rows.{short_at, read_call, rows_after}

-- the ruling and the counts' room by the verdict that the code has at hand
abbrev pub ruling_by : Verdict → Ruling
ruling_by (Ok c) = Clean
ruling_by (Err r) = Err r

abbrev pub counts_by : List ℕ → Verdict → List ℕ
counts_by room (Ok c) = on_front (held c) room
counts_by room (Err r) = room

ruling-said : (s : List ℕ) (v : Ruling) → ruling_by (verdict_by s v) ≡ v
ruling-said s Clean = refl
ruling-said s (Err r) = refl

counts-said : (s room : List ℕ) (v : Ruling) → counts_by room (verdict_by s v) ≡ counts_after s room v
counts-said s room Clean = refl
counts-said s room (Err r) = refl

-- a refusal leaves the room as it was, whichever rule it is by
as_it_was : (s room : List ℕ) (u : Ruling) → room ≡ rows_after s room (or_rule u (Refused 9 0))
as_it_was s room Clean = refl
as_it_was s room (Err r) = refl

module _ (s room counts : List ℕ) where
  -- room for the counts: the rule of the rows' room is left
  rows_left : counts_room ≤ length counts → ruling (rule 9 (suc kinds) (short_at s (length room) (length counts)) ∷ []) ≡ ruling (rule 9 (suc kinds) (rows.outgrown s (length room)) ∷ [])
  unfolding ruling
  rows_left h = ap (λ (t : Option ℕ). refuse 9 t Clean) (first_same (short_at s (length room) (length counts)) (rows.outgrown s (length room)) (suc kinds) same)
    where
      same : (k : ℕ) → k < suc kinds → short_at s (length room) (length counts) k ≡ rows.outgrown s (length room) k
      same zero l = le-ltb (length counts) counts_room h ∙ sym (le-ltb (length room) (length (rows.area_to s 0)) (omega (arith, need_none s)))
      same (suc k) l = refl

  pub enough : counts_room ≤ length counts → read_call s room counts ≡ ruling (rows.read_rules s room)
  enough h =
      ruling_append (rules s) (rule 9 (suc kinds) (short_at s (length room) (length counts)) ∷ [])
      ∙ ap (or_rule (ruling (rules s))) (rows_left h)
      ∙ sym (ruling_append (rules s) (rule 9 (suc kinds) (rows.outgrown s (length room)) ∷ []))

  -- none: place 0, as from the judge
  none_left : length counts < counts_room → ruling (rule 9 (suc kinds) (short_at s (length room) (length counts)) ∷ []) ≡ Refused 9 0
  none_left h =
      sym (ruled (rule 9 (suc kinds) (short_at s (length room) (length counts))) []
      (first_found (short_at s (length room) (length counts)) 0 (suc kinds) (first-zero _) (lt-ltb (length counts) counts_room h) (omega arith)))

  -- what the answer and the two rooms are, for a ruling
  abbrev Out : Ruling → List ℕ → List ℕ → Ruling → Type 0
  Out r o z v = (r ≡ v) × ((o ≡ rows_after s room v) × (z ≡ counts_after s counts v))

  pub judged_out : {r : Ruling} {z : List ℕ} → length counts < counts_room → r ≡ judge_call s counts → z ≡ counts_after s counts (judge_call s counts)
      → Out r room z (read_call s room counts)
  judged_out h q k =
      let u = ruling (rules s) in
      let j : judge_call s counts ≡ or_rule u (Refused 9 0) = ruling_append (rules s) (too_short counts_room counts ∷ []) ∙ ap (or_rule u) (too_short_lem counts_room counts h) in
      let e : read_call s room counts ≡ or_rule u (Refused 9 0) =
      ruling_append (rules s) (rule 9 (suc kinds) (short_at s (length room) (length counts)) ∷ []) ∙ ap (or_rule u) (none_left h) in
      rw e (q ∙ j, (as_it_was s room u, k ∙ ap (counts_after s counts) j))

  pub read_out : (v : Verdict) {r : Ruling} {o z : List ℕ} → counts_room ≤ length counts → v ≡ rows.read_answer s room → r ≡ ruling_by v
      → o ≡ rows.room_after s room v → z ≡ counts_by counts v → Out r o z (read_call s room counts)
  unfolding rows.read_answer
  read_out v h a q e k =
      let w : v ≡ verdict_by s (read_call s room counts) = a ∙ ap (verdict_by s) (sym (enough h)) in
      (q ∙ ap ruling_by w ∙ ruling-said s (read_call s room counts), (e ∙ ap (rows.room_after s room) w, k ∙ ap (counts_by counts) w ∙ counts-said s counts (read_call s room counts)))
