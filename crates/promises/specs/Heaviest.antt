-- §7. "For an accepted return and one of the three subtotals it names the row with the largest exact part, the lower id on a tie, 'none' where the subtotal is zero."
-- Its refusals, "those of the sheets, then 11 for a subtotal's code above 2", are in Demand1.
use Rattle.std.specs.Prelude.{ℕ, ◌≤◌, ◌<◌, ◌≡◌, refl, List, [], ◌∷◌, length, get_or, Ok, Some, Err}
use Rattle.std.proofs.Common.{sym, subst, ◌∙◌, arith}
use Rattle.std.proofs.Math.Decide.{dec_lt}
use Rattle.form.specs.Ruling.{too_short, ruling, on_front}
use Rattle.form.specs.Records.{id_of}
use Rattle.form.specs.Verdict.{rows, verdict_of}
use Rattle.form.specs.declared.Counts.{Counts}
use Rattle.form.specs.Refusals.{Clean}
use Rattle.heaviest.specs.Named.{Named, NoRow, Row}
use Rattle.form.proofs.Order.{kept-before, long_enough}
use Rattle.form.specs.Sums.{sum_of}
use Rattle.totals.specs.Columns.{onsite_part, offsite_part, decay_part, onsite_total, offsite_total, decay_total}
use Rattle.heaviest.specs.Heaviest.{part_by, heaviest_rules, heaviest_answer}
use Rattle.heaviest.proofs.Answers.{part_0, part_1, part_2, named-answer, row_weighs, none_at_zero}
use Rattle.door.specs.Door.{code_of}
use Rattle.weighed.specs.Heaviest.{named_numbers, heaviest_call, heaviest_after}
use Rattle.weighed.proofs.Named.{named_told, last-room}

-- "the row with the largest exact part, the lower id on a tie", by its id and that part: of the conversion rows of a return, where `part_of` is a row's part
pub record Heaviest (s : List ℕ) (part_of : List ℕ → ℕ) (id part : ℕ) : Type 0 where
  -- it is a row of the return
  pub index : ℕ
  pub there : index < length (rows 1 s)
  pub its_id : id_of (get_or (rows 1 s) index []) ≡ id
  pub its_part : part_of (get_or (rows 1 s) index []) ≡ part
  -- no row has a larger part
  pub largest : (i : ℕ) → i < length (rows 1 s) → part_of (get_or (rows 1 s) i []) ≤ part
  -- no row with the same part has a lower id
  pub lower_id : (i : ℕ) → i < length (rows 1 s) → part_of (get_or (rows 1 s) i []) ≡ part → id ≤ id_of (get_or (rows 1 s) i [])

-- the answer: that row where the subtotal is not zero, 'none' where it is, and no refusal
pub data Names (s : List ℕ) (part_of : List ℕ → ℕ) (subtotal : ℕ) : Named → Type 0 where
  row : (id part : ℕ) → 0 < subtotal → Heaviest s part_of id part → Names s part_of subtotal (Row id part)
  none : subtotal ≡ 0 → Names s part_of subtotal NoRow

-- a part that is not zero is not of a subtotal that is
over : {part subtotal : ℕ} → 0 < part → (subtotal ≡ 0 → part ≡ 0) → 0 < subtotal
over {part} {subtotal} h z = go (dec_lt 0 subtotal)
  where
    go : Dec (0 < subtotal) → 0 < subtotal
    go (yes l) = l
    go (no n) = let e : subtotal ≡ 0 = omega arith in absurd (omega (arith, z e))

module _ (s : List ℕ) (c : Counts) (accepted : verdict_of s ≡ Ok c) where
  names_by : (code : ℕ) → code ≤ 2 → (x : Named) → heaviest_answer s code ≡ x → Names s (part_by code) (sum_of (part_by code) (rows 1 s)) x
  names_by code h (Ok (Some w)) e =
      let v = row_weighs s code accepted h {i = w.id} {p = w.part} e in
      let r = v.1.is_row v.0 in
      row w.id w.part (over v.0 v.1.none_at_zero.1)
      (record { index = r.index; there = r.there; its_id = r.its_id; its_part = r.its_part; largest = v.1.largest; lower_id = v.1.lowest_id })
  names_by code h NoRow e = none ((none_at_zero s code accepted h).0 e)
  names_by code h (Err r) e =
      let z : Clean ≡ Err r = named_told s code Clean (Err r) (sym (named-answer s code accepted h) ∙ e) in
      let q : ◌≡◌ {A = ℕ} 0 1 = cc in
      absurd (omega arith)

  names : (code : ℕ) → code ≤ 2 → (part_of : List ℕ → ℕ) → part_by code ≡ part_of → Names s part_of (sum_of part_of (rows 1 s)) (heaviest_answer s code)
  names code h part_of e = subst (λ (f : List ℕ → ℕ). Names s f (sum_of f (rows 1 s)) (heaviest_answer s code)) e (names_by code h (heaviest_answer s code) refl)

  -- ---- the answers of `heaviest`: code 0 on-site, 1 off-site, 2 decay
  pub onsite-heaviest : Names s onsite_part (onsite_total (rows 1 s)) (heaviest_answer s 0)
  onsite-heaviest = names 0 (omega arith) onsite_part part_0

  pub offsite-heaviest : Names s offsite_part (offsite_total (rows 1 s)) (heaviest_answer s 1)
  offsite-heaviest = names 1 (omega arith) offsite_part part_1

  pub decay-heaviest : Names s decay_part (decay_total (rows 1 s)) (heaviest_answer s 2)
  decay-heaviest = names 2 (omega arith) decay_part part_2

  -- ---- from C: 0, and the same answer at the front of the room
  pub c_heaviest_told : (code : ℕ) (room : List ℕ) → code ≤ 2 → 3 ≤ length room
      → (code_of (heaviest_call s code room) ≡ 0) × (heaviest_after s code room (heaviest_call s code room) ≡ on_front (named_numbers (heaviest_answer s code)) room)
  c_heaviest_told code room h m =
      let k : ruling (heaviest_rules s code) ≡ Clean = named_told s code (ruling (heaviest_rules s code)) Clean (named-answer s code accepted h) in
      rw (last-room s code room ∙ kept-before (heaviest_rules s code) (too_short 3 room ∷ []) k ∙ long_enough 3 room m) (refl, refl)

-- ---- only one answer is so
heavier_no_more : {s : List ℕ} {f : List ℕ → ℕ} {i j p q : ℕ} → Heaviest s f i p → Heaviest s f j q → p ≤ q
heavier_no_more a b = omega (arith, a.its_part, b.largest a.index a.there)

not_higher : {s : List ℕ} {f : List ℕ → ℕ} {i j p q : ℕ} → Heaviest s f i p → Heaviest s f j q → p ≡ q → j ≤ i
not_higher a b e = omega (arith, a.its_id, b.lower_id a.index a.there (a.its_part ∙ e))

pub names_one : {s : List ℕ} {f : List ℕ → ℕ} {t : ℕ} {x y : Named} → Names s f t x → Names s f t y → x ≡ y
names_one (row i p l a) (row j q m b) =
    let e : p ≡ q = omega (arith, heavier_no_more a b, heavier_no_more b a) in
    let d : i ≡ j = omega (arith, not_higher a b e, not_higher b a (sym e)) in
    rw (e, d)
names_one (row i p l a) (none z) = absurd (omega arith)
names_one (none z) (row i p l a) = absurd (omega arith)
names_one (none z) (none y) = refl
