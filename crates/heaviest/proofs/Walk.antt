-- The loop over the conversion rows. Assumes nothing.
--     heaviest_none, heaviest-suc    the heaviest of no row, and of one row more; heaviest-next, as the loop counts
--     start, turn, end               the loop, all three subtotals at once: where it begins, a turn, where it ends; three, field by field
--     by_code                        one of the three, by its code
use Prim.Native.Nat.{ℕ, zero, suc, ◌+◌, ◌≤◌, ◌<◌}
use mathlib.Core.Path.{◌≡◌, refl, ap, ◌∙◌}
use mathlib.Core.Bool.{Bool, true, false, cond}
use mathlib.Core.List.{List, [], ◌∷◌}
use native.Mathlib.Numerals.{add-one}
use native.Mathlib.Omega.{arith}
use lib.Dec.{eqb}
use lib.ListN.{length, take, get_or}
use lib.Seq.{take_all}
use Rattle.form.specs.Bytes.{number}
use Rattle.form.specs.Layout.{conversion, row_at, kinds}
use Rattle.form.specs.Records.{id_of}
use Rattle.form.specs.Verdict.{rows}
use Rattle.form.proofs.Tables.{id_number}
use Rattle.totals.specs.Columns.{onsite_part, offsite_part, decay_part}
use Rattle.totals.specs.Sums.{parts_of}
use Rattle.totals.specs.declared.Parts.{Parts}
use Rattle.standing.proofs.Rows.{Stands}
use Rattle.heaviest.specs.Heaviest.{no_weight, heavier, heavier_of, heaviest_from, heaviest_in, part_by, heaviest_by, heavier_three, heaviest_rows, heaviest_of, weight_by}
use Rattle.heaviest.specs.declared.Weight.{Weight}
use Rattle.heaviest.specs.declared.Weights.{Weights}

module _ (f : List ℕ → ℕ) where
  from_suc : (w : Weight) (rs : List (List ℕ)) (i : ℕ) → i < length rs
      → heaviest_from f w (take (suc i) rs) ≡ heavier_of f (heaviest_from f w (take i rs)) (get_or rs i [])
  unfolding heaviest_from
  from_suc w [] i l = absurd (omega arith)
  from_suc w (r ∷ rs) zero l = refl
  from_suc w (r ∷ rs) (suc i) l = from_suc (heavier_of f w r) rs i (omega arith)

  pub heaviest_none : (rs : List (List ℕ)) → heaviest_in f (take 0 rs) ≡ no_weight
  unfolding heaviest_from
  heaviest_none rs = refl

  pub heaviest-suc : (rs : List (List ℕ)) (i : ℕ) → i < length rs → heaviest_in f (take (suc i) rs) ≡ heavier_of f (heaviest_in f (take i rs)) (get_or rs i [])
  heaviest-suc rs i l = from_suc no_weight rs i l

  pub heaviest-next : (rs : List (List ℕ)) (i : ℕ) → i < length rs → heaviest_in f (take (i + 1) rs) ≡ heavier_of f (heaviest_in f (take i rs)) (get_or rs i [])
  heaviest-next rs i l = rw add-one (heaviest-suc rs i l)

-- no row yet
pub start : (rs : List (List ℕ)) → heaviest_rows (take 0 rs) ≡ record { onsite = no_weight; offsite = no_weight; decay = no_weight }
unfolding heaviest_from
start rs = refl

-- three weights that are the same are the same together
pub three : {a b d x y z : Weight} → a ≡ x → b ≡ y → d ≡ z
    → ◌≡◌ {A = Weights} (record { onsite = a; offsite = b; decay = d }) (record { onsite = x; offsite = y; decay = z })
three p q r = rw (p, q, r)

-- a row starts with its id
id_at : (s : List ℕ) (at : ℕ) → id_of (row_at conversion s at) ≡ number 4 s at
unfolding kinds
id_at s at = id_number 1 s at refl

pub turn : {s : List ℕ} {i at id : ℕ} {t u : Weights} {p : Parts} → Stands s 1 i at → id ≡ number 4 s at → p ≡ parts_of (row_at conversion s at)
    → t ≡ heaviest_rows (take i (rows 1 s)) → u ≡ heavier_three t id p → u ≡ heaviest_rows (take (i + 1) (rows 1 s))
turn {s} {i} {at} w e q h g = g ∙ rw (h, e, q) (three (one onsite_part) (one offsite_part) (one decay_part))
  where
    one : (f : List ℕ → ℕ) → heavier (heaviest_in f (take i (rows 1 s))) (number 4 s at) (f (row_at conversion s at)) ≡ heaviest_in f (take (i + 1) (rows 1 s))
    one f = rw (heaviest-next f (rows 1 s) i w.there, w.row, id_at s at)

-- past the last row
pub end : (rs : List (List ℕ)) (i : ℕ) → length rs ≤ i → heaviest_rows (take i rs) ≡ heaviest_rows rs
end rs i l = ap heaviest_rows (take_all i rs l)

pub by_code : (code : ℕ) (s : List ℕ) → weight_by code (heaviest_of s) ≡ heaviest_by code s
unfolding part_by
by_code code s = go (eqb code 0) (eqb code 1)
  where
    go : (a b : Bool) → cond a (heaviest_in onsite_part (rows 1 s)) (cond b (heaviest_in offsite_part (rows 1 s)) (heaviest_in decay_part (rows 1 s)))
        ≡ heaviest_in (λ r. cond a (onsite_part r) (cond b (offsite_part r) (decay_part r))) (rows 1 s)
    go true b = refl
    go false true = refl
    go false false = refl
