-- What a code of the functions for C says of the rules. Assumes nothing.
--     bounded-bytes, bounded-lists    a refusal's number is not 0 and its place is below 1,000; bounded_then, of rules tried one list after another
--     judge_bounded and so on         so it is for each function; in_place, for the number that it makes of its ruling
--     code-refused, code-clean        so a code says which rule is the first broken one and where, or that none is
use Rattle.std.specs.Prelude.{Err}
use Prim.Native.Nat.{ℕ, ◌+◌, ◌*◌, ◌<◌, ◌≤◌}
use mathlib.Core.Path.{◌≡◌}
use mathlib.Core.List.{List, [], ◌∷◌, ◌++◌}
use native.Mathlib.Omega.{arith}
use Rattle.form.specs.Ruling.{Rule, too_short, ruling}
use Rattle.form.specs.Verdict.{block_rules, rules}
use Rattle.form.specs.Refusals.{Clean, Ruling}
use Rattle.form.proofs.Order.{Kept, Least, this, later, AllKept, Means, ruling_means}
use Rattle.form.proofs.Lengths as bytes
use Rattle.form.proofs.EachKind.{few_kinds}
use Rattle.lists.specs.Rules.{list_rules}
use Rattle.tabled.specs.Figures.{figures_rules}
use Rattle.counted.specs.Counts.{judge_rules}
use Rattle.charted.specs.Subtotal.{subtotal_rules}
use Rattle.weighed.specs.Heaviest.{heaviest_rules_c}
use Rattle.handed.specs.Rows.{read_rules_c, write_rules_c, write_call}
use Rattle.handed.proofs.Few.{few_blocks}
use Rattle.texts.specs.Texts.{TextRead, rows, faulty, text_read}
use Rattle.unpacked.specs.Calls.{unpack_rules}
use Rattle.packing.specs.Packing.{of_ruling, packed_by, pack_call}
use Rattle.door.specs.Door.{code_of, InPlace}
use Rattle.door.specs.Texts.{PackInPlace}

-- ---- numbers and places

abbrev pub Bounded : List Rule → Type 0
Bounded rs = (n p : ℕ) → Least rs n p → (0 < n) × (p < 1000)

-- rules that each have a number and at most 1,000 places
abbrev Fits : List Rule → Type 0
Fits [] = Unit {0}
Fits (r ∷ rs) = ((0 < r.number) × (r.places ≤ 1000)) × Fits rs

pub bounded : {rs : List Rule} → Fits rs → Bounded rs
bounded h _ _ (this l e k) = (h.0.0, omega (arith, h.0.1))
bounded h n p (later k m) = bounded h.1 n p m

pub bounded_then : (rs qs : List Rule) → Bounded rs → Bounded qs → Bounded (rs ++ qs)
bounded_then [] qs b c n p l = c n p l
bounded_then (r ∷ rs) qs b c _ _ (this l e k) = b _ _ (this l e k)
bounded_then (r ∷ rs) qs b c n p (later k l) = bounded_then rs qs (λ m q t. b m q (later k t)) c n p l

-- the rules behind 1 are tried on no more blocks than a return can have
pub bounded-bytes : (s : List ℕ) → Bounded (rules s)
unfolding block_rules Kept
bounded-bytes s _ _ (this l e h) = (omega arith, omega arith)
bounded-bytes s n p (later k m) = let f = bytes.few_blocks s (k 0 (omega arith)) in bounded (omega (arith, few_kinds)) n p m

module _ (ed : ℕ) (lengths area : List ℕ) where
  pub bounded-lists : Bounded (list_rules ed lengths area)
  unfolding list_rules
  bounded-lists _ _ (this h e k) = (omega arith, omega (arith, few_kinds))
  bounded-lists n p (later k m) = let f = (few_blocks ed lengths area k).0 in bounded (omega arith) n p m

-- ---- the functions

module _ (s room : List ℕ) where
  pub judge_bounded : Bounded (judge_rules s room)
  judge_bounded = bounded_then (rules s) _ (bounded-bytes s) (bounded (omega arith))

  pub figures-bounded : Bounded (figures_rules s room)
  figures-bounded = bounded_then (rules s) _ (bounded-bytes s) (bounded (omega arith))

  module _ (code : ℕ) where
    pub subtotal_bounded : Bounded (subtotal_rules s code room)
    subtotal_bounded = bounded_then (rules s) _ (bounded-bytes s) (bounded (omega arith))

    pub heaviest-bounded : Bounded (heaviest_rules_c s code room)
    heaviest-bounded = bounded_then (rules s) _ (bounded-bytes s) (bounded (omega arith))

  pub read-bounded : (counts : List ℕ) → Bounded (read_rules_c s room counts)
  read-bounded counts = bounded_then (rules s) _ (bounded-bytes s) (bounded (omega (arith, few_kinds)))

pub write_bounded : (ed : ℕ) (area lengths room size : List ℕ) → Bounded (write_rules_c ed area lengths room size)
write_bounded ed area lengths room size = bounded_then (list_rules ed lengths area) _ (bounded-lists ed lengths area) (bounded (omega arith))

pub unpack_bounded : (s room size : List ℕ) → Bounded (unpack_rules s room size)
unpack_bounded s room size = bounded_then (rules s) _ (bounded-bytes s) (bounded (omega arith))

pub defaults-bounded : (room : List ℕ) → Bounded (too_short 6 room ∷ [])
defaults-bounded room = bounded (omega arith)

means_in_place : {rs : List Rule} → Bounded rs → (v : Ruling) → Means rs v → InPlace v
means_in_place b Clean m = tt
means_in_place b (Err r) m = (b r.number r.place m).1

pub in_place : (rs : List Rule) → Bounded rs → InPlace (ruling rs)
in_place rs b = means_in_place b (ruling rs) (ruling_means rs)

-- a text's fault has no place, and its rows have those of writing
ruled_in_place : (v : Ruling) → InPlace v → PackInPlace (of_ruling v)
ruled_in_place Clean h = tt
ruled_in_place (Err r) h = h

read_in_place : (room size : List ℕ) (t : TextRead) → PackInPlace (packed_by t room size)
read_in_place room size (rows e lengths area) =
    ruled_in_place (write_call e area lengths room size) (in_place _ (write_bounded e area lengths room size))
read_in_place room size (faulty f) = tt

pub pack_in_place : (text room size : List ℕ) → PackInPlace (pack_call text room size)
pack_in_place text room size = read_in_place room size (text_read text)

-- ---- codes, back to the rules

module _ {rs : List Rule} (b : Bounded rs) where
  pub code-refused : (v : Ruling) → Means rs v → (n p : ℕ) → 0 < n → p < 1000 → code_of v ≡ 1000 * n + p → Least rs n p
  code-refused Clean m n p h k e = absurd (omega arith)
  code-refused (Err r) m n p h k e =
      let f = b r.number r.place m in
      let x : r.number ≡ n = omega arith in
      let y : r.place ≡ p = omega arith in
      rw (x, y) at m

  pub code-clean : (v : Ruling) → Means rs v → code_of v ≡ 0 → AllKept rs
  code-clean Clean m e = m
  code-clean (Err r) m e = absurd (omega (arith, (b r.number r.place m).0))
