-- Filed records that are alike make the same blocks. Assumes nothing.
--     turn_add, turn_same    things one after the other, in two parts, and each by its equal
--     alike-part, alike_then, alike-join    some of the places, from one to the next, and one behind the other
--     block_alike            one block; blocks-behind, the blocks of records behind others
--     one_alike, rows_alike  the rows of a kind that one place adds, and that the first n places have
use Prim.Native.Nat.{ℕ, zero, suc, ◌+◌, ◌-◌, ◌*◌, ◌<◌, ◌≤◌}
use mathlib.Core.Path.{◌≡◌, refl, sym, ap₂, ◌∙◌}
use mathlib.Core.Bool.{Bool, true, false, cond, ◌&&◌}
use mathlib.Core.List.{List, [], ◌∷◌, ◌++◌, append_assoc}
use lib.Dec.{eqb}
use native.Mathlib.Nat.{add-zero, zero-add, suc-add, add_assoc}
use native.Mathlib.Decide.{dec_lt}
use native.Mathlib.Omega.{arith}
use borrow.Author.Tests.{lt-ltb, le-ltb}
use Rattle.form.specs.Layout.{layout}
use Rattle.form.specs.Records.{Filed, rows_below}
use Rattle.filing.specs.Lists.{behind}
use Rattle.form.proofs.Tests.{either}
use Rattle.filing.specs.Written.{zeros, record_of, in_turn, record_on, used_from, body_of, block_of}

-- ---- one after the other

pub turn_add : (f : ℕ → List ℕ) (i a b : ℕ) → in_turn f i (a + b) ≡ in_turn f i a ++ in_turn f (i + a) b
unfolding in_turn
turn_add f i zero b = rw (zero-add b, add-zero i)
turn_add f i (suc a) b =
    let e : i + suc a ≡ suc i + a = omega arith in
    rw (suc-add a b, e, turn_add f (suc i) a b, append_assoc)

pub turn_same : (f g : ℕ → List ℕ) (i j n : ℕ) → ((k : ℕ) → k < n → f (i + k) ≡ g (j + k)) → in_turn f i n ≡ in_turn g j n
unfolding in_turn
turn_same f g i j zero h = refl
turn_same f g i j (suc n) h =
    ap₂ (λ (x y : List ℕ). x ++ y)
    (rw (add-zero i, add-zero j) at (h 0 (omega arith)))
    (turn_same f g (suc i) (suc j) n
    (λ k l.
    let a : suc i + k ≡ i + suc k = omega arith in
    let b : suc j + k ≡ j + suc k = omega arith in
    rw (a, b) (h (suc k) (omega arith))))

-- ---- records that are alike

-- place i of f is as place j of g
pub record Same (f : Filed) (i : ℕ) (g : Filed) (j : ℕ) : Type 0 where
  pub used : f.used i ≡ g.used j
  pub kind : f.kind i ≡ g.kind j
  pub row : f.used i ≡ true → f.row i ≡ g.row j

-- the n places of f from i on are as those of g from j on
pub record Alike (f : Filed) (i : ℕ) (g : Filed) (j n : ℕ) : Type 0 where
  pub at : (k : ℕ) → k < n → Same f (i + k) g (j + k)

pub alike-part : {f g : Filed} {i j n : ℕ} → Alike f i g j n → (d m : ℕ) {i' j' : ℕ} → d + m ≤ n → i + d ≡ i' → j + d ≡ j' → Alike f i' g j' m
alike-part {i = i} {j = j} a d m l ei ej = record { at = λ k h. rw (← ei, ← ej, add_assoc i d k, add_assoc j d k) (a.at (d + k) (omega arith)) }

pub alike_then : {f g h : Filed} {i j k n : ℕ} → Alike f i g j n → Alike g j h k n → Alike f i h k n
alike_then a b =
    record {
      at = λ q l.
          let x = a.at q l in
          let y = b.at q l in
          record { used = x.used ∙ y.used; kind = x.kind ∙ y.kind; row = λ u. x.row u ∙ y.row (sym x.used ∙ u) };
    }

-- some places, and those behind them
pub alike-join : {f g : Filed} {i j a m i' j' : ℕ} → Alike f i g j a → Alike f i' g j' m → i + a ≡ i' → j + a ≡ j' → Alike f i g j (a + m)
alike-join {f} {g} {i} {j} {a} {m} {i'} {j'} x y ei ej = record { at = λ k h. go k h (dec_lt k a) }
  where
    go : (k : ℕ) → k < a + m → Dec (k < a) → Same f (i + k) g (j + k)
    go k h (yes l) = x.at k l
    go k h (no l) =
        let p : i' + (k - a) ≡ i + k = omega arith in
        let q : j' + (k - a) ≡ j + k = omega arith in
        rw (p, q) at (y.at (k - a) (omega arith))

record_same : {f g : Filed} {i j : ℕ} → Same f i g j → record_on f i ≡ record_on g j
unfolding record_on
record_same {f} {g} {i} {j} s =
    rw (← s.used, ← s.kind)
    (either (λ x. x ≡ cond (f.used i) (record_of (layout (f.kind i)) (g.row j)) (zeros 40)) (f.used i) (λ u. rw (u, s.row u)) (λ u. rw u))

pub used-alike : (n : ℕ) {f g : Filed} {i j : ℕ} → Alike f i g j n → used_from f i n ≡ used_from g j n
unfolding used_from
used-alike zero a = refl
used-alike (suc n) {f} {g} {i} {j} a =
    let here : f.used i ≡ g.used j = rw (add-zero i, add-zero j) at (a.at 0 (omega arith)).used in
    rw (here, used-alike n (alike-part a 1 n {i' = suc i} {j' = suc j} (omega arith) (omega arith) (omega arith)))

-- the same number, of as many blocks
pub block_alike : {f g : Filed} (ed b c start first n : ℕ) → Alike f (12 * b) g (12 * c) 12 → start + b ≡ first + c
    → block_of ed f start n b ≡ block_of ed g first n c
unfolding body_of block_of
block_alike {f} {g} ed b c start first n a e =
    let k : f.kind (12 * b) ≡ g.kind (12 * c) = rw (add-zero (12 * b), add-zero (12 * c)) at (a.at 0 (omega arith)).kind in
    rw (k, used-alike 12 a, e, turn_same (record_on f) (record_on g) (12 * b) (12 * c) 12 (λ k h. record_same (a.at k h)))

-- ---- records behind others

module _ (f g : Filed) where
  pub front-alike : Alike (behind f g) 0 f 0 f.places
  unfolding behind
  front-alike = record {
    at = λ k h.
        let o = lt-ltb k f.places h in
        record { used = rw (zero-add k, o); kind = rw (zero-add k, o); row = λ u. rw (zero-add k, o) };
  }

  pub back_alike : (n : ℕ) → Alike (behind f g) f.places g 0 n
  unfolding behind
  back_alike n = record {
    at = λ k h.
        let o = le-ltb (f.places + k) f.places (omega arith) in
        let s : f.places + k - f.places ≡ 0 + k = omega arith in
        record { used = rw (o, s); kind = rw (o, s); row = λ u. rw (o, s) };
  }

  -- a and b blocks, of n in all
  pub blocks-behind : (ed a b start n : ℕ) → f.places ≡ 12 * a
      → in_turn (block_of ed (behind f g) start n) 0 (a + b) ≡ in_turn (block_of ed f start n) 0 a ++ in_turn (block_of ed g (start + a) n) 0 b
  blocks-behind ed a b start n e =
      let h = block_of ed (behind f g) start n in
      turn_add h 0 a b
      ∙ ap₂ (λ (x y : List ℕ). x ++ y)
      (turn_same h (block_of ed f start n) 0 0 a
      (λ k l. block_alike ed (0 + k) (0 + k) start start n (alike-part front-alike (12 * (0 + k)) 12 (omega arith) (omega arith) (omega arith)) refl))
      (turn_same h (block_of ed g (start + a) n) (0 + a) 0 b
      (λ k l. block_alike ed (0 + a + k) (0 + k) start (start + a) n (alike-part (back_alike (12 * (0 + k) + 12)) (12 * (0 + k)) 12 (omega arith) (omega arith) (omega arith)) (omega arith)))

-- ---- the rows of a kind among alike places are the same rows

-- what one place adds to the rows of a kind
pub one_alike : {f g : Filed} {i j : ℕ} (k : ℕ) → Same f i g j
    → cond (f.used i && eqb (f.kind i) k) (f.row i ∷ []) [] ≡ cond (g.used j && eqb (g.kind j) k) (g.row j ∷ []) []
one_alike {f} {g} {i} {j} k s = one (f.used i) (g.used j) s.used s.row
  where
    one : (b d : Bool) → b ≡ d → (b ≡ true → f.row i ≡ g.row j) → cond (b && eqb (f.kind i) k) (f.row i ∷ []) [] ≡ cond (d && eqb (g.kind j) k) (g.row j ∷ []) []
    one true d e r = rw (← e, r refl, s.kind)
    one false d e r = rw (← e)

pub rows_alike : {f g : Filed} (k n : ℕ) → ((j : ℕ) → j < n → Same f j g j) → rows_below f k n ≡ rows_below g k n
unfolding rows_below
rows_alike k zero h = refl
rows_alike k (suc n) h =
    ap₂ (λ (x y : List (List ℕ)). x ++ y) (rows_alike k n (λ j l. h j (omega arith))) (one_alike k (h n (omega arith)))
