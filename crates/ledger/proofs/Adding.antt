-- The ledgers of several returns. Assumes nothing.
--     entered_as      the ledger of one, by what is entered
--     plus_swap, plus-last     the order of addition does not matter; one more behind the others
--     at_most_none, at_most_plus, at_most_bounded, at_most_addable   how large a sum can be, and that five hundred have room
use Prim.Native.Nat.{ℕ, ◌+◌, ◌≤◌}
use mathlib.Core.Path.{◌≡◌, refl, sym, ap, ap₂, ◌∙◌}
use mathlib.Core.Bool.{Bool, false}
use mathlib.Core.List.{List, [], ◌∷◌, ◌++◌}
use native.Mathlib.Omega.{arith}
use lib.IntN.{ℤ, pos, ◌+ℤ◌, +ℤ_assoc, +ℤ_comm, pos-+ℤ-pos}
use Rattle.wide.specs.Numbers.{value, words_of}
use Rattle.wide.specs.Signs.{amount, sized, signed_of}
use Rattle.wide.specs.declared.signed.Signed.{Signed}
use Rattle.wide.proofs.Laws.{value_words}
use Rattle.wide.proofs.SignLaws.{form-holds}
use Rattle.totals.specs.declared.Carbon.{Carbon}
use Rattle.totals.specs.declared.DryMatter.{DryMatter}
use Rattle.totals.specs.declared.Totals.{Totals}
use Rattle.matter.specs.declared.Matter.{Matter}
use Rattle.matter.proofs.Adding.{words_comm, words_assoc, matter_comm, matter_assoc}
use Rattle.matter.specs.Laws.{most_none, most_plus}
use Rattle.matter.proofs.Sizes.{most_le}
use Rattle.ledger.specs.Ledger.{entered, none, plus, sum_ledgers, Bounded}
use Rattle.ledger.specs.Several.{AtMost, Addable}
use Rattle.ledger.specs.declared.Ledger.{Ledger}

-- a return's entry, by equals
pub entered_as : {g : Ledger} {e e' : Carbon} {k k' : DryMatter} {t t' : Totals} {m m' : Matter} {n n' : ℕ}
    → g ≡ entered e k t m n → e ≡ e' → k ≡ k' → t ≡ t' → m ≡ m' → n ≡ n' → g ≡ entered e' k' t' m' n'
entered_as g e k t m n = g ∙ (λ i. entered (e i) (k i) (t i) (m i) (n i))

-- a number written in words and read again
v : (n : ℕ) → value (words_of n) ≡ n
v n = (value_words n).number

signed_comm : (x y : ℤ) → signed_of (x +ℤ y) ≡ signed_of (y +ℤ x)
signed_comm x y = ap signed_of (+ℤ_comm x y)

signed_assoc : (x y z : ℤ) → signed_of (amount (signed_of (x +ℤ y)) +ℤ z) ≡ signed_of (x +ℤ amount (signed_of (y +ℤ z)))
signed_assoc x y z =
    ap signed_of (ap (λ (w : ℤ). w +ℤ z) (form-holds (x +ℤ y)).number ∙ +ℤ_assoc x y z ∙ ap (λ (w : ℤ). x +ℤ w) (sym (form-holds (y +ℤ z)).number))

pub plus_comm : (a b : Ledger) → plus a b ≡ plus b a
unfolding plus
plus_comm a b = λ i. record {
  e = record { 0 = words_comm (value a.e.0) (value b.e.0) i };
  k = record { 0 = words_comm (value a.k.0) (value b.k.0) i };
  l = record { 0 = words_comm (value a.l.0) (value b.l.0) i };
  o = record { 0 = signed_comm (amount a.o.0) (amount b.o.0) i };
  onsite = record { 0 = words_comm (value a.onsite.0) (value b.onsite.0) i };
  offsite = record { 0 = words_comm (value a.offsite.0) (value b.offsite.0) i };
  decay = record { 0 = words_comm (value a.decay.0) (value b.decay.0) i };
  matter = matter_comm a.matter b.matter i;
}

pub plus_assoc : (a b c : Ledger) → plus (plus a b) c ≡ plus a (plus b c)
unfolding plus
plus_assoc a b c = λ i. record {
  e = record { 0 = words_assoc (value a.e.0) (value b.e.0) (value c.e.0) i };
  k = record { 0 = words_assoc (value a.k.0) (value b.k.0) (value c.k.0) i };
  l = record { 0 = words_assoc (value a.l.0) (value b.l.0) (value c.l.0) i };
  o = record { 0 = signed_assoc (amount a.o.0) (amount b.o.0) (amount c.o.0) i };
  onsite = record { 0 = words_assoc (value a.onsite.0) (value b.onsite.0) (value c.onsite.0) i };
  offsite = record { 0 = words_assoc (value a.offsite.0) (value b.offsite.0) (value c.offsite.0) i };
  decay = record { 0 = words_assoc (value a.decay.0) (value b.decay.0) (value c.decay.0) i };
  matter = matter_assoc a.matter b.matter c.matter i;
}

pub plus_swap : (a b c : Ledger) → plus a (plus b c) ≡ plus b (plus a c)
plus_swap a b c = sym (plus_assoc a b c) ∙ ap (λ (x : Ledger). plus x c) (plus_comm a b) ∙ plus_assoc b a c

pub plus-last : (gs : List Ledger) (g : Ledger) → sum_ledgers (gs ++ (g ∷ [])) ≡ plus (sum_ledgers gs) g
plus-last [] g = plus_comm g none
plus-last (h ∷ gs) g = ap (plus h) (plus-last gs g) ∙ sym (plus_assoc h (sum_ledgers gs) g)

-- how large
pub at_most_none : AtMost 0 none
at_most_none = record {
  e = omega (arith, v 0);
  k = omega (arith, v 0);
  l = omega (arith, v 0);
  o = omega (arith, v 0);
  upright = refl;
  onsite = omega (arith, v 0);
  offsite = omega (arith, v 0);
  decay = omega (arith, v 0);
  matter = most_none;
}

-- two numbers that are not below zero
upright-amount : (s : Signed) → s.below ≡ false → amount s ≡ pos (value s.size)
upright-amount s e = ap (λ (b : Bool). sized b (value s.size)) e

pub upright-sum : (s t : Signed) → s.below ≡ false → t.below ≡ false → signed_of (amount s +ℤ amount t) ≡ record { below = false; size = words_of (value s.size + value t.size) }
upright-sum s t es et = ap signed_of (ap₂ (λ (x y : ℤ). x +ℤ y) (upright-amount s es) (upright-amount t et) ∙ pos-+ℤ-pos (value s.size) (value t.size))

pub at_most_plus : (m n : ℕ) (a b : Ledger) → AtMost m a → AtMost n b → AtMost (m + n) (plus a b)
unfolding plus
at_most_plus m n a b p q =
    let o = upright-sum a.o.0 b.o.0 p.upright q.upright in
    record {
      e = omega (arith, v (value a.e.0 + value b.e.0));
      k = omega (arith, v (value a.k.0 + value b.k.0));
      l = omega (arith, v (value a.l.0 + value b.l.0));
      o = omega (arith, ap (λ (s : Signed). value s.size) o, v (value a.o.0.size + value b.o.0.size));
      upright = ap (λ (s : Signed). s.below) o;
      onsite = omega (arith, v (value a.onsite.0 + value b.onsite.0));
      offsite = omega (arith, v (value a.offsite.0 + value b.offsite.0));
      decay = omega (arith, v (value a.decay.0 + value b.decay.0));
      matter = most_le (most_plus _ _ a.matter b.matter p.matter q.matter) (omega arith);
    }

-- five hundred returns have room
pub at_most_bounded : {n : ℕ} {g : Ledger} → AtMost n g → n ≤ 500 → Bounded g
at_most_bounded p h = record {
  e = omega (arith, p.e);
  k = omega (arith, p.k);
  l = omega (arith, p.l);
  o = omega (arith, p.o);
  onsite = omega (arith, p.onsite);
  offsite = omega (arith, p.offsite);
  decay = omega (arith, p.decay);
  matter = most_le p.matter (omega (arith, h));
}

pub at_most_addable : {n : ℕ} {g : Ledger} → AtMost n g → n ≤ 500 → Addable g
at_most_addable p h = record { bounded = at_most_bounded p h; upright = p.upright }
