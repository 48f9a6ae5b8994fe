-- Laws of `ruling`. Assumes nothing.
--     ruled, kept       by which the code's proof goes from rule to rule; stopped, passed, the same behind rules that are kept
--     ruling_append     one list of rules tried after another; ruled_before, kept-before, by what the first list says
--     append_same       rules behind two lists that agree; both-rule, two lists whose first rules agree
--     one_broken, one_kept    a rule of one place; too_short_lem, long_enough, the last rule, the room itself
--     ruling_least      what it refuses is broken there, at no lower place, and no earlier rule is broken anywhere; least_ruling, the other way
--     ruling-clean      where it is clean, no rule is broken anywhere; clean-ruling, the other way
--     kept_of, least_of the rule with a number, of rules that are all kept, and of rules of which it is the first broken one; least_has, which is among them
--     same_ruling       an answer from which its ruling can be found again is one ruling's alone
use Prim.Native.Nat.{ℕ, ◌≤◌, ◌<◌}
use mathlib.Core.Path.{◌≡◌, refl, sym, ap, subst, ◌∙◌}
use mathlib.Core.Bool.{Bool, true, false, cond, not, ◌&&◌, ◌||◌, or-true}
use mathlib.Core.List.{List, [], ◌∷◌, ◌++◌}
use native.Mathlib.Omega.{arith}
use borrow.Author.Tests.{lt-ltb, le-ltb, ltb-true, ltb-false, eq-eqb, not-true}
use lib.Dec.{eqb, ltb}
use lib.ListN.{length}
use Rattle.form.specs.First.{first}
use Rattle.form.specs.Ruling.{Rule, rule, too_short, refuse, ruling}
use Rattle.form.proofs.Tests.{and-true, or_none, either}
use Rattle.form.proofs.Search.{first-zero, first_more, first_found, first_at, first_none, first_is, first_is_none}
use Rattle.form.specs.Refusals.{Clean, Refused, Ruling}
use Rattle.form.specs.declared.Refusal.{Refusal}
use Rattle.std.specs.Prelude.{None, Option, Some, Err}

pub ruled : (r : Rule) (rs : List Rule) {i : ℕ} → first r.broken r.places ≡ Some i → Refused r.number i ≡ ruling (r ∷ rs)
unfolding ruling
ruled r rs e = sym (ap (λ (s : Option ℕ). refuse r.number s (ruling rs)) e)

pub kept : (r : Rule) (rs : List Rule) {v : Ruling} → first r.broken r.places ≡ None → v ≡ ruling rs → v ≡ ruling (r ∷ rs)
unfolding ruling
kept r rs e q = q ∙ sym (ap (λ (s : Option ℕ). refuse r.number s (ruling rs)) e)

-- the same, where the rules before are kept, by what the code found of this one
module _ (r : Rule) (rs : List Rule) {v : Ruling} {x : (Option ℕ)} (before : v ≡ ruling (r ∷ rs)) (said : x ≡ first r.broken r.places) where
  pub stopped : {i : ℕ} → x ≡ Some i → Refused r.number i ≡ v
  stopped e = ruled r rs (sym said ∙ e) ∙ sym before

  pub passed : x ≡ None → v ≡ ruling rs
  passed e = before ∙ sym (kept r rs (sym said ∙ e) refl)

-- the first ruling, or the second where the first is clean
abbrev pub or_rule : Ruling → Ruling → Ruling
or_rule Clean v = v
or_rule (Err r) v = Err r

or_refuse : (n : ℕ) (s : Option ℕ) (u v : Ruling) → refuse n s (or_rule u v) ≡ or_rule (refuse n s u) v
or_refuse n (Some i) u v = refl
or_refuse n None u v = refl

pub ruling_append : (rs qs : List Rule) → ruling (rs ++ qs) ≡ or_rule (ruling rs) (ruling qs)
unfolding ruling
ruling_append [] qs = refl
ruling_append (r ∷ rs) qs =
    ap (λ (v : Ruling). refuse r.number (first r.broken r.places) v) (ruling_append rs qs)
    ∙ or_refuse r.number (first r.broken r.places) (ruling rs) (ruling qs)

-- rules behind two lists that agree
pub append_same : (rs qs ts : List Rule) → ruling rs ≡ ruling qs → ruling (rs ++ ts) ≡ ruling (qs ++ ts)
append_same rs qs ts e = ruling_append rs ts ∙ ap (λ (u : Ruling). or_rule u (ruling ts)) e ∙ sym (ruling_append qs ts)

-- two lists of rules whose first rules agree, and whose others agree where the first is kept
pub both-rule : (n m : ℕ) (p q : ℕ → Bool) (rs qs : List Rule) → first p m ≡ first q m → (first q m ≡ None → ruling rs ≡ ruling qs)
    → ruling (rule n m p ∷ rs) ≡ ruling (rule n m q ∷ qs)
unfolding ruling
both-rule n m p q rs qs e h = ap (λ (t : Option ℕ). refuse n t (ruling rs)) e ∙ go (first q m) refl
  where
    go : (t : Option ℕ) → first q m ≡ t → refuse n t (ruling rs) ≡ refuse n t (ruling qs)
    go (Some i) f = refl
    go None f = h f

-- where both are clean
pub or_clean : (u v : Ruling) → or_rule u v ≡ Clean → u ≡ Clean
or_clean Clean v e = refl
or_clean (Err r) v e = e

pub or_second : (u v : Ruling) → or_rule u v ≡ Clean → v ≡ Clean
or_second Clean v e = e
or_second (Err r) v e = let z : ◌≡◌ {A = ℕ} 0 1 = cc in absurd (omega arith)

-- rules behind a broken one are not tried
pub ruled_before : (rs qs : List Rule) {e : Refusal} → ruling rs ≡ Err e → ruling (rs ++ qs) ≡ Err e
ruled_before rs qs e = ruling_append rs qs ∙ ap (λ (u : Ruling). or_rule u (ruling qs)) e

-- rules behind kept ones
pub kept-before : (rs qs : List Rule) → ruling rs ≡ Clean → ruling (rs ++ qs) ≡ ruling qs
kept-before rs qs e = ruling_append rs qs ∙ ap (λ (u : Ruling). or_rule u (ruling qs)) e

-- one rule of one place, tried first
pub one_broken : (n : ℕ) (q : Bool) (rs : List Rule) → q ≡ true → ruling (rule n 1 (λ p. q) ∷ rs) ≡ Refused n 0
one_broken n q rs e = sym (ruled (rule n 1 (λ p. q)) rs (first_found (λ p. q) 0 1 (first-zero _) e (omega arith)))

pub one_kept : (n : ℕ) (q : Bool) (rs : List Rule) → q ≡ false → ruling (rule n 1 (λ p. q) ∷ rs) ≡ ruling rs
one_kept n q rs e = sym (kept (rule n 1 (λ p. q)) rs (first_more (λ p. q) 0 (first-zero _) e) refl)

-- the last rule: 9, or none
pub too_short_lem : (n : ℕ) (room : List ℕ) → length room < n → ruling (too_short n room ∷ []) ≡ Refused 9 0
too_short_lem n room l = one_broken 9 _ [] (lt-ltb (length room) n l)

pub long_enough : (n : ℕ) (room : List ℕ) → n ≤ length room → ruling (too_short n room ∷ []) ≡ Clean
unfolding ruling
long_enough n room l = one_kept 9 _ [] (le-ltb (length room) n l)

unfoldable pub Kept : Rule → Type 0
Kept r = (k : ℕ) → k < r.places → r.broken k ≡ false

-- the first broken rule is number n, and i its lowest place
pub data Least : List Rule → ℕ → ℕ → Type 0 where
  this : {r : Rule} {rs : List Rule} {i : ℕ} → i < r.places → r.broken i ≡ true → ((k : ℕ) → k < i → r.broken k ≡ false) → Least (r ∷ rs) r.number i
  later : {r : Rule} {rs : List Rule} {n i : ℕ} → Kept r → Least rs n i → Least (r ∷ rs) n i

pub data AllKept : List Rule → Type 0 where
  none : AllKept []
  more : {r : Rule} {rs : List Rule} → Kept r → AllKept rs → AllKept (r ∷ rs)

-- what a ruling says of the rules
abbrev pub Means : List Rule → Ruling → Type 0
Means rs Clean = AllKept rs
Means rs (Err r) = Least rs r.number r.place

step : (r : Rule) (rs : List Rule) (s : Option ℕ) (v : Ruling) → first r.broken r.places ≡ s → Means rs v → Means (r ∷ rs) (refuse r.number s v)
unfolding Kept
step r rs (Some i) v e m = let h = first_at r.broken e in this h.0 h.1 h.2
step r rs None Clean e m = more (first_none r.broken e) m
step r rs None (Err refusal) e m = later (first_none r.broken e) m

pub ruling_means : (rs : List Rule) → Means rs (ruling rs)
unfolding ruling
ruling_means [] = none
ruling_means (r ∷ rs) = step r rs (first r.broken r.places) (ruling rs) refl (ruling_means rs)

pub ruling_least : {rs : List Rule} {n i : ℕ} → ruling rs ≡ Refused n i → Least rs n i
ruling_least {rs} e = subst (Means rs) e (ruling_means rs)

pub ruling-clean : {rs : List Rule} → ruling rs ≡ Clean → AllKept rs
ruling-clean {rs} e = subst (Means rs) e (ruling_means rs)

pub least_ruling : {rs : List Rule} {n i : ℕ} → Least rs n i → ruling rs ≡ Refused n i
unfolding Kept
least_ruling (this {r} {rs} l e h) = sym (ruled r rs (first_is r.broken _ _ l e h))
least_ruling (later {r} {rs} h m) = sym (kept r rs (first_is_none r.broken _ h) (sym (least_ruling m)))

pub clean-ruling : {rs : List Rule} → AllKept rs → ruling rs ≡ Clean
unfolding Kept ruling
clean-ruling none = refl
clean-ruling (more {r} {rs} h m) = sym (kept r rs (first_is_none r.broken _ h) (sym (clean-ruling m)))

pub append_kept : (xs ys : List Rule) → AllKept (xs ++ ys) → AllKept xs × AllKept ys
append_kept [] ys a = (none, a)
append_kept (x ∷ xs) ys (more h a) = let r = append_kept xs ys a in (more h r.0, r.1)

-- ---- a rule is found by its number
-- the first rule of a list that has it; where none has, a rule of no place
abbrev pub rule_of : ℕ → List Rule → Rule
rule_of n [] = rule n 0 (λ p. false)
rule_of n (r ∷ rs) = cond (eqb r.number n) r (rule_of n rs)

pub kept_of : (n : ℕ) {rs : List Rule} → AllKept rs → Kept (rule_of n rs)
unfolding Kept
kept_of n none = λ k l. refl
kept_of n (more {r} {rs} h a) = let k = kept_of n a in either Kept (eqb r.number n) (λ q. h) (λ q. k)

-- some rule has the number; and no two rules have the same one
abbrev pub has : ℕ → List Rule → Bool
has n [] = false
has n (r ∷ rs) = eqb n r.number || has n rs

abbrev pub apart : List Rule → Bool
apart [] = true
apart (r ∷ rs) = not (has r.number rs) && apart rs

-- a place where a rule is broken, and at no lower one
pub record BrokenAt (r : Rule) (p : ℕ) : Type 0 where
  pub inside : p < r.places
  pub broken : r.broken p ≡ true
  pub lowest : (k : ℕ) → k < p → r.broken k ≡ false

another : (x : ℕ) {n p : ℕ} {rs : List Rule} → Least rs n p → has x rs ≡ false → eqb x n ≡ false
another x (this {r} {rs} l e k) h = (or_none (eqb x r.number) (has x rs) h).0
another x (later {r} {rs} k m) h = another x m (or_none (eqb x r.number) (has x rs) h).1

pub least_has : {n p : ℕ} {rs : List Rule} → Least rs n p → has n rs ≡ true
least_has (this {r} {rs} l e k) = ap (λ (b : Bool). b || has r.number rs) (eq-eqb r.number r.number refl)
least_has {n} (later {r} {rs} k m) = ap (λ (b : Bool). eqb n r.number || b) (least_has m) ∙ or-true (eqb n r.number)

pub least_of : {rs : List Rule} {n p : ℕ} → apart rs ≡ true → Least rs n p → BrokenAt (rule_of n rs) p
least_of a (this {r} {rs} l e k) = rw (eq-eqb r.number r.number refl) (record { inside = l; broken = e; lowest = k })
least_of a (later {r} {rs} k m) =
    let b = and-true (not (has r.number rs)) (apart rs) a in
    rw (another r.number m (not-true _ b.0)) (least_of b.1 m)

-- an answer made of a ruling, from which the ruling can be found again, is one ruling's alone
module _ {X : Type 0} (g : Ruling → X) (back : X → Ruling) (clean : back (g Clean) ≡ Clean) (broken : (n p : ℕ) → back (g (Refused n p)) ≡ Refused n p) where
  found : (v : Ruling) → back (g v) ≡ v
  found Clean = clean
  found (Err r) = broken r.number r.place

  pub same_ruling : (u v : Ruling) → g u ≡ g v → u ≡ v
  same_ruling u v e = sym (found u) ∙ ap back e ∙ found v

-- ---- one rule after the other, as the code tries them: what `refuse` says of a rule by itself, and then of it before others
refuse_stops : (n : ℕ) (x : Option ℕ) (v : Ruling) {e : Refusal} → refuse n x Clean ≡ Err e → refuse n x v ≡ Err e
refuse_stops n (Some i) v h = h
refuse_stops n None v h = let z : ◌≡◌ {A = ℕ} 0 1 = cc in absurd (omega arith)

refuse_passes : (n : ℕ) (x : Option ℕ) (v : Ruling) → refuse n x Clean ≡ Clean → refuse n x v ≡ v
refuse_passes n (Some i) v h = let z : ◌≡◌ {A = ℕ} 0 1 = cc in absurd (omega arith)
refuse_passes n None v h = refl

module _ (r : Rule) (rs : List Rule) {x : Option ℕ} {said : Ruling} (place : x ≡ first r.broken r.places) (refused : said ≡ refuse r.number x Clean) where
  pub ruled_by : {e : Refusal} → said ≡ Err e → Err e ≡ ruling (r ∷ rs)
  unfolding ruling
  ruled_by h = sym (ap (λ (s : Option ℕ). refuse r.number s (ruling rs)) (sym place) ∙ refuse_stops r.number x (ruling rs) (sym refused ∙ h))

  pub kept_by : said ≡ Clean → ruling rs ≡ ruling (r ∷ rs)
  unfolding ruling
  kept_by h = sym (ap (λ (s : Option ℕ). refuse r.number s (ruling rs)) (sym place) ∙ refuse_passes r.number x (ruling rs) (sym refused ∙ h))

-- what `refuse` says of no place
pub none_refused : (n : ℕ) (x : Option ℕ) → refuse n x Clean ≡ Clean → x ≡ None
none_refused n (Some i) h = let z : ◌≡◌ {A = ℕ} 0 1 = cc in absurd (omega arith)
none_refused n None h = refl

-- what `room_for` says: 9, where the room is shorter
module _ (n room : ℕ) {said : Ruling} (told : said ≡ cond (ltb room n) (Refused 9 0) Clean) where
  pub short_room : {e : Refusal} → said ≡ Err e → (room < n) × (e ≡ record { number = 9; place = 0 })
  short_room {e} h = go (ltb room n) refl
    where
      go : (b : Bool) → ltb room n ≡ b → (room < n) × (e ≡ record { number = 9; place = 0 })
      go true q = (ltb-true room n q, cc)
      go false q = let z : ◌≡◌ {A = ℕ} 0 1 = cc in absurd (omega arith)

  pub long_room : said ≡ Clean → n ≤ room
  long_room h = go (ltb room n) refl
    where
      go : (b : Bool) → ltb room n ≡ b → n ≤ room
      go true q = let z : ◌≡◌ {A = ℕ} 0 1 = cc in absurd (omega arith)
      go false q = ltb-false room n q
