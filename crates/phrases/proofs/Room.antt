-- Text put into room, byte by byte and part by part. Assumes nothing.
--     put_more             one byte more of a text
--     as_refused           the parts of a refusal's line, one after the other, are the line; refused-length, ended-length: how long
--     straight_out         a text that fits, written to the room itself: what `put_of` and `text_after` say
--     short_out, put_out   a text that stands elsewhere: the room is too short, or it was put there; elsewhere_out, from room of our own
--     put_fits             a text that was put fits the room
use Prim.Native.Nat.{ℕ, ◌+◌, ◌<◌, ◌≤◌}
use mathlib.Core.Path.{◌≡◌, refl, sym, ap, subst, ◌∙◌}
use mathlib.Core.Bool.{Bool, true, false, cond}
use mathlib.Core.List.{List, [], ◌∷◌, ◌++◌, append_assoc}
use native.Mathlib.Nat.{zero-add}
use native.Mathlib.Numerals.{add-one}
use native.Mathlib.Omega.{arith}
use borrow.Author.Tests.{lt-ltb, le-ltb, ltb-false}
use lib.Dec.{ltb}
use lib.ListN.{length, take, drop, set, get_or, length-append}
use lib.Seq.{sets, take-suc, take_at, length-take-le, sets-eq}
use lib.IntN.{ℤ, pos}
use Rattle.std.proofs.Common.{Option, Some, None}
use Rattle.decimal.specs.Digits.{decimal, WrittenAt}
use Rattle.decimal.proofs.DigitLaws.{sets_append}
use Rattle.phrases.specs.Ascii.{codes}
use Rattle.phrases.specs.Lines.{ended_by, refused_line}
use Rattle.phrases.specs.Room.{put_of, text_after}

pub put_more : (d text : List ℕ) (at i : ℕ) → i < length text → set (sets d at (take i text)) (at + i) (get_or text i 0) ≡ sets d at (take (i + 1) text)
put_more d text at i l =
    let n : length (take i text) ≡ i = length-take-le i text (omega arith) in
    sym (ap (λ (x : List ℕ). sets d at x) (ap (λ (k : ℕ). take k text) (add-one i) ∙ take-suc text i 0 l)
    ∙ sets_append d at (take i text) (get_or text i 0 ∷ [])
    ∙ ap (λ (k : ℕ). set (sets d at (take i text)) (at + k) (get_or text i 0)) n)

-- "refused ", the number, a space, the place and a line feed
pub as_refused : (n p : ℕ) (y z : ℤ) {d e : List ℕ} {i j : ℕ} → y ≡ pos n → z ≡ pos p
    → WrittenAt ((codes "refused " ++ ended_by 32 y) ++ ended_by 10 z) d e i j → WrittenAt (refused_line n p) d e i j
unfolding refused_line
as_refused n p y z {d} {e} {i} {j} u v w =
    let q = ap (λ (x : List ℕ). codes "refused " ++ x) (append_assoc (decimal n) (32 ∷ []) (ended_by 10 (pos p))) in
    subst (λ (x : List ℕ). WrittenAt x d e i j) (rw (u, v) q) w

pub ended-length : (b : ℕ) {z : ℤ} {n : ℕ} → z ≡ pos n → length (ended_by b z) ≡ length (decimal n) + 1
ended-length b {z} {n} e = rw e (length-append (decimal n) (b ∷ []))

pub refused-length : (n p : ℕ) → length (refused_line n p) ≡ 10 + length (decimal n) + length (decimal p)
unfolding refused_line
refused-length n p = simp length-append (omega arith)

-- a text at the front of room
front : (d t : List ℕ) → length t ≤ length d → sets d 0 t ≡ t ++ drop (length t) d
front d t l = sets-eq t d 0 (omega arith) ∙ ap (λ (k : ℕ). t ++ drop k d) (zero-add (length t))

module _ (text room : List ℕ) where
  pub straight_out : (room' : List ℕ) (n : ℕ) → WrittenAt text room room' 0 n → length text ≤ length room → (Some n ≡ put_of text room) × (room' ≡ text_after text room (Some n))
  straight_out room' n w l =
      let size : n ≡ length text = w.place ∙ zero-add (length text) in
      (ap Some size ∙ ap (λ (t : Bool). cond t None (Some (length text))) (sym (le-ltb (length room) (length text) l)), w.room ∙ front room text l ∙ ap (λ (k : ℕ). text ++ drop k room) (sym size))

  pub short_out : length room < length text → (None ≡ put_of text room) × (room ≡ text_after text room None)
  short_out l = (ap (λ (t : Bool). cond t None (Some (length text))) (sym (lt-ltb (length room) (length text) l)), refl)

  pub put_out : (n : ℕ) (room' : List ℕ) (next : ℕ) → length text ≡ n → n ≤ length room → WrittenAt text room room' 0 next → (Some n ≡ put_of text room) × (room' ≡ text_after text room (Some n))
  put_out n room' next e l w = straight_out room' n (record { room = w.room; place = sym e ∙ sym (zero-add (length text)) }) (omega (arith, e))

-- a text that stands at the front of room of our own, and was put from there
pub elsewhere_out : (text own own' room room' : List ℕ) (n : ℕ) (r : Option ℕ) → WrittenAt text own own' 0 n → n ≤ length own
    → (r ≡ put_of (take n own') room) × (room' ≡ text_after (take n own') room r) → (r ≡ put_of text room) × (room' ≡ text_after text room r)
elsewhere_out text own own' room room' n r w h p =
    let size : n ≡ length text = w.place ∙ zero-add (length text) in
    let e : take n own' ≡ text = ap (take n) (w.room ∙ front own text (omega (arith, size))) ∙ take_at text (drop (length text) own) n (sym size) in
    subst (λ (x : List ℕ). (r ≡ put_of x room) × (room' ≡ text_after x room r)) e p

-- a text that was put fits the room
fits_by : (b : Bool) (n k m : ℕ) → (b ≡ false → n ≤ m) → cond b None (Some n) ≡ Some k → k ≤ m
fits_by true n k m h e = let z : ◌≡◌ {A = ℕ} 0 1 = cc in absurd (omega arith)
fits_by false n k m h e =
    let q : n ≡ k = cc in
    omega (arith, h refl)

pub put_fits : (text room : List ℕ) (k : ℕ) → put_of text room ≡ Some k → k ≤ length room
put_fits text room k e =
    fits_by (ltb (length room) (length text)) (length text) k (length room) (ltb-false (length room) (length text)) e
