-- The ways out of a call. Assumes nothing.
--     refused_out    a return that is refused
--     unsized_out    no room for the size; put_out, by how the text was put into the room
--     done-small     the number of bytes that is handed back
use Prim.Native.Nat.{ℕ, ◌≤◌, ◌<◌}
use mathlib.Core.Path.{◌≡◌, refl, ap, ◌∙◌}
use mathlib.Core.Bool.{Bool, true, false, cond, ◌||◌, or-true}
use mathlib.Core.List.{List, [], ◌∷◌}
use native.Mathlib.Omega.{arith}
use lib.Dec.{ltb}
use lib.ListN.{length}
use borrow.Author.Tests.{lt-ltb, le-ltb}
use Rattle.form.specs.Ruling.{on_front, ruling}
use Rattle.form.specs.Verdict.{rules, verdict_of}
use Rattle.form.specs.declared.Counts.{Counts}
use Rattle.form.specs.Refusals.{Clean, Refused, Ruling}
use Rattle.std.specs.Prelude.{Ok}
use Rattle.form.proofs.Order.{ruled_before, kept-before, one_broken, one_kept}
use Rattle.form.proofs.Meaning.{refused-ruling}
use Rattle.standing.proofs.Accepted.{accepted-ruling}
use Rattle.phrases.specs.Room.{put_of, text_after}
use Rattle.std.proofs.Common.{Option, Some, None}
use Rattle.unpacked.specs.Unpacked.{unpacked_text}
use Rattle.unpacked.specs.Calls.{unpack_rooms, unpack_call, room_by, size_by}

-- the ruling and the size's room by how the text was put
abbrev pub ruling_put : Option ℕ → Ruling
ruling_put (Some n) = Clean
ruling_put None = Refused 9 0

abbrev pub size_put : List ℕ → Option ℕ → List ℕ
size_put size (Some n) = on_front (n ∷ []) size
size_put size None = size

pub done-small : (text room : List ℕ) (m : ℕ) {k : ℕ} → put_of text room ≡ Some k → length text ≤ m → k ≤ m
done-small text room m {k} e h = by (ltb (length room) (length text)) e
  where
    by : (b : Bool) → cond b None (Some (length text)) ≡ Some k → k ≤ m
    by true f = let z : ◌≡◌ {A = ℕ} 0 1 = cc in absurd (omega arith)
    by false f = let q : length text ≡ k = cc in omega arith

module _ (s room size : List ℕ) where
  -- what the answer and the two rooms are, for a ruling
  abbrev pub Out : Ruling → List ℕ → List ℕ → Ruling → Type 0
  Out r o z v = (r ≡ v) × ((o ≡ room_by s room v) × (z ≡ size_by s size v))

  pub refused_out : {n p : ℕ} → verdict_of s ≡ Refused n p → Out (Refused n p) room size (unpack_call s room size)
  refused_out {n} {p} e = rw (ruled_before (rules s) (unpack_rooms s room size ∷ []) (refused-ruling s n p e)) (refl, (refl, refl))

  module _ (c : Counts) (acc : verdict_of s ≡ Ok c) where
    last : unpack_call s room size ≡ ruling (unpack_rooms s room size ∷ [])
    last = kept-before (rules s) (unpack_rooms s room size ∷ []) (accepted-ruling s c acc)

    broken : (ltb (length room) (length (unpacked_text s)) || ltb (length size) 1) ≡ true → unpack_call s room size ≡ Refused 9 0
    broken e = last ∙ one_broken 9 _ [] e

    clean : (ltb (length room) (length (unpacked_text s)) || ltb (length size) 1) ≡ false → unpack_call s room size ≡ Clean
    unfolding ruling
    clean e = last ∙ one_kept 9 _ [] e

    pub unsized_out : length size < 1 → Out (Refused 9 0) room size (unpack_call s room size)
    unsized_out h =
        let short = ltb (length room) (length (unpacked_text s)) in
        rw (broken (ap (λ (b : Bool). short || b) (lt-ltb (length size) 1 h) ∙ or-true short)) (refl, (refl, refl))

    pub put_out : 1 ≤ length size → (w : Option ℕ) {r : Ruling} {o z : List ℕ} → w ≡ put_of (unpacked_text s) room → r ≡ ruling_put w
        → o ≡ text_after (unpacked_text s) room w → z ≡ size_put size w → Out r o z (unpack_call s room size)
    put_out h w {r} {o} {z} e q a b = by (ltb (length room) (length (unpacked_text s))) refl
      where
        by : (t : Bool) → ltb (length room) (length (unpacked_text s)) ≡ t → Out r o z (unpack_call s room size)
        by true f =
            let u : w ≡ None = e ∙ ap (λ (t : Bool). cond t None (Some (length (unpacked_text s)))) f in
            rw (broken (ap (λ (t : Bool). t || ltb (length size) 1) f))
            (q ∙ ap ruling_put u, (a ∙ ap (text_after (unpacked_text s) room) u, b ∙ ap (size_put size) u))
        by false f =
            let u : w ≡ Some (length (unpacked_text s)) = e ∙ ap (λ (t : Bool). cond t None (Some (length (unpacked_text s)))) f in
            rw (clean (ap (λ (t : Bool). t || ltb (length size) 1) f ∙ le-ltb (length size) 1 h))
            (q ∙ ap ruling_put u, (a ∙ ap (text_after (unpacked_text s) room) u, b ∙ ap (size_put size) u))
