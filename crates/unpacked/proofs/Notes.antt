-- The notes of the kinds, each as one text. Assumes nothing.
--     noted      a text that computes to a kind's note with its end, where it was written
--     eighth     what a `match` of seven kinds leaves for its last
use Prim.Native.Nat.{ℕ, ◌<◌, ◌≤◌}
use mathlib.Core.Path.{◌≡◌, sym, subst}
use mathlib.Core.Bool.{true}
use mathlib.Core.List.{List, [], ◌∷◌, ◌++◌}
use native.Mathlib.Omega.{arith}
use borrow.Author.Tests.{leb-true}
use lib.Dec.{leb}
use lib.ListN.{length}
use Rattle.form.specs.Layout.{kinds}
use Rattle.form.proofs.EachKind.{NoneOf, beyond, kinds_are}
use Rattle.decimal.specs.Digits.{WrittenAt}
use Rattle.phrases.specs.Lines.{WrittenIn}
use Rattle.phrases.proofs.LineTexts.{as_text}
use Rattle.unpacked.specs.Unpacked.{note_line}
use Rattle.unpacked.specs.Rooms.{note_room}

pub noted : {text d d' : List ℕ} {at next : ℕ} (k kind : ℕ) → kind ≡ k → WrittenAt text d d' at next → text ≡ note_line k ++ 10 ∷ [] → leb (length text) note_room ≡ true
    → WrittenIn note_room (note_line kind ++ 10 ∷ []) d d' at next
noted {text} {d} {d'} {at} {next} k kind q w e h =
    subst (λ (j : ℕ). WrittenIn note_room (note_line j ++ 10 ∷ []) d d' at next) (sym q)
    (as_text e w, omega (arith, w.place, leb-true (length text) note_room h))

pub eighth : (kind : ℕ) → NoneOf 7 kind → 0 < kind → kind ≤ kinds → kind ≡ 8
eighth kind e lo hi = let g : kind ≤ 7 → ⊥ = λ h. beyond 7 kind e h lo in omega (arith, kinds_are)
