-- The ways out of writing from C; sized, where there is room for the size, the rules of writing are left. Assumes nothing.
use Prim.Native.Nat.{ℕ, ◌≤◌, ◌<◌}
use mathlib.Core.Path.{◌≡◌, refl, sym, ap, ◌∙◌}
use mathlib.Core.Bool.{Bool, true, false, ◌||◌, or-true, or-false}
use mathlib.Core.List.{List, [], ◌∷◌}
use borrow.Author.Tests.{lt-ltb, le-ltb}
use lib.Dec.{ltb, lit<}
use lib.ListN.{length}
use Rattle.form.specs.First.{first}
use Rattle.form.specs.Ruling.{rule, on_front, ruling}
use Rattle.form.specs.Refusals.{Clean, Refused, Ruling}
use Rattle.rows.specs.Answers.{Written}
use Rattle.std.specs.Prelude.{Ok, Err}
use Rattle.form.proofs.Order.{or_rule, ruling_append, one_broken}
use Rattle.filing.specs.Lists.{cut}
use Rattle.lists.specs.Rules.{list_rules}
use Rattle.rows.specs.Writing as rows
use Rattle.handed.specs.Rows.{write_call, blocks_after, size_after}

-- the ruling and the size's room by the answer that the code has at hand
abbrev pub ruling_by : Written → Ruling
ruling_by (Ok n) = Clean
ruling_by (Err r) = Err r

abbrev pub size_by : List ℕ → Written → List ℕ
size_by size (Ok n) = on_front (n ∷ []) size
size_by size (Err r) = size

-- no size can be handed back: 9, if no rule before it is broken
abbrev pub unsized : Written → Ruling
unsized (Ok n) = Refused 9 0
unsized (Err r) = Err r

module _ (ed : ℕ) (area lengths : List ℕ) where
  ruling-said : (v : Ruling) → ruling_by (rows.written_by ed (cut lengths area) v) ≡ v
  ruling-said Clean = refl
  ruling-said (Err r) = refl

  size-said : (size : List ℕ) (v : Ruling) → size_by size (rows.written_by ed (cut lengths area) v) ≡ size_after ed area lengths size v
  size-said size Clean = refl
  size-said size (Err r) = refl

  -- a refusal leaves both rooms as they were, whichever rule it is by
  room-kept : (room : List ℕ) (u : Ruling) → room ≡ blocks_after ed area lengths room (or_rule u (Refused 9 0))
  room-kept room Clean = refl
  room-kept room (Err r) = refl

  size-kept : (size : List ℕ) (u : Ruling) → size ≡ size_after ed area lengths size (or_rule u (Refused 9 0))
  size-kept size Clean = refl
  size-kept size (Err r) = refl

  -- ---- no room for the size

  no_size : (room size : List ℕ) → length size < 1 → write_call ed area lengths room size ≡ or_rule (ruling (list_rules ed lengths area)) (Refused 9 0)
  no_size room size h =
      ruling_append (list_rules ed lengths area) _
      ∙ ap (or_rule (ruling (list_rules ed lengths area))) (one_broken 9 _ [] (ap (λ (b : Bool). ltb (length room) (length (rows.written ed (cut lengths area))) || b) (lt-ltb (length size) 1 h) ∙ or-true (ltb (length room) (length (rows.written ed (cut lengths area))))))

  last : (u : Ruling) (short : Bool) → unsized (rows.written_by ed (cut lengths area) (or_rule u (ruling (rule 9 1 (λ p. short) ∷ [])))) ≡ or_rule u (Refused 9 0)
  unfolding ruling first
  last Clean true = refl
  last Clean false = refl
  last (Err r) short = refl

  -- whatever room is tried
  pub tried : (room : List ℕ) (w : Written) {r : Ruling} → w ≡ rows.write_answer ed lengths area room → r ≡ unsized w → r ≡ write_call ed area lengths [] []
  unfolding rows.write_answer
  tried room w e q =
      let l = cut lengths area in
      q ∙ ap unsized e
      ∙ ap (λ (v : Ruling). unsized (rows.written_by ed l v)) (ruling_append (list_rules ed lengths area) (rows.room_rule ed l room ∷ []))
      ∙ last (ruling (list_rules ed lengths area)) (ltb (length room) (length (rows.written ed l)))
      ∙ sym (no_size [] [] (lit< tt))

  module _ (room size : List ℕ) where
    -- what the answer and the two rooms are, for a ruling
    abbrev Out : Ruling → List ℕ → List ℕ → Ruling → Type 0
    Out r o z v = (r ≡ v) × ((o ≡ blocks_after ed area lengths room v) × (z ≡ size_after ed area lengths size v))

    pub unsized_out : {r : Ruling} → length size < 1 → r ≡ write_call ed area lengths [] [] → Out r room size (write_call ed area lengths room size)
    unsized_out h q =
        let u = ruling (list_rules ed lengths area) in
        rw (no_size room size h) (q ∙ no_size [] [] (lit< tt), (room-kept room u, size-kept size u))

    -- room for the size: the rule of the room for the blocks is left
    pub sized : 1 ≤ length size → write_call ed area lengths room size ≡ ruling (rows.write_rules ed lengths area room)
    sized h = rw (le-ltb (length size) 1 h, or-false (ltb (length room) (length (rows.written ed (cut lengths area)))))

    pub written_out : (w : Written) {r : Ruling} {o z : List ℕ} → 1 ≤ length size → w ≡ rows.write_answer ed lengths area room → r ≡ ruling_by w
        → o ≡ rows.bytes_after ed lengths area room w → z ≡ size_by size w → Out r o z (write_call ed area lengths room size)
    unfolding rows.write_answer
    written_out w h a q e k =
        let v : w ≡ rows.written_by ed (cut lengths area) (write_call ed area lengths room size) = a ∙ ap (rows.written_by ed (cut lengths area)) (sym (sized h)) in (
          q ∙ ap ruling_by v ∙ ruling-said (write_call ed area lengths room size),
          (e ∙ ap (rows.bytes_after ed lengths area room) v, k ∙ ap (size_by size) v ∙ size-said size (write_call ed area lengths room size)),
        )
