-- The ways out of the heaviest row for C. Assumes nothing.
--     named_told       an answer of `heaviest` is one ruling's alone
--     last-room        the rules of `heaviest`, and last the room
--     refused_out      the ruling and the room where it refuses; none_out, row_out, where it names none or a row, by what the room then got
use Rattle.std.specs.Prelude.{Ok, Some, Err}
use Prim.Native.Nat.{ℕ}
use mathlib.Core.Path.{◌≡◌, refl, sym, ap, ◌∙◌}
use mathlib.Core.Bool.{Bool, true, false, cond}
use mathlib.Core.List.{List, [], ◌∷◌, ◌++◌, append_assoc}
use lib.Dec.{eqb}
use Rattle.form.specs.Ruling.{too_short, on_front, ruling}
use Rattle.form.specs.Verdict.{rules}
use Rattle.form.specs.Refusals.{Clean, Refused, Ruling}
use Rattle.heaviest.specs.Named.{Named, NoRow, Row}
use Rattle.form.proofs.Order.{ruled_before, kept-before, same_ruling}
use Rattle.totals.specs.Codes.{wrong_code}
use Rattle.heaviest.specs.Heaviest.{heaviest_by, named_of, heaviest_rules, named_by, heaviest_answer}
use Rattle.heaviest.specs.declared.Weight.{Weight}
use Rattle.weighed.specs.Heaviest.{three, three_call, three_after, named_numbers, heaviest_call, heaviest_after}

-- the ruling behind an answer
abbrev in_named : Named → Ruling
in_named (Ok (Some w)) = Clean
in_named NoRow = Clean
in_named (Err r) = Err r

either_clean : (b : Bool) (i p : ℕ) → in_named (cond b NoRow (Row i p)) ≡ Clean
either_clean true i p = refl
either_clean false i p = refl

named-clean : (w : Weight) → in_named (named_of w) ≡ Clean
unfolding named_of
named-clean w = either_clean (eqb w.part 0) w.id w.part

module _ (s : List ℕ) (code : ℕ) where
  pub named_told : (u v : Ruling) → named_by s code u ≡ named_by s code v → u ≡ v
  named_told = same_ruling (named_by s code) in_named (named-clean (heaviest_by code s)) (λ n p. refl)

  behind : (u : Ruling) → in_named (named_by s code u) ≡ u
  behind Clean = named-clean (heaviest_by code s)
  behind (Err r) = refl

  ruled_by : {x : Named} → heaviest_answer s code ≡ x → ruling (heaviest_rules s code) ≡ in_named x
  ruled_by e = sym (behind (ruling (heaviest_rules s code))) ∙ ap in_named e

  module _ (room : List ℕ) where
    -- what the answer r and the room l are
    abbrev Out : Ruling → List ℕ → Type 0
    Out r l = (r ≡ heaviest_call s code room) × (l ≡ heaviest_after s code room (heaviest_call s code room))

    -- the rules of `heaviest`, and last the room
    pub last-room : heaviest_call s code room ≡ ruling (heaviest_rules s code ++ (too_short 3 room ∷ []))
    last-room = ap ruling (sym (append_assoc (rules s) (wrong_code code ∷ []) (too_short 3 room ∷ [])))

    pub refused_out : (n p : ℕ) → heaviest_answer s code ≡ Refused n p → Out (Refused n p) room
    refused_out n p e =
        let z : heaviest_call s code room ≡ Refused n p = last-room ∙ ruled_before (heaviest_rules s code) (too_short 3 room ∷ []) (ruled_by e) in
        rw z (refl, refl)

    -- of an answer that is no refusal, the room is left
    after : (x : Named) (v : Ruling) → heaviest_answer s code ≡ x → three_after (named_numbers x) room v ≡ heaviest_after s code room v
    after x Clean e = ap (λ (y : Named). on_front (named_numbers y) room) (sym e)
    after x (Err r) e = refl

    put_out : (x : Named) (r : Ruling) (l : List ℕ) → heaviest_answer s code ≡ x → in_named x ≡ Clean
        → r ≡ three_call room → l ≡ three_after (named_numbers x) room (three_call room) → Out r l
    put_out x r l e k q t =
        let z : heaviest_call s code room ≡ three_call room = last-room ∙ kept-before (heaviest_rules s code) (too_short 3 room ∷ []) (ruled_by e ∙ k) in
        rw z (q, t ∙ after x (three_call room) e)

    pub none_out : (r : Ruling) (l : List ℕ) → heaviest_answer s code ≡ NoRow → r ≡ three_call room → l ≡ three_after (three 0 0 0) room (three_call room) → Out r l
    none_out r l e = put_out NoRow r l e refl

    pub row_out : (i p : ℕ) (r : Ruling) (l : List ℕ) → heaviest_answer s code ≡ Row i p
        → r ≡ three_call room → l ≡ three_after (three 1 i p) room (three_call room) → Out r l
    row_out i p r l e = put_out (Row i p) r l e refl
