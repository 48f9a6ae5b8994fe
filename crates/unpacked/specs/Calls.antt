-- The text of a return from C: "a code and a lent size, as `niloferq_write` has them"; "a refusal's code of the return .. ; last 9000: room_len is below the text's
-- length, or size_len is 0. On a refusal nothing lent has changed."
use Rattle.std.specs.Prelude.{ℕ, ◌||◌, List, [], ◌∷◌, ◌++◌, length, ltb, Err}
use Rattle.form.specs.Ruling.{Rule, rule, on_front, ruling}
use Rattle.form.specs.Verdict.{rules}
use Rattle.form.specs.Refusals.{Clean, Ruling}
use Rattle.unpacked.specs.Unpacked.{unpacked_text}

-- 9, place 0: the room for the text, or that for its number of bytes
abbrev pub unpack_rooms : List ℕ → List ℕ → List ℕ → Rule
unpack_rooms s room size = rule 9 1 (λ p. ltb (length room) (length (unpacked_text s)) || ltb (length size) 1)

-- the rules of a call, of a return into these rooms, and their ruling
abbrev pub unpack_rules : List ℕ → List ℕ → List ℕ → List Rule
unpack_rules s room size = rules s ++ (unpack_rooms s room size ∷ [])

abbrev pub unpack_call : List ℕ → List ℕ → List ℕ → Ruling
unpack_call s room size = ruling (unpack_rules s room size)

-- the room afterwards: exactly the text at the front, or as it was
abbrev pub room_by : List ℕ → List ℕ → Ruling → List ℕ
room_by s room Clean = on_front (unpacked_text s) room
room_by s room (Err r) = room

-- and that of the size: the text's number of bytes, or as it was
abbrev pub size_by : List ℕ → List ℕ → Ruling → List ℕ
size_by s size Clean = on_front (length (unpacked_text s) ∷ []) size
size_by s size (Err r) = size

-- both rooms after a call
abbrev pub text_unpacked : List ℕ → List ℕ → List ℕ → List ℕ
text_unpacked s room size = room_by s room (unpack_call s room size)

abbrev pub size_unpacked : List ℕ → List ℕ → List ℕ → List ℕ
size_unpacked s room size = size_by s size (unpack_call s room size)
