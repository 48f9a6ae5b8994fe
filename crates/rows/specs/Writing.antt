-- "Writing: 10, then 5 to 9", with 14 "straight after 6", 12 "straight after 7" and 13 "straight after 12". "Success writes exactly the blocks at the front; later elements keep their values."
use Rattle.std.specs.Prelude.{ℕ, List, [], ◌∷◌, ◌++◌, length, Ok, Err}
use Rattle.form.specs.Ruling.{Rule, too_short, ruling, on_front}
use Rattle.form.specs.Sums.{sum_rules, filed_rules}
use Rattle.form.specs.Refusals.{Clean, Ruling}
use Rattle.rows.specs.Answers.{Written}
use Rattle.filing.specs.Lists.{Lists, cut, filed_lists}
use Rattle.filing.specs.Written.{bytes_of}
use Rattle.lists.specs.Rules.{list_rules}

-- the return of some rows, in an edition
abbrev pub written : ℕ → Lists → List ℕ
written edition l = bytes_of edition (filed_lists l)

-- room for the whole return
abbrev pub room_rule : ℕ → Lists → List ℕ → Rule
room_rule edition l room = too_short (length (written edition l)) room

abbrev pub write_rules : ℕ → List ℕ → List ℕ → List ℕ → List Rule
write_rules edition lengths area room = list_rules edition lengths area ++ (room_rule edition (cut lengths area) room ∷ [])

-- "a write the number of bytes written", or "a refusal gives number and place"
abbrev pub written_by : ℕ → Lists → Ruling → Written
written_by edition l Clean = Ok (length (written edition l))
written_by edition l (Err r) = Err r

unfoldable pub write_answer : ℕ → List ℕ → List ℕ → List ℕ → Written
write_answer edition lengths area room = written_by edition (cut lengths area) (ruling (write_rules edition lengths area room))

-- what the room holds after an answer
abbrev pub bytes_after : ℕ → List ℕ → List ℕ → List ℕ → Written → List ℕ
bytes_after edition lengths area room (Ok n) = on_front (written edition (cut lengths area)) room
bytes_after edition lengths area room (Err r) = room

-- ---- as the code goes through the rules: the answer from 5 on, where 10 is kept, from 12 on, where the rules of records are too, and from 9 on, where all others are

abbrev pub answer_from5 : ℕ → List ℕ → List ℕ → List ℕ → Written
answer_from5 edition lengths area room =
    let l = cut lengths area in
    written_by edition l (ruling (filed_rules edition (filed_lists l) ++ (room_rule edition l room ∷ [])))

abbrev pub answer_from12 : ℕ → List ℕ → List ℕ → List ℕ → Written
answer_from12 edition lengths area room =
    let l = cut lengths area in
    written_by edition l (ruling (sum_rules (filed_lists l) ++ (room_rule edition l room ∷ [])))

abbrev pub answer_from9 : ℕ → List ℕ → List ℕ → List ℕ → Written
answer_from9 edition lengths area room = let l = cut lengths area in written_by edition l (ruling (room_rule edition l room ∷ []))
