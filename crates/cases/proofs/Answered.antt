-- The whole table is right: every return of it has the answer beside it, from what specs/Cases has of its two parts (first_worked, later_worked). Assumes nothing.
use Rattle.std.specs.Prelude.{◌≡◌, refl, get_or, drop}
use Rattle.std.proofs.Common.{ap, ap₂, ◌∙◌}
use mathlib.Core.List.{List, [], ◌∷◌, ◌++◌, map}
use Rattle.doubles.specs.Answers.{Answer}
use Rattle.form.specs.Refusals.{Ruling}
use Rattle.worksheets.specs.Answers.{Outcome}
use Rattle.cases.specs.FromRows.{sheets_from_rows, doubles_from_rows}
use Rattle.cases.specs.Cases.{Complete, bits_of, complete_of, Case, Entry, of_rows, of_bytes, case_of, entries, table, works_out, wanted, due_of, said}
use Rattle.cases.specs.Cases.{first_entries, later_entries, first_worked, later_worked}

due_said : (e : Entry) → works_out e ≡ wanted e → complete_of (case_of e).bytes ≡ (case_of e).answer
due_said (of_rows edition l a) p =
    let clean = ap (λ (x : Ruling × Complete). x.0) p in
    ap₂ (λ (o : Outcome) (d : Answer). record { sheets = o; doubles = bits_of d }) (sheets_from_rows edition l clean) (doubles_from_rows edition l clean)
    ∙ ap (λ (x : Ruling × Complete). x.1) p
due_said (of_bytes s a) p = ap (λ (x : Ruling × Complete). x.1) p

-- case by case along the list
in_turn_lem : (es : List Entry) → map works_out es ≡ map wanted es → map due_of (map case_of es) ≡ map said (map case_of es)
in_turn_lem [] p = refl
in_turn_lem (e ∷ es) p =
    ap₂ (λ (x : Complete) (xs : List Complete). x ∷ xs)
    (due_said e (ap (λ (l : List (Ruling × Complete)). get_or l 0 (wanted e)) p))
    (in_turn_lem es (ap (λ (l : List (Ruling × Complete)). drop 1 l) p))

-- two parts of the table side by side
joined : (es ds : List Entry) → map works_out es ≡ map wanted es → map works_out ds ≡ map wanted ds → map works_out (es ++ ds) ≡ map wanted (es ++ ds)
joined [] ds p q = q
joined (e ∷ es) ds p q =
    ap₂ (λ (x : Ruling × Complete) (xs : List (Ruling × Complete)). x ∷ xs)
    (ap (λ (l : List (Ruling × Complete)). get_or l 0 (wanted e)) p)
    (joined es ds (ap (λ (l : List (Ruling × Complete)). drop 1 l) p) q)

pub all_worked : map works_out entries ≡ map wanted entries
all_worked = joined first_entries later_entries first_worked later_worked

-- every return of the table has the answer beside it, as the checker computes them
pub all_answered : map (λ (c : Case). complete_of c.bytes) table ≡ map (λ (c : Case). c.answer) table
all_answered = in_turn_lem entries all_worked
