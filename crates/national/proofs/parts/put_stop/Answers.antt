use native.Mathlib.Omega.{arith}
use Prim.Native.Nat.{ℕ, ◌≤◌}
use mathlib.Core.Path.{◌≡◌, sym, ap}
use mathlib.Core.List.{List, [], ◌∷◌, ◌++◌}
use lib.Dec.{lit≤}
use Rattle.decimal.proofs.DigitLaws.{decimal-length}
use Rattle.phrases.specs.Ascii.{codes}
use Rattle.phrases.specs.Lines.{WrittenIn}
use lib.ListN.{length}
use Rattle.phrases.proofs.LineTexts.{as_text}
use Rattle.cutting.specs.declared.Stop.{Stop}
use Rattle.national.specs.Lines.{stop_line, stop_text}
use Rattle.national.specs.Steps.{stop_room}
use Rattle.national.proofs.Pieces.{written_none, stop-length}
use Rattle.national.proofs.parts.put_stop.Goals as goal

-- the text of the stop that it was
as_stopped : (i : ℕ) {w u : Stop} {d e : List ℕ} {j k : ℕ} → w ≡ u → WrittenIn stop_room (stop_text i u) d e j k → WrittenIn stop_room (stop_text i w) d e j k
as_stopped i e w = (as_text (sym (ap (stop_text i) e)) w.0, w.1)

pub put_why-requires : goal.put_why-requires
put_why-requires c =
    omega (arith, c.requires.1, (let short' : (why : List ℕ) → length why ≤ 10 → length (stop_line c.args.position why) ≤ stop_room = λ why h. omega (arith, c.requires.0, stop-length c.args.position why, decimal-length 2 c.args.position (omega (arith, c.requires.0))) in short') (codes "short" ++ 10 ∷ []) (lit≤ tt))

pub put_why-requires-in-Many : goal.put_why-requires-in-Many
put_why-requires-in-Many c =
    omega (arith, c.requires.1, (let short' : (why : List ℕ) → length why ≤ 10 → length (stop_line c.args.position why) ≤ stop_room = λ why h. omega (arith, c.requires.0, stop-length c.args.position why, decimal-length 2 c.args.position (omega (arith, c.requires.0))) in short') (codes "many" ++ 10 ∷ []) (lit≤ tt))

pub returns-in-Whole : goal.returns-in-Whole
unfolding stop_text
returns-in-Whole c =
    let a = c.args in
    as_stopped a.position c.in-Whole.is (written_none a.out.now a.at, omega arith)

pub returns-in-Short : goal.returns-in-Short
unfolding stop_text
returns-in-Short c =
    let w = c.put_why.ensures in
    as_stopped c.args.position c.in-Short.is (w, omega (arith, w.place, (let short' : (why : List ℕ) → length why ≤ 10 → length (stop_line c.args.position why) ≤ stop_room = λ why h. omega (arith, c.requires.0, stop-length c.args.position why, decimal-length 2 c.args.position (omega (arith, c.requires.0))) in short') (codes "short" ++ 10 ∷ []) (lit≤ tt)))

pub returns-in-Many : goal.returns-in-Many
unfolding stop_text
returns-in-Many c =
    let w = c.put_why-in-Many.ensures in
    as_stopped c.args.position c.in-Many.is (w, omega (arith, w.place, (let short' : (why : List ℕ) → length why ≤ 10 → length (stop_line c.args.position why) ≤ stop_room = λ why h. omega (arith, c.requires.0, stop-length c.args.position why, decimal-length 2 c.args.position (omega (arith, c.requires.0))) in short') (codes "many" ++ 10 ∷ []) (lit≤ tt)))
