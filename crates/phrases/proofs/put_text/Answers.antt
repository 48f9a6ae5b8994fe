use mathlib.Core.Path.{refl}
use native.Mathlib.Omega.{arith}
use borrow.Author.Rules.{rules}
use Rattle.phrases.proofs.Room.{straight_out, elsewhere_out}
use Rattle.phrases.proofs.put_text.Goals as goal

pub returns-then-room : goal.returns-then-room
returns-then-room g c = λ text w.
    let written = w.written _ _ _ c.if-room.true (record { shown = _; shows = refl; left = _; met = c.write.ensures; leaves = refl }) in
    let said = straight_out text c.args.room.now _ _ written.0 (omega (arith, written.1, c.if-room.true)) in
    record { value = said.0; room = said.1; short = written.1 }

pub whole_as_slice-write : goal.whole_as_slice-write
whole_as_slice-write g c = omega (arith, c.requires.size)

pub shared_whole_as_front-put_short : goal.shared_whole_as_front-put_short
shared_whole_as_front-put_short g c =
    let written = c.requires.writes.1.written _ _ _ (search rules) (record { shown = _; shows = refl; left = _; met = c.write-n.ensures; leaves = refl }) in
    (omega (arith, written.1, written.0.place), omega (arith, c.requires.size))

pub returns : goal.returns
returns g c = λ text w.
    let written = w.written _ _ _ (search rules) (record { shown = _; shows = refl; left = _; met = c.write-n.ensures; leaves = refl }) in
    let said = elsewhere_out text _ _ c.args.room.now _ _ _ written.0 (search (rules, arith, written.1, written.0.place)) (c.put_short.ensures.value, c.put_short.ensures.room_after) in
    record { value = said.0; room = said.1; short = written.1 }
