use mathlib.Core.Path.{refl}
use Rattle.cells.specs.Cells.{joined}
use Rattle.unpacked.specs.Unpacked.{heading, headings, note_line}
use Rattle.unpacked.proofs.Notes.{noted, eighth}
use Rattle.unpacked.proofs.print.put_note.Goals as goal

pub returns-in-1 : goal.returns-in-1
unfolding note_line headings heading joined
returns-in-1 c =
    noted 1 _ c.in-1.is c.put.ensures refl refl

pub returns-in-2 : goal.returns-in-2
unfolding note_line headings heading joined
returns-in-2 c =
    noted 2 _ c.in-2.is c.put-in-2.ensures refl refl

pub returns-in-3 : goal.returns-in-3
unfolding note_line headings heading joined
returns-in-3 c =
    noted 3 _ c.in-3.is c.put-in-3.ensures refl refl

pub returns-in-4 : goal.returns-in-4
unfolding note_line headings heading joined
returns-in-4 c =
    noted 4 _ c.in-4.is c.put-in-4.ensures refl refl

pub returns-in-5 : goal.returns-in-5
unfolding note_line headings heading joined
returns-in-5 c =
    noted 5 _ c.in-5.is c.put-in-5.ensures refl refl

pub returns-in-6 : goal.returns-in-6
unfolding note_line headings heading joined
returns-in-6 c =
    noted 6 _ c.in-6.is c.put-in-6.ensures refl refl

pub returns-in-7 : goal.returns-in-7
unfolding note_line headings heading joined
returns-in-7 c =
    noted 7 _ c.in-7.is c.put-in-7.ensures refl refl

pub returns-in_default : goal.returns-in_default
unfolding note_line headings heading joined
returns-in_default c =
    noted 8 _ (eighth _ c.in_default.in_default-own.rest c.requires.0 c.requires.1) c.put-in_default.ensures refl refl
