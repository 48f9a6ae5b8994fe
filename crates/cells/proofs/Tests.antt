-- Tests as the code's branches meet them. Assumes nothing.
--     and_off         `a && b` fails where b fails
--     or_none         `a || b` fails: both fail
use mathlib.Core.Path.{◌≡◌, refl}
use mathlib.Core.Bool.{Bool, true, false, ◌&&◌, ◌||◌, true≢false}

pub and_off : (a : Bool) → (a && false) ≡ false
and_off true = refl
and_off false = refl

pub or_none : (a b : Bool) → (a || b) ≡ false → (a ≡ false) × (b ≡ false)
or_none true b e = absurd (true≢false e)
or_none false b e = (refl, e)
