use mathlib.Core.Path.{refl}
use Rattle.form.specs.Block.{bad_header}
use Rattle.headers.proofs.bad_header.Goals as goal

pub returns : goal.returns
unfolding bad_header
returns c =
    rw (c.byte_at-kind.ensures.0, c.last_kind-last.ensures, c.two_at-edition.ensures.0, c.two_at.ensures.0, c.two_at-2.ensures.0, c.two_at-3.ensures.0) refl
