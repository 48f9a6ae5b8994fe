use native.Mathlib.Numerals.{add-one}
use Rattle.form.specs.Bytes.{little_endian}
use Rattle.filing.proofs.put_two.Goals as goal

pub returns : goal.returns
unfolding little_endian
returns c = rw add-one
