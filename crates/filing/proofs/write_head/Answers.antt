use mathlib.Core.Path.{◌∙◌}
use native.Mathlib.Numerals.{towards_suc}
use Rattle.form.specs.Bytes.{little_endian}
use Rattle.filing.specs.Written.{head_of}
use Rattle.filing.proofs.write_head.Goals as goal

pub returns : goal.returns
unfolding head_of little_endian
returns c =
    c.put_two-3.ensures ∙ rw (c.put_two-2.ensures, c.put_two.ensures, c.put_byte-2.ensures, c.put_byte.ensures) (simp towards_suc)
