use Prim.Native.Nat.{◌/◌}
use mathlib.Core.Path.{◌≡◌, ◌∙◌}
use native.Mathlib.Numerals.{towards_suc}
use native.Mathlib.Omega.{arith}
use Rattle.form.specs.Bytes.{little_endian}
use Rattle.filing.proofs.put_four.Goals as goal

pub returns : goal.returns
unfolding little_endian
returns c =
    let e : c.args.v / 65536 ≡ c.args.v / 256 / 256 = omega arith in
    c.put_two-2.ensures ∙ rw (c.put_two.ensures, e) (simp towards_suc)
