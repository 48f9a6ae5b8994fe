use mathlib.Core.Path.{◌≡◌, sym}
use Rattle.form.proofs.Numbers.{bits_none, bits_more, stray_bits}
use borrow.Author.Rules.{rules}
use native.Mathlib.Omega.{arith}
use Rattle.form.proofs.stray_in.Goals as goal

pub loop-i-init : goal.loop-i-init
loop-i-init c = (search rules, sym (bits_none _ _))

pub loop-i-preserved : goal.loop-i-preserved
loop-i-preserved c =
    let a = c.args in
    (search rules, cc (bits_more a.bytes.now a.at c.loop-i.i))

pub returns : goal.returns
returns c =
    let a = c.args in
    let e : c.loop-i.i ≡ a.n = omega arith in
    cc (stray_bits a.bytes.now a.at a.n)
