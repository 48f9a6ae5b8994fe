use Prim.Native.Nat.{suc}
use mathlib.Core.Path.{◌≡◌, ◌∙◌}
use lib.ListN.{get_or}
use native.Mathlib.Numerals.{add-one}
use Rattle.form.proofs.EachKind.{kinds_are}
use Rattle.filing.specs.Lists.{blocks_of}
use Rattle.lists.proofs.Numbers.{blocks-next, blocks_end}
use borrow.Author.Rules.{rules}
use native.Mathlib.Omega.{arith}
use Rattle.lists.proofs.blocks_in.Goals as goal

pub loop-k-init : goal.loop-k-init
loop-k-init c = (kinds_are, search rules, search rules, omega arith)

pub loop-k-preserved : goal.loop-k-preserved
loop-k-preserved c =
    let a = c.args in
    let v = c.loop-k in (
      v.invariant.0,
      search rules,
      search rules,
      rw (let here' : let v = c.loop-k in let a = c.args in c.blocks_of-n.result ≡ blocks_of (suc v.k) (get_or a.lengths.now v.k 0) = c.blocks_of-n.ensures.0 ∙ rw (add-one c.loop-k.k, c.length_at.ensures.0) in here') (blocks-next a.lengths.now v.n v.k (search rules) v.invariant.3),
    )

pub returns : goal.returns
returns c = (blocks_end c.args.lengths.now c.loop-k.n c.loop-k.k (search rules) c.loop-k.invariant.3, search rules)
