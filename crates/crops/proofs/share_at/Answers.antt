use Prim.Native.Nat.{◌*◌, ◌≤◌}
use Rattle.form.specs.Layout.{row_from}
use Rattle.crops.proofs.Limits.{shares, oxidising_at}
use borrow.Author.Rules.{rules}
use Rattle.crops.proofs.share_at.Goals as goal

pub returns : goal.returns
unfolding row_from
returns c = (cc, (let below' : c.two_at.result * c.two_at-2.result ≤ 10000000 = let w = oxidising_at c.args.bytes.now c.args.at c.requires.at_value in shares _ _ (search rules) (search rules) in below'))
