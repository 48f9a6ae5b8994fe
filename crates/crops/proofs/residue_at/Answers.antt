use Prim.Native.Nat.{◌*◌, ◌≤◌}
use Rattle.form.specs.Layout.{row_from}
use Rattle.crops.proofs.Limits.{residues, burning_at}
use borrow.Author.Rules.{rules}
use Rattle.crops.proofs.residue_at.Goals as goal

pub overflow_mul-result : goal.overflow_mul-result
overflow_mul-result c = let h = (let below' : c.four_at.result * c.two_at.result * c.two_at-2.result * c.two_at-3.result ≤ 10000000000000000 = let w = burning_at c.args.bytes.now c.args.at c.requires.at_value in residues _ _ _ _ (search rules) (search rules) (search rules) (search rules) in below') in record { fits = search rules }

pub returns : goal.returns
unfolding row_from
returns c =
    (λ i. c.four_at.ensures i * c.two_at.ensures.0 i * c.two_at-2.ensures.0 i * c.two_at-3.ensures.0 i, (let below' : c.four_at.result * c.two_at.result * c.two_at-2.result * c.two_at-3.result ≤ 10000000000000000 = let w = burning_at c.args.bytes.now c.args.at c.requires.at_value in residues _ _ _ _ (search rules) (search rules) (search rules) (search rules) in below'))
