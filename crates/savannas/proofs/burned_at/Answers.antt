use Rattle.form.specs.Layout.{row_from}
use Rattle.savannas.proofs.Limits.{burns, burning_at}
use borrow.Author.Rules.{rules}
use Rattle.savannas.proofs.burned_at.Goals as goal

pub returns : goal.returns
unfolding row_from
returns c =
    let w = burning_at c.args.bytes.now c.args.at c.requires.at_value in
    (cc, burns _ _ _ (search rules) (search rules) (search rules))
