use Rattle.form.specs.Block.{stray, bad_block}
use Rattle.blocks.proofs.bad_block.Goals as goal

pub returns : goal.returns
unfolding bad_block stray
returns c = cc
