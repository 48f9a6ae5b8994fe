use borrow.Author.Rules.{rules}
use Rattle.form.specs.Layout.{kinds}
use Rattle.packing.proofs.pack.Goals as goal

pub pack_by-requires : goal.pack_by-requires
unfolding kinds
pack_by-requires c = search rules
