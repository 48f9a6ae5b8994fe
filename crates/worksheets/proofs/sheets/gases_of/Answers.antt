use mathlib.Core.Path.{sym, subst, ◌∙◌}
use lib.Dec.{lit<}
use Rattle.burning.specs.Gases.{Fits}
use Rattle.burning.proofs.Sizes.{released_fits}
use Rattle.worksheets.specs.Sheets.{ratios_in}
use Rattle.worksheets.proofs.sheets.gases_of.Goals as goal

pub work_gases-requires : goal.work_gases-requires
work_gases-requires c =
    (subst Fits (sym c.release.ensures) (released_fits c.args.c (ratios_in c.args.p) c.requires.0 c.requires.1.ratios), lit< tt)
