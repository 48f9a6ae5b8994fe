use Rattle.std.proofs.Common.{arith}
use Rattle.std.proofs.lemmas.Bool.Decides.{nat_tests}
use Rattle.form.proofs.EachKind.{kinds_are}
use Rattle.cutting.proofs.size_of.Goals as goal

pub returns-then-blocks-eq0 : goal.returns-then-blocks-eq0
returns-then-blocks-eq0 c = grind (arith, nat_tests, kinds_are)

pub returns : goal.returns
returns c = grind (arith, nat_tests, kinds_are)
