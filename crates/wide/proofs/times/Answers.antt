use Rattle.std.proofs.Common.{refl, arith}
use Rattle.wide.proofs.Laws.{halves_times, high_product, column_fits, times-value}
use Rattle.wide.proofs.times.Goals as goal

pub overflow_mul-result-2 : goal.overflow_mul-result-2
overflow_mul-result-2 c = omega (arith, high_product c.args.a c.args.k c.requires)

pub overflow_add-result-2 : goal.overflow_add-result-2
overflow_add-result-2 c =
    let a = c.args in
    record { fits = column_fits _ _ (high_product a.a a.k c.requires) (omega (arith, halves_times a.a.lo a.k (omega arith) (omega arith))) }

pub returns : goal.returns
returns c = let a = c.args in times-value a.a a.k _ _ refl refl
