use Prim.Native.Nat.{ℕ, ◌^◌, ◌<◌}
use mathlib.Core.Path.{◌≡◌, sym, ap, subst, ◌∙◌}
use lib.Dec.{lit<}
use lib.ListN.{length}
use Rattle.form.specs.Sums.{soil_type, uneven, type_of}
use Rattle.form.proofs.EachKind.{kinds_are}
use Rattle.filing.specs.Lists.{rows_in}
use Rattle.areas.specs.Areas.{soils_in, lower_of}
use Rattle.areas.proofs.Sums.{soils_at, soils-count}
use Rattle.areas.proofs.Lowly.{Lowly}
use Rattle.areas.proofs.Turns.{lower_turn, found_at, found_nowhere, small_types}
use native.Mathlib.Omega.{arith}
use Rattle.areas.proofs.first_uneven.Goals as goal

pub count-n-requires : goal.count-n-requires
count-n-requires c = (lit< tt, omega (arith, kinds_are))

pub loop-j-preserved : goal.loop-j-preserved
loop-j-preserved c =
    let r = c.args.rows.now in
    let h : c.loop-j.j < rows_in 7 (length r) = omega (arith, c.count-n.ensures, c.loop-j-test.true) in
    let e = c.lower-best.ensures ∙ sym (ap (λ t. lower_of (soils_in r) c.loop-j.best (soil_type t) c.loop-j.j) (soils_at r c.loop-j.j h)) in
    (omega (arith, c.loop-j-test.true), lower_turn (soils_in r) _ c.loop-j.invariant.1 c.loop-j-test.true e)

pub returns-then-best-n : goal.returns-then-best-n
returns-then-best-n c =
    found_at (soils_in c.args.rows.now) (let counted' : c.count-n.result ≡ length (soils_in c.args.rows.now) = c.count-n.ensures.0 ∙ sym (soils-count c.args.rows.now) in counted') (let ended' : let r = c.args.rows.now in Lowly (type_of (soils_in r)) (uneven (soils_in r)) c.count-n.result c.count-n.result c.loop-j.best.soil c.loop-j.best.row = let r = c.args.rows.now in let e : c.loop-j.j ≡ c.count-n.result = omega (arith, c.loop-j.invariant.0, c.loop-j-test.false) in subst (λ (j : ℕ). Lowly (type_of (soils_in r)) (uneven (soils_in r)) c.count-n.result j c.loop-j.best.soil c.loop-j.best.row) e c.loop-j.invariant.1 in ended') (let small' : (i : ℕ) → i < c.count-n.result → type_of (soils_in c.args.rows.now) i < 2 ^ 32 = λ i h. small_types c.args.rows.now (λ k. (c.shared_slice_known-1.given k).fits) i (omega (arith, c.count-n.ensures)) in small') c.if-best-n.true

pub returns : goal.returns
returns c =
    found_nowhere (soils_in c.args.rows.now) (let counted' : c.count-n.result ≡ length (soils_in c.args.rows.now) = c.count-n.ensures.0 ∙ sym (soils-count c.args.rows.now) in counted') (let ended' : let r = c.args.rows.now in Lowly (type_of (soils_in r)) (uneven (soils_in r)) c.count-n.result c.count-n.result c.loop-j.best.soil c.loop-j.best.row = let r = c.args.rows.now in let e : c.loop-j.j ≡ c.count-n.result = omega (arith, c.loop-j.invariant.0, c.loop-j-test.false) in subst (λ (j : ℕ). Lowly (type_of (soils_in r)) (uneven (soils_in r)) c.count-n.result j c.loop-j.best.soil c.loop-j.best.row) e c.loop-j.invariant.1 in ended') (let small' : (i : ℕ) → i < c.count-n.result → type_of (soils_in c.args.rows.now) i < 2 ^ 32 = λ i h. small_types c.args.rows.now (λ k. (c.shared_slice_known-1.given k).fits) i (omega (arith, c.count-n.ensures)) in small') (omega (arith, c.if-best-n.false))
