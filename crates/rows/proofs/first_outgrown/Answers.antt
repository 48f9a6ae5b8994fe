use Prim.Native.Nat.{ℕ, suc, ◌+◌, ◌*◌, ◌≤◌, ◌<◌}
use mathlib.Core.Path.{◌≡◌, sym, ap, ap₂, ◌∙◌}
use native.Mathlib.Numerals.{add-one}
use lib.ListN.{length}
use borrow.Author.Tests.{lt-ltb, le-ltb}
use Rattle.form.specs.Layout.{kinds, numbers_of}
use Rattle.form.specs.Verdict.{row_count}
use Rattle.form.proofs.Search.{first-zero, first_more, first_found}
use Rattle.form.proofs.EachKind.{kinds_are}
use Rattle.standing.proofs.Accepted.{counted}
use Rattle.rows.specs.Reading.{area_to, outgrown}
use Rattle.decoding.proofs.Decoded.{rows_few}
use Rattle.rows.proofs.Rows.{need_none, need_next}
use borrow.Author.Rules.{rules}
use native.Mathlib.Omega.{arith}
use Rattle.rows.proofs.first_outgrown.Goals as goal

pub loop-k-init : goal.loop-k-init
loop-k-init c =
    let s = c.args.bytes.now in
    (kinds_are, search rules, sym (need_none s), search rules, first_more _ 0 (first-zero _) (rw (need_none s) (le-ltb c.args.m 0 (omega arith))))

pub returns-then-m-need : goal.returns-then-m-need
returns-then-m-need c =
    let v = c.loop-k in
    let a = c.args in
    sym (first_found (outgrown a.bytes.now a.m) (v.k + 1) (suc kinds) v.invariant.4 (rw (← (let here' : let v = c.loop-k in let a = c.args in (c.numbers.result * c.count_of.result ≤ 512) × (v.need + c.numbers.result * c.count_of.result ≡ length (area_to a.bytes.now (v.k + 1))) = let v = c.loop-k in let a = c.args in let s = a.bytes.now in let h : v.k < kinds = search rules in let e : c.numbers.result * c.count_of.result ≡ numbers_of (suc v.k) * row_count (suc v.k) s = ap₂ (λ (x y : ℕ). x * y) (c.numbers.ensures.0 ∙ ap numbers_of (add-one v.k)) (rw (add-one v.k) at c.count_of.ensures ∙ counted s a.counts c.requires v.k h) in (rw e (rows_few s a.counts c.requires v.k h), rw e (sym (need_next s a.counts c.requires v.k h ∙ rw (← v.invariant.2)))) in here').1) (lt-ltb _ _ c.if-m-need.true)) (search rules))

pub loop-k-preserved : goal.loop-k-preserved
loop-k-preserved c =
    let v = c.loop-k in
    let a = c.args in
    (v.invariant.0, search rules, (let here' : let v = c.loop-k in let a = c.args in (c.numbers.result * c.count_of.result ≤ 512) × (v.need + c.numbers.result * c.count_of.result ≡ length (area_to a.bytes.now (v.k + 1))) = let v = c.loop-k in let a = c.args in let s = a.bytes.now in let h : v.k < kinds = search rules in let e : c.numbers.result * c.count_of.result ≡ numbers_of (suc v.k) * row_count (suc v.k) s = ap₂ (λ (x y : ℕ). x * y) (c.numbers.ensures.0 ∙ ap numbers_of (add-one v.k)) (rw (add-one v.k) at c.count_of.ensures ∙ counted s a.counts c.requires v.k h) in (rw e (rows_few s a.counts c.requires v.k h), rw e (sym (need_next s a.counts c.requires v.k h ∙ rw (← v.invariant.2)))) in here').1, omega (arith, (let here' : let v = c.loop-k in let a = c.args in (c.numbers.result * c.count_of.result ≤ 512) × (v.need + c.numbers.result * c.count_of.result ≡ length (area_to a.bytes.now (v.k + 1))) = let v = c.loop-k in let a = c.args in let s = a.bytes.now in let h : v.k < kinds = search rules in let e : c.numbers.result * c.count_of.result ≡ numbers_of (suc v.k) * row_count (suc v.k) s = ap₂ (λ (x y : ℕ). x * y) (c.numbers.ensures.0 ∙ ap numbers_of (add-one v.k)) (rw (add-one v.k) at c.count_of.ensures ∙ counted s a.counts c.requires v.k h) in (rw e (rows_few s a.counts c.requires v.k h), rw e (sym (need_next s a.counts c.requires v.k h ∙ rw (← v.invariant.2)))) in here').0), first_more (outgrown a.bytes.now a.m) (v.k + 1) v.invariant.4 (rw (← (let here' : let v = c.loop-k in let a = c.args in (c.numbers.result * c.count_of.result ≤ 512) × (v.need + c.numbers.result * c.count_of.result ≡ length (area_to a.bytes.now (v.k + 1))) = let v = c.loop-k in let a = c.args in let s = a.bytes.now in let h : v.k < kinds = search rules in let e : c.numbers.result * c.count_of.result ≡ numbers_of (suc v.k) * row_count (suc v.k) s = ap₂ (λ (x y : ℕ). x * y) (c.numbers.ensures.0 ∙ ap numbers_of (add-one v.k)) (rw (add-one v.k) at c.count_of.ensures ∙ counted s a.counts c.requires v.k h) in (rw e (rows_few s a.counts c.requires v.k h), rw e (sym (need_next s a.counts c.requires v.k h ∙ rw (← v.invariant.2)))) in here').1) (le-ltb _ _ c.if-m-need.false)))
