use Prim.Native.Nat.{suc, ◌+◌}
use mathlib.Core.Path.{◌≡◌, refl, sym, ◌∙◌}
use mathlib.Core.Bool.{not, ◌||◌}
use native.Mathlib.Numerals.{add-one}
use lib.ListN.{get_or}
use Rattle.form.specs.Layout.{kinds}
use lib.Dec.{ltb}
use Rattle.form.proofs.Tests.{or_none}
use Rattle.form.specs.Edition.{known}
use Rattle.form.proofs.Search.{first-zero, first_more, first_found}
use Rattle.form.proofs.EachKind.{kinds_are}
use Rattle.lists.specs.Rules.{not_allowed, bad_list, bad_at}
use Rattle.lists.proofs.Numbers.{lengths_each}
use native.Mathlib.Omega.{arith}
use Rattle.lists.proofs.first_bad_list.Goals as goal

pub returns-then-last_kind-bad_lengths : goal.returns-then-last_kind-bad_lengths
returns-then-last_kind-bad_lengths c = sym (first_found _ 0 _ (first-zero _) ((let start' : let a = c.args in bad_at a.edition a.lengths.now a.m 0 ≡ (not (ltb 0 c.last_kind.result) || c.bad_lengths.result) = rw (c.last_kind.ensures, c.bad_lengths.ensures) refl in start') ∙ c.if-last_kind-bad_lengths.true) (omega arith))

pub loop-k-init : goal.loop-k-init
loop-k-init c =
    let none = (let start' : let a = c.args in bad_at a.edition a.lengths.now a.m 0 ≡ (not (ltb 0 c.last_kind.result) || c.bad_lengths.result) = rw (c.last_kind.ensures, c.bad_lengths.ensures) refl in start') ∙ c.if-last_kind-bad_lengths.false in
    (omega arith, lengths_each _ _ (or_none (not (known _)) _ none).1, first_more _ 0 (first-zero _) none)

pub length_at-n-requires : goal.length_at-n-requires
length_at-n-requires c = omega (arith, kinds_are)

pub bad_list-requires : goal.bad_list-requires
bad_list-requires c = (omega arith, omega (arith, kinds_are))

pub returns-then-not_allowed-bad_list : goal.returns-then-not_allowed-bad_list
returns-then-not_allowed-bad_list c =
    let v = c.loop-k in
    sym (first_found _ (v.k + 1) _ v.invariant.2 ((let said' : let v = c.loop-k in let a = c.args in bad_at a.edition a.lengths.now a.m (v.k + 1) ≡ (c.not_allowed.result || c.bad_list.result) = let v = c.loop-k in let a = c.args in let n : c.length_at-n.result ≡ get_or a.lengths.now v.k 0 = c.length_at-n.ensures.0 in let p : c.not_allowed.result ≡ not_allowed a.edition (suc v.k) (get_or a.lengths.now v.k 0) = c.not_allowed.ensures ∙ rw (add-one v.k, n) in let q : c.bad_list.result ≡ bad_list (suc v.k) (get_or a.lengths.now v.k 0) = c.bad_list.ensures ∙ rw (add-one v.k, n) in rw (add-one v.k, p, q) refl in said') ∙ c.if-not_allowed-bad_list.true) (omega (arith, kinds_are)))

pub loop-k-smaller : goal.loop-k-smaller
loop-k-smaller c = omega (arith, kinds_are)

pub loop-k-preserved : goal.loop-k-preserved
loop-k-preserved c =
    let v = c.loop-k in
    (omega (arith, kinds_are), v.invariant.1, first_more _ (v.k + 1) v.invariant.2 ((let said' : let v = c.loop-k in let a = c.args in bad_at a.edition a.lengths.now a.m (v.k + 1) ≡ (c.not_allowed.result || c.bad_list.result) = let v = c.loop-k in let a = c.args in let n : c.length_at-n.result ≡ get_or a.lengths.now v.k 0 = c.length_at-n.ensures.0 in let p : c.not_allowed.result ≡ not_allowed a.edition (suc v.k) (get_or a.lengths.now v.k 0) = c.not_allowed.ensures ∙ rw (add-one v.k, n) in let q : c.bad_list.result ≡ bad_list (suc v.k) (get_or a.lengths.now v.k 0) = c.bad_list.ensures ∙ rw (add-one v.k, n) in rw (add-one v.k, p, q) refl in said') ∙ c.if-not_allowed-bad_list.false))

pub returns : goal.returns
returns c =
    let v = c.loop-k in
    let e : v.k + 1 ≡ suc kinds = omega (arith, kinds_are) in
    sym (rw e at v.invariant.2)
