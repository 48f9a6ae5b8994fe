-- Name by name.
use mathlib.Core.Path.{◌≡◌, refl, ap, subst}
use lib.Dec.{lit≤}
use lib.ListN.{drop}
use Prim.Native.Nat.{ℕ, ◌≤◌}
use Rattle.form.specs.Layout.{kinds}
use Rattle.naming.specs.Names.{kind_names}
use Rattle.columns.specs.Columns.{named_from, kind_named, kind_or_none}
use Rattle.columns.proofs.ColumnLaws.{name_met, name-passed, kind_is}
use Rattle.columns.proofs.kind_named.Goals as goal
use Rattle.columns.proofs.kind_named.Goals.{Else-same_word-8}

pub returns-then-same_word : goal.returns-then-same_word
unfolding kinds
returns-then-same_word c = kind_is (name_met 1 _ (drop 1 kind_names) _ c.same_word.ensures c.if-same_word.true) (lit≤ tt)

pub returns-then-same_word-2 : goal.returns-then-same_word-2
unfolding kinds
returns-then-same_word-2 c = kind_is (name-passed 1 _ (drop 1 kind_names) _ c.same_word.ensures c.if-same_word.false (name_met 2 _ (drop 2 kind_names) _ c.same_word-2.ensures c.if-same_word-2.true)) (lit≤ tt)

pub returns-then-same_word-3 : goal.returns-then-same_word-3
unfolding kinds
returns-then-same_word-3 c = kind_is (name-passed 1 _ (drop 1 kind_names) _ c.same_word.ensures c.if-same_word.false (name-passed 2 _ (drop 2 kind_names) _ c.same_word-2.ensures c.if-same_word-2.false (name_met 3 _ (drop 3 kind_names) _ c.same_word-3.ensures c.if-same_word-3.true))) (lit≤ tt)

pub returns-then-same_word-4 : goal.returns-then-same_word-4
unfolding kinds
returns-then-same_word-4 c = kind_is (name-passed 1 _ (drop 1 kind_names) _ c.same_word.ensures c.if-same_word.false (name-passed 2 _ (drop 2 kind_names) _ c.same_word-2.ensures c.if-same_word-2.false (name-passed 3 _ (drop 3 kind_names) _ c.same_word-3.ensures c.if-same_word-3.false (name_met 4 _ (drop 4 kind_names) _ c.same_word-4.ensures c.if-same_word-4.true)))) (lit≤ tt)

pub returns-then-same_word-5 : goal.returns-then-same_word-5
unfolding kinds
returns-then-same_word-5 c = kind_is (name-passed 1 _ (drop 1 kind_names) _ c.same_word.ensures c.if-same_word.false (name-passed 2 _ (drop 2 kind_names) _ c.same_word-2.ensures c.if-same_word-2.false (name-passed 3 _ (drop 3 kind_names) _ c.same_word-3.ensures c.if-same_word-3.false (name-passed 4 _ (drop 4 kind_names) _ c.same_word-4.ensures c.if-same_word-4.false (name_met 5 _ (drop 5 kind_names) _ c.same_word-5.ensures c.if-same_word-5.true))))) (lit≤ tt)

pub returns-then-same_word-6 : goal.returns-then-same_word-6
unfolding kinds
returns-then-same_word-6 c = kind_is (name-passed 1 _ (drop 1 kind_names) _ c.same_word.ensures c.if-same_word.false (name-passed 2 _ (drop 2 kind_names) _ c.same_word-2.ensures c.if-same_word-2.false (name-passed 3 _ (drop 3 kind_names) _ c.same_word-3.ensures c.if-same_word-3.false (name-passed 4 _ (drop 4 kind_names) _ c.same_word-4.ensures c.if-same_word-4.false (name-passed 5 _ (drop 5 kind_names) _ c.same_word-5.ensures c.if-same_word-5.false (name_met 6 _ (drop 6 kind_names) _ c.same_word-6.ensures c.if-same_word-6.true)))))) (lit≤ tt)

pub returns-then-same_word-7 : goal.returns-then-same_word-7
unfolding kinds
returns-then-same_word-7 c = kind_is (name-passed 1 _ (drop 1 kind_names) _ c.same_word.ensures c.if-same_word.false (name-passed 2 _ (drop 2 kind_names) _ c.same_word-2.ensures c.if-same_word-2.false (name-passed 3 _ (drop 3 kind_names) _ c.same_word-3.ensures c.if-same_word-3.false (name-passed 4 _ (drop 4 kind_names) _ c.same_word-4.ensures c.if-same_word-4.false (name-passed 5 _ (drop 5 kind_names) _ c.same_word-5.ensures c.if-same_word-5.false (name-passed 6 _ (drop 6 kind_names) _ c.same_word-6.ensures c.if-same_word-6.false (name_met 7 _ (drop 7 kind_names) _ c.same_word-7.ensures c.if-same_word-7.true))))))) (lit≤ tt)

pub returns-then-same_word-8 : goal.returns-then-same_word-8
unfolding kinds
returns-then-same_word-8 c = kind_is (name-passed 1 _ (drop 1 kind_names) _ c.same_word.ensures c.if-same_word.false (name-passed 2 _ (drop 2 kind_names) _ c.same_word-2.ensures c.if-same_word-2.false (name-passed 3 _ (drop 3 kind_names) _ c.same_word-3.ensures c.if-same_word-3.false (name-passed 4 _ (drop 4 kind_names) _ c.same_word-4.ensures c.if-same_word-4.false (name-passed 5 _ (drop 5 kind_names) _ c.same_word-5.ensures c.if-same_word-5.false (name-passed 6 _ (drop 6 kind_names) _ c.same_word-6.ensures c.if-same_word-6.false (name-passed 7 _ (drop 7 kind_names) _ c.same_word-7.ensures c.if-same_word-7.false (name_met 8 _ (drop 8 kind_names) _ c.same_word-8.ensures c.if-same_word-8.true)))))))) (lit≤ tt)

-- none of them
none : (c : Else-same_word-8) → 0 ≡ kind_named c.args.word.now
unfolding named_from
none c = name-passed 1 _ (drop 1 kind_names) _ c.same_word.ensures c.if-same_word.false (name-passed 2 _ (drop 2 kind_names) _ c.same_word-2.ensures c.if-same_word-2.false (name-passed 3 _ (drop 3 kind_names) _ c.same_word-3.ensures c.if-same_word-3.false (name-passed 4 _ (drop 4 kind_names) _ c.same_word-4.ensures c.if-same_word-4.false (name-passed 5 _ (drop 5 kind_names) _ c.same_word-5.ensures c.if-same_word-5.false (name-passed 6 _ (drop 6 kind_names) _ c.same_word-6.ensures c.if-same_word-6.false (name-passed 7 _ (drop 7 kind_names) _ c.same_word-7.ensures c.if-same_word-7.false (name-passed 8 _ (drop 8 kind_names) _ c.same_word-8.ensures c.if-same_word-8.false (refl))))))))

pub returns : goal.returns
unfolding kinds
returns c = (ap kind_or_none (none c), subst (λ (n : ℕ). n ≤ kinds) (none c) (lit≤ tt))
