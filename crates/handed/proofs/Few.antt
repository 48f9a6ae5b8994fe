-- Rows that 10 lets pass are few. Assumes nothing.
use Prim.Native.Nat.{ℕ, suc, ◌≤◌}
use mathlib.Core.Path.{◌≡◌}
use mathlib.Core.List.{List}
use native.Mathlib.Omega.{arith}
use lib.ListN.{length}
use Rattle.form.specs.Layout.{kinds}
use Rattle.form.specs.Ruling.{rule, ruling}
use Rattle.form.proofs.Order.{Kept, AllKept, more, ruling-clean}
use Rattle.form.proofs.EachKind.{few_kinds}
use Rattle.filing.specs.Lists.{cut, filed_lists}
use Rattle.filing.proofs.Cut.{cut-lengths}
use Rattle.lists.specs.Rules.{bad_at, list_rules, blocks_from}
use Rattle.lists.proofs.Numbers.{good, good_few}
use Rattle.rows.specs.Writing.{written, write_rules, write_answer}
use Rattle.std.specs.Prelude.{Ok}
use Rattle.rows.proofs.Return.{places_from, length-written, done_by}

module _ (ed : ℕ) (lengths area : List ℕ) where
  -- where 10 is kept, three blocks of a kind at most
  pub few_blocks : Kept (rule 10 (suc kinds) (bad_at ed lengths (length area))) → ((filed_lists (cut lengths area)).places ≤ 720) × (length (written ed (cut lengths area)) ≤ 30720)
  unfolding Kept
  few_blocks k =
      let g = good ed lengths (length area) k in
      let n = cut-lengths lengths area (omega (arith, g.all)) in
      let f = good_few lengths (length area) g in
      let b : blocks_from 1 lengths ≤ 60 = omega (arith, few_kinds) in
      (omega (arith, rw n at (places_from 1 (cut lengths area))), omega (arith, rw n at (length-written ed (cut lengths area))))

  module _ (room : List ℕ) where
    clean-small : AllKept (write_rules ed lengths area room) → length (written ed (cut lengths area)) ≤ 30720
    unfolding list_rules
    clean-small (more k _) = (few_blocks k).1

    pub done-small : {n : ℕ} → write_answer ed lengths area room ≡ Ok n → n ≤ 30720
    unfolding write_answer
    done-small e =
        let d = done_by ed (cut lengths area) (ruling (write_rules ed lengths area room)) e in
        omega (arith, clean-small (ruling-clean d.0), d.1)
