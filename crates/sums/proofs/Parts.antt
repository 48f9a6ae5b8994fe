-- A row's part in its kind's sum. Assumes nothing.
--     both          a row of abandoned land has its two areas behind its id
--     code_byte     a stock row's unit code is one byte of it
--     stock_block   the stock rows' first block, by the conversion rows before them; stock-near, how far behind it is
use Prim.Native.Nat.{ℕ, ◌+◌, ◌≤◌}
use mathlib.Core.Path.{◌≡◌, refl, ap, ◌∙◌}
use mathlib.Core.Bool.{cond}
use mathlib.Core.List.{List}
use native.Mathlib.Omega.{arith}
use lib.Dec.{eqb}
use Rattle.form.specs.Bytes.{byte_at, number}
use Rattle.form.specs.Layout.{stock, abandoned, row_from, row_at}
use Rattle.form.specs.Sums.{scattered_part}
use Rattle.form.specs.Verdict.{Formed}
use Rattle.form.specs.declared.Counts.{Counts}
use Rattle.form.specs.Standing.{blocks_for, first_block}
use Rattle.standing.proofs.Accepted.{few_counted}
use Rattle.totals.specs.Abandoned.{abandoned_part, growth_at}

pub both : (s : List ℕ) (at : ℕ) → growth_at s (at + 4) + growth_at s (at + 12) ≡ abandoned_part (row_at abandoned s at)
unfolding abandoned_part row_from
both s at =
    let a : at + 4 + 4 ≡ at + 8 = omega arith in
    let b : at + 4 + 6 ≡ at + 10 = omega arith in
    let c : at + 12 + 4 ≡ at + 16 = omega arith in
    let d : at + 12 + 6 ≡ at + 18 = omega arith in
    rw (a, b, c, d) refl

pub stock_block : (c : Counts) → blocks_for c.conversion ≡ first_block 2 c
unfolding first_block
stock_block c = omega arith

pub stock-near : (s : List ℕ) (c : Counts) → Formed s c → first_block 2 c ≤ 3
stock-near s c acc = omega (arith, stock_block c, few_counted s c acc 1)

one_byte : (s : List ℕ) (at : ℕ) → byte_at s at ≡ number 1 s at
unfolding number
one_byte s at = omega arith

pub code_byte : (s : List ℕ) (at : ℕ) {b r : ℕ} → b ≡ byte_at s (at + 4) → r ≡ cond (eqb b 1) 1 0 → r ≡ scattered_part (row_at stock s at)
unfolding scattered_part row_from
code_byte s at e q = q ∙ ap (λ (x : ℕ). cond (eqb x 1) 1 0) (e ∙ one_byte s (at + 4))
