-- What a fault says of where its block stands. Assumes nothing.
--     has-before     a block whose kind falls has one before it
--     has-next       a block that is not filled has one behind it
use Prim.Native.Nat.{ℕ, ◌+◌, ◌<◌}
use mathlib.Core.Path.{◌≡◌}
use mathlib.Core.Bool.{true}
use mathlib.Core.List.{List}
use borrow.Author.Tests.{ltb-true}
use lib.Dec.{ltb}
use Rattle.form.specs.Block.{blocks, kind_falls, not_filled}
use Rattle.form.proofs.Tests.{and-true}

module _ (s : List ℕ) (b : ℕ) where
  pub has-before : kind_falls s b ≡ true → 0 < b
  unfolding kind_falls
  has-before e = ltb-true 0 b (and-true (ltb 0 b) _ e).0

  pub has-next : not_filled s b ≡ true → b + 1 < blocks s
  unfolding not_filled
  has-next e = ltb-true (b + 1) (blocks s) (and-true (ltb (b + 1) (blocks s)) _ e).0
