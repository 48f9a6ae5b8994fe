use Rattle.std.proofs.Common.{List, ℕ, ◌++◌, drop, ap, ◌∙◌}
use Rattle.form.specs.Bytes.{little_endian}
use Rattle.charted.proofs.LowFirst.{eight_bytes}
use Rattle.charted.proofs.put_bits.Goals as goal

pub returns : goal.returns
unfolding little_endian
returns c = ap (λ (xs : List ℕ). xs ++ drop 8 c.args.room.now) (c.copy_from_slice.ensures.after ∙ c.to_le_bytes-bytes.ensures ∙ eight_bytes c.args.bits)
