-- §7: what is wrong with a block that 4 is given at. "the block's header or non-zero byte": the first fault in the order of 01's sentence, with the values that clash.
use Rattle.std.specs.Prelude.{ℕ, ◌+◌, ◌-◌, ◌*◌, ◌/◌, ◌%◌, ◌<◌, ◌≡◌, Bool, true, false, cond, not, ◌&&◌, ◌||◌, List, [], ◌∷◌, ltb, leb, eqb, None, Option, Some}
use Rattle.form.specs.First.{first}
use Rattle.form.specs.Bytes.{byte_at}
use Rattle.form.specs.Layout.{Layout, layout}
use Rattle.form.specs.Block.{kind_of, count_of, kind_falls, low_behind, ends_low, none_before, fourth_of_kind, bad_count, not_filled, over_filled}
use Rattle.faults.specs.declared.Fault.{Fault}
use Rattle.faults.specs.declared.Fault.TheVariants.{Order, End, Fourth, Count, Unfilled, Overfilled, Stray}

-- where zero is due in a used record, by the byte's number from 0: before a field, or after the last; `at` bytes of it are behind us
unfoldable pub zero_from : ℕ → Layout → ℕ → Bool
zero_from at [] k = leb at k
zero_from at (f ∷ l) k = leb at k && ltb k (at + f.zeros) || zero_from (at + f.zeros + f.width) l k

-- "where zero is due, unused records included": "8 twelve records of 40 bytes, 488 twenty zero bytes, 508 the check"
unfoldable pub zero_due : List ℕ → ℕ → ℕ → Bool
zero_due s b i =
    cond (ltb i 8) false
    (cond (leb 488 i) (ltb i 508)
    (cond (ltb ((i - 8) / 40) (count_of s b)) (zero_from 0 (layout (kind_of s b)) ((i - 8) % 40)) true))

-- "a non-zero byte where zero is due", at an offset of block b
abbrev pub stray_byte : List ℕ → ℕ → ℕ → Bool
stray_byte s b i = zero_due s b i && not (eqb (byte_at s (512 * b + i)) 0)

-- the lowest such offset and its byte; a block that has none is never asked about (`first-fault`)
abbrev pub stray_by : List ℕ → ℕ → Option ℕ → Fault
stray_by s b (Some i) = Stray i (byte_at s (512 * b + i))
stray_by s b None = Stray 512 0

abbrev pub stray_fault : List ℕ → ℕ → Fault
stray_fault s b = stray_by s b (first (stray_byte s b) 512)

-- "its two rules on the last block", in the three of §1
abbrev pub ends_wrong : List ℕ → ℕ → Bool
ends_wrong s b = low_behind s b || ends_low s b || none_before s b

-- the first fault in the order of 01's sentence: `order`, `end`, `fourth`, `count`, `unfilled`, `overfilled`, `stray`
unfoldable pub fault_of : List ℕ → ℕ → Fault
fault_of s b =
    cond (kind_falls s b) (Order (kind_of s (b - 1)))
    (cond (ends_wrong s b) End
    (cond (fourth_of_kind s b) Fourth
    (cond (bad_count s b) Count
    (cond (not_filled s b) (Unfilled (kind_of s (b + 1)))
    (cond (over_filled s b) Overfilled
    (stray_fault s b))))))

-- what a fault says of its block: it is so, none that the sentence has before it is, and its values are those that stand there
pub data Faulty (s : List ℕ) (b : ℕ) : Fault → Type 0 where
  order : kind_falls s b ≡ true → Faulty s b (Order (kind_of s (b - 1)))
  end : kind_falls s b ≡ false → ends_wrong s b ≡ true → Faulty s b End
  fourth : kind_falls s b ≡ false → ends_wrong s b ≡ false → fourth_of_kind s b ≡ true → Faulty s b Fourth
  count : kind_falls s b ≡ false → ends_wrong s b ≡ false → fourth_of_kind s b ≡ false → bad_count s b ≡ true → Faulty s b Count
  unfilled : kind_falls s b ≡ false → ends_wrong s b ≡ false → fourth_of_kind s b ≡ false → bad_count s b ≡ false → not_filled s b ≡ true
      → Faulty s b (Unfilled (kind_of s (b + 1)))
  overfilled : kind_falls s b ≡ false → ends_wrong s b ≡ false → fourth_of_kind s b ≡ false → bad_count s b ≡ false → not_filled s b ≡ false → over_filled s b ≡ true
      → Faulty s b Overfilled
  stray_byte_lem : kind_falls s b ≡ false → ends_wrong s b ≡ false → fourth_of_kind s b ≡ false → bad_count s b ≡ false → not_filled s b ≡ false → over_filled s b ≡ false
      → (i : ℕ) → i < 512 → stray_byte s b i ≡ true → ((k : ℕ) → k < i → stray_byte s b k ≡ false)
      → Faulty s b (Stray i (byte_at s (512 * b + i)))
