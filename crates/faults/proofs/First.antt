-- The fault that is named is so, and none before it in the sentence is. Assumes nothing.
--     first-fault    of every block that rule 4 refuses
--     faulty_bad     what is faulty is refused by rule 4
use Prim.Native.Nat.{ℕ, ◌+◌, ◌-◌}
use mathlib.Core.Path.{◌≡◌, refl, sym, ap, ◌∙◌}
use mathlib.Core.Bool.{Bool, true, false, cond, ◌||◌, false≢true}
use mathlib.Core.List.{List, [], ◌∷◌}
use Rattle.form.specs.First.{first}
use Rattle.form.specs.Block.{kind_of, kind_falls, low_behind, ends_low, none_before, fourth_of_kind, bad_count, not_filled, over_filled, stray, bad_block}
use Rattle.std.specs.Prelude.{None, Option, Some}
use Rattle.form.proofs.Search.{first_at, first_none}
use Rattle.faults.specs.declared.Fault.{Fault}
use Rattle.faults.specs.declared.Fault.TheVariants.{Order, End, Fourth, Count, Unfilled, Overfilled}
use Rattle.faults.specs.Faults.{stray_byte, stray_by, stray_fault, ends_wrong, fault_of, Faulty, order, end, fourth, count, unfilled, overfilled, stray_byte_lem}
use Rattle.faults.proofs.Strays.{none_stray, stray_there}

three : (k x y z : Bool) → (k || x || y || z) ≡ (k || (x || y || z))
three true x y z = refl
three false x y z = refl

module _ (s : List ℕ) (b : ℕ) where
  -- the tests in the sentence's order, as rule 4 has them in a row
  abbrev fault_by : Bool → Bool → Bool → Bool → Bool → Bool → Fault
  fault_by k e f c n o =
      cond k (Order (kind_of s (b - 1))) (cond e End (cond f Fourth (cond c Count (cond n (Unfilled (kind_of s (b + 1))) (cond o Overfilled (stray_fault s b))))))

  -- a stray byte is where rule 4 says that there is one
  found : (p : Option ℕ) → first (stray_byte s b) 512 ≡ p → stray s b ≡ true → kind_falls s b ≡ false → ends_wrong s b ≡ false → fourth_of_kind s b ≡ false
      → bad_count s b ≡ false → not_filled s b ≡ false → over_filled s b ≡ false → Faulty s b (stray_by s b p)
  found (Some i) e t k x f c n o = let h = first_at (stray_byte s b) e in stray_byte_lem k x f c n o i h.0 h.1 h.2
  found None e t k x f c n o = absurd (false≢true (sym (none_stray s b (first_none (stray_byte s b) e)) ∙ t))

  by_tests : (k e f c n o : Bool) → kind_falls s b ≡ k → ends_wrong s b ≡ e → fourth_of_kind s b ≡ f → bad_count s b ≡ c → not_filled s b ≡ n → over_filled s b ≡ o
      → (k || e || f || c || n || o || stray s b) ≡ true → Faulty s b (fault_by k e f c n o)
  by_tests true e f c n o pk pe pf pc pn po t = order pk
  by_tests false true f c n o pk pe pf pc pn po t = end pk pe
  by_tests false false true c n o pk pe pf pc pn po t = fourth pk pe pf
  by_tests false false false true n o pk pe pf pc pn po t = count pk pe pf pc
  by_tests false false false false true o pk pe pf pc pn po t = unfilled pk pe pf pc pn
  by_tests false false false false false true pk pe pf pc pn po t = overfilled pk pe pf pc pn po
  by_tests false false false false false false pk pe pf pc pn po t = found (first (stray_byte s b) 512) refl t pk pe pf pc pn po

  -- rule 4 has the three of the last block one by one
  grouped : bad_block s b ≡ (kind_falls s b || ends_wrong s b || fourth_of_kind s b || bad_count s b || not_filled s b || over_filled s b || stray s b)
  unfolding bad_block
  grouped =
      ap (λ (t : Bool). t || fourth_of_kind s b || bad_count s b || not_filled s b || over_filled s b || stray s b)
      (three (kind_falls s b) (low_behind s b) (ends_low s b) (none_before s b))

  pub first-fault : bad_block s b ≡ true → Faulty s b (fault_of s b)
  unfolding fault_of
  first-fault e = by_tests (kind_falls s b) (ends_wrong s b) (fourth_of_kind s b) (bad_count s b) (not_filled s b) (over_filled s b) refl refl refl refl refl refl (sym grouped ∙ e)

  pub faulty_bad : {f : Fault} → Faulty s b f → bad_block s b ≡ true
  faulty_bad w = grouped ∙ by w
    where
      by : {f : Fault} → Faulty s b f
          → (kind_falls s b || ends_wrong s b || fourth_of_kind s b || bad_count s b || not_filled s b || over_filled s b || stray s b) ≡ true
      by (order k) = rw k
      by (end k e) = rw (k, e)
      by (fourth k e f) = rw (k, e, f)
      by (count k e f c) = rw (k, e, f, c)
      by (unfilled k e f c n) = rw (k, e, f, c, n)
      by (overfilled k e f c n o) = rw (k, e, f, c, n, o)
      by (stray_byte_lem k e f c n o i l t first) = rw (k, e, f, c, n, o, stray_there s b i l t)
