-- The totals' lines: the names filled in with the numbers. Assumes nothing.
--     names_few, totals_filled     what `put_lines` asks, and that it writes the lines
use Prim.Native.Nat.{ℕ, ◌≤◌}
use mathlib.Core.Path.{◌≡◌, refl, ap, ◌∙◌}
use mathlib.Core.List.{List, [], ◌∷◌, ◌++◌, flat_map}
use native.Mathlib.Omega.{arith}
use lib.IntN.{ℤ}
use Rattle.phrases.specs.Ascii.{codes}
use Rattle.phrases.specs.Lines.{spaces, filled_in}
use Rattle.phrases.proofs.Filled.{filled-flat}
use Rattle.ledger.specs.declared.Stocks.{Stocks}
use Rattle.ledger.specs.declared.Conversion.{Conversion}
use Rattle.national.specs.Lines.{Total, total_line, totals_by, numbers_in}

-- the names, each with a space behind it, as they stand in the code
abbrev pub total_names : List ℕ
total_names = codes "accepted refused E K L M P Q report onsite offsite decay co2 "

module _ (a r : ℕ) (s : Stocks) (c : Conversion) where
  -- no name has a space in it
  clear : spaces (flat_map (λ (x : Total). x.name) (totals_by a r s c)) ≡ 0
  unfolding spaces flat_map totals_by
  clear = refl

  names_are : total_names ≡ flat_map (λ (x : Total). x.name ++ 32 ∷ []) (totals_by a r s c)
  unfolding flat_map totals_by
  names_are = refl

  pub totals_filled : {vs : List ℤ} → vs ≡ numbers_in (totals_by a r s c) → filled_in total_names vs ≡ flat_map total_line (totals_by a r s c)
  totals_filled {vs} e =
      ap (filled_in total_names) e
      ∙ ap (λ (x : List ℕ). filled_in x (numbers_in (totals_by a r s c))) names_are
      ∙ filled-flat (λ (x : Total). x.name) (λ (x : Total). x.number) (totals_by a r s c) clear

pub names_few : {n : ℕ} → n ≡ 13 → spaces total_names ≤ n
unfolding spaces
names_few e = omega (arith, e)
