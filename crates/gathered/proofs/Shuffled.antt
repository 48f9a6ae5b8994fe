-- "The totals equal those of the accepted returns in any order of the same returns." Assumes nothing.
--     same_tally      returns in another order have the same tally
--     any_order       and so have two files made of the same returns, end to end; of any two lists that are permutations of each other
use Prim.Native.Nat.{ℕ, suc, ◌≤◌}
use mathlib.Core.Path.{◌≡◌, refl, sym, ap, ap₂, subst, ◌∙◌}
use mathlib.Core.Bool.{Bool-set}
use mathlib.Core.Logic.{∥∥₁_elim}
use mathlib.Core.List.{List, [], ◌∷◌, Perm, Permᴰ}
use native.Mathlib.Nat.{ℕ_set}
use native.Mathlib.Omega.{arith}
use lib.ListN.{length}
use Rattle.form.specs.Verdict.{verdict_of}
use Rattle.wide.specs.declared.signed.Signed.{Signed}
use Rattle.matter.proofs.Adding.{wide_set, matter-set}
use Rattle.ledger.specs.declared.Ledger.{Ledger}
use Rattle.cutting.specs.Cutting.{most_returns, Cut, cut_file, Piece, Pieces, end_to_end}
use Rattle.cutting.proofs.Files.{whole_file}
use Rattle.gathered.specs.Gathered.{tally_of}
use Rattle.gathered.specs.declared.Tally.{Tally}
use Rattle.gathered.proofs.Tallies.{front_by, tally-front, front_swap}

-- two in front
two_fronts : (r s : List ℕ) (rs : List (List ℕ)) → tally_of (r ∷ s ∷ rs) ≡ front_by r (verdict_of r) (front_by s (verdict_of s) (tally_of rs))
two_fronts r s rs = tally-front r (s ∷ rs) ∙ ap (front_by r (verdict_of r)) (tally-front s rs)

swapped : (r s : List ℕ) (rs : List (List ℕ)) → tally_of (r ∷ s ∷ rs) ≡ tally_of (s ∷ r ∷ rs)
swapped r s rs = two_fronts r s rs ∙ front_swap r s (verdict_of r) (verdict_of s) (tally_of rs) ∙ sym (two_fronts s r rs)

pub same_tally : {xs ys : List (List ℕ)} → Permᴰ xs ys → tally_of xs ≡ tally_of ys
same_tally Permᴰ.nil = refl
same_tally (Permᴰ.cons {a = a} {b = b} {l₁ = xs} {l₂ = ys} e d) =
    tally-front a xs
    ∙ ap (front_by a (verdict_of a)) (same_tally d)
    ∙ sym (tally-front a ys)
    ∙ ap (λ (r : List ℕ). tally_of (r ∷ ys)) e
same_tally (Permᴰ.swap {a = a} {b = b} {a' = c} {b' = d} {l = l} e q) = swapped a b l ∙ ap₂ (λ (r s : List ℕ). tally_of (r ∷ s ∷ l)) q e
same_tally (Permᴰ.trans d e) = same_tally d ∙ same_tally e

-- two equations of tallies are one, so it does not matter how a permutation was come by
signed_set : IsSet Signed
signed_set x y p q = λ i j. record {
  below = Bool-set x.below y.below (λ k. (p k).below) (λ k. (q k).below) i j;
  size = wide_set x.size y.size (λ k. (p k).size) (λ k. (q k).size) i j;
}

ledger-set : IsSet Ledger
ledger-set x y p q = λ i j. record {
  e = record { 0 = wide_set x.e.0 y.e.0 (λ k. (p k).e.0) (λ k. (q k).e.0) i j };
  k = record { 0 = wide_set x.k.0 y.k.0 (λ h. (p h).k.0) (λ h. (q h).k.0) i j };
  l = record { 0 = wide_set x.l.0 y.l.0 (λ k. (p k).l.0) (λ k. (q k).l.0) i j };
  o = record { 0 = signed_set x.o.0 y.o.0 (λ k. (p k).o.0) (λ k. (q k).o.0) i j };
  onsite = record { 0 = wide_set x.onsite.0 y.onsite.0 (λ k. (p k).onsite.0) (λ k. (q k).onsite.0) i j };
  offsite = record { 0 = wide_set x.offsite.0 y.offsite.0 (λ k. (p k).offsite.0) (λ k. (q k).offsite.0) i j };
  decay = record { 0 = wide_set x.decay.0 y.decay.0 (λ k. (p k).decay.0) (λ k. (q k).decay.0) i j };
  matter = matter-set x.matter y.matter (λ k. (p k).matter) (λ k. (q k).matter) i j;
}

tally-set : IsSet Tally
tally-set x y p q = λ i j. record {
  accepted = ℕ_set x.accepted y.accepted (λ k. (p k).accepted) (λ k. (q k).accepted) i j;
  refused = ℕ_set x.refused y.refused (λ k. (p k).refused) (λ k. (q k).refused) i j;
  ledger = ledger-set x.ledger y.ledger (λ k. (p k).ledger) (λ k. (q k).ledger) i j;
}

pub tallies_alike : {xs ys : List (List ℕ)} → Perm xs ys → tally_of xs ≡ tally_of ys
tallies_alike {xs} {ys} p = ∥∥₁_elim p (tally-set (tally_of xs) (tally_of ys)) (λ d. same_tally d)

-- what holds of pieces holds of them in another order
pieces_alike : {xs ys : List (List ℕ)} → Permᴰ xs ys → Pieces xs → Pieces ys
unfolding Pieces
pieces_alike Permᴰ.nil p = p
pieces_alike (Permᴰ.cons e d) p = (subst Piece e p.0, pieces_alike d p.1)
pieces_alike (Permᴰ.swap e q) p = (subst Piece q p.1.0, (subst Piece e p.0, p.1.1))
pieces_alike (Permᴰ.trans d e) p = pieces_alike e (pieces_alike d p)

lengths-alike : {xs ys : List (List ℕ)} → Permᴰ xs ys → length xs ≡ length ys
lengths-alike Permᴰ.nil = refl
lengths-alike (Permᴰ.cons e d) = ap suc (lengths-alike d)
lengths-alike (Permᴰ.swap e q) = refl
lengths-alike (Permᴰ.trans d e) = lengths-alike d ∙ lengths-alike e

-- the two files
pub cut_pieces : (xs : List (List ℕ)) → Pieces xs → length xs ≤ most_returns → (cut_file (end_to_end xs)).returns ≡ xs
cut_pieces xs p h = ap (λ (c : Cut). c.returns) (whole_file most_returns xs p h)

pub any_order : (xs ys : List (List ℕ)) → Pieces xs → length xs ≤ most_returns → Perm xs ys → tally_of (cut_file (end_to_end xs)).returns ≡ tally_of (cut_file (end_to_end ys)).returns
any_order xs ys p l h = ∥∥₁_elim h (tally-set (tally_of (cut_file (end_to_end xs)).returns) (tally_of (cut_file (end_to_end ys)).returns)) by
  where
    by : Permᴰ xs ys → tally_of (cut_file (end_to_end xs)).returns ≡ tally_of (cut_file (end_to_end ys)).returns
    by d = ap tally_of (cut_pieces xs p l) ∙ same_tally d ∙ sym (ap tally_of (cut_pieces ys (pieces_alike d p) (omega (arith, lengths-alike d))))
