-- What the national line says of files made of returns end to end. Assumes nothing.
--     same_answer      two files of the same returns in any order: the counts and all figures are the same, in number and in text
--     whole-stop       such a file is whole
--     accepted_alone   "The totals equal those of the accepted returns": a file of these alone has the same totals
--     one_return-figures    a file of one accepted return has the figures of its sheets
use Prim.Native.Nat.{ℕ, ◌≤◌}
use mathlib.Core.Path.{◌≡◌, sym, ap, ◌∙◌}
use mathlib.Core.List.{List, [], ◌∷◌, append-nil, Perm}
use native.Mathlib.Omega.{arith}
use lib.Dec.{lit≤}
use lib.ListN.{length}
use Rattle.form.specs.Verdict.{verdict_of}
use Rattle.form.specs.declared.Counts.{Counts}
use Rattle.form.specs.Refusals.{Verdict}
use Rattle.std.specs.Prelude.{Ok, Err}
use Rattle.ledger.specs.Derived.{stocks_of, conversion_of}
use Rattle.worksheets.specs.Sheets.{by_kind, figures_of}
use Rattle.cutting.specs.Cutting.{most_returns, Cut, Piece, Pieces, end_to_end}
use Rattle.cutting.specs.declared.Stop.TheVariants.{Whole}
use Rattle.cutting.proofs.Files.{whole_file}
use Rattle.gathered.specs.Gathered.{if_accepted, accepted_of, tally_of}
use Rattle.gathered.specs.declared.Tally.{Tally}
use Rattle.gathered.proofs.Tallies.{alone, counted, lone}
use Rattle.gathered.proofs.Shuffled.{any_order, cut_pieces}
use Rattle.national.specs.Lines.{totals_text}
use Rattle.national.specs.Nation.{nation_of}

pub same_answer : (xs ys : List (List ℕ)) → Pieces xs → length xs ≤ most_returns → Perm xs ys
    → let a = (nation_of (end_to_end xs)).tally in let b = (nation_of (end_to_end ys)).tally in (a ≡ b) × (totals_text a ≡ totals_text b)
same_answer xs ys p l h = let e = any_order xs ys p l h in (e, ap totals_text e)

pub whole-stop : (xs : List (List ℕ)) → Pieces xs → length xs ≤ most_returns → (nation_of (end_to_end xs)).stop ≡ Whole
whole-stop xs p l = ap (λ (c : Cut). c.stop) (whole_file most_returns xs p l)

-- the accepted ones among pieces are pieces
kept_by : (r : List ℕ) (rs : List (List ℕ)) (v : Verdict) → Piece r → Pieces rs → Pieces (if_accepted v (r ∷ rs) rs)
unfolding Pieces
kept_by r rs (Ok c) p q = (p, q)
kept_by r rs (Err refusal) p q = q

accepted_pieces : (rs : List (List ℕ)) → Pieces rs → Pieces (accepted_of rs)
unfolding Pieces accepted_of
accepted_pieces [] p = p
accepted_pieces (r ∷ rs) p = kept_by r (accepted_of rs) (verdict_of r) p.0 (accepted_pieces rs p.1)

accepted_few : (rs : List (List ℕ)) → length (accepted_of rs) ≤ length rs
unfolding tally_of
accepted_few rs = omega (arith, counted rs)

pub accepted_alone : (rs : List (List ℕ)) → Pieces rs → length rs ≤ most_returns
    → let a = (nation_of (end_to_end rs)).tally in (nation_of (end_to_end (accepted_of rs))).tally ≡ record { accepted = a.accepted; refused = 0; ledger = a.ledger }
accepted_alone rs p l =
    ap tally_of (cut_pieces (accepted_of rs) (accepted_pieces rs p) (omega (arith, accepted_few rs)))
    ∙ alone rs
    ∙ ap (λ (t : Tally). record { accepted = t.accepted; refused = 0; ledger = t.ledger }) (sym (ap tally_of (cut_pieces rs p l)))

-- one return by itself
pub one_return-figures : (r : List ℕ) {c : Counts} → Piece r → verdict_of r ≡ Ok c
    → let t = (nation_of r).tally in let f = figures_of (by_kind r) in (stocks_of t.ledger ≡ f.stocks) × (conversion_of t.ledger ≡ f.conversion) × (t.ledger.matter ≡ f.matter)
unfolding end_to_end Pieces
one_return-figures r p e =
    let whole : (nation_of r).tally ≡ tally_of (r ∷ []) =
    ap (λ (s : List ℕ). (nation_of s).tally) (sym (append-nil r)) ∙ ap tally_of (cut_pieces (r ∷ []) (p, tt) (lit≤ tt)) in
    let q = whole ∙ lone r e in
    (ap (λ (t : Tally). stocks_of t.ledger) q, ap (λ (t : Tally). conversion_of t.ledger) q, ap (λ (t : Tally). t.ledger.matter) q)
