-- §10: "A program reads a file of returns end to end, up to 500, .. and prints exact national totals of E, K, L, M, P, on-site, off-site and decay carbon, with Q, the report
-- and co2 rounded once from them." (What §13 adds is in Matter.) The answer is `nation_of` of the bytes of the file, and what is printed `printed_nation` (national/specs): of every file there is one.
use Rattle.std.specs.Prelude.{ℕ, suc, ◌+◌, ◌*◌, ◌^◌, ◌<◌, ◌≤◌, ◌≡◌, pos, neg_ℤ, ◌*ℤ◌, length, Err, Ok}
use Rattle.std.proofs.Common.{sym, ap, subst, ◌∙◌, arith}
use mathlib.Core.List.{List, [], ◌∷◌, ◌++◌, map, Perm}
use Rattle.form.specs.Block.{most_blocks, blocks_said}
use Rattle.form.specs.Sums.{sum_of}
use Rattle.form.specs.Verdict.{verdict_of}
use Rattle.form.specs.declared.Counts.{Counts}
use Rattle.form.specs.Refusals.{Refused}
use Rattle.wide.specs.Numbers.{value}
use Rattle.wide.specs.Signs.{amount}
use Rattle.wide.proofs.Laws.{value_words}
use Rattle.wide.proofs.SignLaws.{form-holds}
use Rattle.ledger.specs.Ledger.{Bounded, plus, sum_ledgers}
use Rattle.ledger.specs.Derived.{stocks_of, conversion_of}
use Rattle.ledger.specs.declared.Stocks.{Stocks}
use Rattle.ledger.specs.declared.Conversion.{Conversion}
use Rattle.worksheets.specs.Sheets.{by_kind, figures_of}
use Rattle.cutting.specs.Cutting.{most_returns, next_after, cut_file, Pieces, end_to_end}
use Rattle.cutting.specs.declared.Stop.{Stop}
use Rattle.cutting.specs.declared.Stop.TheVariants.{Whole, Blocks, Short, Many}
use Rattle.cutting.proofs.Files.{whole_file, cut_stopped}
use Rattle.cutting.proofs.Going.{few_cut}
use Rattle.cutting.proofs.Laws.{none_said, many-said, ends-inside, inside_header, header_read, one_allowed, none_allowed}
use Rattle.gathered.specs.Gathered.{ledger_in, accepted_of, tally_of, count_of, signed_sum}
use Rattle.gathered.proofs.Tallies.{front_by, tally-front, counted, twice}
use Rattle.gathered.proofs.Sizes.{tally-bounded}
use Rattle.gathered.proofs.Exact.{column-sum, m_sum, p_sum}
use Rattle.national.specs.Lines.{totals_text}
use Rattle.national.specs.Nation.{nation_by, nation_of, printed_nation}
use Rattle.national.specs.Passing.{passed, passed_text}
use Rattle.national.proofs.AnyOrder as order
use Rattle.national.proofs.Alike.{same_text}
use Rattle.promises.specs.Rounding.{Rounded}
use Rattle.promises.specs.Demand2.{q_rounded, report_rounded, co2_rounded}

-- ---- the figures: each exact total is the sum over the accepted returns of the column in their sheets (Demand2 says what that is), and the tonnes are "rounded once from them"
pub record NationalFigures (rs : List (List ℕ)) (v : Stocks) (c : Conversion) : Type 0 where
  pub E : value v.e.0 ≡ sum_of (λ r. value (figures_of (by_kind r)).stocks.e.0) rs
  pub K : value v.k.0 ≡ sum_of (λ r. value (figures_of (by_kind r)).stocks.k.0) rs
  pub L : value v.l.0 ≡ sum_of (λ r. value (figures_of (by_kind r)).stocks.l.0) rs
  pub M : amount v.m.0 ≡ signed_sum (λ r. amount (figures_of (by_kind r)).stocks.m.0) rs
  pub P : amount v.p.0 ≡ signed_sum (λ r. amount (figures_of (by_kind r)).stocks.p.0) rs
  pub Q : Rounded (pos 11 *ℤ amount v.p.0) 3000000 (amount v.q.0)
  pub report : amount v.report.0 ≡ neg_ℤ (amount v.q.0)
  pub report_tonnes : Rounded (neg_ℤ (pos 11 *ℤ amount v.p.0)) 3000000 (amount v.report.0)
  pub onsite : value c.onsite.0 ≡ sum_of (λ r. value (figures_of (by_kind r)).conversion.onsite.0) rs
  pub offsite : value c.offsite.0 ≡ sum_of (λ r. value (figures_of (by_kind r)).conversion.offsite.0) rs
  pub decay : value c.decay.0 ≡ sum_of (λ r. value (figures_of (by_kind r)).conversion.decay.0) rs
  pub CO2 : Rounded (pos (11 * (value c.onsite.0 + value c.offsite.0 + value c.decay.0))) (3 * 10 ^ 9) (pos (value c.co2.0))

pub figures_of_several : (rs : List (List ℕ)) → let g = sum_ledgers (map ledger_in rs) in NationalFigures rs (stocks_of g) (conversion_of g)
unfolding stocks_of conversion_of plus
figures_of_several rs =
    let g = sum_ledgers (map ledger_in rs) in
    record {
      E = column-sum (λ x. value x.e.0) (value_words 0).number (λ a b. (value_words _).number) rs;
      K = column-sum (λ x. value x.k.0) (value_words 0).number (λ a b. (value_words _).number) rs;
      L = column-sum (λ x. value x.l.0) (value_words 0).number (λ a b. (value_words _).number) rs;
      M = m_sum rs;
      P = p_sum rs;
      Q = q_rounded g;
      report = (form-holds _).number;
      report_tonnes = report_rounded g;
      onsite = column-sum (λ x. value x.onsite.0) (value_words 0).number (λ a b. (value_words _).number) rs;
      offsite = column-sum (λ x. value x.offsite.0) (value_words 0).number (λ a b. (value_words _).number) rs;
      decay = column-sum (λ x. value x.decay.0) (value_words 0).number (λ a b. (value_words _).number) rs;
      CO2 = subst (λ (n : ℕ). Rounded (pos (11 * (n + value g.decay.0))) (3 * 10 ^ 9) (pos (value (conversion_of g).co2.0))) (value_words (value g.onsite.0 + value g.offsite.0)).number (co2_rounded g);
    }

-- none of these sums is too large for its words: there are at most 500 returns, and the largest have room
pub no_overflow : (s : List ℕ) → Bounded (nation_of s).tally.ledger
no_overflow s = tally-bounded (cut_file s).returns (few_cut s)

-- ---- "The totals equal those of the accepted returns in any order of the same returns."
-- two files of the same returns end to end, each as long as its own first header says, in any order: the counts and the figures are the same, in number and in text
pub any_order : (xs ys : List (List ℕ)) → Pieces xs → length xs ≤ most_returns → Perm xs ys
    → let a = (nation_of (end_to_end xs)).tally in let b = (nation_of (end_to_end ys)).tally in (a ≡ b) × (totals_text a ≡ totals_text b)
any_order = order.same_answer

-- such a file is read whole, to its end
pub whole_file_read : (xs : List (List ℕ)) → Pieces xs → length xs ≤ most_returns → nation_of (end_to_end xs) ≡ nation_by (record { returns = xs; stop = Whole })
whole_file_read xs p h = ap nation_by (whole_file most_returns xs p h)

-- a file of the accepted ones alone has the same totals
pub accepted_alone : (rs : List (List ℕ)) → Pieces rs → length rs ≤ most_returns
    → let a = (nation_of (end_to_end rs)).tally in (nation_of (end_to_end (accepted_of rs))).tally ≡ record { accepted = a.accepted; refused = 0; ledger = a.ledger }
accepted_alone = order.accepted_alone

-- one return by itself has the figures of its sheets
pub one_return-figures : (r : List ℕ) {c : Counts} → Pieces (r ∷ []) → verdict_of r ≡ Ok c
    → let g = (nation_of r).tally.ledger in let f = figures_of (by_kind r) in (stocks_of g ≡ f.stocks) × (conversion_of g ≡ f.conversion) × (g.matter ≡ f.matter)
unfolding Pieces
one_return-figures r p e = order.one_return-figures r p.0 e

-- "A refused return .. adds nothing", but to the count of refused ones
pub refused_adds_nothing : (r : List ℕ) (rs : List (List ℕ)) (n p : ℕ) → verdict_of r ≡ Refused n p
    → tally_of (r ∷ rs) ≡ record { accepted = (tally_of rs).accepted; refused = suc (tally_of rs).refused; ledger = (tally_of rs).ledger }
refused_adds_nothing r rs n p e = tally-front r rs ∙ ap (λ v. front_by r v (tally_of rs)) e

-- "A return present twice counts twice."
pub twice_counts_twice : (r : List ℕ) (rs : List (List ℕ)) (c : Counts) → verdict_of r ≡ Ok c
    → tally_of (r ∷ r ∷ rs) ≡ record { accepted = suc (suc (tally_of rs).accepted); refused = (tally_of rs).refused; ledger = plus (ledger_in r) (plus (ledger_in r) (tally_of rs).ledger) }
twice_counts_twice r rs c e = twice r rs e

-- ---- "stops the run at that position, and everything before it is printed": returns end to end, and behind them bytes in which no return comes next.
-- The answer is that of these returns, with the stop at the position behind them: it is printed as one more than there were returns.
pub stopped_behind : (rs : List (List ℕ)) (t : List ℕ) (w : Stop) → Pieces rs → length rs ≤ most_returns → next_after (length rs) t ≡ Err w
    → nation_of (end_to_end rs ++ t) ≡ nation_by (record { returns = rs; stop = w })
stopped_behind rs t w p h e = ap nation_by (cut_stopped rs t w p h e)

-- "accepted and refused are counted": every return is one or the other
pub every-return-counted : (rs : List (List ℕ)) → count_of (tally_of rs) ≡ length rs
every-return-counted = counted

module _ (t : List ℕ) (n : ℕ) where
  -- "a 501st return does the same": any byte behind the 500th, whatever it says
  pub many-stops : most_returns ≤ n → 0 < length t → next_after n t ≡ Err Many
  many-stops h some = sym (none_allowed t n (λ z. omega (arith, z)) h)

  module _ (few : n < most_returns) (some : 0 < length t) where
    -- "a file that ends inside a return", its first six bytes included
    pub head-short : length t < 6 → next_after n t ≡ Err Short
    head-short h = sym (one_allowed t n few (inside_header t (λ z. omega (arith, z)) h))

    -- "a first header that says 0 blocks or more than" the longest return has
    pub none_stops : 6 ≤ length t → blocks_said t 0 ≡ 0 → next_after n t ≡ Err (Blocks (blocks_said t 0))
    none_stops h z = sym (one_allowed t n few (header_read t (λ e. omega (arith, e)) h (none_said (blocks_said t 0) (length t) z)))

    pub long-stops : 6 ≤ length t → most_blocks < blocks_said t 0 → next_after n t ≡ Err (Blocks (blocks_said t 0))
    long-stops h m = sym (one_allowed t n few (header_read t (λ e. omega (arith, e)) h (many-said (blocks_said t 0) (length t) (λ z. omega (arith, z, m)) m)))

    -- and one that says so many blocks as a return may have, where fewer are left
    pub rest-short : 6 ≤ length t → 1 ≤ blocks_said t 0 → blocks_said t 0 ≤ most_blocks → length t < 512 * blocks_said t 0 → next_after n t ≡ Err Short
    rest-short h z m s = sym (one_allowed t n few (header_read t (λ e. omega (arith, e)) h (ends-inside (blocks_said t 0) (length t) (λ e. omega (arith, e, z)) m s)))

-- ---- the program reads a return at a time (`settle`), and its turns come to the same text
pub same_turns : (s : List ℕ) → passed_text (passed s) ≡ printed_nation s
same_turns = same_text
