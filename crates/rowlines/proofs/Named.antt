-- THE LINE THAT IS NAMED SAYS THE ROW. Assumes nothing.
--     line-says              of any text that says rows, and any place of a row: the line of that row says it
--     rows_before            and it is that very row's: as many rows stand in the lines before it as before the place, so that of two lines with the same words it is the right one
--     place-used, why-line   of a refusal but 10 and 12: a row stands at its place, and the line that `pack` names says that row
use Prim.Native.Nat.{ℕ, suc, ◌+◌, ◌-◌, ◌*◌, ◌<◌}
use mathlib.Core.Path.{◌≡◌, refl, sym, ap, subst, ◌∙◌}
use mathlib.Core.Bool.{true}
use mathlib.Core.List.{List, []}
use native.Mathlib.Numerals.{one-add}
use native.Mathlib.Omega.{arith}
use borrow.Author.Tests.{eqb-false}
use lib.ListN.{length, get_or, take, replicate, length-replicate, get_or-replicate}
use Rattle.form.specs.First.{first}
use Rattle.form.specs.Layout.{kinds, numbers_of}
use Rattle.form.specs.Ruling.{rule, ruling}
use Rattle.form.specs.Sums.{filed_rules}
use Rattle.form.specs.Refusals.{Clean, Refused, Ruling}
use Rattle.std.specs.Prelude.{None, Option, Some}
use Rattle.form.proofs.Order.{ruled, kept}
use Rattle.form.proofs.Tests.{left}
use Rattle.std.specs.Prelude.{Result, Ok, Err}
use Rattle.filing.specs.Lists.{cut, total, filed_lists}
use Rattle.filing.specs.Written.{used_from}
use Rattle.lists.specs.Rules.{bad_at, list_rules}
use Rattle.cells.specs.Lines.{text_lines}
use Rattle.heads.specs.Heads.{is_passed, edition_by, head_of}
use Rattle.heads.specs.declared.TextFault.{TextFault}
use Rattle.heads.specs.declared.Head.{Head}
use Rattle.texts.specs.Texts.{nothing, rows, kind_in, rows_from, rows_by, text_read, row_line_at, row_line_by, row_line}
use Rattle.texts.specs.Steps.{HeadLine, head_line, count_in}
use Rattle.texts.proofs.Told.{Told, text_told}
use Rattle.texts.proofs.Lines.{row-line_by_head}
use Rattle.texts.proofs.RowLines.{row_at_lem}
use Rattle.texts.proofs.Rows.{sound_none}
use Rattle.clashes.specs.Stands.{row_index}
use Rattle.clashes.proofs.Broken.{used_there}
use Rattle.clashes.proofs.Index.{index-used}
use Rattle.rowlines.specs.LineSays.{line_at, LineSays}
use Rattle.rowlines.proofs.Heads.{HeadAt, head_at, text_opened}
use Rattle.rowlines.proofs.Rising.{rows_of, said_by, flat, many, rows-said, rows-counted, rows-place}
use Rattle.rowlines.proofs.Lists.{Listed, lists-said}
use Rattle.rowlines.proofs.Places.{RowThere, row_there}

module _ (text : List ℕ) (e : ℕ) (lengths area : List ℕ) (q : text_read text ≡ rows e lengths area) where
  -- the first line that counts, and what it says
  abbrev h : HeadLine
  h = head_line 0 (text_lines text)

  told : Told h e area
  told = text_told text q

  abbrev sep : ℕ
  sep = told.separator

  -- the rows behind it
  abbrev rs : List (List ℕ)
  rs = rows_of sep h.behind

  counted : h.number ≡ 0 → ⊥
  counted = eqb-false h.number 0 (text_opened text q).1.0

  stands : HeadAt 0 (text_lines text) h
  stands = head_at 0 (text_lines text) counted

  read : rows_from e sep h.number nothing h.behind ≡ rows e lengths area
  read = sym (ap (λ (x : Result Head TextFault). rows_by x h.number h.behind) told.head) ∙ (text_opened text q).1.1

  listed : Listed sep lengths 1 nothing.lengths rs
  listed = lists-said e sep h.number nothing h.behind 1 (length-replicate {A = ℕ} kinds 0) (λ j a b. omega arith) read

  area-said : flat sep rs ≡ area
  area-said = sym (told.said ∙ rows-said sep h.behind)

  each : (i : ℕ) → i < length lengths → get_or lengths i 0 ≡ numbers_of (1 + i) * many sep (1 + i) rs
  each i l =
      let z : get_or {A = ℕ} (replicate kinds 0) i 0 ≡ 0 = get_or-replicate {A = ℕ} kinds i 0 0 (omega (arith, l, listed.each)) in
      rw (one-add i) (omega (arith, listed.counts i, z))

  -- the row at a place is the one of a line
  there : (p : ℕ) → (filed_lists (cut lengths area)).used p ≡ true → RowThere sep (filed_lists (cut lengths area)) p (row_index lengths p) rs
  there p u =
      subst (λ (a : List ℕ). (filed_lists (cut lengths a)).used p ≡ true → RowThere sep (filed_lists (cut lengths a)) p (row_index lengths p) rs) area-said
      (row_there sep 1 lengths rs p (omega arith) (omega (arith, listed.each)) listed.rising each) u

  -- the line of row j, by the lines behind the first that counts
  line_of : (j : ℕ) → row_line j text ≡ row_line_at sep j h.number h.behind
  unfolding row_line
  line_of j =
      sym (left _ (text_opened text q).0 refl)
      ∙ row-line_by_head j 0 (text_lines text)
      ∙ ap (λ (x : Result Head TextFault). row_line_by x j h.number h.behind) told.head

  pub line-says : (p : ℕ) → (filed_lists (cut lengths area)).used p ≡ true
      → LineSays text e ((filed_lists (cut lengths area)).kind p) ((filed_lists (cut lengths area)).row p) (row_line (row_index lengths p) text)
  line-says p u =
      let j = row_index lengths p in
      let w = there p u in
      let r = row_at_lem sep j h.number h.behind (omega (arith, w.inside, rows-counted sep h.behind)) in
      let n : row_line j text ≡ h.number + suc r.place = line_of j ∙ r.number in
      let i : row_line j text - 1 ≡ h.number + r.place - 0 = omega (arith, n) in
      -- line n of the text is the line of the row among those behind the first that counts
      let same : line_at text (row_line j text) ≡ get_or h.behind r.place [] = ap (λ (x : ℕ). get_or (text_lines text) x []) i ∙ stands.stands r.place in
      -- and row j among the rows
      let row : get_or h.behind r.place [] ≡ get_or rs j [] =
      sym (rows-place sep h.behind r.place r.inside r.counts) ∙ ap (λ (x : ℕ). get_or rs x []) r.before in
      record {
        separator = sep;
        head = told.head;
        head_there = omega (arith, counted);
        behind-head = omega (arith, n);
        from_one = omega (arith, n);
        inside = omega (arith, n, r.inside, stands.whole);
        counts = ap (is_passed sep) same ∙ r.counts;
        kind-named = ap (kind_in sep) (same ∙ row) ∙ w.kind;
        numbers-said = ap (said_by sep) (same ∙ row) ∙ w.row;
      }

  -- the separator that the first line says is one alone
  same_separator : (separator : ℕ) → head_of h.number h.line ≡ edition_by e separator → sep ≡ separator
  same_separator separator said = one sep separator (sym told.head ∙ said)
    where
      told_by : Result Head TextFault → ℕ
      told_by (Ok x) = x.separator
      told_by (Err f) = 0

      one : (a b : ℕ) → edition_by e a ≡ edition_by e b → a ≡ b
      one a b z = ap told_by z

  -- the lines between the first that counts and the line of the row have as many rows as there are used places before the row's
  pub rows_before : (p : ℕ) → (filed_lists (cut lengths area)).used p ≡ true
      → (separator : ℕ) → head_of (head_line 0 (text_lines text)).number (head_line 0 (text_lines text)).line ≡ edition_by e separator
      → count_in separator (take (row_line (row_index lengths p) text - suc (head_line 0 (text_lines text)).number) (head_line 0 (text_lines text)).behind)
      ≡ used_from (filed_lists (cut lengths area)) 0 p
  rows_before p u separator said =
      let j = row_index lengths p in
      let r = row_at_lem sep j h.number h.behind (omega (arith, (there p u).inside, rows-counted sep h.behind)) in
      let i : row_line j text - suc h.number ≡ r.place = omega (arith, line_of j, r.number) in
      let none : total nothing.lengths ≡ 0 = sound_none.sum in
      ap (λ (x : ℕ). count_in x (take (row_line j text - suc h.number) h.behind)) (sym (same_separator separator said))
      ∙ ap (λ (x : ℕ). count_in sep (take x h.behind)) i
      ∙ r.before
      ∙ index-used 1 lengths area p (omega (arith, listed.sum, none, ap length area-said)) u

-- ---- a refusal

number_said : Ruling → ℕ
number_said Clean = 0
number_said (Err r) = r.number

same_number : (m n p i : ℕ) → Refused {A = Unit {0}} m i ≡ Refused n p → m ≡ n
unfolding number_said
same_number m n p i e = ap number_said e

-- behind 10 are the rules of filed records
behind_ten : (e : ℕ) (lengths area : List ℕ) (m p : ℕ) → ruling (list_rules e lengths area) ≡ Refused m p → (m ≡ 10 → ⊥)
    → ruling (filed_rules e (filed_lists (cut lengths area))) ≡ Refused m p
unfolding list_rules
behind_ten e lengths area m p b n = by (first (bad_at e lengths (length area)) (suc kinds)) refl
  where
    by : (s : Option ℕ) → first (bad_at e lengths (length area)) (suc kinds) ≡ s → ruling (filed_rules e (filed_lists (cut lengths area))) ≡ Refused m p
    by (Some i) g =
        absurd (n (sym (same_number 10 m p i (ruled (rule 10 (suc kinds) (bad_at e lengths (length area))) (filed_rules e (filed_lists (cut lengths area))) g ∙ b))))
    by None g = kept (rule 10 (suc kinds) (bad_at e lengths (length area))) (filed_rules e (filed_lists (cut lengths area))) g refl ∙ b

-- but for 10 and 12, a refusal is about a row: one would stand at its place
pub place-used : (e : ℕ) (lengths area : List ℕ) (m p : ℕ) → ruling (list_rules e lengths area) ≡ Refused m p → (m ≡ 10 → ⊥) → (m ≡ 12 → ⊥)
    → (filed_lists (cut lengths area)).used p ≡ true
place-used e lengths area m p b ten twelve = used_there e (filed_lists (cut lengths area)) (behind_ten e lengths area m p b ten) twelve

-- and the line that is named says that row
pub why-line : (text : List ℕ) (e : ℕ) (lengths area : List ℕ) → text_read text ≡ rows e lengths area → (m p : ℕ) → ruling (list_rules e lengths area) ≡ Refused m p
    → (m ≡ 10 → ⊥) → (m ≡ 12 → ⊥)
    → LineSays text e ((filed_lists (cut lengths area)).kind p) ((filed_lists (cut lengths area)).row p) (row_line (row_index lengths p) text)
why-line text e lengths area q m p b ten twelve = line-says text e lengths area q p (place-used e lengths area m p b ten twelve)
