use mathlib.Core.Path.{refl, sym, ◌∙◌}
use native.Mathlib.Omega.{arith}
use Rattle.columns.proofs.ColumnLaws.{none_named, some_named}
use Rattle.texts.specs.Steps.{counted_as}
use Rattle.texts.proofs.Checks.{said-edition, no_kind, by_kind}
use Rattle.texts.proofs.check_line.Goals as goal

pub returns-then-names_edition : goal.returns-then-names_edition
returns-then-names_edition c =
    let a = c.args in
    record {
      value = said-edition a.sep a.n (counted_as a.kept) a.line.now (sym c.names_edition.ensures ∙ c.if-names_edition.true) refl;
      stored = refl;
    }

pub returns-in-None : goal.returns-in-None
returns-in-None c =
    let a = c.args in
    let other = sym c.names_edition.ensures ∙ c.if-names_edition.false in
    record {
      value = no_kind a.sep a.n (counted_as a.kept) a.line.now other refl (none_named _ (sym c.in-None.is ∙ c.kind_in.ensures.0)) refl;
      stored = refl;
    }

pub check_kind-requires : goal.check_kind-requires
check_kind-requires c =
    let q = some_named c.in-Some.kind _ (sym c.in-Some.is ∙ c.kind_in.ensures.0) in
    (q.1, omega (arith, q.0, c.kind_in.ensures.1), c.requires.0, c.requires.1)

pub returns-in-Some : goal.returns-in-Some
returns-in-Some c =
    let a = c.args in
    let other = sym c.names_edition.ensures ∙ c.if-names_edition.false in
    let q = some_named c.in-Some.kind _ (sym c.in-Some.is ∙ c.kind_in.ensures.0) in
    record {
      value = by_kind a.sep a.n (counted_as a.kept) a.line.now other q.0 (λ z. omega (arith, z, q.1)) c.check_kind.ensures.value;
      stored = c.check_kind.ensures.stored;
    }
