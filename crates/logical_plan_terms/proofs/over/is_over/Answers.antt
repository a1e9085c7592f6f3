use Rattle.std.proofs.Common.{◌≡◌, ◌∙◌, ◌==◌, false, true, ap, rules, subst, sym, MatchBool}
use Rattle.std.specs.List.{list_all, list_any}
use Rattle.expr.specs.Columns.{columns_of}
use Rattle.expr.specs.View.{term}
use Rattle.expr.specs.Names.{answers_of}
use Rattle.logical_plan_terms.specs.Over.{IsOver}
use Rattle.logical_plan_terms.proofs.OverLemmas.{pushed, tells_answers, tells_columns}
use Rattle.logical_plan_terms.proofs.over.is_over.Goals as goal

pub returns-then-not-are_read : goal.returns-then-not-are_read
returns-then-not-are_read c =
    let named = pushed c.new-named.result.items _ c.as_slice.result.now (columns_of (term c.args.t.now)) c.new-named.ensures.items c.in_ok-columns.ensures c.as_slice.ensures.value in
    let some : c.are_read.result ≡ false = search rules in
    tells_columns c.args.read.now c.args.inner (term c.args.t.now)
    (ap (list_all (λ column. list_any (λ at. at == column) c.args.read.now)) (sym named) ∙ sym c.are_read.ensures ∙ some)

pub returns : goal.returns
returns c =
    let named = pushed c.new-named.result.items _ c.as_slice.result.now (columns_of (term c.args.t.now)) c.new-named.ensures.items c.in_ok-columns.ensures c.as_slice.ensures.value in
    let asked = pushed c.new-asked.result.items _ c.as_slice-2.result.now (answers_of (term c.args.t.now)) c.new-asked.ensures.items c.in_ok-answers.ensures c.as_slice-2.ensures.value in
    let all : c.are_read.result ≡ true = search rules in
    subst (λ b. MatchBool b (IsOver c.args.read.now c.args.inner (term c.args.t.now)) (¬ IsOver c.args.read.now c.args.inner (term c.args.t.now))) (sym c.are_behind.ensures)
    (tells_answers c.args.read.now c.args.inner (term c.args.t.now) c.as_slice-2.result.now asked
    (ap (list_all (λ column. list_any (λ at. at == column) c.args.read.now)) (sym named) ∙ sym c.are_read.ensures ∙ all))
