use Rattle.std.proofs.Common.{map, option_map, subst, sym, ◌∙◌}
use Rattle.sql_reader_syntax.specs.ExprView.{maybe_of}
use Rattle.sql_reader_grammar.specs.Reading.{definitions_of, results_of, terms_of}
use Rattle.semantics_names.specs.Outcome.{followed}
use Rattle.semantics_names.specs.Statement as spec
use Rattle.resolver_terms.specs.Outcome.{Gives}
use Rattle.resolver_terms.specs.SelectView.{aggregate_of}
use Rattle.expr.specs.View.{term}
use Rattle.resolver_selects.proofs.GroupLemmas.{with_groups, without_groups}
use Rattle.resolver_selects.specs.NamedView.{core_data}
use Rattle.sql_reader_grammar.specs.statement_trees.TreeView as trees
use Rattle.resolver_selects.proofs.selects.behind_keys.Goals as goal

pub returns-then-has_groups : goal.returns-then-has_groups
returns-then-has_groups g c =
    let answers = g.I.InnerQueries.answers c.args.inner.now in
    let clauses = c.args.clauses.now in
    let having = maybe_of (option_map trees.expr_of clauses.having.now) in
    let behind = spec.behind_groups answers c.args.scope.now clauses.distinct (results_of (map trees.result_of clauses.columns.now))
    (terms_of (map trees.term_of clauses.order.now)) (map (λ e. trees.expr_of e.now) clauses.parts.now)
    (definitions_of (map trees.definition_of clauses.windows.now)) (term c.args.test) in
    subst (λ input. Gives core_data c.grouped.result (followed input behind))
    (sym (with_groups answers c.args.scope.now having (map term c.args.by.items) (map aggregate_of c.args.aggregates.items)
    (rw (c.as_slice.ensures.value, c.as_slice-2.ensures.value) at (sym c.has_groups.ensures ∙ c.if-has_groups.true)))) c.grouped.ensures

pub returns : goal.returns
returns g c =
    let answers = g.I.InnerQueries.answers c.args.inner.now in
    let clauses = c.args.clauses.now in
    let having = maybe_of (option_map trees.expr_of clauses.having.now) in
    let behind = spec.behind_groups answers c.args.scope.now clauses.distinct (results_of (map trees.result_of clauses.columns.now))
    (terms_of (map trees.term_of clauses.order.now)) (map (λ e. trees.expr_of e.now) clauses.parts.now)
    (definitions_of (map trees.definition_of clauses.windows.now)) (term c.args.test) in
    subst (λ input. Gives core_data c.ungrouped.result (followed input behind))
    (sym (without_groups answers c.args.scope.now having (map term c.args.by.items) (map aggregate_of c.args.aggregates.items)
    (rw (c.as_slice.ensures.value, c.as_slice-2.ensures.value) at (sym c.has_groups.ensures ∙ c.if-has_groups.false)))) c.ungrouped.ensures
