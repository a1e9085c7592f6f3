use Rattle.std.proofs.Common.{subst, sym}
use Rattle.std.proofs.lemmas.Result.{err_from_is_err_and}
use Rattle.semantics_names.specs.Statement.{queried}
use Rattle.resolver_terms.specs.Outcome.{Gives}
use Rattle.resolver_sources.specs.source_names.GivenView.{queried_of}
use Rattle.resolver.proofs.lemmas.statement_names.StatementLemmas.{query_refused, query_taken}
use Rattle.resolver_bodies.specs.NamedView.{named_data}
use Rattle.resolver.specs.statement_names.WithView.{with_data}
use Rattle.sql_reader_grammar.specs.statement_trees.StatementView.{statement_of}
use Rattle.resolver.proofs.statement_names.statements.behind_items.Goals as goal

pub returns-in_err-query : goal.returns-in_err-query
returns-in_err-query c =
    let p = err_from_is_err_and c.from_residual.result c.from_residual.ensures.1 in
    rw (p.1, p.2) (query_refused (statement_of c.args.statement.now) (queried c.args.depth) (with_data c.args.with) c.in_err-query.field-0.0
    (rw (c.as_slice-order.ensures.value, c.as_slice.ensures.value) at c.in_err-query.ensures))

pub returns : goal.returns
returns c =
    subst (Gives named_data c.ended.result)
    (sym (query_taken (statement_of c.args.statement.now) (queried c.args.depth) (with_data c.args.with) (queried_of c.in_ok-query.query)
    (rw (c.as_slice-order.ensures.value, c.as_slice.ensures.value) at c.in_ok-query.ensures)))
    c.ended.ensures
