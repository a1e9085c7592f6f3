use Rattle.std.proofs.lemmas.Result.{err_from_is_err_and}
use Rattle.expr.specs.View.{term}
use Rattle.resolver_sources.proofs.lemmas.source_names.JoinLemmas.{on_is, on_refused}
use Rattle.sql_reader_grammar.specs.statement_trees.TreeView.{expr_of}
use Rattle.resolver_sources.proofs.source_names.conditions.on.Goals as goal

pub returns-in_err-term : goal.returns-in_err-term
returns-in_err-term g c =
    let p = err_from_is_err_and c.from_residual-in_err-term.result c.from_residual-in_err-term.ensures.1 in
    rw (p.1, p.2) (on_refused (g.I.InnerQueries.answers c.args.inner.now) c.args.left c.args.right c.append.new.self (expr_of c.args.e.now)
    c.in_ok-append.ensures c.in_err-term.field-0.0 c.in_err-term.ensures)

pub returns : goal.returns
returns g c =
    on_is (g.I.InnerQueries.answers c.args.inner.now) c.args.left c.args.right c.append.new.self (expr_of c.args.e.now)
    c.in_ok-append.ensures (term c.in_ok-term.term) c.in_ok-term.ensures
