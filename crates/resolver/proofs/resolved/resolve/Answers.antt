use Rattle.sql_reader_grammar.specs.statement_trees.StatementView.{statement_of}
use Rattle.resolver.proofs.ResolvedLemmas.{resolved_types}
use Rattle.resolver.proofs.resolved.resolve.Goals as goal

pub returns-clause-typed : goal.returns-clause-typed
returns-clause-typed c =
    resolved_types c.typed_as_meaning.ensures c.args.tables.now (statement_of c.args.statement.now) c.typed_statement.result c.typed_statement.ensures
