use Rattle.std.proofs.Common.{map, subst, sym}
use Rattle.resolver_terms.specs.Outcome.{Gives}
use Rattle.resolver_sources.specs.source_names.GivenView.{known_of}
use Rattle.resolver.proofs.lemmas.statement_names.LevelLemmas.{named_is}
use Rattle.resolver_bodies.specs.NamedView.{named_data}
use Rattle.sql_reader_grammar.specs.statement_trees.StatementView.{statement_of}
use Rattle.resolver.proofs.statement_names.statements.named_statement.Goals as goal

pub returns : goal.returns
returns c =
    subst (Gives named_data c.named_within.result) (sym (named_is (map known_of c.args.tables.items) (statement_of c.args.statement.now)))
    c.named_within.ensures
