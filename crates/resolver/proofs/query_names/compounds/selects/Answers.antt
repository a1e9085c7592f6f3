use Rattle.std.proofs.Common.{map, subst, sym}
use Rattle.sql_reader_grammar.specs.Reading.{terms_of}
use Rattle.semantics_names.specs.Statement.{query_of}
use Rattle.resolver.proofs.lemmas.query_names.CompoundLemmas.{none_joined}
use Rattle.resolver_terms.specs.Outcome.{Gives}
use Rattle.resolver_sources.specs.source_names.GivenView.{known_of, queried_of}
use Rattle.sql_reader_grammar.specs.statement_trees.TreeView.{arranged_of, core_of, term_of}
use Rattle.sql_reader_syntax.specs.ExprTree.{QueryTree}
use Rattle.resolver.proofs.query_names.compounds.selects.Goals as goal

pub returns-then-is_empty : goal.returns-then-is_empty
returns-then-is_empty g c =
    subst (λ t. Gives queried_of c.alone.result (query_of (map known_of c.args.known.now) (g.Q.Queries.meaning c.args.queries.now) t
    (terms_of (map term_of c.args.order.now))))
    (sym (none_joined arranged_of (QueryTree.Core (core_of c.args.first.now)) c.args.others.now c.is_empty.result c.if-is_empty.true c.is_empty.ensures))
    c.alone.ensures
