use Rattle.std.proofs.Common.{map, rules}
use Rattle.sql_reader_grammar.specs.Reading.{terms_of}
use Rattle.resolver.proofs.lemmas.query_names.DepthLemmas.{one_deeper}
use Rattle.resolver_sources.specs.source_names.GivenView.{known_of, queried_of}
use Rattle.sql_reader_grammar.specs.statement_trees.TreeView.{query_of, term_of}
use Rattle.resolver.proofs.query_names.nested.+fn-query_within-resolve+query_within.Goals as goal

pub returns : goal.returns
returns t c =
    one_deeper queried_of c.query.result c.args.depth _ (map known_of c.args.known.now) (query_of c.args.whole.now) (terms_of (map term_of c.args.order.now))
    c.query.ensures (search rules)
