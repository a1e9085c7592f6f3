-- Queries in queries. (SELECT)
use Rattle.std.specs.Prelude.{ℕ, List, Result, map}
use Rattle.std.specs.Borrow.{Bor}
use Rattle.values.specs.declared.fault.Fault.{Fault}
use Rattle.resolver_sources.specs.from_names.Resolved.{QueryNames}
use Rattle.semantics_names.specs.Statement.{queried}
use Rattle.resolver_terms.specs.Outcome.{Gives}
use Rattle.resolver_sources.specs.source_names.GivenView.{known_of, queried_of}
use Rattle.resolver_sources.specs.declared.source_names.given.Known.{Known}
use Rattle.resolver_sources.specs.declared.source_names.given.Queried.{Queried}
use Rattle.sql_reader_grammar.specs.statement_trees.TreeView.{query_of}
use Rattle.sql_reader_grammar.specs.declared.statement_trees.queries.Query.{Query}
use Rattle.sql_reader_syntax.specs.ExprTree.{TermTrees}

-- those in which so many may stand in one another
abbrev pub names_within : List Known → ℕ → QueryNames
names_within known depth tree = queried depth (map known_of known) tree TermTrees.No_term

-- what a function of the program gives is what they are
abbrev pub ResolvesWithin : List Known → ℕ → (Bor Query → Result Queried Fault → Type 0) → Type 0
ResolvesWithin known depth Returns =
    (query : Bor Query) (r : Result Queried Fault) → Returns query r → Gives queried_of r (names_within known depth (query_of query.now))
