-- FROM, source by source. (SELECT, "Determination of input data")
use Rattle.std.specs.Prelude.{List, Result}
use Rattle.values.specs.declared.fault.Fault.{Fault}
use Rattle.semantics_names.specs.Expression.{Answers}
use Rattle.semantics_names.specs.Outcome.{followed}
use Rattle.semantics_names.specs.Sources.{Known, Sources, joined, kind_of}
use Rattle.semantics_names.specs.Statement.{Queried, source_of}
use Rattle.sql_reader_grammar.specs.statement_trees.TreeView.{JoinedTree}
use Rattle.sql_reader_syntax.specs.ExprTree.{QueryTree}

-- what each query that stands in a query is by its names
abbrev pub QueryNames : Type 0
QueryNames = QueryTree → Result Queried Fault

-- one source more
abbrev pub joined_to : Answers → List Known → QueryNames → Sources → JoinedTree → Result Sources Fault
joined_to answers known queries left j = followed (source_of known queries j.1.0) (joined answers left (kind_of j.0) j.1.1)
