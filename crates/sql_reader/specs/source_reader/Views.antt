-- What was read, as the grammar's reader tells it.
use Rattle.std.specs.Prelude.{Option, option_map}
use Rattle.sql_reader_syntax.specs.ExprTree.{FromTree, OnTree, SourceTree}
use Rattle.sql_reader_grammar.specs.statement_trees.TreeView.{maybe_from, on_of, source_of, sources_of}
use Rattle.sql_reader_grammar.specs.declared.statement_trees.queries.JoinCondition.{JoinCondition}
use Rattle.sql_reader_grammar.specs.declared.statement_trees.queries.Source.{Source}
use Rattle.sql_reader_grammar.specs.declared.statement_trees.queries.Sources.{Sources}

-- a further source and the condition of its join
abbrev pub source_and_on : Source × JoinCondition → SourceTree × OnTree
source_and_on x = (source_of x.0, on_of x.1)

-- FROM
abbrev pub from_of : Option Sources → FromTree
from_of x = maybe_from (option_map sources_of x)
