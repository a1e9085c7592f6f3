-- The parts of a SELECT, as the grammar's reader tells them.
use Rattle.sql_reader_syntax.specs.ExprTree.{DefinitionTrees, ExprTrees, FromTree, MaybeExpr, ResultTrees}
use Rattle.sql_reader_exprs.specs.window_reader.Views.{present_of, some_of}
use Rattle.sql_reader.specs.query_reader.Views.{columns_of, definitions_of_vec}
use Rattle.sql_reader.specs.source_reader.Views.{from_of}
use Rattle.sql_reader.specs.declared.query_reader.cores.Parts.{Parts}

abbrev pub parts_of : Parts → ResultTrees × (FromTree × (MaybeExpr × ((ExprTrees × MaybeExpr) × DefinitionTrees)))
parts_of p = (
  columns_of p.columns,
  (from_of p.sources, (present_of p.condition, ((some_of p.groups, present_of p.having), definitions_of_vec p.windows))),
)
