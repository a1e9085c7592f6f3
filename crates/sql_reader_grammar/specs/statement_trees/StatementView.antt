-- What the program's statements are.
use Rattle.std.specs.Prelude.{ℤ, map, neg_ℤ, option_map, string_bytes}
use Rattle.sql_reader_grammar.specs.Reading.{terms_of}
use Rattle.sql_reader_syntax.specs.StatementTree.{ItemTree, StatementTree}
use Rattle.sql_reader_grammar.specs.statement_trees.TreeView.{query_of, term_of}
use Rattle.sql_reader_grammar.specs.declared.statement_trees.queries.SignedNumber.{SignedNumber}
use Rattle.sql_reader_grammar.specs.declared.statement_trees.queries.SignedNumber.TheVariants as w
use Rattle.sql_reader_grammar.specs.declared.statement_trees.queries.CommonTableExpr.{CommonTableExpr}
use Rattle.sql_reader_grammar.specs.declared.statement_trees.queries.Statement.{Statement}

abbrev pub whole_of : SignedNumber → ℤ
whole_of (w.Number n) = n
whole_of (w.Negative n) = neg_ℤ n

abbrev pub item_of : CommonTableExpr → ItemTree
item_of i = record {
  name = string_bytes i.name;
  columns = map (λ name. string_bytes name) i.columns.items;
  query = query_of i.query;
}

abbrev pub statement_of : Statement → StatementTree
statement_of s = record {
  explain = s.explain;
  items = map item_of s.items.items;
  query = query_of s.query;
  order = terms_of (map term_of s.order.items);
  limit = option_map whole_of s.limit;
  offset = option_map whole_of s.offset;
}
