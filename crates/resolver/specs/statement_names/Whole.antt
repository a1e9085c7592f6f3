-- A statement, over what the queries in it are. (SELECT; SELECT, "Common Table Expressions")
use Rattle.std.specs.Prelude.{ℤ, List, [], ◌∷◌, ◌++◌, Option, Result, Ok, map, nat_le}
use Rattle.values.specs.declared.fault.Fault.{Fault}
use Rattle.values.specs.declared.fault.Fault.TheVariants.{DuplicateName, Limit}
use Rattle.semantics.specs.Query.{Body}
use Rattle.semantics_names.specs.Outcome.{also, checked, followed}
use Rattle.semantics_names.specs.Sources.{Known}
use Rattle.semantics_names.specs.Statement.{Named, Queried, With, are_distinct, ended, item_columns, max_sources, offset_or, sources_of_body, with_item}
use Rattle.sql_reader_syntax.specs.ExprTree.{QueryTree, TermTrees}
use Rattle.sql_reader_syntax.specs.StatementTree.{ItemTree, StatementTree}

-- what stands behind LIMIT and OFFSET, where a query may have so many sources
abbrev pub slice_of : StatementTree → Body → Result (Option ℤ × ℤ) Fault
slice_of tree body = checked (nat_le (sources_of_body body) max_sources) Limit (Ok (tree.limit, offset_or tree.offset))

-- a query with these, and what is written before it
abbrev pub sliced : List Body → Queried → Option ℤ × ℤ → Named
sliced beside q s = record {
  query = record { body = q.body; order = q.order; limit = s.0; offset = s.1 };
  names = q.names;
  beside = beside ++ q.beside;
}

-- what a query with its ORDER BY is, where FROM may mention these names
abbrev pub QueriesOver : Type 0
QueriesOver = List Known → QueryTree → TermTrees → Result Queried Fault

module _ (queries : QueriesOver) where
  abbrev pub item_by : With → ItemTree → Result With Fault
  item_by w item = followed (queries w.known item.query TermTrees.No_term) (λ q. also (with_item w item q) (item_columns item.columns q.names))

  abbrev pub items_by : With → List ItemTree → Result With Fault
  items_by w [] = Ok w
  items_by w (item ∷ items) = followed (item_by w item) (λ more. items_by more items)

  -- behind the items
  abbrev pub behind_items : StatementTree → With → Result Named Fault
  behind_items tree w = followed (queries w.known tree.query tree.order) (ended tree w.beside)

  abbrev pub named_by : List Known → StatementTree → Result Named Fault
  named_by tables tree =
      checked (are_distinct (map (λ i. i.name) tree.items)) DuplicateName
      (followed (items_by (record { known = tables; beside = [] }) tree.items) (behind_items tree))
