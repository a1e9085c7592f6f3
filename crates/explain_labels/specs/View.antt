-- What labels in memory are, as plain trees.
use Rattle.std.specs.Prelude.{List, map, option_map, string_bytes}
use Rattle.explain_labels.specs.Labels as spec
use Rattle.explain_labels.specs.Labels.{inner_of, labels_of, names_of, selects_of}
use Rattle.explain_labels.specs.declared.labels.ItemLabels.{ItemLabels}
use Rattle.explain_labels.specs.declared.labels.QueryLabels.{QueryLabels}
use Rattle.explain_labels.specs.declared.labels.SelectLabels.{SelectLabels}
use Rattle.explain_labels.specs.declared.labels.SourceLabel.{SourceLabel}
use Rattle.explain_labels.specs.declared.labels.SourceLabel.TheFolds as folds
use Rattle.explain_labels.specs.declared.labels.SourceLabel.TheOpen as f
use Rattle.explain_labels.specs.declared.labels.StatementLabels.{StatementLabels}
use Rattle.sql_reader_grammar.specs.declared.statement_trees.queries.CommonTableExpr.{CommonTableExpr}
use Rattle.sql_reader_grammar.specs.statement_trees.StatementView.{item_of}
use Rattle.sql_reader_syntax.specs.Tree.{Name}

-- one node of each kind, with the tree of each child in its place
abbrev pub source_node : f.SourceLabel-F spec.Label spec.QueryLabels spec.SelectLabels → spec.Label
source_node (f.SourceLabel-F.Table alias) = spec.table (option_map (λ alias. string_bytes alias) alias)
source_node (f.SourceLabel-F.Item at alias) = spec.item at (option_map (λ alias. string_bytes alias) alias)
source_node (f.SourceLabel-F.Derived labels alias) = spec.derived labels.value (option_map (λ alias. string_bytes alias) alias)

abbrev pub select_node : f.SelectLabels-F spec.Label spec.QueryLabels spec.SelectLabels → spec.SelectLabels
select_node s = spec.select (labels_of s.sources.items) (inner_of s.inner.items)

abbrev pub query_node : f.QueryLabels-F spec.Label spec.QueryLabels spec.SelectLabels → spec.QueryLabels
query_node q = selects_of q.selects.items

abbrev pub label_of : SourceLabel → spec.Label
label_of = folds.fold-SourceLabel spec.Label spec.QueryLabels spec.SelectLabels source_node query_node select_node

abbrev pub select_of : SelectLabels → spec.SelectLabels
select_of = folds.fold-SelectLabels spec.Label spec.QueryLabels spec.SelectLabels source_node query_node select_node

abbrev pub query_of : QueryLabels → spec.QueryLabels
query_of = folds.fold-QueryLabels spec.Label spec.QueryLabels spec.SelectLabels source_node query_node select_node

abbrev pub item_labels_of : ItemLabels → spec.ItemLabels
item_labels_of i = record { name = string_bytes i.name; query = query_of i.query }

abbrev pub statement_labels_of : StatementLabels → spec.StatementLabels
statement_labels_of s = record { items = map item_labels_of s.items.items; query = query_of s.query }

-- the names of items of WITH
abbrev pub names_seen : List CommonTableExpr → List Name
names_seen items = names_of (map item_of items)
