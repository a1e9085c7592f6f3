-- What a SELECT computes, as plain data.
use Rattle.std.specs.Prelude.{map, option_map}
use Rattle.semantics.specs.Query as q
use Rattle.semantics_names.specs.Places.{exclusion_of, unit_of}
use Rattle.sql_reader_syntax.specs.declared.query.Direction.{Direction}
use Rattle.expr.specs.View.{term}
use Rattle.resolver_terms.specs.declared.selects.Aggregate.{Aggregate}
use Rattle.resolver_terms.specs.declared.selects.AggregateFunction.{AggregateFunction}
use Rattle.resolver_terms.specs.declared.selects.AggregateFunction.TheVariants as functions
use Rattle.resolver_terms.specs.declared.selects.Edge.{Edge}
use Rattle.resolver_terms.specs.declared.selects.Edge.TheVariants as edges
use Rattle.resolver_terms.specs.declared.selects.Frame.{Frame}
use Rattle.resolver_terms.specs.declared.selects.Grouping.{Grouping}
use Rattle.resolver_terms.specs.declared.selects.Key.{Key}
use Rattle.resolver_terms.specs.declared.selects.KeyTerm.{KeyTerm}
use Rattle.resolver_terms.specs.declared.selects.KeyTerm.TheVariants as k
use Rattle.resolver_terms.specs.declared.selects.Select.{Select}
use Rattle.resolver_terms.specs.declared.selects.SortTerm.{SortTerm}
use Rattle.resolver_terms.specs.declared.selects.Window.{Window}
use Rattle.resolver_terms.specs.declared.selects.WindowCall.{WindowCall}
use Rattle.resolver_terms.specs.declared.selects.WindowFunction.{WindowFunction}
use Rattle.resolver_terms.specs.declared.selects.WindowFunction.TheVariants as w

abbrev pub direction_of : Direction → q.Direction
direction_of d = record { descending = d.descending; nulls_first = d.nulls_first }

abbrev pub sort_of : SortTerm → q.SortTerm
sort_of s = record { term = term s.term; direction = direction_of s.direction }

abbrev pub aggregate_function_of : AggregateFunction → q.AggregateFunction
aggregate_function_of functions.Count = q.AggregateFunction.count
aggregate_function_of functions.Sum = q.AggregateFunction.sum
aggregate_function_of functions.Min = q.AggregateFunction.min
aggregate_function_of functions.Max = q.AggregateFunction.max

abbrev pub aggregate_of : Aggregate → q.Aggregate
aggregate_of a = record { function = aggregate_function_of a.function; argument = term a.argument }

abbrev pub grouping_of : Grouping → q.Grouping
grouping_of g = record { by = map term g.by.items; aggregates = map aggregate_of g.aggregates.items; having = term g.having }

abbrev pub edge_of : Edge → q.Edge
edge_of edges.UnboundedPreceding = q.Edge.unbounded_preceding
edge_of (edges.Preceding n) = q.Edge.preceding n
edge_of edges.CurrentRow = q.Edge.current_row
edge_of (edges.Following n) = q.Edge.following n
edge_of edges.UnboundedFollowing = q.Edge.unbounded_following

abbrev pub frame_of : Frame → q.Frame
frame_of f = record { unit = unit_of f.unit; start = edge_of f.start; end = edge_of f.end; exclude = exclusion_of f.exclusion }

abbrev pub window_of : Window → q.Window
window_of v = record { partition = map term v.partition.items; order = map sort_of v.order.items; frame = frame_of v.frame }

abbrev pub function_of : WindowFunction → q.WindowFunction
function_of (w.Aggregate a) = q.WindowFunction.aggregate (aggregate_of a)
function_of w.RowNumber = q.WindowFunction.row_number
function_of w.Rank = q.WindowFunction.rank
function_of w.DenseRank = q.WindowFunction.dense_rank
function_of (w.NTile n) = q.WindowFunction.ntile n
function_of (w.Lag x n otherwise) = q.WindowFunction.lag (term x) n (term otherwise)
function_of (w.Lead x n otherwise) = q.WindowFunction.lead (term x) n (term otherwise)
function_of (w.FirstValue x) = q.WindowFunction.first_value (term x)
function_of (w.LastValue x) = q.WindowFunction.last_value (term x)
function_of (w.NthValue x n) = q.WindowFunction.nth_value (term x) n

abbrev pub call_of : WindowCall → q.WindowCall
call_of c = record { window = window_of c.window; function = function_of c.function }

abbrev pub select_of : Select → q.Select
select_of s = record {
  condition = term s.condition;
  grouping = option_map grouping_of s.grouping;
  windows = map call_of s.windows.items;
  columns = map term s.columns.items;
  distinct = s.distinct;
}

abbrev pub key_term_of : KeyTerm → q.KeyTerm
key_term_of (k.Result at) = q.KeyTerm.result at
key_term_of (k.Term t) = q.KeyTerm.term (term t)

abbrev pub key_of : Key → q.Key
key_of key = record { by = key_term_of key.by; direction = direction_of key.direction }
