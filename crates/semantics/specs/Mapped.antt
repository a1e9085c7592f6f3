-- A SELECT in which other expressions stand in the places of its own.
use Rattle.std.specs.Prelude.{map, option_map}
use Rattle.expr.specs.Term.{Term}
use Rattle.semantics.specs.Query.{Aggregate, Grouping, Key, KeyTerm, Select, SortTerm, Window, WindowCall, WindowFunction}

module _ (f : Term → Term) where
  abbrev pub mapped_aggregate : Aggregate → Aggregate
  mapped_aggregate a = record { function = a.function; argument = f a.argument }

  abbrev pub mapped_grouping : Grouping → Grouping
  mapped_grouping g = record { by = map f g.by; aggregates = map mapped_aggregate g.aggregates; having = f g.having }

  abbrev pub mapped_sort : SortTerm → SortTerm
  mapped_sort s = record { term = f s.term; direction = s.direction }

  abbrev pub mapped_window : Window → Window
  mapped_window window = record { partition = map f window.partition; order = map mapped_sort window.order; frame = window.frame }

  abbrev pub mapped_function : WindowFunction → WindowFunction
  mapped_function (WindowFunction.aggregate a) = WindowFunction.aggregate (mapped_aggregate a)
  mapped_function WindowFunction.row_number = WindowFunction.row_number
  mapped_function WindowFunction.rank = WindowFunction.rank
  mapped_function WindowFunction.dense_rank = WindowFunction.dense_rank
  mapped_function (WindowFunction.ntile n) = WindowFunction.ntile n
  mapped_function (WindowFunction.lag x n otherwise) = WindowFunction.lag (f x) n (f otherwise)
  mapped_function (WindowFunction.lead x n otherwise) = WindowFunction.lead (f x) n (f otherwise)
  mapped_function (WindowFunction.first_value x) = WindowFunction.first_value (f x)
  mapped_function (WindowFunction.last_value x) = WindowFunction.last_value (f x)
  mapped_function (WindowFunction.nth_value x n) = WindowFunction.nth_value (f x) n

  abbrev pub mapped_call : WindowCall → WindowCall
  mapped_call call = record { window = mapped_window call.window; function = mapped_function call.function }

  abbrev pub mapped_select : Select → Select
  mapped_select s = record {
    condition = f s.condition;
    grouping = option_map mapped_grouping s.grouping;
    windows = map mapped_call s.windows;
    columns = map f s.columns;
    distinct = s.distinct;
  }

  abbrev pub mapped_key_term : KeyTerm → KeyTerm
  mapped_key_term (KeyTerm.result at) = KeyTerm.result at
  mapped_key_term (KeyTerm.term t) = KeyTerm.term (f t)

  abbrev pub mapped_key : Key → Key
  mapped_key key = record { by = mapped_key_term key.by; direction = key.direction }
