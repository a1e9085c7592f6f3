-- A plan, without the memory that it lies in.
use Rattle.std.specs.Prelude.{map, option_map}
use Rattle.expr.specs.View.{term}
use Rattle.windows_groups.specs.row_groups.GroupView.{group_terms_data}
use Rattle.logical_plan.specs.declared.plan.OuterTable.{OuterTable}
use Rattle.logical_plan.specs.declared.plan.Edge.{Edge}
use Rattle.logical_plan.specs.declared.plan.Nested.{Nested}
use Rattle.logical_plan.specs.declared.plan.Search.{Search}
use Rattle.logical_plan.specs.declared.plan.Plan.{Plan}
use Rattle.logical_plan.specs.declared.plan.Plan.TheVariants.{SingleRow, Filter', NestedLoop', OuterJoin', Aggregate', Window'}
use Rattle.logical_plan.specs.Plan.{EdgeTerm, FlaggedData, NestedData, PlanData, SearchData, flagged, grouped, joined, kept, once, windowed}
use Rattle.resolver_terms.specs.SelectView.{call_of}

abbrev pub edge_term : Edge → EdgeTerm
edge_term edge = record { value = term edge.value; strict = edge.strict }

abbrev pub search_data : Search → SearchData
search_data search = record {
  key = search.key.items;
  equal = map term search.equal.items;
  lower = option_map edge_term search.lower;
  upper = option_map edge_term search.upper;
}

abbrev pub nested_data : Nested → NestedData
nested_data nested = record {
  table = nested.table;
  columns = nested.columns.items;
  tests = map term nested.tests.items;
  padded = nested.padded;
  search = option_map search_data nested.search;
}

abbrev pub flagged_data : OuterTable → FlaggedData
flagged_data f = record { nest = nested_data f.nested; before = f.before }

abbrev pub plan_data : Plan → PlanData
plan_data SingleRow = once
plan_data (Filter' p below tests) = kept (plan_data below) (map term tests.items)
plan_data (NestedLoop' p left nested) = joined (plan_data left) (nested_data nested)
plan_data (OuterJoin' p left f) = flagged (plan_data left) (flagged_data f)
plan_data (Aggregate' p below terms) = grouped (plan_data below) (group_terms_data terms)
plan_data (Window' p below places calls) = windowed (plan_data below) places.items (map call_of calls.items)
