use Rattle.std.proofs.Common.{◌∙◌, ◌++◌, List, ap, flat_map, map}
use Rattle.expr.specs.Columns.{columns_of}
use Rattle.semantics.specs.Hits.{order_terms}
use Rattle.resolver_terms.specs.SelectView.{key_of, select_of}
use Rattle.logical_plan_queries.proofs.lemmas.select_plans.ReadLemmas.{named_is, read_of}
use Rattle.logical_plan_queries.specs.select_plans.Read.{row_terms}
use Rattle.logical_plan_terms.specs.table_plans.Input.{from_of, input_from}
use Rattle.logical_plan_terms.specs.table_plans.Planned.{on_terms}
use Rattle.logical_plan_terms.specs.declared.table_plans.inputs.JoinedTable.{JoinedTable}
use Rattle.logical_plan_queries.proofs.select_plans.columns.columns_named.Goals as goal

pub returns-clause-read : goal.returns-clause-read
returns-clause-read c =
    let s = select_of c.args.select.now in
    let order = map key_of c.args.order.now in
    let behind = flat_map columns_of (row_terms s.grouping (s.columns ++ order_terms order)) in
    let named = c.push_on.new.out.items in
    read_of (input_from c.args.input.now) s order named c.read_columns.result.items
    (named_is c.new-named.result.items c.columns.new.out.items c.push_row_columns.new.out.items named
    (columns_of s.condition) behind (flat_map columns_of (on_terms (from_of c.as_slice.result.now)))
    c.new-named.ensures.items c.in_ok-columns.ensures c.in_ok-push_row_columns.ensures c.in_ok-push_on.ensures
    ∙ ap (λ (ts : List JoinedTable). (columns_of s.condition ++ behind) ++ flat_map columns_of (on_terms (from_of ts))) c.as_slice.ensures.value)
    c.read_columns.ensures.same
