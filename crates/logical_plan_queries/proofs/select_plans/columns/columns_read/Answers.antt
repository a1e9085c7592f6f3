use Rattle.std.proofs.Common.{◌≡◌, ◌∙◌, IfOk, List, map, subst, sym}
use Rattle.std.specs.List.{range_with_len}
use Rattle.semantics.specs.Query.{from_width}
use Rattle.resolver_terms.specs.SelectView.{key_of, select_of}
use Rattle.logical_plan_queries.proofs.lemmas.select_plans.PlaceLemmas.{all_told, named_told, up_told}
use Rattle.logical_plan_terms.specs.table_plans.Input.{from_of, input_from}
use Rattle.logical_plan_terms.specs.declared.table_plans.inputs.JoinedTable.{JoinedTable}
use Rattle.logical_plan_queries.proofs.select_plans.columns.columns_read.Goals as goal

pub returns-then-is_all_read-clause-read : goal.returns-then-is_all_read-clause-read
returns-then-is_all_read-clause-read c =
    all_told (input_from c.args.input.now) (select_of c.args.select.now) (map key_of c.args.order.now) c.all_columns.result (sym c.is_all_read.ensures ∙ c.if-is_all_read.true)
    (subst (λ (ts : List JoinedTable). IfOk c.all_columns.result (λ read. read.items ≡ range_with_len 0 (from_width (from_of ts)))) c.as_slice.ensures.value c.all_columns.ensures)

pub returns-then-is_all_read-clause-once : goal.returns-then-is_all_read-clause-once
returns-then-is_all_read-clause-once c =
    up_told (from_of c.as_slice.result.now) (select_of c.args.select.now) (map key_of c.args.order.now) c.all_columns.result c.all_columns.ensures

pub returns-clause-read : goal.returns-clause-read
returns-clause-read c =
    named_told (input_from c.args.input.now) (select_of c.args.select.now) (map key_of c.args.order.now) c.columns_named.result (sym c.is_all_read.ensures ∙ c.if-is_all_read.false)
    c.columns_named.ensures.read
