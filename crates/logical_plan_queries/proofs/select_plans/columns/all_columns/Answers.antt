use Rattle.std.proofs.Common.{◌∙◌, ◌+◌, ap, length, sym}
use Rattle.std.specs.List.{range_with_len}
use Rattle.std.proofs.lemmas.List.FromFn.{length-range_with_len}
use Rattle.semantics.specs.Query.{from_width}
use Rattle.logical_plan_queries.proofs.lemmas.select_plans.PlaceLemmas.{places_whole}
use Rattle.logical_plan_terms.specs.table_plans.Input.{from_of}
use Rattle.logical_plan_terms.proofs.lemmas.table_plans.InputLemmas.{width-take}
use Rattle.std.proofs.Common.{take}
use Rattle.logical_plan_queries.proofs.select_plans.columns.all_columns.Goals as goal

pub push_places-requires : goal.push_places-requires
push_places-requires c =
    places_whole c.loop-table.columns.items (from_width (from_of (take c.loop-table.table-index c.args.tables.now))) c.loop-table.invariant

pub loop-table-preserved : goal.loop-table-preserved
loop-table-preserved c =
    c.in_ok-push_places.ensures
    ∙ ap (range_with_len 0)
    (ap (λ n. n + c.table-item.result.width) (ap length c.loop-table.invariant ∙ length-range_with_len 0 (from_width (from_of (take c.loop-table.table-index c.args.tables.now))))
    ∙ sym (width-take c.args.tables.now c.loop-table.table-index c.table-item.result c.loop-table-test.true c.table-item.is))
