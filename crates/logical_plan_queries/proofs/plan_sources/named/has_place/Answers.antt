use Rattle.std.proofs.Common.{arith, refl, length}
use Rattle.std.proofs.lemmas.Option.{slice_get_read}
use Rattle.logical_plan_queries.proofs.lemmas.plan_sources.PlaceLemmas.{rows_there, table_there}
use Rattle.logical_plan_queries.proofs.plan_sources.named.has_place.Goals as goal

pub returns-in-Some : goal.returns-in-Some
returns-in-Some c =
    table_there c.args.tables.now c.args.kept.now c.args.place c.args.columns.now c.in-Some.table.now
    (slice_get_read c.args.tables.now (length c.args.tables.now) c.args.place c.in-Some.table.now refl c.in-Some.ensures.lookup.3.0 c.in-Some.ensures.lookup.1)
    c.are_within.result (rw c.columns.ensures at c.are_within.ensures)

pub returns-in-None : goal.returns-in-None
returns-in-None c =
    let past = c.in-None.ensures.lookup.3 in
    rows_there c.args.tables.now c.args.kept.now c.args.place c.args.columns.now (omega (arith, past))
