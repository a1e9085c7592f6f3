use Rattle.std.proofs.Common.{ap}
use Rattle.values.specs.Row.{rows_data}
use Rattle.operators_scan.specs.SourceData.{source_data}
use Rattle.operators_runs.proofs.SourceLemmas.{kept_asks, kept_written, table_asks, table_written}
use Rattle.operators_runs.proofs.planned.write_source.Goals as goal

pub returns-in-Stored-clause-rows : goal.returns-in-Stored-clause-rows
returns-in-Stored-clause-rows g c = λ steady local rows size has.
    table_written c.args.columns.now c.write_rows.result (g.W.Sink.facts c.args.out.now) (g.W.Sink.facts c.write_rows.new.out) _ _ (source_data c.args.source.now)
    (ap source_data c.in-Stored.is) (c.write_rows.ensures.rows steady) local rows size has

pub returns-in-Stored-clause-pages : goal.returns-in-Stored-clause-pages
returns-in-Stored-clause-pages g c = λ steady local rows size has.
    table_asks _ _ c.write_rows.result c.args.pager.now.state c.write_rows.new.pager.state (source_data c.args.source.now)
    (ap source_data c.in-Stored.is) (c.write_rows.ensures.pages steady) local rows size has

pub returns-in-Kept-clause-rows : goal.returns-in-Kept-clause-rows
returns-in-Kept-clause-rows g c = λ steady local rows size has.
    kept_written c.args.columns.now c.write_kept.result (g.W.Sink.facts c.args.out.now) (g.W.Sink.facts c.write_kept.new.out) _ (rows_data c.in-Kept.rows.now)
    (source_data c.args.source.now) (ap source_data c.in-Kept.is) c.write_kept.ensures.rows local rows size has

pub returns-in-Kept-clause-pages : goal.returns-in-Kept-clause-pages
returns-in-Kept-clause-pages g c = λ steady local rows size has.
    kept_asks _ (rows_data c.in-Kept.rows.now) c.write_kept.result c.args.pager.now.state (source_data c.args.source.now) (ap source_data c.in-Kept.is)
    local rows size has
