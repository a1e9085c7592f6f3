use Rattle.operators_scan.specs.SourceData.{source_data}
use Rattle.operators_runs.proofs.AnswerLemmas.{columns_answer, columns_stopped}
use Rattle.operators_runs.proofs.planned.write_columns.Goals as goal

pub returns-in-Ok-clause-rows : goal.returns-in-Ok-clause-rows
returns-in-Ok-clause-rows g c = λ steady all.
    columns_answer _ c.args.sources.now c.args.at c.args.columns.now (source_data c.at-source.result) c.at-source.ensures all _ _ _ (c.in-Ok.ensures.rows steady)

pub returns-in-Err-clause-rows : goal.returns-in-Err-clause-rows
returns-in-Err-clause-rows g c = λ steady all.
    columns_stopped _ c.args.sources.now c.args.at c.args.columns.now (source_data c.at-source.result) c.at-source.ensures all _ _ _ _ (c.in-Err.ensures.rows steady)
    c.run_fault.ensures.outside

pub returns-in-Ok-clause-pages : goal.returns-in-Ok-clause-pages
returns-in-Ok-clause-pages g c = λ steady on has. c.in-Ok.ensures.pages steady on.local _ _ (has c.args.at (source_data c.at-source.result) c.at-source.ensures)
