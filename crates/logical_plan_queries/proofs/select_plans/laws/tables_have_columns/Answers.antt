use Rattle.logical_plan_queries.proofs.lemmas.select_plans.ColumnLemmas as lemma
use Rattle.logical_plan_queries.proofs.select_plans.laws.tables_have_columns.Goals as goal

pub returns : goal.returns
returns c = lemma.tables_have_columns
