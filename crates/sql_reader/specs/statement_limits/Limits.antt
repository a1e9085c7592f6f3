-- How much a statement may hold. (Limits In SQLite; fewer here)
use Rattle.std.specs.Prelude.{◌<◌, ◌≤◌, ℕ, suc, All, Contains, sum_by}
use Rattle.sql_reader_grammar.specs.phrases.Texts.{max_columns}
use Rattle.sql_reader.specs.statement_limits.Selects.{in_statement}
use Rattle.sql_reader_syntax.specs.ExprTree.{CoreTree, FromTree, ResultTrees}
use Rattle.sql_reader_syntax.specs.StatementTree.{StatementTree}

-- the most sources of one FROM
abbrev pub max_sources : ℕ
max_sources = 8

-- the most sources that a statement has as it is written
abbrev pub max_written : ℕ
max_written = 64

-- how many result columns are written; a `*` is one
abbrev pub count_results : ResultTrees → ℕ
count_results ResultTrees.No_result = 0
count_results (ResultTrees.Result r rs) = suc (count_results rs)

-- how many tables, items of WITH and queries are written
abbrev pub count_from : FromTree → ℕ
count_from FromTree.No_source = 0
count_from (FromTree.First source) = 1
count_from (FromTree.Joined from join source on) = suc (count_from from)

abbrev pub columns_of_core : CoreTree → ℕ
columns_of_core (CoreTree.Select distinct results from condition groups having windows) = count_results results

abbrev pub sources_of_core : CoreTree → ℕ
sources_of_core (CoreTree.Select distinct results from condition groups having windows) = count_from from

-- a SELECT alone, without those inside it
pub record IsSmallSelect (c : CoreTree) : Type 0 where
  pub columns : columns_of_core c ≤ max_columns
  pub sources : sources_of_core c ≤ max_sources

-- each SELECT of the statement is, and they have no more sources in all
pub record IsWithin (s : StatementTree) : Type 0 where
  pub each : All IsSmallSelect (in_statement s)
  pub written : sum_by sources_of_core (in_statement s) ≤ max_written

-- one of its SELECTs has too many result columns or sources, or they have too many sources in all
pub data IsBeyond (s : StatementTree) : Type 0 where
  Columns : (c : CoreTree) → Contains (in_statement s) c → max_columns < columns_of_core c → IsBeyond s
  Sources : (c : CoreTree) → Contains (in_statement s) c → max_sources < sources_of_core c → IsBeyond s
  Written : max_written < sum_by sources_of_core (in_statement s) → IsBeyond s
