-- The rows of the queries in a query, as plain data.
use Rattle.std.specs.Prelude.{List, Vec, map}
use Rattle.std.specs.Global.{Global}
use Rattle.values.specs.Datum.{Datum}
use Rattle.values.specs.Row.{Row, rows_data}
use Rattle.values.specs.declared.value.Value.{Value}
use Rattle.resolver_copies.specs.materialized_bodies.FlatView.{lists_of}
use Rattle.operators_runs.specs.declared.inner_rows.inner.InnerRows.{InnerRows}

-- the rows of each source that is no table, and the values of each query inside an expression
pub record InnerData : Type 0 where
  pub kept : List (List Row)
  pub answers : List (List Datum)

abbrev pub kept_rows : List (Vec (Vec Value Global) Global) → List (List Row)
kept_rows kept = map (λ rows. rows_data rows.items) kept

abbrev pub inner_data : InnerRows → InnerData
inner_data inner = record { kept = kept_rows inner.kept.items; answers = lists_of inner.answers.items }
