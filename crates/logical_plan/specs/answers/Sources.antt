-- What plans read, and that they read some of it.
use Rattle.std.specs.Prelude.{All, List, None, Some, Vec, length, map, slice_get, ℕ, ⊤, ◌++◌, ◌<◌, ◌≡◌}
use Rattle.std.specs.Global.{Global}
use Rattle.values.specs.Row.{Row, rows_data}
use Rattle.values.specs.declared.value.Value.{Value}
use Rattle.schema_tables.specs.TableData.{TableData}
use Rattle.logical_plan.specs.Plan.{NestedData, PlanData, flagged, grouped, joined, kept, once, windowed}

-- a table of the catalog, or materialized rows
pub data SourceData : Type 0 where
  of_table : TableData → SourceData
  of_rows : List Row → SourceData

-- the tables of the catalog come first, in its order, and the lists of rows after them, in theirs
abbrev pub sources_of : List TableData → List (Vec (Vec Value Global) Global) → List SourceData
sources_of tables lists = map of_table tables ++ map (λ rows. of_rows (rows_data rows.items)) lists

-- these are columns of a table; of a materialized row any are, since those that it lacks are NULL
abbrev pub HasColumns : SourceData → List ℕ → Type 0
HasColumns (of_table table) columns = All (λ at. at < length table.columns) columns
HasColumns (of_rows rows) columns = ⊤

-- what a plan reads is one of the sources, with columns that this has; no plan reads it by a search yet
pub record IsNestOf (sources : List SourceData) (nest : NestedData) : Type 0 where
  pub table : nest.table < length sources
  pub columns : (source : SourceData) → slice_get sources nest.table ≡ Some source → HasColumns source nest.columns
  pub scanned : nest.search ≡ None

abbrev pub IsPlanOf : List SourceData → PlanData → Type 0
IsPlanOf sources once = ⊤
IsPlanOf sources (kept below tests) = IsPlanOf sources below
IsPlanOf sources (joined left nest) = IsPlanOf sources left × IsNestOf sources nest
IsPlanOf sources (flagged left f) = IsPlanOf sources left × IsNestOf sources f.nest
IsPlanOf sources (grouped below terms) = IsPlanOf sources below
IsPlanOf sources (windowed below places calls) = IsPlanOf sources below
