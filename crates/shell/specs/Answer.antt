-- What a run answers, of a query over the tables that an image denotes. (SELECT)
use Rattle.std.specs.Prelude.{◌≡◌, ℕ, List}
use Rattle.values.specs.Datum.{Datum}
use Rattle.values.specs.Sink.{SinkFacts}
use Rattle.values.specs.declared.value.Ty.{Ty}
use Rattle.values.specs.declared.fault.Fault.{Fault}
use Rattle.values.specs.declared.fault.Fault.TheVariants.{Changed, Overflow}
use Rattle.semantics.specs.Query.{QueryData}
use Rattle.values.specs.Row.{Row}
use Rattle.values.specs.Database.{Database}
use Rattle.semantics.specs.Answer.{Begins, IsStandIn, Permits}
use Rattle.semantics.specs.Hits.{Hits}
use Rattle.semantics.specs.Typed.{FitTypes, HasTypes}
use Rattle.schema_tables.specs.ColumnTypes.{column_types}
use Rattle.schema_tables.specs.TableData.{TableData}
use Rattle.integrity.specs.Denotes.{Denotes}
use Rattle.operators_runs.specs.Printed.{Prints, PrintsUntil}

-- over the tables that the image denotes, this holds of their rows
pub record OverTables (image : List ℕ) (tables : List TableData) (Says : Database → Type 0) : Type 0 where
  pub database : Database
  pub denotes : Denotes image tables database
  pub says : Says database

-- the query permits these rows of a database, whose values have the types of the query's columns or are NULL
pub record IsAnswer (w : Datum) (tables : List TableData) (query : QueryData) (rows : List Row) (database : Database) : Type 0 where
  pub permits : Permits w database query rows
  pub typed : (types : List Ty) → HasTypes (column_types tables) query types → FitTypes types rows

-- whatever value stands for results out of range, the rows are an answer over the tables that the image denotes
abbrev pub IsAnswerOver : List ℕ → List TableData → QueryData → List Row → Type 0
IsAnswerOver image tables query rows = (w : Datum) → IsStandIn w → OverTables image tables (IsAnswer w tables query rows)

-- the exact answer: what was written is the text of one list of rows that is an answer
pub record PrintsAnswer (image : List ℕ) (tables : List TableData) (query : QueryData) (counted : ℕ) (old new : SinkFacts) : Type 0 where
  pub rows : List Row
  pub answer : IsAnswerOver image tables query rows
  pub prints : Prints rows counted old new

-- The same of the rows that were given before a fault, which an answer may begin with. The image hasn't changed, and where
-- it was an overflow, the query can reach what leaves 64 bits.
pub record PrintsBeginning (fault : Fault) (image : List ℕ) (tables : List TableData) (query : QueryData) (old new : SinkFacts) : Type 0 where
  pub given : List Row
  pub begins : (w : Datum) → IsStandIn w → OverTables image tables (λ database. Begins w database query given)
  pub prints : PrintsUntil fault given old new
  pub same_image : ¬ (fault ≡ Changed)
  pub hits : fault ≡ Overflow → (w : Datum) → IsStandIn w → OverTables image tables (λ database. Hits w database query)
