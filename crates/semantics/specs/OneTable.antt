-- SELECT of columns of one table, which gives these columns of each of its rows.
use Rattle.std.specs.Prelude.{◌≡◌, ◌<◌, ℕ, All, List, [], ◌++◌, length, map, slice_get, slice_index_or, Some}
use Rattle.values.specs.Database.{Database}
use Rattle.values.specs.Datum.{Datum}
use Rattle.values.specs.Row.{Row}
use Rattle.values.specs.declared.value.Ty.{Ty}
use Rattle.semantics.specs.Query.{columns_of_table}
use Rattle.semantics.specs.Sequence.{value_at}
use Rattle.semantics.specs.Answer.{Begins, Permits}
use Rattle.semantics.specs.Typed.{IsTyped}

-- the values at these places of a row
abbrev pub shown : List ℕ → Row → Row
shown places row = map (value_at row) places

-- these columns of the table's rows, in the order in which these are listed
abbrev pub ScanIsPermitted : Type 0
ScanIsPermitted = (w : Datum) (db : Database) (at width : ℕ) (places : List ℕ)
    → Permits w db (columns_of_table at width places) (map (shown places) (slice_index_or db.tables at []))

-- what is listed first begins such an answer
abbrev pub ScanBegins : Type 0
ScanBegins = (w : Datum) (db : Database) (at width : ℕ) (places : List ℕ) (given rest : List Row)
    → map (shown places) (slice_index_or db.tables at []) ≡ given ++ rest → Begins w db (columns_of_table at width places) given

-- it is typed where its columns are the table's, which has so many
abbrev pub ScanIsTyped : Type 0
ScanIsTyped = (catalog : List (List Ty)) (at width : ℕ) (row : List Ty) (places : List ℕ) → slice_get catalog at ≡ Some row → width ≡ length row
    → All (λ place. place < length row) places → IsTyped catalog (columns_of_table at width places)

-- and nowhere else
abbrev pub ScanNamesColumns : Type 0
ScanNamesColumns = (catalog : List (List Ty)) (at width : ℕ) (row : List Ty) (places : List ℕ) → IsTyped catalog (columns_of_table at width places)
    → slice_get catalog at ≡ Some row → (width ≡ length row) × All (λ place. place < length row) places
