-- The database that an image denotes whose tables are stored.
use Rattle.std.proofs.Common.{◌≡◌, ℕ, All, List, [], ◌∷◌, refl}
use Rattle.std.specs.List.{AllZip}
use Rattle.std.proofs.lemmas.List.Elements.{All-head, All-tail}
use Rattle.btree.specs.declared.image.kind.TreeKind.TheVariants.{Table}
use Rattle.btree.specs.image.Pages.{pages_of, Pages}
use Rattle.btree.specs.image.Shape.{places_under}
use Rattle.values.specs.Row.{Row}
use Rattle.values.specs.Database.{Database}
use Rattle.schema_tables.specs.TableData.{RowKeyData, TableData, schema_table}
use Rattle.records_tables.specs.stored_rows.Stored.{Fits}
use Rattle.records_tables.proofs.lemmas.stored_rows.OneLemmas.{one_rows}
use Rattle.integrity.specs.Denotes.{Denotes, HasTables}
use Rattle.records_tables.specs.Tables.{IsAnyStored, IsStoredBy}
use Rattle.integrity.specs.Tables.{HoldsAnyRows, HoldsRowsBy}

-- a table is stored with these rows
pub record IsStoredAs (pages : Pages) (table : TableData) (rows : List Row) : Type 0 where
  pub stored : IsAnyStored pages table
  pub rows_are : stored.rows ≡ rows

-- the rows of each table, and of the schema's own
pub record HasDatabase (image : List ℕ) (tables : List TableData) : Type 0 where
  pub db : Database
  pub denotes : Denotes image tables db
  pub own : IsStoredAs (pages_of image) schema_table db.schema
  pub stored : AllZip (IsStoredAs (pages_of image)) tables db.tables

module _ (pages : Pages) where
  rows_of : (tables : List TableData) → All (IsAnyStored pages) tables → List (List Row)
  rows_of [] all = []
  rows_of (table ∷ tables) all =
      (All-head (IsAnyStored pages) table tables all).rows ∷ rows_of tables (All-tail (IsAnyStored pages) table tables all)

  -- what holds of a stored table and its rows holds of each
  each : (R : TableData → List Row → Type 0) → ((table : TableData) (is : IsAnyStored pages table) → R table is.rows)
      → (tables : List TableData) (all : All (IsAnyStored pages) tables) → AllZip R tables (rows_of tables all)
  unfolding rows_of
  each R holds [] all = tt
  each R holds (table ∷ tables) all =
      (holds table (All-head (IsAnyStored pages) table tables all), each R holds tables (All-tail (IsAnyStored pages) table tables all))

  holds_rows : (key : RowKeyData) (table : TableData) (levels : ℕ) (rows : List Row) → IsStoredBy key pages table levels rows → HoldsRowsBy key pages table rows
  holds_rows (RowKeyData.Rowid place) table levels rows is = record {
    places = places_under pages Table levels table.root;
    cells = is.cells;
    rows_are = is.rows_are;
  }
  holds_rows (RowKeyData.Primary places) table levels rows is = is.holds

  rows_fit : (key : RowKeyData) (table : TableData) (levels : ℕ) (rows : List Row) → IsStoredBy key pages table levels rows → All (Fits table) rows
  rows_fit (RowKeyData.Rowid place) table levels rows is = is.fit
  rows_fit (RowKeyData.Primary places) table levels rows is = is.fit

-- the rows that the tables are stored with are those that the image denotes
pub database_of : (image : List ℕ) (tables : List TableData) → HasTables (pages_of image) tables → HasDatabase image tables
database_of image tables has =
    let pages = pages_of image in
    record {
      db = record { schema = has.schema; tables = rows_of pages tables has.stored };
      denotes = record {
        indexes = has.indexes;
        catalog = has.catalog;
        rows = each pages (HoldsAnyRows pages) (λ table is. holds_rows pages table.key table is.levels is.rows is.stored) tables has.stored;
        fit = each pages (λ table rows. All (Fits table) rows) (λ table is. rows_fit pages table.key table is.levels is.rows is.stored) tables has.stored;
      };
      own = record {
        stored = has.own;
        rows_are = one_rows pages schema_table has.own.rows has.schema
            (holds_rows pages schema_table.key schema_table has.own.levels has.own.rows has.own.stored) has.catalog.stored;
      };
      stored = each pages (IsStoredAs pages) (λ table is. record { stored = is; rows_are = refl }) tables has.stored;
    }
