-- What is known of a table: its name, where its tree is, and its columns. (Database File Format, section 2.6)
use Rattle.std.specs.Prelude.{Bool, false, ℕ, ◌<◌, All, List, [], ◌∷◌, codes, Option, None, Some}
use Rattle.values.specs.Datum.{Datum}
use Rattle.values.specs.declared.value.Ty.{Ty}
use Rattle.values.specs.declared.value.Ty.TheVariants.{Int, Text}
use Rattle.sql_reader_syntax.specs.Tree.{Name}

-- what a row has in a column that was added after it was written: a value, or one that isn't looked for (ALTER TABLE
-- ADD COLUMN)
pub data MissingData : Type 0 where
  Fill : Datum → MissingData
  Refused : MissingData

-- a column: its name as it was declared, the type of its values, whether none of them may be NULL, and what older rows
-- have in it
pub record ColumnData : Type 0 where
  pub name : Name
  pub ty : Ty
  pub not_null : Bool
  pub missing : MissingData

-- How the rows of a table are found in its tree: by their rowids, with the place of the column that is the rowid, where there is
-- one; or by the columns of the PRIMARY KEY at these places, in the key's order. (ROWIDs and the INTEGER PRIMARY KEY; WITHOUT
-- ROWID Tables)
pub data RowKeyData : Type 0 where
  Rowid : Option ℕ → RowKeyData
  Primary : List ℕ → RowKeyData

-- A table: its name as it was declared, the page at the root of its tree, its columns, and how its rows are found.
pub record TableData : Type 0 where
  pub name : Name
  pub root : ℕ
  pub columns : List ColumnData
  pub key : RowKeyData

-- the place of the column that is the rowid, where there is one
abbrev pub rowid_of : RowKeyData → Option ℕ
rowid_of (RowKeyData.Rowid place) = place
rowid_of (RowKeyData.Primary places) = None

-- a place, where there is one, is that of one of so many columns
abbrev pub IsPlaceIn : Option ℕ → ℕ → Type 0
IsPlaceIn None count = Unit {0}
IsPlaceIn (Some at) count = at < count

-- the places that a key names are those of some of so many columns
abbrev pub IsKeyWithin : RowKeyData → ℕ → Type 0
IsKeyWithin (RowKeyData.Rowid place) count = IsPlaceIn place count
IsKeyWithin (RowKeyData.Primary places) count = All (λ place. place < count) places

-- a column of the schema's table, in which each row has its own value or NULL
abbrev pub nullable : Name → Ty → ColumnData
nullable name ty = record { name = name; ty = ty; not_null = false; missing = MissingData.Refused }

-- the table in which each object of the schema has a row (The Schema Table)
abbrev pub schema_table : TableData
schema_table = record {
  name = codes "sqlite_schema";
  root = 1;
  columns = nullable (codes "type") Text ∷ nullable (codes "name") Text ∷ nullable (codes "tbl_name") Text
      ∷ nullable (codes "rootpage") Int ∷ nullable (codes "sql") Text ∷ [];
  key = RowKeyData.Rowid None;
}
