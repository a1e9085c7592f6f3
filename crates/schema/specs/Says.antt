-- What the rows of the schema say. (The Schema Table)
use Rattle.std.specs.Prelude.{◌≡◌, ◌≤◌, ◌<◌, ◌⊎◌, ℕ, pos, Contains, List, None, slice_get, Some}
use Rattle.values.specs.Row.{Row}
use Rattle.sql_reader_creates.specs.IndexTexts.{SpellsIndex}
use Rattle.sql_reader_grammar.specs.phrases.Texts.{AreWithinLimits}
use Rattle.sql_reader_grammar.specs.create_trees.CreateTrees.{IndexTree, columns_of_index}
use Rattle.schema.specs.indexes.IndexData.{IndexData}
use Rattle.schema.specs.indexes.Indexed.{IsIndex}
use Rattle.schema.specs.indexes.KeyIndexes.{IsKeyIndex, KeyIndexData, automatic_name, rooted}
use Rattle.schema_keys.specs.Names.{IsSameName}
use Rattle.schema_keys.specs.Rows.{SaysTable}
use Rattle.schema_tables.specs.TableData.{TableData}
use Rattle.schema_keys.specs.table_keys.Automatic.{AutomaticData}
use Rattle.schema.specs.CatalogData.{CatalogData}
use Rattle.schema.specs.Wanted.{HasKeyRow, IsKeyRow, WantsIndex}
use Rattle.schema.specs.Objects.{ObjectData, object_row}
use Rattle.schema.specs.Picks.{Picks}
use Rattle.schema.specs.declared.objects.Kind.{Kind}
use Rattle.schema.specs.declared.objects.Kind.TheVariants as k

-- a row of an object of this kind
pub record IsOfKind (kind : Kind) (row : Row) : Type 0 where
  pub object : ObjectData
  pub row_is : row ≡ object_row object
  pub kind_is : object.kind ≡ kind

-- A row is that of an index on one of these tables, of an image of so many pages: it has the index's name, its table's name,
-- the root of its tree, and the text that creates it.
pub record SaysIndex (pages : ℕ) (tables : List TableData) (row : Row) (index : IndexData) : Type 0 where
  pub object : ObjectData
  pub sql : List ℕ
  pub tree : IndexTree
  pub table : TableData
  pub row_is : row ≡ object_row object
  pub kind_is : object.kind ≡ k.Index
  pub root_is : object.root ≡ Some (pos index.root)
  pub sql_is : object.sql ≡ Some sql
  pub spelt : SpellsIndex sql tree
  pub within : AreWithinLimits columns_of_index sql tree
  pub name_is : IsSameName object.name tree.name
  pub owner_is : IsSameName object.owner tree.table
  pub of_table : Contains tables table
  pub least : 2 ≤ index.root
  pub most : index.root ≤ pages
  pub created : IsIndex tree table index

-- A row is that of an index that SQLite makes for a key of a table of which one of the rows is: it has NULL for its text, the
-- name that SQLite gives it, its table's name, and the root of its tree.
pub record SaysKeyIndex (pages : ℕ) (rows : List Row) (row : Row) (index : IndexData) : Type 0 where
  pub table_row : Row
  pub stands : Contains rows table_row
  pub table : TableData
  pub automatic : AutomaticData
  pub wants : WantsIndex pages table_row table automatic
  pub key_index : KeyIndexData
  pub made : IsKeyIndex table automatic key_index
  pub key_row : IsKeyRow table.name (automatic_name table.name automatic.number) row
  pub root_is : key_row.object.root ≡ Some (pos index.root)
  pub least : 2 ≤ index.root
  pub most : index.root ≤ pages
  pub index_is : index ≡ rooted key_index table.name index.root

-- a row is that of an index of either kind
abbrev pub SaysAnyIndex : ℕ → List Row → List TableData → Row → IndexData → Type 0
SaysAnyIndex pages rows tables row index = SaysIndex pages tables row index ⊎ SaysKeyIndex pages rows row index

-- a row of a trigger, for whose text NULL doesn't stand
pub record IsTrigger (row : Row) : Type 0 where
  pub object : ObjectData
  pub row_is : row ≡ object_row object
  pub kind_is : object.kind ≡ k.Trigger
  pub has_text : ¬ (object.sql ≡ None)

-- a row of an index or a trigger
abbrev pub IsNoTable : Row → Type 0
IsNoTable row = IsOfKind k.Index row ⊎ IsTrigger row

-- a row of a table or a trigger
abbrev pub IsNoIndex : Row → Type 0
IsNoIndex row = IsOfKind k.Table row ⊎ IsOfKind k.Trigger row

-- these are the tables that the rows say
abbrev pub AreTablesOf : ℕ → List Row → List TableData → Type 0
AreTablesOf pages = Picks (SaysTable pages) IsNoTable

-- and these the indexes
abbrev pub AreIndexesOf : ℕ → List TableData → List Row → List IndexData → Type 0
AreIndexesOf pages tables rows = Picks (SaysAnyIndex pages rows tables) IsNoIndex rows

-- a table or an index, which has a tree and a name of its own
abbrev pub HasTree : Kind → Type 0
HasTree k.Table = Unit {0}
HasTree k.Index = Unit {0}
HasTree _ = ⊥

-- two rows of tables or indexes have one name
pub record Doubled (rows : List Row) : Type 0 where
  pub first : ℕ
  pub second : ℕ
  pub before : first < second
  pub one : ObjectData
  pub other : ObjectData
  pub one_is : slice_get rows first ≡ Some (object_row one)
  pub other_is : slice_get rows second ≡ Some (object_row other)
  pub one_has_tree : HasTree one.kind
  pub other_has_tree : HasTree other.kind
  pub same : IsSameName one.name other.name

-- each index that a key of a table wants has a row
abbrev pub AreKept : ℕ → List Row → Type 0
AreKept pages rows = (row : Row) (table : TableData) (automatic : AutomaticData) → Contains rows row → WantsIndex pages row table automatic
    → HasKeyRow rows table.name (automatic_name table.name automatic.number)

-- The rows of the schema are those of these tables and indexes, each of its own name, and of triggers. Each index that a key
-- wants is among them, and no other without a text.
pub record IsCatalog (pages : ℕ) (rows : List Row) (catalog : CatalogData) : Type 0 where
  pub tables_are : AreTablesOf pages rows catalog.tables
  pub indexes_are : AreIndexesOf pages catalog.tables rows catalog.indexes
  pub kept : AreKept pages rows
  pub distinct : ¬ Doubled rows
