-- Why a schema was refused. (The Schema Table; the faults of docs/FAULTS.md)
use Rattle.std.specs.Prelude.{◌≡◌, ◌≤◌, ◌<◌, ◌⊎◌, ℕ, pos, Contains, List, length, None, Some, string_bytes}
use Rattle.values.specs.Row.{Row}
use Rattle.values.specs.declared.fault.Fault.{Fault}
use Rattle.values.specs.declared.fault.Fault.TheVariants as f
use Rattle.sql_reader_creates.specs.CreateGrammar.{SpellsCreate}
use Rattle.sql_reader_creates.specs.IndexTexts.{SpellsIndex, SpellsNoIndex}
use Rattle.sql_reader_creates.specs.IndexTexts as index_texts
use Rattle.sql_reader_grammar.specs.phrases.Texts.{max_columns, max_text}
use Rattle.sql_reader_grammar.specs.create_trees.CreateTrees.{IndexTree, TableTree, columns_of_table}
use Rattle.schema.specs.indexes.IndexData.{IndexData}
use Rattle.schema.specs.indexes.Indexed.{IsIndex}
use Rattle.schema.specs.indexes.KeyIndexes.{automatic_name}
use Rattle.schema_keys.specs.Created.{IsTable}
use Rattle.schema_keys.specs.Names.{IsSameName}
use Rattle.schema_keys.specs.Rows.{SaysTable}
use Rattle.schema_tables.specs.TableData.{TableData}
use Rattle.sql_reader_syntax.specs.Tree.{Name}
use Rattle.schema_keys.specs.table_keys.Automatic.{AutomaticData}
use Rattle.schema.specs.Wanted.{HasKeyRow, IsKeyRow, WantsIndex}
use Rattle.schema.specs.Objects.{ObjectData, object_row}
use Rattle.schema.specs.Says.{AreTablesOf, Doubled, HasTree}
use Rattle.schema.specs.declared.objects.Kind.{Kind}
use Rattle.schema.specs.declared.objects.Kind.TheVariants as k

-- an object of this kind, with this text
pub record HasText (kind : Kind) (sql : List ℕ) (object : ObjectData) : Type 0 where
  pub kind_is : object.kind ≡ kind
  pub sql_is : object.sql ≡ Some sql

-- an object that isn't as SQLite writes it
pub data IsBadObject (pages : ℕ) (object : ObjectData) : Type 0 where
  -- its root is the first page, or none of the image
  rootless : HasTree object.kind → ((page : ℕ) → 2 ≤ page → page ≤ pages → ¬ (object.root ≡ Some (pos page)))
      → IsBadObject pages object
  -- NULL stands for its text, as it does for that of an index alone
  textless : object.sql ≡ None → ¬ (object.kind ≡ k.Index) → IsBadObject pages object
  -- its names aren't those of its text
  table_names : (sql : List ℕ) (tree : TableTree) → HasText k.Table sql object → SpellsCreate sql tree
      → ¬ (IsSameName object.name tree.name × IsSameName object.owner tree.name) → IsBadObject pages object
  index_names : (sql : List ℕ) (tree : IndexTree) → HasText k.Index sql object → SpellsIndex sql tree
      → ¬ (IsSameName object.name tree.name × IsSameName object.owner tree.table) → IsBadObject pages object

-- the text of a table spells nothing; it is too long, or spells too much
abbrev pub SpellsNoTable : List ℕ → Type 0
SpellsNoTable sql = (tree : TableTree) → ¬ SpellsCreate sql tree

abbrev pub IsTableTooMuch : List ℕ → Type 0
IsTableTooMuch sql = (max_text < length sql) ⊎ ((tree : TableTree) × SpellsCreate sql tree × (max_columns < columns_of_table tree))

-- a table or an index whose text is none
pub data IsUnread (object : ObjectData) : Type 0 where
  table : (sql : List ℕ) → HasText k.Table sql object → SpellsNoTable sql → IsUnread object
  index : (sql : List ℕ) → HasText k.Index sql object → SpellsNoIndex sql → IsUnread object

-- an object of what is left out: a view, a text beyond the limits, one that makes no table, or one that makes no index on a
-- table of the image
pub data IsLeftOut (pages : ℕ) (rows : List Row) (object : ObjectData) : Type 0 where
  view : object.kind ≡ k.View → IsLeftOut pages rows object
  table_limit : (sql : List ℕ) → HasText k.Table sql object → IsTableTooMuch sql
      → IsLeftOut pages rows object
  index_limit : (sql : List ℕ) → HasText k.Index sql object → index_texts.IsTooMuch sql
      → IsLeftOut pages rows object
  table : (sql : List ℕ) (tree : TableTree) → HasText k.Table sql object → SpellsCreate sql tree
      → ((table : TableData) → ¬ IsTable tree table) → IsLeftOut pages rows object
  index : (sql : List ℕ) (tree : IndexTree) (row : Row) (table : TableData) → HasText k.Index sql object → SpellsIndex sql tree
      → Contains rows row → SaysTable pages row table → IsSameName tree.table table.name
      → ((index : IndexData) → ¬ IsIndex tree table index) → IsLeftOut pages rows object

-- SchemaRow: one of the rows isn't as SQLite writes it
pub data IsBadSchema (pages : ℕ) (rows : List Row) : Type 0 where
  row : (row : Row) → Contains rows row → ((object : ObjectData) → ¬ (row ≡ object_row object)) → IsBadSchema pages rows
  object : (object : ObjectData) → Contains rows (object_row object) → IsBadObject pages object → IsBadSchema pages rows
  -- an index is that of no table
  ownerless : (object : ObjectData) → Contains rows (object_row object) → object.kind ≡ k.Index
      → ((table : ObjectData) → Contains rows (object_row table) → table.kind ≡ k.Table → ¬ IsSameName object.owner table.name)
      → IsBadSchema pages rows
  -- an index has no text, and no key of a table wants one of its name
  unwanted : (object : ObjectData) (tables : List TableData) → Contains rows (object_row object) → object.kind ≡ k.Index
      → object.sql ≡ None → AreTablesOf pages rows tables
      → ((row : Row) (table : TableData) (automatic : AutomaticData) → Contains rows row → WantsIndex pages row table automatic
      → ¬ IsKeyRow table.name (automatic_name table.name automatic.number) (object_row object)) → IsBadSchema pages rows
  -- an index that a key of a table wants has no row
  lacking : (row : Row) (table : TableData) (automatic : AutomaticData) → Contains rows row → WantsIndex pages row table automatic
      → ¬ HasKeyRow rows table.name (automatic_name table.name automatic.number) → IsBadSchema pages rows
  doubled : Doubled rows → IsBadSchema pages rows

-- one of the rows is that of an object of this name that is so
pub record HasObject (Is : ObjectData → Type 0) (rows : List Row) (name : Name) : Type 0 where
  pub object : ObjectData
  pub stands : Contains rows (object_row object)
  pub name_is : name ≡ object.name
  pub is : Is object

-- the condition of the rows of the schema that a fault says is broken
abbrev pub IsBrokenSchema : ℕ → List Row → Fault → Type 0
IsBrokenSchema pages rows f.SchemaRow = IsBadSchema pages rows
IsBrokenSchema pages rows (f.SchemaText name) = HasObject IsUnread rows (string_bytes name)
IsBrokenSchema pages rows (f.UnsupportedObject name) = HasObject (IsLeftOut pages rows) rows (string_bytes name)
IsBrokenSchema pages rows _ = ⊥

-- why the rows of the schema were refused
abbrev pub IsRefusedSchema : ℕ → List Row → Fault → Type 0
IsRefusedSchema pages rows f.NoMemory = Unit {0}
IsRefusedSchema pages rows fault = IsBrokenSchema pages rows fault
