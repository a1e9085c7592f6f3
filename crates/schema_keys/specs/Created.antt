-- The table that a CREATE TABLE makes. (CREATE TABLE; STRICT Tables; ROWIDs and the INTEGER PRIMARY KEY; WITHOUT ROWID Tables)
use Rattle.std.specs.Prelude.{◌≡◌, ◌↔◌, ◌⊎◌, Bool, true, false, IsTrue, ℕ, All, Contains, List, [], ◌∷◌, codes, map, slice_get, Option, None, Some}
use Rattle.std.specs.List.{AllZip, Any}
use Rattle.sql_reader_grammar.specs.create_trees.CreateTrees.{ConstraintTree, ColumnTree, IndexedColumnTree, TableConstraintTree, TableTree}
use Rattle.schema_keys.specs.declared_keys.Keys.{KeyData, keys_of}
use Rattle.schema_keys.specs.Missing.{IsMissingValue}
use Rattle.schema_tables.specs.TableData.{ColumnData, RowKeyData, TableData}
use Rattle.sql_reader_grammar.specs.declared.create_trees.create.KeyOrder.TheVariants.{Ascending}
use Rattle.sql_reader_syntax.specs.Tree.{Name}
use Rattle.sql_reader_grammar.specs.declared.create_trees.create.TableOption.{TableOption}
use Rattle.sql_reader_grammar.specs.declared.create_trees.create.TableOption.TheVariants.{Strict, WithoutRowid}
use Rattle.schema_keys.specs.Names.{AreApart, AreDistinct, IsNameAt, IsReservedName, IsSameName}
use Rattle.schema_keys.specs.Types.{IsInteger, IsType}

-- NOT NULL
abbrev pub is_not_null : ConstraintTree → Bool
is_not_null ConstraintTree.NotNull = true
is_not_null _ = false

-- a constraint of a column with no order but that of values
abbrev pub IsServedConstraint : ConstraintTree → Type 0
IsServedConstraint (ConstraintTree.PrimaryKey order automatic) = (order ≡ Ascending) × (automatic ≡ false)
IsServedConstraint (ConstraintTree.Collate name) = IsSameName name (codes "BINARY")
IsServedConstraint _ = Unit {0}

abbrev pub AreServedConstraints : ColumnTree → Type 0
AreServedConstraints column = All IsServedConstraint column.constraints

-- what may stand behind the columns: STRICT, alone or beside WITHOUT ROWID
abbrev pub AreOptions : List TableOption → Type 0
AreOptions options =
    (options ≡ Strict ∷ []) ⊎ ((options ≡ Strict ∷ WithoutRowid ∷ []) ⊎ (options ≡ WithoutRowid ∷ Strict ∷ []))

-- a table of these options has no rowids
abbrev pub IsRowless : List TableOption → Type 0
IsRowless options = Any (λ o. o ≡ WithoutRowid) options

-- the names of columns, in their order
abbrev pub column_names : List ColumnTree → List Name
column_names columns = map (λ c. c.name) columns

-- one of the columns has this name
abbrev pub IsNamedIn : List ColumnTree → Name → Type 0
IsNamedIn columns name = Any (λ c. IsSameName c.name name) columns

-- these are columns of a table, each once
pub record AreColumns (columns : List ColumnTree) (names : List Name) : Type 0 where
  pub named : All (IsNamedIn columns) names
  pub distinct : AreDistinct names

-- no collation is written, or BINARY
abbrev pub IsBinary : Option Name → Type 0
IsBinary None = Unit {0}
IsBinary (Some collation) = IsSameName collation (codes "BINARY")

-- a column of a key, in the order of its values
abbrev pub IsPlainKeyColumn : IndexedColumnTree → Type 0
IsPlainKeyColumn x = IsBinary x.collation × (x.order ≡ Ascending)

-- a constraint of a table of these columns: a key has no order but that of values, a foreign key is of columns of the table
abbrev pub IsServedIn : List ColumnTree → TableConstraintTree → Type 0
IsServedIn columns (TableConstraintTree.PrimaryKey key) = All IsPlainKeyColumn key
IsServedIn columns (TableConstraintTree.Unique key) = All IsPlainKeyColumn key
IsServedIn columns TableConstraintTree.Check = Unit {0}
IsServedIn columns (TableConstraintTree.ForeignKey names) = AreColumns columns names

-- two keys of which a table has one at most: both are PRIMARY KEY, or both are of the same columns in the same order
abbrev pub Clash : KeyData → KeyData → Type 0
Clash a b = ((a.is_primary ≡ true) × (b.is_primary ≡ true)) ⊎ AllZip IsSameName a.columns b.columns

-- the keys of a table of these columns
pub record AreKeys (columns : List ColumnTree) (keys : List KeyData) : Type 0 where
  pub columns_are : All (λ k. AreColumns columns k.columns) keys
  pub apart : AreApart Clash keys

-- PRIMARY KEY of the column of this name alone
abbrev pub IsLonePrimaryKey : Name → KeyData → Type 0
IsLonePrimaryKey name key = (key.is_primary ≡ true) × AllZip IsSameName key.columns (name ∷ [])

-- a column that is the rowid: the table has rowids, it is INTEGER, and alone the PRIMARY KEY
abbrev pub IsRowid : List TableOption → List KeyData → ColumnTree → Type 0
IsRowid options keys column = (¬ IsRowless options) × IsInteger column.ty × Any (IsLonePrimaryKey column.name) keys

-- PRIMARY KEY of a column of this name, maybe with others
abbrev pub IsPrimaryKeyWith : Name → KeyData → Type 0
IsPrimaryKeyWith name key = (key.is_primary ≡ true) × Any (λ n. IsSameName n name) key.columns

-- no value of a column is NULL: NOT NULL says so, or it is of the PRIMARY KEY, and isn't the rowid (STRICT Tables)
abbrev pub IsNotNull : List TableOption → List KeyData → ColumnTree → Type 0
IsNotNull options keys column =
    Contains column.constraints ConstraintTree.NotNull ⊎ (Any (IsPrimaryKeyWith column.name) keys × (¬ IsRowid options keys column))

-- the column that a column's text declares, in a table of these options and keys
pub record IsColumn (options : List TableOption) (keys : List KeyData) (tree : ColumnTree) (column : ColumnData) : Type 0 where
  pub name_is : column.name ≡ tree.name
  pub ty_is : IsType tree.ty column.ty
  pub not_null_is : IsTrue column.not_null ↔ IsNotNull options keys tree
  pub missing_is : IsMissingValue tree.constraints column.missing

-- the place of the column that is the rowid, where there is one
abbrev pub IsRowidPlace : List TableOption → List KeyData → List ColumnTree → Option ℕ → Type 0
IsRowidPlace options keys columns None = All (λ c. ¬ IsRowid options keys c) columns
IsRowidPlace options keys columns (Some at) =
    (column : ColumnTree) × (slice_get columns at ≡ Some column) × IsRowid options keys column

-- PRIMARY KEY is the only key
abbrev pub IsOnlyPrimary : List KeyData → KeyData → Type 0
IsOnlyPrimary keys key = (keys ≡ key ∷ []) × (key.is_primary ≡ true)

-- these are the places of the columns of the PRIMARY KEY, which is the only key
pub record IsKeyPlaces (keys : List KeyData) (columns : List ColumnTree) (places : List ℕ) : Type 0 where
  pub key : KeyData
  pub primary : IsOnlyPrimary keys key
  pub places_are : AllZip (IsNameAt (column_names columns)) key.columns places

-- How the rows of a table of these columns are found: by their rowids, or WITHOUT ROWID by the PRIMARY KEY, beside which such a
-- table has no key.
abbrev pub IsRowKey : List TableOption → List KeyData → List ColumnTree → RowKeyData → Type 0
IsRowKey options keys columns (RowKeyData.Rowid place) = (¬ IsRowless options) × IsRowidPlace options keys columns place
IsRowKey options keys columns (RowKeyData.Primary places) = IsRowless options × IsKeyPlaces keys columns places

-- A table of this text. Its columns have different names, and its keys are of its columns: PRIMARY KEY stands once at most,
-- and no two keys are of the same columns. There is no DESC, no AUTOINCREMENT and no collation but BINARY; STRICT stands there,
-- and WITHOUT ROWID where PRIMARY KEY is the only key; a FOREIGN KEY names columns of the table, each once.
pub record IsTable (tree : TableTree) (table : TableData) : Type 0 where
  pub name_is : table.name ≡ tree.name
  pub unreserved : ¬ IsReservedName tree.name
  pub columns_are : AllZip (IsColumn tree.options (keys_of tree)) tree.columns table.columns
  pub distinct : AreDistinct (column_names tree.columns)
  pub served : All AreServedConstraints tree.columns
  pub served_in : All (IsServedIn tree.columns) tree.constraints
  pub keys_are : AreKeys tree.columns (keys_of tree)
  pub options_are : AreOptions tree.options
  pub key_is : IsRowKey tree.options (keys_of tree) tree.columns table.key
