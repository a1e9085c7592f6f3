-- The indexes that SQLite makes for the keys of a table, no two of which have the same list of columns. (CREATE TABLE, "UNIQUE
-- constraints"; ROWIDs and the INTEGER PRIMARY KEY; WITHOUT ROWID Tables; Database File Format, 2.6.1)
use Rattle.std.specs.Prelude.{◌≡◌, true, ℕ, ◌+◌, List, [], ◌∷◌}
use Rattle.std.specs.List.{Any}
use Rattle.sql_reader_grammar.specs.create_trees.CreateTrees.{ColumnTree, TableTree}
use Rattle.schema_keys.specs.Created.{IsRowless}
use Rattle.schema_keys.specs.Names.{IsSameName}
use Rattle.schema_keys.specs.Types.{IsInteger}
use Rattle.sql_reader_syntax.specs.Tree.{Name}
use Rattle.schema_keys.specs.declared_keys.Keys.{KeyData}

-- an index that SQLite makes: its number among those of its table, and the names of its columns
pub record AutomaticData : Type 0 where
  pub number : ℕ
  pub columns : List Name

-- one of the columns is called so, and is INTEGER
abbrev pub IsIntegerIn : List ColumnTree → Name → Type 0
IsIntegerIn columns name = Any (λ c. IsSameName c.name name × IsInteger c.ty) columns

-- one name alone, that of a column that is INTEGER
abbrev pub IsOneInteger : List ColumnTree → List Name → Type 0
IsOneInteger columns (name ∷ []) = IsIntegerIn columns name
IsOneInteger columns _ = ⊥

-- PRIMARY KEY of one column that is INTEGER: this column is the rowid, where the table has rowids
pub record IsIntegerKey (tree : TableTree) (key : KeyData) : Type 0 where
  pub primary_is : key.is_primary ≡ true
  pub alone : IsOneInteger tree.columns key.columns

-- another PRIMARY KEY of a table without rowids: the table's own tree is by this key
pub record IsTableKey (tree : TableTree) (key : KeyData) : Type 0 where
  pub primary_is : key.is_primary ≡ true
  pub rowless : IsRowless tree.options
  pub other : ¬ IsIntegerKey tree key

-- Keys in textual order, the first of which takes this number if it takes one, and the indexes that SQLite makes for them: one
-- for each, but for the PRIMARY KEY of a table without rowids, which only takes a number, and for that of one column that is
-- INTEGER, which takes none, or none before all others have theirs.
pub data WantIndexes (tree : TableTree) : ℕ → List KeyData → List AutomaticData → Type 0 where
  end : {number : ℕ} → WantIndexes tree number [] []
  index : {number : ℕ} {key : KeyData} {keys : List KeyData} {indexes : List AutomaticData} → ¬ IsIntegerKey tree key
      → ¬ IsTableKey tree key → WantIndexes tree (number + 1) keys indexes
      → WantIndexes tree number (key ∷ keys) (record { number = number; columns = key.columns } ∷ indexes)
  table : {number : ℕ} {key : KeyData} {keys : List KeyData} {indexes : List AutomaticData} → IsTableKey tree key
      → WantIndexes tree (number + 1) keys indexes → WantIndexes tree number (key ∷ keys) indexes
  integer : {number : ℕ} {key : KeyData} {keys : List KeyData} {indexes : List AutomaticData} → IsIntegerKey tree key
      → WantIndexes tree number keys indexes → WantIndexes tree number (key ∷ keys) indexes
