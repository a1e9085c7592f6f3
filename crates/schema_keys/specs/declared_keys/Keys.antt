-- The keys that a CREATE TABLE declares. (CREATE TABLE, "The PRIMARY KEY", "UNIQUE constraints")
use Rattle.std.specs.Prelude.{Bool, true, false, List, [], ◌∷◌, ◌++◌, map}
use Rattle.sql_reader_grammar.specs.create_trees.CreateTrees.{ColumnTree, ConstraintTree, IndexedColumnTree, TableConstraintTree, TableTree}
use Rattle.sql_reader_syntax.specs.Tree.{Name}

-- a key: whether it is the PRIMARY KEY, or else UNIQUE, and the names of its columns in the key's order
pub record KeyData : Type 0 where
  pub is_primary : Bool
  pub columns : List Name

abbrev pub primary : List Name → List KeyData
primary columns = record { is_primary = true; columns = columns } ∷ []

abbrev pub unique : List Name → List KeyData
unique columns = record { is_primary = false; columns = columns } ∷ []

-- PRIMARY KEY or UNIQUE at the column of this name
abbrev pub key_at : Name → ConstraintTree → List KeyData
key_at name (ConstraintTree.PrimaryKey order automatic) = primary (name ∷ [])
key_at name ConstraintTree.Unique = unique (name ∷ [])
key_at name _ = []

abbrev pub keys_at : Name → List ConstraintTree → List KeyData
keys_at name [] = []
keys_at name (c ∷ constraints) = key_at name c ++ keys_at name constraints

abbrev pub keys_of_columns : List ColumnTree → List KeyData
keys_of_columns [] = []
keys_of_columns (c ∷ columns) = keys_at c.name c.constraints ++ keys_of_columns columns

abbrev pub names_of : List IndexedColumnTree → List Name
names_of columns = map (λ c. c.name) columns

-- PRIMARY KEY or UNIQUE behind the columns
abbrev pub key_behind : TableConstraintTree → List KeyData
key_behind (TableConstraintTree.PrimaryKey columns) = primary (names_of columns)
key_behind (TableConstraintTree.Unique columns) = unique (names_of columns)
key_behind _ = []

abbrev pub keys_behind : List TableConstraintTree → List KeyData
keys_behind [] = []
keys_behind (c ∷ constraints) = key_behind c ++ keys_behind constraints

-- the keys of a table, in textual order
abbrev pub keys_of : TableTree → List KeyData
keys_of tree = keys_of_columns tree.columns ++ keys_behind tree.constraints
