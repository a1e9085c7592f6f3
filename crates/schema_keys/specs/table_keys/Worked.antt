-- Tables with four keys, and the indexes that SQLite makes for them.
use Rattle.std.specs.Prelude.{ℕ, false, List, [], ◌∷◌, codes, None}
use Rattle.sql_reader_grammar.specs.create_trees.CreateTrees.{ColumnTree, ConstraintTree, IndexedColumnTree, TableConstraintTree, TableTree}
use Rattle.sql_reader_grammar.specs.declared.create_trees.create.KeyOrder.TheVariants.{Ascending}
use Rattle.sql_reader_grammar.specs.declared.create_trees.create.TableOption.{TableOption}
use Rattle.sql_reader_grammar.specs.declared.create_trees.create.TableOption.TheVariants.{Strict, WithoutRowid}
use Rattle.sql_reader_syntax.specs.Tree.{Name}
use Rattle.schema_keys.specs.table_keys.Automatic.{AutomaticData, WantIndexes}
use Rattle.schema_keys.specs.declared_keys.Keys.{keys_of}

abbrev column : Name → List ℕ → ConstraintTree → ColumnTree
column name word constraint = record {
  name = name;
  ty = record { words = word ∷ []; is_sized = false };
  constraints = constraint ∷ [];
}

abbrev named : Name → IndexedColumnTree
named name = record { name = name; collation = None; order = Ascending }

-- CREATE TABLE v(b TEXT UNIQUE, a TYPE PRIMARY KEY, c INT UNIQUE, UNIQUE (c, b)), with this type and these options
abbrev pub worked_table : List ℕ → List TableOption → TableTree
worked_table type_of_key options = record {
  name = codes "v";
  columns =
      column (codes "b") (codes "TEXT") ConstraintTree.Unique
      ∷ column (codes "a") type_of_key (ConstraintTree.PrimaryKey Ascending false)
      ∷ column (codes "c") (codes "INT") ConstraintTree.Unique ∷ [];
  constraints = TableConstraintTree.Unique (named (codes "c") ∷ named (codes "b") ∷ []) ∷ [];
  options = options;
}

abbrev index_on : ℕ → List Name → AutomaticData
index_on number columns = record { number = number; columns = columns }

-- these are the numbers of the indexes for b, c, and c with b
abbrev AreNumbers : TableTree → ℕ → ℕ → ℕ → Type 0
AreNumbers tree first second third =
    WantIndexes tree 1 (keys_of tree)
    (index_on first (codes "b" ∷ []) ∷ index_on second (codes "c" ∷ []) ∷ index_on third (codes "c" ∷ codes "b" ∷ []) ∷ [])

-- INTEGER; STRICT
abbrev pub RowidTakesNone : Type 0
RowidTakesNone = AreNumbers (worked_table (codes "INTEGER") (Strict ∷ [])) 1 2 3

-- INT; STRICT, WITHOUT ROWID
abbrev pub KeyTakesOne : Type 0
KeyTakesOne = AreNumbers (worked_table (codes "INT") (Strict ∷ WithoutRowid ∷ [])) 1 3 4
