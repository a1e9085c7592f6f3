-- The trees of a CREATE TABLE and of a CREATE INDEX, without where they lie in memory.
use Rattle.std.specs.Prelude.{Bool, ℕ, ℤ, List, Option, length}
use Rattle.sql_reader_syntax.specs.ExprTree.{ExprTree}
use Rattle.sql_reader_syntax.specs.Tree.{Name}
use Rattle.sql_reader_grammar.specs.declared.create_trees.create.KeyOrder.{KeyOrder}
use Rattle.sql_reader_grammar.specs.declared.create_trees.create.TableOption.{TableOption}

-- the type of a column: its words, of which there may be none, and whether numbers in parentheses stand behind them
pub record TypeTree : Type 0 where
  pub words : List Name
  pub is_sized : Bool

-- what stands behind DEFAULT
pub data DefaultTree : Type 0 where
  Null : DefaultTree
  Number : ℤ → DefaultTree
  -- a number behind a minus, without it
  Negative : ℤ → DefaultTree
  Text : List ℕ → DefaultTree
  Blob : List ℕ → DefaultTree
  -- a parenthesis, whose expression isn't kept
  Expression : DefaultTree

-- a constraint, without its own name
pub data ConstraintTree : Type 0 where
  -- the order, and whether AUTOINCREMENT is written
  PrimaryKey : KeyOrder → Bool → ConstraintTree
  NotNull : ConstraintTree
  Unique : ConstraintTree
  Check : ConstraintTree
  Default : DefaultTree → ConstraintTree
  -- the name of the collation
  Collate : Name → ConstraintTree
  References : ConstraintTree

-- a column, with its constraints as they are written
pub record ColumnTree : Type 0 where
  pub name : Name
  pub ty : TypeTree
  pub constraints : List ConstraintTree

-- a column of a key, as it is written
pub record IndexedColumnTree : Type 0 where
  pub name : Name
  -- the name of the collation, where one is written
  pub collation : Option Name
  pub order : KeyOrder

-- a constraint of a table, without its own name
pub data TableConstraintTree : Type 0 where
  PrimaryKey : List IndexedColumnTree → TableConstraintTree
  Unique : List IndexedColumnTree → TableConstraintTree
  Check : TableConstraintTree
  -- the columns of this table
  ForeignKey : List Name → TableConstraintTree

-- a table, with its constraints and options as they are written
pub record TableTree : Type 0 where
  pub name : Name
  pub columns : List ColumnTree
  pub constraints : List TableConstraintTree
  pub options : List TableOption

abbrev pub columns_of_table : TableTree → ℕ
columns_of_table tree = length tree.columns

-- an index, as it is written: its name, and that of its table
pub record IndexTree : Type 0 where
  pub name : Name
  pub table : Name
  pub is_unique : Bool
  pub columns : List IndexedColumnTree
  -- what stands behind WHERE
  pub condition : Option ExprTree

abbrev pub columns_of_index : IndexTree → ℕ
columns_of_index tree = length tree.columns
