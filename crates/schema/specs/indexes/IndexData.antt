-- What is known of an index. (CREATE INDEX)
use Rattle.std.specs.Prelude.{Bool, ℕ, List, Option}
use Rattle.sql_reader_grammar.specs.declared.create_trees.create.KeyOrder.{KeyOrder}
use Rattle.expr.specs.Term.{Term}
use Rattle.sql_reader_syntax.specs.Tree.{Name}

-- a column of an index: its place in the table, and its order
pub record IndexedData : Type 0 where
  pub place : ℕ
  pub order : KeyOrder

-- An index: its name as it was declared, the name of its table, the page at the root of its tree, its columns, the places of the
-- further columns that an entry has behind these where the table has no rowids, whether no two rows may agree in its columns,
-- and the condition of its rows, if it leaves any out.
pub record IndexData : Type 0 where
  pub name : Name
  pub table : Name
  pub root : ℕ
  pub columns : List IndexedData
  pub others : List ℕ
  pub is_unique : Bool
  pub condition : Option Term
