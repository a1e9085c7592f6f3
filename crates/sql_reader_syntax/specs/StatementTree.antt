-- The tree of a statement, without where it lies in memory. (SELECT; EXPLAIN QUERY PLAN)
use Rattle.std.specs.Prelude.{Bool, ℤ, List, Option}
use Rattle.sql_reader_syntax.specs.ExprTree.{QueryTree, TermTrees}
use Rattle.sql_reader_syntax.specs.Tree.{Name}

-- an item of WITH, with the names of its columns, or none
pub record ItemTree : Type 0 where
  pub name : Name
  pub columns : List Name
  pub query : QueryTree

pub record StatementTree : Type 0 where
  -- whether EXPLAIN QUERY PLAN is written
  pub explain : Bool
  pub items : List ItemTree
  pub query : QueryTree
  pub order : TermTrees
  pub limit : Option ℤ
  pub offset : Option ℤ
