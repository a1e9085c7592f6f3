-- Names that stand twice where one may stand. (SELECT; WITH clause; Window Functions)
use Rattle.std.specs.Prelude.{◌≡◌, ◌++◌, ◌∷◌, Contains, List, map, Option}
use Rattle.sql_reader_syntax.specs.ExprTree.{CoreTree, FromTree, OnTree, SourceTree, TermTrees}
use Rattle.sql_reader_syntax.specs.StatementTree.{ItemTree, StatementTree}
use Rattle.sql_reader_syntax.specs.Tree.{Name}
use Rattle.sql_reader_syntax.specs.declared.query.Join.{Join}
use Rattle.semantics_names.specs.Laws.{AreDistinctInAnyCase, AreSameSources}
use Rattle.semantics_names.specs.Statement.{Named, from_tree, window_names}
use Rattle.semantics_names.specs.Typed.{Table, Types}
use Rattle.semantics_refusals.specs.Written.{BeginsFrom, HasSelectWith, called_so, names_of_sources, windows_in}

-- a SELECT has two sources that are called the same, or defines two windows of one name
pub data Repeats (items : List ItemTree) (core : CoreTree) (by : TermTrees) : Type 0 where
  source : (left : FromTree) (join : Join) (source : SourceTree) (on : OnTree) (other : Option Name)
      → BeginsFrom (FromTree.Joined left join source on) (from_tree core) → Contains (names_of_sources left) other → AreSameSources other (called_so source)
      → Repeats items core by
  window : ¬ AreDistinctInAnyCase (window_names (windows_in core)) → Repeats items core by

-- Two items of WITH have one name, or two of the columns behind an item's; or so it is in a SELECT, somewhere in the statement.
pub data HasRepeatedName (tree : StatementTree) : Type 0 where
  items : ¬ AreDistinctInAnyCase (map (λ i. i.name) tree.items) → HasRepeatedName tree
  columns : (before : List ItemTree) (i : ItemTree) (after : List ItemTree) → tree.items ≡ before ++ i ∷ after → ¬ AreDistinctInAnyCase i.columns
      → HasRepeatedName tree
  select : HasSelectWith tree Repeats → HasRepeatedName tree

-- a statement with such a name is no query
abbrev pub RepeatedIsRefused : Type 0
RepeatedIsRefused = (tables : List Table) (tree : StatementTree) (n : Named) → HasRepeatedName tree → ¬ Types tables tree n
