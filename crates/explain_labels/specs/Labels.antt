-- What the sources of a statement are called, as it is written. (SELECT, "Determination of input data" and "Common Table Expressions")
use Rattle.std.specs.Prelude.{ℕ, zero, suc, List, [], ◌∷◌, ◌++◌, map, Option, Some, None, position}
use Rattle.std.specs.Str.{str_eq_ignore_ascii_case}
use Rattle.semantics_names.specs.Expression.{InnerTree}
use Rattle.semantics_names.specs.Parts.{inner_trees}
use Rattle.semantics_names.specs.Statement.{max_levels}
use Rattle.sql_reader_syntax.specs.ExprTree.{CoreTree, FromTree, QueryTree, SourceTree, TermTrees}
use Rattle.sql_reader_syntax.specs.StatementTree.{ItemTree, StatementTree}
use Rattle.sql_reader_syntax.specs.Tree.{Name}

mutual
  -- a table, or a mention of the item of WITH at a place, or a query; and its alias
  pub data Label : Type 0 where
    table : Option Name → Label
    item : ℕ → Option Name → Label
    derived : QueryLabels → Option Name → Label

  pub data Labels : Type 0 where
    no_source : Labels
    label : Label → Labels → Labels

  -- the sources of a SELECT, and the queries inside its expressions
  pub data SelectLabels : Type 0 where
    select : Labels → InnerLabels → SelectLabels

  pub data InnerLabels : Type 0 where
    no_query : InnerLabels
    inner : QueryLabels → InnerLabels → InnerLabels

  -- the SELECTs of a query, in their order
  pub data QueryLabels : Type 0 where
    no_select : QueryLabels
    first : SelectLabels → QueryLabels → QueryLabels

pub record ItemLabels : Type 0 where
  pub name : Name
  pub query : QueryLabels

pub record StatementLabels : Type 0 where
  pub items : List ItemLabels
  pub query : QueryLabels

abbrev pub labels_of : List Label → Labels
labels_of [] = no_source
labels_of (l ∷ ls) = label l (labels_of ls)

abbrev pub inner_of : List QueryLabels → InnerLabels
inner_of [] = no_query
inner_of (q ∷ qs) = inner q (inner_of qs)

abbrev pub selects_of : List SelectLabels → QueryLabels
selects_of [] = no_select
selects_of (s ∷ ss) = first s (selects_of ss)

-- an item of WITH where one is called so, and else a table
abbrev pub called : Option ℕ → Option Name → Label
called None alias = table alias
called (Some at) alias = item at alias

abbrev pub query_in : InnerTree → QueryTree
query_in (InnerTree.values_in tree) = tree
query_in (InnerTree.exists_in tree) = tree

-- the terms of ORDER BY over the rows of a query's one SELECT; over those of several no query is inside them
abbrev pub own_order : QueryTree → TermTrees → TermTrees
own_order (QueryTree.Core core) order = order
own_order (QueryTree.Compound left operator core) order = TermTrees.No_term

-- where items of these names are seen, and `inside` has the labels of the queries in a query
module _ (seen : List Name) (inside : QueryTree → QueryLabels) where
  abbrev pub source_label : SourceTree → Label
  source_label (SourceTree.Named name alias) = called (position (λ item. str_eq_ignore_ascii_case item name) seen) alias
  source_label (SourceTree.Derived tree alias) = derived (inside tree) alias

  -- those of FROM, in their order
  abbrev pub from_labels : FromTree → List Label
  from_labels FromTree.No_source = []
  from_labels (FromTree.First source) = source_label source ∷ []
  from_labels (FromTree.Joined from join source on) = from_labels from ++ source_label source ∷ []

  abbrev pub select_labels : CoreTree → FromTree → TermTrees → SelectLabels
  select_labels core from order = select (labels_of (from_labels from)) (inner_of (map (λ tree. inside (query_in tree)) (inner_trees core order)))

  abbrev pub core_labels : CoreTree → TermTrees → SelectLabels
  core_labels (CoreTree.Select distinct results from condition by having windows) order =
      select_labels (CoreTree.Select distinct results from condition by having windows) from order

  -- the SELECTs in their order
  abbrev pub query_labels : QueryTree → TermTrees → List SelectLabels
  query_labels (QueryTree.Core core) order = core_labels core order ∷ []
  query_labels (QueryTree.Compound left operator core) order = query_labels left TermTrees.No_term ++ core_labels core TermTrees.No_term ∷ []

-- those of a query with the queries in it, at most this deep
abbrev pub labelled : ℕ → List Name → QueryTree → TermTrees → QueryLabels
labelled zero seen tree order = no_select
labelled (suc depth) seen tree order = selects_of (query_labels seen (λ inside. labelled depth seen inside TermTrees.No_term) tree order)

-- of a query that is inside another
abbrev pub labelled_inside : ℕ → List Name → QueryTree → QueryLabels
labelled_inside depth seen tree = labelled depth seen tree TermTrees.No_term

abbrev pub names_of : List ItemTree → List Name
names_of items = map (λ item. item.name) items

-- each item of WITH sees those before it
abbrev pub items_after : List Name → List ItemTree → List ItemLabels
items_after seen [] = []
items_after seen (i ∷ is) =
    record { name = i.name; query = labelled_inside max_levels seen i.query } ∷ items_after (seen ++ i.name ∷ []) is

abbrev pub statement_labels : StatementTree → StatementLabels
statement_labels tree = record {
  items = items_after [] tree.items;
  query = labelled max_levels (names_of tree.items) tree.query tree.order;
}
