-- Calls, numbers and `*` where they may not be. (SELECT; Built-In Scalar SQL Functions; Aggregate Functions; Window Functions)
use Rattle.std.specs.Prelude.{◌≡◌, ◌⊎◌, ◌<◌, ℕ, suc, ℤ, pos, All, Contains, List, [], ◌∷◌, ◌++◌, false, length, true}
use Rattle.sql_reader_syntax.specs.ExprTree.{BehindTree, CoreTree, DefinitionTrees, ExprTree, ExprTrees, FromTree, MaybeExpr, OverTree, QueryTree, ResultTree, ResultTrees, TermTrees, count}
use Rattle.sql_reader_syntax.specs.Functions.{takes}
use Rattle.sql_reader_syntax.specs.StatementTree.{ItemTree, StatementTree}
use Rattle.sql_reader_syntax.specs.Tree.{Name}
use Rattle.sql_reader_syntax.specs.declared.expr.Function.{Function}
use Rattle.sql_reader_syntax.specs.declared.expr.Function.TheVariants as w
use Rattle.sql_reader_syntax.specs.declared.expr.PrefixOperator.TheVariants as prefixes
use Rattle.sql_reader_syntax.specs.declared.query.CompoundOperator.{CompoundOperator}
use Rattle.semantics_names.specs.Laws.{IsScalar}
use Rattle.semantics_names.specs.Parts.{all_parts, behind_parts, core_parts, definitions_parts, from_parts, maybe_parts, parts_behind_groups, results_parts, terms_parts}
use Rattle.semantics_names.specs.Scope.{Scope}
use Rattle.semantics_names.specs.Statement.{Named, from_tree}
use Rattle.semantics_names.specs.Typed.{Table, Types}
use Rattle.semantics_refusals.specs.Columns.{AreListed, HasNames, ListedTable, Shows, results_in}
use Rattle.semantics_refusals.specs.UnknownColumns.{InSelect, IsNoResult}
use Rattle.semantics_refusals.specs.Written.{HasQueryWith, HasSelectWith, terms_in}

-- ---- calls

-- WHERE and GROUP BY
abbrev pub plain_parts : CoreTree → List ExprTree
plain_parts (CoreTree.Select distinct results from condition by having windows) = maybe_parts condition ++ all_parts by

-- an aggregate function over one value
abbrev pub Measures : Function → ExprTrees → Type 0
Measures w.Count (ExprTrees.More e ExprTrees.No_more) = Unit {0}
Measures w.Sum (ExprTrees.More e ExprTrees.No_more) = Unit {0}
Measures w.Min (ExprTrees.More e ExprTrees.No_more) = Unit {0}
Measures w.Max (ExprTrees.More e ExprTrees.No_more) = Unit {0}
Measures _ _ = ⊥

-- an aggregate: a call of such a function, or count(*), without OVER
abbrev pub IsAggregate : ExprTree → Type 0
IsAggregate (ExprTree.CountRows (BehindTree.Behind filter OverTree.No_over)) = Unit {0}
IsAggregate (ExprTree.Call function es (BehindTree.Behind filter OverTree.No_over)) = Measures function es
IsAggregate e = ⊥

abbrev pub IsOverWritten : OverTree → Type 0
IsOverWritten OverTree.No_over = ⊥
IsOverWritten over = Unit {0}

-- a call with OVER
abbrev pub HasOver : ExprTree → Type 0
HasOver (ExprTree.CountRows (BehindTree.Behind filter over)) = IsOverWritten over
HasOver (ExprTree.Call function es (BehindTree.Behind filter over)) = IsOverWritten over
HasOver e = ⊥

-- a ranking or value function and its arguments; a number of buckets or of rows is written as a number
abbrev pub Ranks : Function → ExprTrees → Type 0
Ranks w.RowNumber ExprTrees.No_more = Unit {0}
Ranks w.Rank ExprTrees.No_more = Unit {0}
Ranks w.DenseRank ExprTrees.No_more = Unit {0}
Ranks w.NTile (ExprTrees.More (ExprTree.Number (pos n)) ExprTrees.No_more) = Unit {0}
Ranks w.FirstValue (ExprTrees.More e ExprTrees.No_more) = Unit {0}
Ranks w.LastValue (ExprTrees.More e ExprTrees.No_more) = Unit {0}
Ranks w.NthValue (ExprTrees.More e (ExprTrees.More (ExprTree.Number (pos n)) ExprTrees.No_more)) = Unit {0}
Ranks w.Lag (ExprTrees.More e ExprTrees.No_more) = Unit {0}
Ranks w.Lag (ExprTrees.More e (ExprTrees.More (ExprTree.Number (pos n)) ExprTrees.No_more)) = Unit {0}
Ranks w.Lag (ExprTrees.More e (ExprTrees.More (ExprTree.Number (pos n)) (ExprTrees.More d ExprTrees.No_more))) = Unit {0}
Ranks w.Lead (ExprTrees.More e ExprTrees.No_more) = Unit {0}
Ranks w.Lead (ExprTrees.More e (ExprTrees.More (ExprTree.Number (pos n)) ExprTrees.No_more)) = Unit {0}
Ranks w.Lead (ExprTrees.More e (ExprTrees.More (ExprTree.Number (pos n)) (ExprTrees.More d ExprTrees.No_more))) = Unit {0}
Ranks _ _ = ⊥

-- OVER may follow it: it is an aggregate, with FILTER or without, or a ranking or value function without FILTER
abbrev pub MayHaveOver : ExprTree → Type 0
MayHaveOver (ExprTree.CountRows after) = Unit {0}
MayHaveOver (ExprTree.Call function es (BehindTree.Behind filter over)) = Measures function es ⊎ ((filter ≡ MaybeExpr.Absent) × Ranks function es)
MayHaveOver e = Unit {0}

-- the parts of a call's arguments, and of its FILTER and OVER
abbrev pub inside_call : ExprTree → List ExprTree
inside_call (ExprTree.CountRows after) = behind_parts after
inside_call (ExprTree.Call function es after) = all_parts es ++ behind_parts after
inside_call e = []

-- HAVING, and the windows after WINDOW
abbrev pub group_parts : CoreTree → List ExprTree
group_parts (CoreTree.Select distinct results from condition by having windows) = maybe_parts having ++ definitions_parts windows

-- the result columns
abbrev pub row_parts : CoreTree → List ExprTree
row_parts (CoreTree.Select distinct results from condition by having windows) = results_parts results

-- In ON, WHERE, GROUP BY or an aggregate is another aggregate, a window function, or a function with FILTER or OVER; or OVER follows what
-- may not have it.
pub data Misplaces (items : List ItemTree) (core : CoreTree) (by : TermTrees) : Type 0 where
  on : (part : ExprTree) → Contains (from_parts (from_tree core)) part → ¬ IsScalar part → Misplaces items core by
  plain : (part : ExprTree) → Contains (plain_parts core) part → ¬ IsScalar part → Misplaces items core by
  in_aggregate : (outer part : ExprTree) → Contains (parts_behind_groups core by) outer → IsAggregate outer → Contains (inside_call outer) part
      → ¬ IsScalar part → Misplaces items core by
  over : (part : ExprTree) → Contains (core_parts core by) part → HasOver part → ¬ MayHaveOver part → Misplaces items core by

-- In HAVING, WINDOW, or a call with OVER is a call that is neither of a function of one row's values nor an aggregate; in a result column
-- or ORDER BY one that has no OVER either. Or a call has not as many arguments as its function takes, as no text has it.
pub data MisplacesInGroups (items : List ItemTree) (core : CoreTree) (by : TermTrees) : Type 0 where
  in_window : (outer part : ExprTree) → Contains (parts_behind_groups core by) outer → HasOver outer → Contains (inside_call outer) part
      → ¬ IsScalar part → ¬ IsAggregate part → MisplacesInGroups items core by
  in_groups : (part : ExprTree) → Contains (group_parts core) part → ¬ IsScalar part → ¬ IsAggregate part → MisplacesInGroups items core by
  in_row : (part : ExprTree) → Contains (row_parts core ++ terms_parts by) part → ¬ IsScalar part → ¬ IsAggregate part → ¬ HasOver part
      → MisplacesInGroups items core by
  arguments : (function : Function) (es : ExprTrees) (after : BehindTree) → Contains (core_parts core by) (ExprTree.Call function es after)
      → takes function (count es) ≡ false → MisplacesInGroups items core by

-- ---- numbers, `*` and ORDER BY

-- an expression is a number alone, with any number of signs + before it
pub data IsNumber : ExprTree → ℤ → Type 0 where
  plain : {z : ℤ} → IsNumber (ExprTree.Number z) z
  signed : {e : ExprTree} {z : ℤ} → IsNumber e z → IsNumber (ExprTree.Prefix prefixes.Plus e) z

abbrev pub IsNoNumber : ExprTree → Type 0
IsNoNumber e = (z : ℤ) → ¬ IsNumber e z

abbrev pub expressions : ExprTrees → List ExprTree
expressions ExprTrees.No_more = []
expressions (ExprTrees.More e es) = e ∷ expressions es

-- the expressions after GROUP BY
abbrev pub groups_in : CoreTree → List ExprTree
groups_in (CoreTree.Select distinct results from condition by having windows) = expressions by

-- a number alone is in GROUP BY
pub record GroupsByNumber (items : List ItemTree) (core : CoreTree) (by : TermTrees) : Type 0 where
  pub e : ExprTree
  pub z : ℤ
  pub written : Contains (groups_in core) e
  pub is : IsNumber e z

-- `*` is a result
pub data HasStar : ResultTrees → Type 0 where
  here : {results : ResultTrees} → HasStar (ResultTrees.Result ResultTree.All results)
  later : {r : ResultTree} {results : ResultTrees} → HasStar results → HasStar (ResultTrees.Result r results)

-- and FROM shows no column for it
pub record StarsNothing (listed : List ListedTable) (core : CoreTree) (by : TermTrees) : Type 0 where
  pub star : HasStar (results_in core)
  pub scope : Scope
  pub shows : Shows listed (from_tree core) scope
  pub none : All (λ shown. shown.places ≡ []) scope

-- an expression of ORDER BY has no row to be computed on: DISTINCT is written, or SELECTs are joined
pub data HasNoRow : QueryTree → Type 0 where
  distinct : {results : ResultTrees} {from : FromTree} {condition having : MaybeExpr} {by : ExprTrees} {windows : DefinitionTrees}
      → HasNoRow (QueryTree.Core (CoreTree.Select true results from condition by having windows))
  compound : {left : QueryTree} {operator : CompoundOperator} {core : CoreTree} → HasNoRow (QueryTree.Compound left operator core)

-- ORDER BY has the number of no result column; or an expression that is neither a number nor the name of a result column, where there is
-- no row for it
pub data SortsWrongly (listed : List ListedTable) (query : QueryTree) (order : TermTrees) : Type 0 where
  number : (names : List Name) (e : ExprTree) (z : ℤ) → HasNames listed query names → Contains (terms_in order) e → IsNumber e z
      → ((at : ℕ) → at < length names → ¬ (z ≡ pos (suc at))) → SortsWrongly listed query order
  expression : (names : List Name) (e : ExprTree) → HasNames listed query names → Contains (terms_in order) e → IsNoNumber e → IsNoResult names e
      → HasNoRow query → SortsWrongly listed query order

-- in a query of a statement, where FROM may mention what is before it
pub record InQuery (tables : List Table) (Is : List ListedTable → QueryTree → TermTrees → Type 0) (items : List ItemTree) (query : QueryTree)
    (order : TermTrees) : Type 0 where
  pub listed : List ListedTable
  pub are : AreListed tables items listed
  pub is : Is listed query order

-- ---- the statement

-- somewhere in a statement a call, a number, `*` or an expression of ORDER BY is where it may not be
pub data HasWrongPlace (tables : List Table) (tree : StatementTree) : Type 0 where
  call : HasSelectWith tree Misplaces → HasWrongPlace tables tree
  group : HasSelectWith tree GroupsByNumber → HasWrongPlace tables tree
  star : HasQueryWith tree (InSelect tables StarsNothing) → HasWrongPlace tables tree
  order : HasQueryWith tree (InQuery tables SortsWrongly) → HasWrongPlace tables tree

-- it is so, or a call is where it may not be in what a SELECT computes over its groups or windows
pub data HasAnyWrongPlace (tables : List Table) (tree : StatementTree) : Type 0 where
  is : HasWrongPlace tables tree → HasAnyWrongPlace tables tree
  call : HasSelectWith tree MisplacesInGroups → HasAnyWrongPlace tables tree

-- a statement with such a place is no query
abbrev pub WrongPlaceIsRefused : Type 0
WrongPlaceIsRefused = (tables : List Table) (tree : StatementTree) (n : Named) → HasWrongPlace tables tree → ¬ Types tables tree n
