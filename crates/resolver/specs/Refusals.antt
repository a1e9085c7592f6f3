-- When a refusal is told: where two numbers of columns differ, where a source is called as another, and where USING names no column
-- or two. (SELECT; SQL Language Expressions, "The IN and NOT IN Operators")
use Rattle.std.specs.Prelude.{◌≡◌, ◌≢◌, ◌↔◌, ◌<◌, ℕ, List, [], Option, Some, None, Err, length, slice_get}
use Rattle.values.specs.declared.fault.Fault.TheVariants.{Ambiguous, ColumnCount, DuplicateName, UnknownColumn}
use Rattle.semantics.specs.Query.{JoinKind}
use Rattle.sql_reader_syntax.specs.ExprTree.{OnTree, TermTrees}
use Rattle.sql_reader_syntax.specs.Tree.{Name}
use Rattle.sql_reader_syntax.specs.declared.query.CompoundOperator.{CompoundOperator}
use Rattle.semantics_names.specs.Expression.{Answers}
use Rattle.semantics_names.specs.Laws.{AreSameSources, IsCalledAt}
use Rattle.semantics_names.specs.Scope.{Scope, places_of}
use Rattle.semantics_names.specs.Sources.{Given, Sources, joined}
use Rattle.semantics_names.specs.Statement.{Queried, Single, compounded, item_columns, values_inner}

-- ---- numbers of columns

-- the names behind that of an item of WITH aren't as many as its query's columns
abbrev pub ItemWidths : Type 0
ItemWidths = (written names : List Name)
    → (item_columns written names ≡ Err ColumnCount) ↔ ((written ≢ []) × (length written ≢ length names))

-- a SELECT that is joined to others has not as many columns as these
abbrev pub CompoundWidths : Type 0
CompoundWidths = (order : TermTrees) (left : Queried) (operator : CompoundOperator) (s : Single)
    → (compounded order left operator s ≡ Err ColumnCount) ↔ (length left.names ≢ length s.core.names)

-- the query of an IN has not one column
abbrev pub InnerWidth : Type 0
InnerWidth = (q : Queried) → (values_inner q ≡ Err ColumnCount) ↔ (length q.names ≢ 1)

-- ---- sources

-- a source is called as one before it
abbrev pub RepeatedSource : Type 0
RepeatedSource = (answers : Answers) (left : Sources) (kind : JoinKind) (on : OnTree) (given : Given) (at : ℕ) (other : Option Name)
    → slice_get left.names at ≡ Some other → AreSameSources other given.name → joined answers left kind on given ≡ Err DuplicateName

-- ---- USING

-- a side has no column of a name
abbrev pub UsingUnknown : Type 0
UsingUnknown = (scope : Scope) (name : Name) → (places_of scope None name ≡ Err UnknownColumn) ↔ ((at : ℕ) → ¬ IsCalledAt scope None name at)

-- a side has two
abbrev pub UsingAmbiguous : Type 0
UsingAmbiguous = (scope : Scope) (name : Name)
    → (places_of scope None name ≡ Err Ambiguous)
    ↔ ((first second : ℕ) × (first < second) × IsCalledAt scope None name first × IsCalledAt scope None name second)
