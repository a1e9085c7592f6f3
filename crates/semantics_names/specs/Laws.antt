-- What names stand for, in the words of FROM and its columns. (SELECT, "Determination of input data")
use Rattle.std.specs.Prelude.{◌≡◌, ◌≢◌, ◌↔◌, ◌<◌, ◌≤◌, length, ℕ, List, [], Option, Some, None, Result, Ok, Err, slice_get, Bool, true, false, All, ⊤}
use Rattle.std.specs.List.{AllPairs}
use Rattle.std.specs.Str.{str_eq_ignore_ascii_case}
use Rattle.values.specs.declared.fault.Fault.{Fault}
use Rattle.values.specs.declared.fault.Fault.TheVariants.{Ambiguous, BareColumn, TypeMismatch, UnknownColumn, UnknownTable}
use Rattle.values.specs.declared.value.Ty.{Ty}
use Rattle.expr.specs.Term.{Term}
use Rattle.semantics.specs.Query.{Aggregate, Body, InnerQuery, WindowCall, body_width}
use Rattle.semantics.specs.Typed.{BodyHasTypes, IsTerm, IsTyped}
use Rattle.sql_reader_syntax.specs.ExprTree.{ExprTree, FromTree, QueryTree, plain}
use Rattle.sql_reader_syntax.specs.StatementTree.{StatementTree}
use Rattle.sql_reader_syntax.specs.Tree.{Name}
use Rattle.sql_reader_syntax.specs.declared.expr.Function.{Function}
use Rattle.sql_reader_syntax.specs.declared.expr.Function.TheVariants as w
use Rattle.semantics_names.specs.Same.{is_same_aggregate, is_same_call, is_same_inner, is_same_term}
use Rattle.semantics_names.specs.Scope.{Scope, Shown, bare_term, column_of, shown_places}
use Rattle.semantics_names.specs.Expression.{Answers, term_of}
use Rattle.semantics_names.specs.Parts.{parts}
use Rattle.semantics_names.specs.Places.{columns_say, groups_say}
use Rattle.semantics_names.specs.Sources.{Known, Sources, known_as}
use Rattle.semantics_names.specs.Statement.{Named, Queried, are_distinct, from_of, max_columns, max_sources, named, sources_of_body}
use Rattle.semantics_names.specs.Typed.{Table, Types, column_types, known_tables}
use Rattle.semantics_names.specs.Types.{term_type}

-- two names are the same where they differ in ASCII case alone
abbrev pub IsSameInAnyCase : Name → Name → Type 0
IsSameInAnyCase a b = str_eq_ignore_ascii_case a b ≡ true

-- ---- columns

-- a column is called so by its bare name, where it has one, or behind the name of its source
abbrev pub IsCalled : Option Name → Name → Shown → Type 0
IsCalled None name shown = (shown.places ≢ []) × IsSameInAnyCase shown.name name
IsCalled (Some table) name shown = (source : Name) × (shown.source ≡ Some source) × IsSameInAnyCase source table × IsSameInAnyCase shown.name name

-- the column at a place of the row is
abbrev pub IsCalledAt : Scope → Option Name → Name → ℕ → Type 0
IsCalledAt scope table name at = (shown : Shown) × (slice_get scope at ≡ Some shown) × IsCalled table name shown

-- the name stands for the column at this place: no other one is called so
pub record IsOnlyColumn (scope : Scope) (table : Option Name) (name : Name) (at : ℕ) (shown : Shown) : Type 0 where
  pub there : slice_get scope at ≡ Some shown
  pub called : IsCalled table name shown
  pub alone : (other : ℕ) → IsCalledAt scope table name other → other ≡ at

-- A name is a term exactly where it stands for one column, and the term is that column; of a bare name behind USING it is
-- the first of the columns of both sides that isn't NULL.
abbrev pub NameIsColumn : Type 0
NameIsColumn = (scope : Scope) (table : Option Name) (name : Name) (t : Term)
    → (column_of scope table name ≡ Ok t)
    ↔ ((at : ℕ) × (shown : Shown) × IsOnlyColumn scope table name at shown × (t ≡ bare_term (shown_places table at shown)))

-- it is unknown exactly where no column is called so
abbrev pub UnknownIsNone : Type 0
UnknownIsNone = (scope : Scope) (table : Option Name) (name : Name)
    → (column_of scope table name ≡ Err UnknownColumn) ↔ ((at : ℕ) → ¬ IsCalledAt scope table name at)

-- it is ambiguous exactly where two are
abbrev pub AmbiguousIsTwo : Type 0
AmbiguousIsTwo = (scope : Scope) (table : Option Name) (name : Name)
    → (column_of scope table name ≡ Err Ambiguous)
    ↔ ((first second : ℕ) × (first < second) × IsCalledAt scope table name first × IsCalledAt scope table name second)

-- ---- sources

abbrev pub IsNamedAt : List Known → Name → ℕ → Type 0
IsNamedAt known name at = (k : Known) × (slice_get known at ≡ Some k) × IsSameInAnyCase k.name name

-- the first that is named so, so that an item of WITH hides a table
pub record IsFirst (known : List Known) (name : Name) (at : ℕ) (k : Known) : Type 0 where
  pub there : slice_get known at ≡ Some k
  pub named : IsSameInAnyCase k.name name
  pub first : (other : ℕ) → other < at → ¬ IsNamedAt known name other

abbrev pub NameIsSource : Type 0
NameIsSource = (known : List Known) (name : Name) (k : Known) → known_as known name ≡ Ok k → (at : ℕ) × IsFirst known name at k

-- a source is unknown exactly where nothing is named so
abbrev pub UnknownSourceIsNone : Type 0
UnknownSourceIsNone = (known : List Known) (name : Name)
    → (known_as known name ≡ Err UnknownTable) ↔ ((at : ℕ) → ¬ IsNamedAt known name at)

-- ---- types

-- a term has no type exactly where it is none that is typed
abbrev pub MismatchIsUntyped : Type 0
MismatchIsUntyped = (answers columns : List Ty) (t : Term) → (term_type answers columns t ≡ Err TypeMismatch) ↔ (¬ IsTerm answers columns t)

-- a query is typed
abbrev pub IsTypedBody : List (List Ty) → Body → Type 0
IsTypedBody tables body = (types : List Ty) × BodyHasTypes tables body types

-- A statement is a query exactly where its names make it one and it is typed as its meaning wants it, and so is what else is
-- written in it.
abbrev pub TypedIsTaken : Type 0
TypedIsTaken = (tables : List Table) (tree : StatementTree) (n : Named)
    → Types tables tree n
    ↔ ((named (known_tables tables) tree ≡ Ok n) × IsTyped (column_types tables) n.query × All (IsTypedBody (column_types tables)) n.beside)

-- ---- equal trees

-- terms, aggregates, windowed functions and inner queries are told to be the same exactly where they are equal
pub record SameIsEqual : Type 0 where
  pub terms : (x y : Term) → (is_same_term x y ≡ true) ↔ (x ≡ y)
  pub aggregates : (x y : Aggregate) → (is_same_aggregate x y ≡ true) ↔ (x ≡ y)
  pub calls : (x y : WindowCall) → (is_same_call x y ≡ true) ↔ (x ≡ y)
  pub inner_queries : (x y : InnerQuery) → (is_same_inner x y ≡ true) ↔ (x ≡ y)

-- ---- limits, and names that stand twice

-- A query has one name for each column, at most 100 of them, and at most 64 sources, each mention of an item of WITH with
-- those of the item.
pub record IsWithinLimits (n : Named) : Type 0 where
  pub named : length n.names ≡ body_width n.query.body
  pub columns : length n.names ≤ max_columns
  pub sources : sources_of_body n.query.body ≤ max_sources

abbrev pub TakenIsWithin : Type 0
TakenIsWithin = (tables : List Table) (tree : StatementTree) (n : Named) → Types tables tree n → IsWithinLimits n

-- no two of the names are the same
abbrev pub AreDistinctInAnyCase : List Name → Type 0
AreDistinctInAnyCase = AllPairs (λ a b. ¬ IsSameInAnyCase b a)

-- the items of WITH, the columns of an item and the windows of a SELECT pass exactly where no two have one name
abbrev pub DistinctIsSaid : Type 0
DistinctIsSaid = (names : List Name) → (are_distinct names ≡ true) ↔ AreDistinctInAnyCase names

-- two sources are called the same, where both have names
abbrev pub AreSameSources : Option Name → Option Name → Type 0
AreSameSources (Some a) (Some b) = IsSameInAnyCase b a
AreSameSources a b = ⊥

-- no two sources of a FROM that is taken are called the same
abbrev pub SourcesAreDistinct : Type 0
SourcesAreDistinct = (known : List Known) (queries : QueryTree → Result Queried Fault) (answers : Answers) (tree : FromTree) (f : Sources)
    → from_of known queries answers tree ≡ Ok f → AllPairs (λ a b. ¬ AreSameSources a b) f.names

-- ---- places of a SELECT

-- Behind groups a column is bare exactly where it is one of FROM's that no expression of GROUP BY is.
abbrev pub BareIsBeside : Type 0
BareIsBeside = (answers : Answers) (scope : Scope) (by : List Term) (aggregates : List Aggregate) (table : Option Name) (name : Name)
    → (groups_say answers scope by aggregates (ExprTree.Column table name) ≡ Err BareColumn)
    ↔ ((t : Term) × (column_of scope table name ≡ Ok t) × All (λ key. key ≢ t) by)

-- a function of the values of one row; an aggregate and a window function is none
abbrev pub is_scalar : Function → Bool
is_scalar w.Abs = true
is_scalar w.Coalesce = true
is_scalar w.Hex = true
is_scalar w.IfNull = true
is_scalar w.Iif = true
is_scalar w.Length = true
is_scalar w.Lower = true
is_scalar w.NullIf = true
is_scalar w.TypeOf = true
is_scalar w.Upper = true
is_scalar _ = false

-- if it is a call, it is one of such a function, without FILTER and OVER
abbrev pub IsScalar : ExprTree → Type 0
IsScalar (ExprTree.CountRows behind) = ⊥
IsScalar (ExprTree.Call function items behind) = (behind ≡ plain) × (is_scalar function ≡ true)
IsScalar e = ⊤

-- In WHERE, ON, GROUP BY and the arguments of aggregates, whose terms speak of the columns of FROM, stands neither an
-- aggregate nor a window function.
abbrev pub ColumnsAreScalar : Type 0
ColumnsAreScalar =
    (answers : Answers) (scope : Scope) (e : ExprTree) (t : Term) → term_of answers (columns_say scope) e ≡ Ok t → All IsScalar (parts e)
