-- Where in a query an expression is of another type than its place wants. (SELECT; Window Functions; STRICT Tables)
use Rattle.std.specs.Prelude.{◌≡◌, ◌⊎◌, ℕ, Contains, List, ◌++◌, Some, Ok, slice_get}
use Rattle.std.specs.List.{AllZip}
use Rattle.values.specs.declared.fault.Fault.TheVariants.{BadFrame, TypeMismatch}
use Rattle.values.specs.declared.value.Ty.{Ty}
use Rattle.values.specs.declared.value.Ty.TheVariants.{Int}
use Rattle.expr.specs.Term.{Term}
use Rattle.expr.specs.Types.{FitsType}
use Rattle.sql_reader_syntax.specs.StatementTree.{StatementTree}
use Rattle.semantics.specs.Query.{Aggregate, AggregateFunction, Body, From, Grouping, InnerQuery, JoinKind, Key, KeyTerm, Operator, Select, SortTerm, Source, WindowCall, WindowFunction}
use Rattle.semantics.specs.Typed.{AggregateHasType, AnswersHaveTypes, BodyHasTypes, ComputedHasTypes, FromHasTypes, GroupedHasTypes, IsTermOf, SourceHasTypes}
use Rattle.semantics_names.specs.Statement.{Named, named}
use Rattle.semantics_names.specs.Typed.{IsNoQuery, Table, Types, column_types, known_tables}
use Rattle.semantics_refusals.specs.Clashes.{AreAtOdds, HasClash, Misfits}

-- Its own types, where NULL fits any: it has them, and they may stand for all others that it has, so that what is NULL alone
-- is said to be just that.
pub record AreOwn (Has : List Ty → Type 0) (types : List Ty) : Type 0 where
  pub are : Has types
  pub least : (other : List Ty) → Has other → AllZip FitsType types other

-- ---- one SELECT, over a row whose columns have these types, with answers of inner queries of these

module _ (answers row : List Ty) where
  -- sum takes whole numbers, and the others what has a type
  abbrev pub MeasureMisfits : AggregateFunction → Term → Type 0
  MeasureMisfits AggregateFunction.count argument = HasClash answers row argument
  MeasureMisfits AggregateFunction.sum argument = Misfits answers row Int argument
  MeasureMisfits AggregateFunction.min argument = HasClash answers row argument
  MeasureMisfits AggregateFunction.max argument = HasClash answers row argument

  abbrev pub AggregateMisfits : Aggregate → Type 0
  AggregateMisfits a = MeasureMisfits a.function a.argument

  -- what lag and lead give where there is no such row is of the type of their argument
  abbrev pub FunctionMisfits : WindowFunction → Type 0
  FunctionMisfits (WindowFunction.aggregate a) = AggregateMisfits a
  FunctionMisfits WindowFunction.row_number = ⊥
  FunctionMisfits WindowFunction.rank = ⊥
  FunctionMisfits WindowFunction.dense_rank = ⊥
  FunctionMisfits (WindowFunction.ntile n) = ⊥
  FunctionMisfits (WindowFunction.lag x n otherwise) = AreAtOdds answers row x otherwise
  FunctionMisfits (WindowFunction.lead x n otherwise) = AreAtOdds answers row x otherwise
  FunctionMisfits (WindowFunction.first_value x) = HasClash answers row x
  FunctionMisfits (WindowFunction.last_value x) = HasClash answers row x
  FunctionMisfits (WindowFunction.nth_value x n) = HasClash answers row x

  -- in PARTITION BY or ORDER BY of a window, or in what is computed over it
  pub data CallMisfits (c : WindowCall) : Type 0 where
    partition : (t : Term) → Contains c.window.partition t → HasClash answers row t → CallMisfits c
    order : (s : SortTerm) → Contains c.window.order s → HasClash answers row s.term → CallMisfits c
    function : FunctionMisfits c.function → CallMisfits c

-- WHERE, GROUP BY and what aggregates are of speak of FROM's row; HAVING of the values of GROUP BY and of the aggregates; windows of
-- these, or of FROM's row where there are no groups; and result columns of the same and the windows' values.
pub data SelectMisfits (answers row : List Ty) (s : Select) : Type 0 where
  condition : Misfits answers row Int s.condition → SelectMisfits answers row s
  group : (g : Grouping) (t : Term) → s.grouping ≡ Some g → Contains g.by t → HasClash answers row t → SelectMisfits answers row s
  aggregate : (g : Grouping) (a : Aggregate) → s.grouping ≡ Some g → Contains g.aggregates a → AggregateMisfits answers row a
      → SelectMisfits answers row s
  having : (g : Grouping) (keys values : List Ty) → s.grouping ≡ Some g → AreOwn (AllZip (IsTermOf answers row) g.by) keys
      → AreOwn (AllZip (AggregateHasType answers row) g.aggregates) values → Misfits answers (keys ++ values) Int g.having
      → SelectMisfits answers row s
  window : (inputs : List Ty) (c : WindowCall) → AreOwn (GroupedHasTypes answers row s.grouping) inputs → Contains s.windows c
      → CallMisfits answers inputs c → SelectMisfits answers row s
  result : (computed : List Ty) (t : Term) → AreOwn (ComputedHasTypes answers row s) computed → Contains s.columns t → HasClash answers computed t
      → SelectMisfits answers row s

-- ---- queries, over tables whose columns have these types

-- at one place stand types that are no one type
pub record AreMismatched (first second : List Ty) : Type 0 where
  pub at : ℕ
  pub one : Ty
  pub other : Ty
  pub there : slice_get first at ≡ Some one
  pub beside : slice_get second at ≡ Some other
  pub apart : (ty : Ty) → FitsType one ty → ¬ FitsType other ty

module _ (tables : List (List Ty)) where
  mutual
    pub data SourceMisfits : Source → Type 0 where
      derived : {body : Body} → BodyMisfits body → SourceMisfits (Source.derived body)

    -- in a source, or in ON, which speaks of the sources up to its own, and is a condition
    pub data FromMisfits : List Ty → From → Type 0 where
      earlier : {answers : List Ty} {from : From} {kind : JoinKind} {source : Source} {on : Term} → FromMisfits answers from
          → FromMisfits answers (From.joined from kind source on)
      source : {answers : List Ty} {from : From} {kind : JoinKind} {source : Source} {on : Term} → SourceMisfits source
          → FromMisfits answers (From.joined from kind source on)
      on : {answers : List Ty} {from : From} {kind : JoinKind} {source : Source} {on : Term} (left right : List Ty)
          → AreOwn (FromHasTypes tables answers from) left → AreOwn (SourceHasTypes tables source) right
          → Misfits answers (left ++ right) Int on → FromMisfits answers (From.joined from kind source on)
      beside : {answers : List Ty} {from : From} {query : InnerQuery} → FromMisfits answers from → FromMisfits answers (From.with_inner from query)

    pub data InnerMisfits : InnerQuery → Type 0 where
      members : {body : Body} → BodyMisfits body → InnerMisfits (InnerQuery.values_of body)
      tested : {body : Body} → BodyMisfits body → InnerMisfits (InnerQuery.exists body)

    -- in an inner query
    pub data AnswersMisfit : From → Type 0 where
      joined : {from : From} {kind : JoinKind} {source : Source} {on : Term} → AnswersMisfit from → AnswersMisfit (From.joined from kind source on)
      other : {from : From} {query : InnerQuery} → AnswersMisfit from → AnswersMisfit (From.with_inner from query)
      inner : {from : From} {query : InnerQuery} → InnerMisfits query → AnswersMisfit (From.with_inner from query)

    -- in a SELECT with its FROM
    pub data SingleMisfits : From → Select → Type 0 where
      answers : {from : From} {s : Select} → AnswersMisfit from → SingleMisfits from s
      sources : {from : From} {s : Select} (answers : List Ty) → AreOwn (AnswersHaveTypes tables from) answers → FromMisfits answers from
          → SingleMisfits from s
      select : {from : From} {s : Select} (answers row : List Ty) → AreOwn (AnswersHaveTypes tables from) answers
          → AreOwn (FromHasTypes tables answers from) row → SelectMisfits answers row s → SingleMisfits from s

    -- in one of the SELECTs, or where two of their columns, at one place, are of different types
    pub data BodyMisfits : Body → Type 0 where
      alone : {from : From} {s : Select} → SingleMisfits from s → BodyMisfits (Body.select from s)
      before : {left : Body} {operator : Operator} {from : From} {s : Select} → BodyMisfits left → BodyMisfits (Body.compound left operator from s)
      last : {left : Body} {operator : Operator} {from : From} {s : Select} → SingleMisfits from s → BodyMisfits (Body.compound left operator from s)
      columns : {left : Body} {operator : Operator} {from : From} {s : Select} (first second : List Ty) → AreOwn (BodyHasTypes tables left) first
          → AreOwn (BodyHasTypes tables (Body.select from s)) second → AreMismatched first second → BodyMisfits (Body.compound left operator from s)

  -- in a term of ORDER BY, which speaks of the row that the result columns speak of
  pub data KeyMisfits : Body → KeyTerm → Type 0 where
    term : {from : From} {s : Select} {t : Term} (answers row computed : List Ty) → AreOwn (AnswersHaveTypes tables from) answers
        → AreOwn (FromHasTypes tables answers from) row → AreOwn (ComputedHasTypes answers row s) computed → HasClash answers computed t
        → KeyMisfits (Body.select from s) (KeyTerm.term t)

  -- in a query, in its ORDER BY, or in what is written beside it: an item of WITH, or a window that is defined
  pub data HasMismatch (n : Named) : Type 0 where
    query : BodyMisfits n.query.body → HasMismatch n
    order : (key : Key) → Contains n.query.order key → KeyMisfits n.query.body key.by → HasMismatch n
    beside : (body : Body) → Contains n.beside body → BodyMisfits body → HasMismatch n

-- the statement's names make it a query in which, somewhere, an expression is of another type than its place wants
abbrev pub IsMistyped : List Table → StatementTree → Type 0
IsMistyped tables tree = (n : Named) × (named (known_tables tables) tree ≡ Ok n) × HasMismatch (column_types tables) n

-- such a statement is no query
abbrev pub MistypedIsRefused : Type 0
MistypedIsRefused = (tables : List Table) (tree : StatementTree) (n : Named) → IsMistyped tables tree → ¬ Types tables tree n

-- it is refused because types don't agree, unless because a window's frame is none
abbrev pub MistypedIsMismatch : Type 0
MistypedIsMismatch =
    (tables : List Table) (tree : StatementTree) → IsMistyped tables tree → IsNoQuery tables tree TypeMismatch ⊎ IsNoQuery tables tree BadFrame
