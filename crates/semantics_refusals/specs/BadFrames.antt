-- Windows that aren't defined, and frames that can't be. (Window Functions)
use Rattle.std.specs.Prelude.{◌≡◌, ◌⊎◌, ◌<◌, ℕ, negsuc, All, Contains, List, [], ◌∷◌, Ok, Some}
use Rattle.values.specs.declared.value.Ty.{Ty}
use Rattle.expr.specs.Term.{Term}
use Rattle.sql_reader_syntax.specs.ExprTree.{BehindTree, CoreTree, DefinitionTrees, ExprTree, ExprTrees, MaybeExpr, OverTree, TermTrees, WindowTree}
use Rattle.sql_reader_syntax.specs.StatementTree.{ItemTree, StatementTree}
use Rattle.sql_reader_syntax.specs.Tree.{Name}
use Rattle.sql_reader_syntax.specs.declared.expr.Function.{Function}
use Rattle.sql_reader_syntax.specs.declared.query.Edge as written_edge
use Rattle.sql_reader_syntax.specs.declared.query.Edge.TheVariants as edges
use Rattle.sql_reader_syntax.specs.declared.query.Frame as written_frame
use Rattle.semantics.specs.Query.{Body, Edge, Frame, FrameUnit, From, InnerQuery, JoinKind, Operator, Select, SortTerm, Source, WindowCall, WindowFunction}
use Rattle.semantics.specs.Typed.{AnswersHaveTypes, FromHasTypes, GroupedHasTypes, IsDistance, IsOneNumber, edge_rank}
use Rattle.semantics_names.specs.Laws.{IsSameInAnyCase}
use Rattle.semantics_names.specs.Parts.{core_parts}
use Rattle.semantics_names.specs.Statement.{Named, named, window_names}
use Rattle.semantics_names.specs.Typed.{Table, Types, column_types, known_tables}
use Rattle.semantics_refusals.specs.Mismatches.{AreOwn}
use Rattle.semantics_refusals.specs.Written.{HasSelectWith, windows_in}

-- ---- what is written

-- an expression is a call with this OVER
pub data IsOver : ExprTree → OverTree → Type 0 where
  rows : {filter : MaybeExpr} {over : OverTree} → IsOver (ExprTree.CountRows (BehindTree.Behind filter over)) over
  call : {function : Function} {items : ExprTrees} {filter : MaybeExpr} {over : OverTree}
      → IsOver (ExprTree.Call function items (BehindTree.Behind filter over)) over

-- the windows after WINDOW, without their names
abbrev pub defined_in : DefinitionTrees → List WindowTree
defined_in DefinitionTrees.No_definition = []
defined_in (DefinitionTrees.Definition name w windows) = w ∷ defined_in windows

-- a window is written in a SELECT, after OVER or WINDOW
pub data HasWindow (core : CoreTree) (by : TermTrees) (w : WindowTree) : Type 0 where
  over : (part : ExprTree) → Contains (core_parts core by) part → IsOver part (OverTree.Over w) → HasWindow core by w
  defined : Contains (defined_in (windows_in core)) w → HasWindow core by w

-- an edge is at a distance below zero, which no text spells
pub data IsBelowZero : written_edge.Edge → Type 0 where
  preceding : {n : ℕ} → IsBelowZero (edges.Preceding (negsuc n))
  following : {n : ℕ} → IsBelowZero (edges.Following (negsuc n))

-- one of the edges of a window's frame is
pub data HasEdgeBelowZero : WindowTree → Type 0 where
  start : {partition : ExprTrees} {order : TermTrees} {frame : written_frame.Frame} → IsBelowZero frame.start
      → HasEdgeBelowZero (WindowTree.Window partition order (Some frame))
  end : {partition : ExprTrees} {order : TermTrees} {frame : written_frame.Frame} → IsBelowZero frame.end
      → HasEdgeBelowZero (WindowTree.Window partition order (Some frame))

-- OVER names a window that the SELECT doesn't define; or a distance of a frame is below zero
pub data HasNoWindow (items : List ItemTree) (core : CoreTree) (by : TermTrees) : Type 0 where
  unnamed : (part : ExprTree) (name : Name) → Contains (core_parts core by) part → IsOver part (OverTree.OverName name)
      → All (λ other. ¬ IsSameInAnyCase other name) (window_names (windows_in core)) → HasNoWindow items core by
  distance : (w : WindowTree) → HasWindow core by w → HasEdgeBelowZero w → HasNoWindow items core by

-- ---- what is computed over windows, with answers of inner queries and over rows of these types

module _ (answers inputs : List Ty) where
  -- A frame starts at UNBOUNDED FOLLOWING, ends at UNBOUNDED PRECEDING, or ends before it starts; RANGE has a distance, and ORDER BY
  -- isn't one whole number; or GROUPS has no ORDER BY.
  pub data CantBe (order : List SortTerm) (frame : Frame) : Type 0 where
    starts_last : frame.start ≡ Edge.unbounded_following → CantBe order frame
    ends_first : frame.end ≡ Edge.unbounded_preceding → CantBe order frame
    backward : edge_rank frame.end < edge_rank frame.start → CantBe order frame
    range : frame.unit ≡ FrameUnit.range → IsDistance frame.start ⊎ IsDistance frame.end → ¬ IsOneNumber answers inputs order → CantBe order frame
    groups : frame.unit ≡ FrameUnit.groups → order ≡ [] → CantBe order frame

  -- the frame of a call can't be, or it is ntile(0) or nth_value(x, 0)
  pub data IsNoCall (c : WindowCall) : Type 0 where
    frame : CantBe c.window.order c.window.frame → IsNoCall c
    buckets : c.function ≡ WindowFunction.ntile 0 → IsNoCall c
    nth : (t : Term) → c.function ≡ WindowFunction.nth_value t 0 → IsNoCall c

-- one of the calls of a SELECT is such
pub record HasNoCall (answers row : List Ty) (s : Select) : Type 0 where
  pub inputs : List Ty
  pub own : AreOwn (GroupedHasTypes answers row s.grouping) inputs
  pub call : WindowCall
  pub there : Contains s.windows call
  pub is : IsNoCall answers inputs call

-- ---- queries, over tables whose columns have these types, in a SELECT of which, at any depth, this holds

module _ (tables : List (List Ty)) (Is : List Ty → List Ty → Select → Type 0) where
  mutual
    pub data SourceHas : Source → Type 0 where
      derived : {body : Body} → BodyHas body → SourceHas (Source.derived body)

    -- in a source, or in an inner query
    pub data FromHas : From → Type 0 where
      earlier : {from : From} {kind : JoinKind} {source : Source} {on : Term} → FromHas from → FromHas (From.joined from kind source on)
      source : {from : From} {kind : JoinKind} {source : Source} {on : Term} → SourceHas source → FromHas (From.joined from kind source on)
      beside : {from : From} {query : InnerQuery} → FromHas from → FromHas (From.with_inner from query)
      inner : {from : From} {query : InnerQuery} → InnerHas query → FromHas (From.with_inner from query)

    pub data InnerHas : InnerQuery → Type 0 where
      members : {body : Body} → BodyHas body → InnerHas (InnerQuery.values_of body)
      tested : {body : Body} → BodyHas body → InnerHas (InnerQuery.exists body)

    pub data SingleHas : From → Select → Type 0 where
      sources : {from : From} {s : Select} → FromHas from → SingleHas from s
      select : {from : From} {s : Select} (answers row : List Ty) → AreOwn (AnswersHaveTypes tables from) answers
          → AreOwn (FromHasTypes tables answers from) row → Is answers row s → SingleHas from s

    pub data BodyHas : Body → Type 0 where
      alone : {from : From} {s : Select} → SingleHas from s → BodyHas (Body.select from s)
      before : {left : Body} {operator : Operator} {from : From} {s : Select} → BodyHas left → BodyHas (Body.compound left operator from s)
      last : {left : Body} {operator : Operator} {from : From} {s : Select} → SingleHas from s → BodyHas (Body.compound left operator from s)

  -- in a query, or in what is written beside it: an item of WITH, or a window that is defined
  pub data NamedHas (n : Named) : Type 0 where
    query : BodyHas n.query.body → NamedHas n
    beside : (body : Body) → Contains n.beside body → BodyHas body → NamedHas n

-- Somewhere in a statement OVER names no window; or its names make it a query in which, somewhere, the frame of a window can't be.
pub data HasBadFrame (tables : List Table) (tree : StatementTree) : Type 0 where
  written : HasSelectWith tree HasNoWindow → HasBadFrame tables tree
  made : (n : Named) → named (known_tables tables) tree ≡ Ok n → NamedHas (column_types tables) HasNoCall n → HasBadFrame tables tree

-- such a statement is no query
abbrev pub BadFrameIsRefused : Type 0
BadFrameIsRefused = (tables : List Table) (tree : StatementTree) (n : Named) → HasBadFrame tables tree → ¬ Types tables tree n
