-- Which queries are typed, over a catalog whose tables have columns of these types. (SELECT; STRICT Tables)
use Rattle.std.specs.Prelude.{◌≡◌, ◌<◌, ◌≤◌, ◌⊎◌, ℕ, All, false, List, [], ◌∷◌, ◌++◌, length, Option, Some, None, slice_get, ⊤}
use Rattle.std.specs.List.{AllZip}
use Rattle.values.specs.declared.value.Ty.{Ty}
use Rattle.values.specs.declared.value.Ty.TheVariants.{Int, Text}
use Rattle.values.specs.Row.{Row}
use Rattle.expr.specs.Types.{HasType, IsOfType}
use Rattle.expr.specs.Term.{Term}
use Rattle.semantics.specs.Query.{Aggregate, AggregateFunction, Body, Edge, Frame, FrameUnit, From, Grouping, InnerQuery, KeyTerm, QueryData, Select, SortTerm, Source, Window, WindowCall, WindowFunction, compound, derived, joined, nothing, schema, select, table, values_of, exists, with_inner}
use Rattle.values.specs.Database.{Database}

-- type, name, tbl_name, rootpage, sql (The Schema Table)
abbrev pub schema_types : List Ty
schema_types = Text ∷ Text ∷ Text ∷ Int ∷ Text ∷ []

-- where an edge stands in the list of edges
abbrev pub edge_rank : Edge → ℕ
edge_rank Edge.unbounded_preceding = 0
edge_rank (Edge.preceding n) = 1
edge_rank Edge.current_row = 2
edge_rank (Edge.following n) = 3
edge_rank Edge.unbounded_following = 4

abbrev pub IsDistance : Edge → Type 0
IsDistance edge = (edge_rank edge ≡ 1) ⊎ (edge_rank edge ≡ 3)

-- ---- the expressions of one SELECT, where the answers of its inner queries have these types

module _ (answers : List Ty) where
  -- an expression of this type over columns of these types
  abbrev pub IsTermOf : List Ty → Term → Ty → Type 0
  IsTermOf columns = HasType columns answers

  -- one of some type
  abbrev pub IsTerm : List Ty → Term → Type 0
  IsTerm types t = (ty : Ty) × IsTermOf types t ty

  -- a condition is a whole number
  abbrev pub IsCondition : List Ty → Term → Type 0
  IsCondition types t = IsTermOf types t Int

  -- ---- groups

  abbrev pub AggregateGives : List Ty → AggregateFunction → Term → Ty → Type 0
  AggregateGives types AggregateFunction.count argument ty = IsTerm types argument × (ty ≡ Int)
  AggregateGives types AggregateFunction.sum argument ty = IsTermOf types argument Int × (ty ≡ Int)
  AggregateGives types AggregateFunction.min argument ty = IsTermOf types argument ty
  AggregateGives types AggregateFunction.max argument ty = IsTermOf types argument ty

  abbrev pub AggregateHasType : List Ty → Aggregate → Ty → Type 0
  AggregateHasType types a ty = AggregateGives types a.function a.argument ty

  pub record GroupingHasTypes (row : List Ty) (g : Grouping) (types : List Ty) : Type 0 where
    pub keys : List Ty
    pub values : List Ty
    pub by : AllZip (IsTermOf row) g.by keys
    pub aggregates : AllZip (AggregateHasType row) g.aggregates values
    pub types_are : types ≡ keys ++ values
    pub having : IsCondition types g.having

  -- the types of the rows that windows take
  abbrev pub GroupedHasTypes : List Ty → Option Grouping → List Ty → Type 0
  GroupedHasTypes row None types = types ≡ row
  GroupedHasTypes row (Some g) types = GroupingHasTypes row g types

  -- ---- windows

  -- ORDER BY is one term, a whole number
  abbrev pub IsOneNumber : List Ty → List SortTerm → Type 0
  IsOneNumber types order = (s : SortTerm) × (order ≡ s ∷ []) × IsTermOf types s.term Int

  -- RANGE with a distance needs one number in ORDER BY, GROUPS needs an ORDER BY
  abbrev pub UnitFits : List Ty → List SortTerm → FrameUnit → Edge → Edge → Type 0
  UnitFits types order FrameUnit.rows start end = ⊤
  UnitFits types order FrameUnit.range start end = IsDistance start ⊎ IsDistance end → IsOneNumber types order
  UnitFits types order FrameUnit.groups start end = 0 < length order

  pub record IsFrame (types : List Ty) (order : List SortTerm) (frame : Frame) : Type 0 where
    pub starts : edge_rank frame.start < 4
    pub ends : 0 < edge_rank frame.end
    pub in_turn : edge_rank frame.start ≤ edge_rank frame.end
    pub unit : UnitFits types order frame.unit frame.start frame.end

  pub record IsWindow (types : List Ty) (window : Window) : Type 0 where
    pub partition : All (IsTerm types) window.partition
    pub order : All (λ s. IsTerm types s.term) window.order
    pub frame : IsFrame types window.order window.frame

  abbrev pub FunctionHasType : List Ty → WindowFunction → Ty → Type 0
  FunctionHasType types (WindowFunction.aggregate a) ty = AggregateHasType types a ty
  FunctionHasType types WindowFunction.row_number ty = ty ≡ Int
  FunctionHasType types WindowFunction.rank ty = ty ≡ Int
  FunctionHasType types WindowFunction.dense_rank ty = ty ≡ Int
  FunctionHasType types (WindowFunction.ntile n) ty = (0 < n) × (ty ≡ Int)
  FunctionHasType types (WindowFunction.lag x n otherwise) ty = IsTermOf types x ty × IsTermOf types otherwise ty
  FunctionHasType types (WindowFunction.lead x n otherwise) ty = IsTermOf types x ty × IsTermOf types otherwise ty
  FunctionHasType types (WindowFunction.first_value x) ty = IsTermOf types x ty
  FunctionHasType types (WindowFunction.last_value x) ty = IsTermOf types x ty
  FunctionHasType types (WindowFunction.nth_value x n) ty = IsTermOf types x ty × (0 < n)

  abbrev pub CallHasType : List Ty → WindowCall → Ty → Type 0
  CallHasType types call ty = IsWindow types call.window × FunctionHasType types call.function ty

  -- ---- the SELECT

  -- the types of the rows that the result columns are computed on, from those of FROM
  pub record ComputedHasTypes (row : List Ty) (s : Select) (types : List Ty) : Type 0 where
    pub inputs : List Ty
    pub values : List Ty
    pub condition : IsCondition row s.condition
    pub grouped : GroupedHasTypes row s.grouping inputs
    pub windows : AllZip (CallHasType inputs) s.windows values
    pub types_are : types ≡ inputs ++ values

  abbrev pub SelectHasTypes : List Ty → Select → List Ty → Type 0
  SelectHasTypes row s types = (computed : List Ty) × ComputedHasTypes row s computed × AllZip (IsTermOf computed) s.columns types

-- ---- queries

module _ (tables : List (List Ty)) where
  abbrev mutual
    pub SourceHasTypes : Source → List Ty → Type 0
    SourceHasTypes (table at width) types = (slice_get tables at ≡ Some types) × (width ≡ length types)
    SourceHasTypes schema types = types ≡ schema_types
    SourceHasTypes (derived body) types = BodyHasTypes body types

    -- ON takes answers of these types
    pub FromHasTypes : List Ty → From → List Ty → Type 0
    FromHasTypes answers nothing types = types ≡ []
    FromHasTypes answers (joined from kind source on) types =
        (l r : List Ty) × FromHasTypes answers from l × SourceHasTypes source r × (types ≡ l ++ r) × IsCondition answers types on
    FromHasTypes answers (with_inner from query) types = FromHasTypes answers from types

    -- IN takes the values of one column, of its type; EXISTS answers 1
    pub InnerHasType : InnerQuery → Ty → Type 0
    InnerHasType (values_of body) ty = BodyHasTypes body (ty ∷ [])
    InnerHasType (exists body) ty = ((types : List Ty) × BodyHasTypes body types) × (ty ≡ Int)

    -- the answers of the inner queries beside these sources have these types
    pub AnswersHaveTypes : From → List Ty → Type 0
    AnswersHaveTypes nothing answers = answers ≡ []
    AnswersHaveTypes (joined from kind source on) answers = AnswersHaveTypes from answers
    AnswersHaveTypes (with_inner from query) answers =
        (before : List Ty) × (ty : Ty) × AnswersHaveTypes from before × InnerHasType query ty × (answers ≡ before ++ ty ∷ [])

    -- the result columns have these types; the SELECTs of a compound have one type for each column
    pub BodyHasTypes : Body → List Ty → Type 0
    BodyHasTypes (select from s) types =
        (answers row : List Ty) × AnswersHaveTypes from answers × FromHasTypes answers from row × SelectHasTypes answers row s types
    BodyHasTypes (compound body operator from s) types =
        BodyHasTypes body types
        × ((answers row : List Ty) × AnswersHaveTypes from answers × FromHasTypes answers from row × SelectHasTypes answers row s types)

  -- a term of ORDER BY, which stands over one SELECT without DISTINCT alone
  abbrev pub IsOrderTerm : Body → Term → Type 0
  IsOrderTerm (select from s) t =
      (s.distinct ≡ false)
      × ((answers row computed : List Ty) × AnswersHaveTypes from answers × FromHasTypes answers from row × ComputedHasTypes answers row s computed
      × IsTerm answers computed t)
  IsOrderTerm (compound body operator from s) t = ⊥

  abbrev pub IsKeyTerm : Body → List Ty → KeyTerm → Type 0
  IsKeyTerm body types (KeyTerm.result at) = at < length types
  IsKeyTerm body types (KeyTerm.term t) = IsOrderTerm body t

  -- the query's result columns have these types
  pub record HasTypes (query : QueryData) (types : List Ty) : Type 0 where
    pub body : BodyHasTypes query.body types
    pub order : All (λ key. IsKeyTerm query.body types key.by) query.order

  abbrev pub IsTyped : QueryData → Type 0
  IsTyped query = (types : List Ty) × HasTypes query types

abbrev pub FitTypes : List Ty → List Row → Type 0
FitTypes types rows = All (λ row. AllZip IsOfType types row) rows

-- the rows of the tables have values of the types of their columns, or NULL
pub record FitsCatalog (catalog : List (List Ty)) (db : Database) : Type 0 where
  pub schema : FitTypes schema_types db.schema
  pub tables : AllZip FitTypes catalog db.tables
