-- The terms of a query name columns and answers that there are.
use Rattle.std.proofs.Common.{◌≡◌, false, ℕ, ◌+◌, ◌<◌, List, length, Option, Some, None, slice_get}
use Rattle.values.specs.declared.value.Ty.{Ty}
use Rattle.semantics.specs.Query.{Aggregate, Body, From, Grouping, InnerQuery, KeyTerm, Select, SortTerm, Source, Window, WindowCall, WindowFunction, body_width, from_width, source_width}
use Rattle.semantics_refusals.proofs.ClashLemmas.{IsWithin}
use Rattle.semantics_refusals.proofs.HandsLemmas.{IfAny}
use Rattle.semantics_refusals.proofs.PartLemmas.{Each}

-- how many inner queries stand beside the sources
abbrev pub inner_count : From → ℕ
inner_count From.nothing = 0
inner_count (From.joined from kind source on) = inner_count from
inner_count (From.with_inner from query) = inner_count from + 1

-- how many values the rows have that windows take
abbrev pub input_width : ℕ → Option Grouping → ℕ
input_width width None = width
input_width width (Some g) = length g.by + length g.aggregates

module _ (count width : ℕ) where
  abbrev pub FunctionIsWithin : WindowFunction → Type 0
  FunctionIsWithin (WindowFunction.aggregate a) = IsWithin count width a.argument
  FunctionIsWithin WindowFunction.row_number = Unit {0}
  FunctionIsWithin WindowFunction.rank = Unit {0}
  FunctionIsWithin WindowFunction.dense_rank = Unit {0}
  FunctionIsWithin (WindowFunction.ntile n) = Unit {0}
  FunctionIsWithin (WindowFunction.lag x n otherwise) = IsWithin count width x × IsWithin count width otherwise
  FunctionIsWithin (WindowFunction.lead x n otherwise) = IsWithin count width x × IsWithin count width otherwise
  FunctionIsWithin (WindowFunction.first_value x) = IsWithin count width x
  FunctionIsWithin (WindowFunction.last_value x) = IsWithin count width x
  FunctionIsWithin (WindowFunction.nth_value x n) = IsWithin count width x

  pub record IsWithinWindow (v : Window) : Type 0 where
    pub partition : Each (IsWithin count width) v.partition
    pub order : Each (λ (s : SortTerm). IsWithin count width s.term) v.order

  pub record IsWithinCall (c : WindowCall) : Type 0 where
    pub window : IsWithinWindow c.window
    pub function : FunctionIsWithin c.function

  pub record IsWithinGrouping (g : Grouping) : Type 0 where
    pub by : Each (IsWithin count width) g.by
    pub aggregates : Each (λ (a : Aggregate). IsWithin count width a.argument) g.aggregates
    pub having : IsWithin count (length g.by + length g.aggregates) g.having

-- over FROM's rows of so many values, with so many inner queries
pub record IsWithinSelect (count width : ℕ) (s : Select) : Type 0 where
  pub condition : IsWithin count width s.condition
  pub grouping : IfAny (IsWithinGrouping count width) s.grouping
  pub windows : Each (IsWithinCall count (input_width width s.grouping)) s.windows
  pub columns : Each (IsWithin count (input_width width s.grouping + length s.windows)) s.columns

-- over tables whose columns have these types
module _ (types : List (List Ty)) where
  abbrev mutual
    pub SourceIsWithin : Source → Type 0
    SourceIsWithin (Source.table at width) = (of : List Ty) × (slice_get types at ≡ Some of)
    SourceIsWithin Source.schema = Unit {0}
    SourceIsWithin (Source.derived body) = BodyIsWithin body

    pub FromIsWithin : ℕ → From → Type 0
    FromIsWithin count From.nothing = Unit {0}
    FromIsWithin count (From.joined from kind source on) =
        FromIsWithin count from × SourceIsWithin source × IsWithin count (from_width from + source_width source) on
    FromIsWithin count (From.with_inner from query) = FromIsWithin count from × InnerIsWithin query

    pub InnerIsWithin : InnerQuery → Type 0
    InnerIsWithin (InnerQuery.values_of body) = BodyIsWithin body
    InnerIsWithin (InnerQuery.exists body) = BodyIsWithin body

    pub BodyIsWithin : Body → Type 0
    BodyIsWithin (Body.select from s) = FromIsWithin (inner_count from) from × IsWithinSelect (inner_count from) (from_width from) s
    BodyIsWithin (Body.compound left operator from s) =
        BodyIsWithin left × FromIsWithin (inner_count from) from × IsWithinSelect (inner_count from) (from_width from) s

-- a key is a result column that there is, or a term over the row that those of one SELECT without DISTINCT speak of
abbrev KeyHolds : Body → KeyTerm → Type 0
KeyHolds body (KeyTerm.result at) = at < body_width body
KeyHolds (Body.select from s) (KeyTerm.term t) =
    (s.distinct ≡ false) × IsWithin (inner_count from) (input_width (from_width from) s.grouping + length s.windows) t
KeyHolds (Body.compound left operator from s) (KeyTerm.term t) = ⊥

pub record IsWithinKey (body : Body) (key : KeyTerm) : Type 0 where
  pub is : KeyHolds body key
