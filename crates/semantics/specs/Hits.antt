-- What a statement can reach: an operation, or the number of an aggregate or of a window function, that leaves 64 bits.
-- An expression is taken on rows that its sources can give, whether or not conditions keep them.
use Rattle.std.specs.Prelude.{◌≡◌, ◌⊎◌, ℕ, Bool, true, false, ◌||◌, Any, Contains, List, [], ◌∷◌, ◌++◌, flat_map, map, Option, Some, None}
use Rattle.values.specs.Datum.{Datum}
use Rattle.expr.specs.Conjuncts.{conjuncts}
use Rattle.expr.specs.Filled.{filled}
use Rattle.expr.specs.Reaches.{reaches}
use Rattle.expr.specs.Term.{Term}
use Rattle.semantics.specs.Query.{Body, From, InnerQuery, Grouping, Key, KeyTerm, QueryData, Select, Source, WindowCall, WindowFunction, compound, derived, joined, nothing, schema, select, source_width, table, values_of, exists, with_inner}
use Rattle.values.specs.Row.{Row}
use Rattle.semantics.specs.Valuation.{Valuation, kept}
use Rattle.semantics.specs.Joins.{nulls, pads_left, pads_right}
use Rattle.semantics.specs.Groups.{Group, aggregate_result, group_rows, grouped, groups}
use Rattle.semantics.specs.Windows.{call_result, numbered}
use Rattle.values.specs.Database.{Database}
use Rattle.semantics.specs.Body.{answers_in, rows_of, select_rows, source_rows, values_over}

-- one of these expressions, where the answers of inner queries stand in their places, reaches an operation out of range
abbrev pub SomeReaches : Datum → List (List Datum) → Row → List Term → Type 0
SomeReaches w answers row terms = Any (λ t. reaches w row (filled answers t) ≡ true) terms

-- a row of the source, or NULLs where a join can pad it or it is empty
abbrev pub IsChosen : Bool → ℕ → List Row → Row → Type 0
IsChosen padded width rows row = Contains rows row ⊎ (((padded ≡ true) ⊎ (rows ≡ [])) × (row ≡ nulls width))

-- any choice of one row from each source; `padded` tells that a later join can pad these
abbrev pub IsChoice : Datum → Database → Bool → From → Row → Type 0
IsChoice w db padded nothing row = row ≡ []
IsChoice w db padded (joined from kind source on) row =
    (l r : Row) × (row ≡ l ++ r) × IsChoice w db (padded || pads_left kind) from l
    × IsChosen (padded || pads_right kind) (source_width source) (source_rows w db source) r
IsChoice w db padded (with_inner from query) row = IsChoice w db padded from row

-- ---- the expressions of a SELECT

abbrev pub function_terms : WindowFunction → List Term
function_terms (WindowFunction.aggregate a) = a.argument ∷ []
function_terms WindowFunction.row_number = []
function_terms WindowFunction.rank = []
function_terms WindowFunction.dense_rank = []
function_terms (WindowFunction.ntile n) = []
function_terms (WindowFunction.lag x n otherwise) = x ∷ otherwise ∷ []
function_terms (WindowFunction.lead x n otherwise) = x ∷ otherwise ∷ []
function_terms (WindowFunction.first_value x) = x ∷ []
function_terms (WindowFunction.last_value x) = x ∷ []
function_terms (WindowFunction.nth_value x n) = x ∷ []

abbrev pub call_terms : WindowCall → List Term
call_terms call = call.window.partition ++ map (λ s. s.term) call.window.order ++ function_terms call.function

abbrev pub grouping_terms : Grouping → List Term
grouping_terms g = g.by ++ map (λ a. a.argument) g.aggregates

-- ---- the numbers of aggregates and windows

-- the number of an aggregate of the group leaves 64 bits
abbrev pub AggregateLeaves : Valuation → Grouping → Group → Type 0
AggregateLeaves value g group = Any (λ a. aggregate_result value None a group.members ≡ None) g.aggregates

-- the number of a window call leaves 64 bits, at some row
abbrev pub CallLeaves : Valuation → List Row → WindowCall → Type 0
CallLeaves value rows call = Any (λ r. call_result value None call rows r ≡ None) (numbered rows)

-- ---- one SELECT

module _ (w : Datum) (db : Database) (from : From) (s : Select) where
  abbrev pub where_rows : List Row
  where_rows = kept (values_over w db from) s.condition (rows_of w db from)

  -- a row that windows take: any choice, or where there are groups the row of one that HAVING keeps
  abbrev pub IsInput : Option Grouping → Row → Type 0
  IsInput None row = IsChoice w db false from row
  IsInput (Some g) row = Contains (grouped (values_over w db from) w (Some g) where_rows) row

  -- a row that the result columns are computed on
  abbrev pub IsComputedOn : List WindowCall → Row → Type 0
  IsComputedOn [] row = IsInput s.grouping row
  IsComputedOn (call ∷ calls) row = Contains (select_rows (values_over w db from) w s (rows_of w db from)) row

  -- one of these expressions of the SELECT reaches an operation out of range
  abbrev pub SomeReached : Row → List Term → Type 0
  SomeReached = SomeReaches w (answers_in w db from)

  -- `terms` are those of ORDER BY
  pub data SelectHits (terms : List Term) : Type 0 where
    in_where : (row : Row) → IsChoice w db false from row → SomeReached row (conjuncts s.condition) → SelectHits terms
    in_groups : (g : Grouping) (row : Row) → s.grouping ≡ Some g → IsChoice w db false from row → SomeReached row (grouping_terms g) → SelectHits terms
    in_aggregate : (g : Grouping) → s.grouping ≡ Some g → Any (AggregateLeaves (values_over w db from) g) (groups (values_over w db from) g.by where_rows)
        → SelectHits terms
    in_having : (g : Grouping) (row : Row) → s.grouping ≡ Some g → Contains (group_rows (values_over w db from) w g where_rows) row
        → SomeReached row (g.having ∷ []) → SelectHits terms
    in_window : (row : Row) → IsInput s.grouping row → SomeReached row (flat_map call_terms s.windows) → SelectHits terms
    in_window_number : Any (CallLeaves (values_over w db from) (grouped (values_over w db from) w s.grouping where_rows)) s.windows → SelectHits terms
    in_columns : (row : Row) → IsComputedOn s.windows row → SomeReached row (s.columns ++ terms) → SelectHits terms

-- ---- a query

module _ (w : Datum) (db : Database) where
  abbrev mutual
    pub SourceHits : Source → Type 0
    SourceHits (table at width) = ⊥
    SourceHits schema = ⊥
    SourceHits (derived body) = BodyHits body

    -- ON is taken conjunct by conjunct, with these answers, on a choice from the sources up to its own
    pub FromHits : List (List Datum) → From → Bool → Type 0
    FromHits answers nothing padded = ⊥
    FromHits answers (joined from kind source on) padded =
        FromHits answers from (padded || pads_left kind) ⊎ (SourceHits source
        ⊎ ((row : Row) × IsChoice w db padded (joined from kind source on) row × SomeReaches w answers row (conjuncts on)))
    FromHits answers (with_inner from query) padded = FromHits answers from padded ⊎ InnerHits query

    pub InnerHits : InnerQuery → Type 0
    InnerHits (values_of body) = BodyHits body
    InnerHits (exists body) = BodyHits body

    pub BodyHits : Body → Type 0
    BodyHits (select from s) = FromHits (answers_in w db from) from false ⊎ SelectHits w db from s []
    BodyHits (compound body operator from s) =
        BodyHits body ⊎ (FromHits (answers_in w db from) from false ⊎ SelectHits w db from s [])

abbrev pub key_terms : KeyTerm → List Term
key_terms (KeyTerm.result at) = []
key_terms (KeyTerm.term t) = t ∷ []

abbrev pub order_terms : List Key → List Term
order_terms order = flat_map (λ key. key_terms key.by) order

-- of a query that is one SELECT, the terms of ORDER BY are among its expressions
abbrev pub HitsOrdered : Datum → Database → List Key → Body → Type 0
HitsOrdered w db order (select from s) = FromHits w db (answers_in w db from) from false ⊎ SelectHits w db from s (order_terms order)
HitsOrdered w db order (compound body operator from s) = BodyHits w db (compound body operator from s)

-- some operation or number that the query can reach leaves 64 bits
abbrev pub Hits : Datum → Database → QueryData → Type 0
Hits w db query = HitsOrdered w db query.order query.body
