-- The plan of a FROM of tables. Where all joins are inner and LEFT joins, it tests each condition as soon as its columns are read;
-- where one is a RIGHT or FULL JOIN, it tests each where it is written.
-- (SELECT, "Determination of input data", "WHERE clause filtering")
use Rattle.std.specs.Prelude.{◌≡◌, ◌+◌, ◌<◌, ◌⊎◌, ◌||◌, ⊤, true, false, All, Bool, ℕ, List, [], ◌∷◌, ◌++◌, filter, flat_map, length, map, nat_lt, Option, IsPermutation, None}
use Rattle.std.specs.List.{AllZip}
use Rattle.values.specs.Database.{Database}
use Rattle.values.specs.Datum.{Datum}
use Rattle.values.specs.Row.{Row}
use Rattle.expr.specs.Columns.{columns_of}
use Rattle.expr.specs.Conjuncts.{conjuncts}
use Rattle.expr.specs.Filled.{filled}
use Rattle.expr.specs.Meaning.{run}
use Rattle.expr.specs.Term.{Term}
use Rattle.semantics.specs.Body.{answers_in, source_rows, values_over}
use Rattle.semantics.specs.Body as body
use Rattle.semantics.specs.Hits.{FromHits, SelectHits, where_rows}
use Rattle.semantics.specs.Joins.{alone, nulls, pads_left, pads_right}
use Rattle.semantics.specs.OneTable.{shown}
use Rattle.semantics.specs.Query.{From, JoinKind, Select, Source, derived, from_width, full, inner, joined, nothing, right, schema, source_width, table, with_inner}
use Rattle.semantics.specs.Valuation.{Valuation, kept, meets}
use Rattle.logical_plan.specs.Plan as p
use Rattle.logical_plan.specs.Plan.{Hits, NestedData, PlanData, or_alone, rows_of}
use Rattle.logical_plan.specs.Stands.{AreTestsOf, StandsFor, tested, tested_once}

-- those of the columns that stand before this one
abbrev pub columns_before : ℕ → List ℕ → List ℕ
columns_before count columns = filter (λ at. nat_lt at count) columns

-- these columns of a row; without FROM the row of no values stays so
abbrev pub seen : From → List ℕ → Row → Row
seen nothing columns row = []
seen (joined from kind source on) columns row = shown columns row
seen (with_inner from query) columns row = seen from columns row

-- some expression over these columns stands for the term
abbrev pub NeedsOnly : List ℕ → Term → Type 0
NeedsOnly columns t = (e : Term) × StandsFor columns e t

-- on the row of no values tests say what conditions say, one by one
abbrev pub AreTestsOfNothing : List Term → List Term → Type 0
AreTestsOfNothing tests conditions = AllZip (λ e t. (o : Option Datum) → run o [] e ≡ run o [] t) tests conditions

-- the one row of no values, where conditions are true of it
pub record IsTestedOnce (conditions : List Term) (plan : PlanData) : Type 0 where
  pub tests : List Term
  pub plan_is : plan ≡ tested_once tests
  pub tests_are : AreTestsOfNothing tests conditions

-- A table that an inner join puts behind the sources before it. Of its ON and the other conditions, those are tested before it that need no more than the
-- columns that are read before it, and the others at its rows; each of these names a column of the table.
pub record IsNestedPlan (Before : List Term → PlanData → Type 0) (read : List ℕ) (from : From) (source : Source) (on : Term)
    (conditions : List Term) (plan : PlanData) : Type 0 where
  pub at : ℕ
  pub width : ℕ
  pub source_is : source ≡ table at width
  pub left : PlanData
  pub columns : List ℕ
  pub tests : List Term
  pub plan_is : plan ≡ p.joined left (record { table = at; columns = columns; tests = tests; padded = false; search = None })
  pub read_is : read ≡ columns_before (from_width from) read ++ map (λ c. from_width from + c) columns
  pub early : List Term
  pub late : List Term
  pub same : IsPermutation (conjuncts (filled [] on) ++ conditions) (early ++ late)
  pub early_are : All (NeedsOnly (columns_before (from_width from) read)) early
  pub late_are : AreTestsOf read tests late
  pub tests_need : All (λ e. ¬ All (λ c. c < length (columns_before (from_width from) read)) (columns_of e)) tests
  pub before : Before early left

-- A table that a LEFT JOIN puts behind the sources before it, whose ON is tested at its rows. Of the other conditions, those are
-- tested before it that need no more than the columns that are read before it, and the others on the rows of the join.
pub record IsPaddedPlan (Before : List Term → PlanData → Type 0) (read : List ℕ) (from : From) (source : Source) (on : Term)
    (conditions : List Term) (plan : PlanData) : Type 0 where
  pub at : ℕ
  pub width : ℕ
  pub source_is : source ≡ table at width
  pub left : PlanData
  pub columns : List ℕ
  pub tests : List Term
  pub above : List Term
  pub plan_is : plan ≡ tested above (p.joined left (record { table = at; columns = columns; tests = tests; padded = true; search = None }))
  pub read_is : read ≡ columns_before (from_width from) read ++ map (λ c. from_width from + c) columns
  pub early : List Term
  pub late : List Term
  pub same : IsPermutation conditions (early ++ late)
  pub early_are : All (NeedsOnly (columns_before (from_width from) read)) early
  pub tests_are : AreTestsOf read tests (conjuncts (filled [] on))
  pub above_are : AreTestsOf read above late
  pub above_need : All (λ e. ¬ All (λ c. c < length (columns_before (from_width from) read)) (columns_of e)) above
  pub before : Before early left

-- a RIGHT or FULL JOIN never is among these
abbrev pub IsSourcePlan : (List Term → PlanData → Type 0) → List ℕ → From → JoinKind → Source → Term → List Term → PlanData → Type 0
IsSourcePlan Before read from inner source on conditions plan = IsNestedPlan Before read from source on conditions plan
IsSourcePlan Before read from JoinKind.left source on conditions plan = IsPaddedPlan Before read from source on conditions plan
IsSourcePlan Before read from right source on conditions plan = ⊥
IsSourcePlan Before read from full source on conditions plan = ⊥

-- the plan of a FROM of inner and LEFT joins, of which these columns are read, and of conditions beside each ON
abbrev pub IsEarlyPlan : List ℕ → From → List Term → PlanData → Type 0
IsEarlyPlan read nothing conditions plan = IsTestedOnce conditions plan
IsEarlyPlan read (joined from kind source on) conditions plan =
    IsSourcePlan (IsEarlyPlan (columns_before (from_width from) read) from) read from kind source on conditions plan
IsEarlyPlan read (with_inner from query) conditions plan = ⊥

-- ---- where a join pads rows before it

-- a table behind a plan, by a join of this kind, before which rows of so many values are read
abbrev pub joined_by : JoinKind → PlanData → ℕ → ℕ → List ℕ → List Term → PlanData
joined_by kind left before at columns tests =
    by (pads_left kind) (record { table = at; columns = columns; tests = tests; padded = pads_right kind; search = None })
  where
    by : Bool → NestedData → PlanData
    by false nest = p.joined left nest
    by true nest = p.flagged left (record { nest = nest; before = before })

-- a table behind the sources before it, at whose rows exactly its ON is tested
pub record IsWrittenTable (Before : PlanData → Type 0) (read : List ℕ) (from : From) (kind : JoinKind) (source : Source) (on : Term) (plan : PlanData) : Type 0 where
  pub at : ℕ
  pub width : ℕ
  pub source_is : source ≡ table at width
  pub left : PlanData
  pub columns : List ℕ
  pub tests : List Term
  pub plan_is : plan ≡ joined_by kind left (length (columns_before (from_width from) read)) at columns tests
  pub read_is : read ≡ columns_before (from_width from) read ++ map (λ c. from_width from + c) columns
  pub tests_are : AreTestsOf read tests (conjuncts (filled [] on))
  pub before : Before left

-- the tables of FROM, of which these columns are read, each joined as it is written
abbrev pub IsWritten : List ℕ → From → PlanData → Type 0
IsWritten read nothing plan = plan ≡ p.once
IsWritten read (joined from kind source on) plan =
    IsWrittenTable (IsWritten (columns_before (from_width from) read) from) read from kind source on plan
IsWritten read (with_inner from query) plan = ⊥

-- and conditions on their rows
pub record IsWrittenPlan (read : List ℕ) (from : From) (conditions : List Term) (plan : PlanData) : Type 0 where
  pub below : PlanData
  pub tests : List Term
  pub plan_is : plan ≡ tested tests below
  pub tests_are : AreTestsOf read tests conditions
  pub below_is : IsWritten read from below

-- a RIGHT or FULL JOIN is among these
abbrev pub has_right : From → Bool
has_right nothing = false
has_right (joined from kind source on) = has_right from || pads_left kind
has_right (with_inner from query) = has_right from

-- ---- the plan

abbrev pub IsPlanBy : Bool → List ℕ → From → List Term → PlanData → Type 0
IsPlanBy false read from conditions plan = IsEarlyPlan read from conditions plan
IsPlanBy true read from conditions plan = IsWrittenPlan read from conditions plan

-- The plan of FROM, of which these columns are read, and of conditions beside each ON. A test that is moved before a RIGHT or FULL
-- JOIN would take rows from it that its table's rows meet: so none is moved where there is one.
abbrev pub IsJoinPlan : List ℕ → From → List Term → PlanData → Type 0
IsJoinPlan read from conditions plan = IsPlanBy (has_right from) read from conditions plan

-- the rows of a table have as many values as it has columns
abbrev pub IsWideSource : Database → Source → Type 0
IsWideSource db (table at width) = All (λ row. length row ≡ width) (p.table_rows db at)
IsWideSource db schema = ⊤
IsWideSource db (derived body) = ⊤

-- those of each table do
abbrev pub AreWide : Database → From → Type 0
AreWide db nothing = ⊤
AreWide db (joined from kind source on) = AreWide db from × IsWideSource db source
AreWide db (with_inner from query) = AreWide db from

-- and those of the tables that another source stands behind; of one table alone this says nothing
abbrev pub AreWideBefore : Database → From → Type 0
AreWideBefore db nothing = ⊤
AreWideBefore db (joined from kind source on) = AreWide db from
AreWideBefore db (with_inner from query) = AreWideBefore db from

-- ---- rows in the order in which sources are nested

-- behind each row those of the next source that it meets, and of a LEFT or FULL JOIN NULLs where it meets none
abbrev pub in_turn : JoinKind → ℕ → (Row → Row → Bool) → List Row → List Row → List Row
in_turn kind width on ls rs = flat_map (λ l. or_alone (pads_right kind) (l ++ nulls width) (map (λ r. l ++ r) (filter (on l) rs))) ls

abbrev pub with_lone : Bool → List Row → List Row → List Row
with_lone false lone rows = rows
with_lone true lone rows = rows ++ lone

-- and last, of a RIGHT or FULL JOIN, the rows of the source that none of them met, behind NULLs
abbrev pub all_in_turn : JoinKind → ℕ → ℕ → (Row → Row → Bool) → List Row → List Row → List Row
all_in_turn kind left_width width on ls rs =
    with_lone (pads_left kind) (map (λ r. nulls left_width ++ r) (alone (λ r l. on l r) rs ls)) (in_turn kind width on ls rs)

abbrev pub rows_in_turn : Datum → Database → Valuation → From → List Row
rows_in_turn w db value nothing = [] ∷ []
rows_in_turn w db value (joined from kind source on) =
    all_in_turn kind (from_width from) (source_width source) (meets value on) (rows_in_turn w db value from) (source_rows w db source)
rows_in_turn w db value (with_inner from query) = rows_in_turn w db value from

-- those of FROM in this order, that WHERE keeps
abbrev pub where_in_turn : Datum → Database → From → Select → List Row
where_in_turn w db from s = kept (values_over w db from) s.condition (rows_in_turn w db (values_over w db from) from)

abbrev pub AreInner : From → Type 0
AreInner nothing = ⊤
AreInner (joined from kind source on) = AreInner from × (kind ≡ inner)
AreInner (with_inner from query) = AreInner from

-- of inner joins alone these are the rows of FROM in their own order
abbrev pub InnerInTurn : Type 0
InnerInTurn = (w : Datum) (db : Database) (from : From) → AreInner from → rows_in_turn w db (values_over w db from) from ≡ body.rows_of w db from

-- ---- laws

-- the plan has the rows of FROM that WHERE keeps, in the order in which the tables are nested
abbrev pub JoinIsWhere : Type 0
JoinIsWhere = (w : Datum) (db : Database) (s : Select) (from : From) (read : List ℕ) (plan : PlanData) → AreWideBefore db from
    → IsJoinPlan read from (conjuncts (filled [] s.condition)) plan → rows_of w db plan ≡ map (seen from read) (where_in_turn w db from s)

-- so in some order they are those that the SELECT has
abbrev pub JoinIsBag : Type 0
JoinIsBag = (w : Datum) (db : Database) (s : Select) (from : From) (read : List ℕ) (plan : PlanData) → AreWideBefore db from
    → IsJoinPlan read from (conjuncts (filled [] s.condition)) plan → IsPermutation (map (seen from read) (where_rows w db from s)) (rows_of w db plan)

-- what it hits, the SELECT hits
abbrev pub JoinHits : Type 0
JoinHits = (w : Datum) (db : Database) (s : Select) (terms : List Term) (from : From) (read : List ℕ) (plan : PlanData) → AreWideBefore db from
    → IsJoinPlan read from (conjuncts (filled [] s.condition)) plan → Hits w db plan
    → FromHits w db (answers_in w db from) from false ⊎ SelectHits w db from s terms
