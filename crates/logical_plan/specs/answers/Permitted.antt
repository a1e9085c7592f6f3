-- The answers that a query permits. (SELECT)
use Rattle.std.specs.Prelude.{◌≡◌, ◌⊎◌, All, Contains, false, ℕ, List, [], ◌++◌, length, map, None, Option, Some, IsPermutation, ⊤}
use Rattle.std.specs.List.{AllZip}
use Rattle.values.specs.Database.{Database}
use Rattle.values.specs.Datum.{Datum}
use Rattle.values.specs.Row.{Row}
use Rattle.expr.specs.Filled.{filled}
use Rattle.expr.specs.Meaning.{eval, run}
use Rattle.expr.specs.Term.{Term}
use Rattle.semantics.specs.Answer.{Permits, key_directions}
use Rattle.semantics.specs.Body.{answers_in, computed_rows, key_value}
use Rattle.semantics.specs.Hits.{FromHits, Hits, SelectHits, order_terms}
use Rattle.semantics.specs.OneTable.{shown}
use Rattle.semantics.specs.Query.{Body, From, Key, KeyTerm, QueryData, Select, compound, only, select, table}
use Rattle.semantics.specs.Valuation.{term_values}
use Rattle.logical_plan.specs.Plan.{PlanData, rows_of}
use Rattle.logical_plan.specs.Stands.{AreTestsOf, IsSplitCondition, StandsFor, condition_of, one_table}
use Rattle.logical_plan.specs.answers.Answers.{AnswerData, IsAnswer, OrderData}
use Rattle.logical_plan.specs.answers.Arms.{ArmData, ArmHits, ArmsData, ArmsHit, joined, one}

-- ---- one SELECT, over any plan of the rows that its result columns are computed on

-- an expression says of what is seen of each of these rows what a term says of the row
abbrev pub SaysOf : (Row → Row) → List Row → Term → Term → Type 0
SaysOf seen rows e t = (o : Option Datum) (row : Row) → Contains rows row → run o (seen row) e ≡ run o row t

-- The rows of a plan are, in some order, what is seen of those that the SELECT computes its result columns on, and its own
-- result columns say of them what those of the SELECT say.
pub record SeesRows (w : Datum) (db : Database) (from : From) (s : Select) (plan : PlanData) (columns : List Term) : Type 0 where
  pub seen : Row → Row
  pub rows_are : IsPermutation (map seen (computed_rows w db from s)) (rows_of w db plan)
  pub columns_are : AllZip (SaysOf seen (computed_rows w db from s)) columns (map (filled (answers_in w db from)) s.columns)

module _ (w : Datum) (db : Database) where
  -- an arm over such a plan
  pub record IsArmOf (from : From) (s : Select) (arm : ArmData) : Type 0 where
    pub sees : SeesRows w db from s arm.plan arm.columns
    pub distinct : arm.distinct ≡ s.distinct

  -- what the arm reaches the SELECT can reach
  abbrev pub HitsWithin : From → Select → ArmData → Type 0
  HitsWithin from s arm = ArmHits w db arm → FromHits w db (answers_in w db from) from false ⊎ SelectHits w db from s []

-- this holds of each SELECT of a body and the arm in its place, and the same operators join them
abbrev pub AreArmsOf : (From → Select → ArmData → Type 0) → Body → ArmsData → Type 0
AreArmsOf Is (select from s) (one arm) = Is from s arm
AreArmsOf Is (select from s) (joined left other arm) = ⊥
AreArmsOf Is (compound body operator from s) (one arm) = ⊥
AreArmsOf Is (compound body operator from s) (joined left other arm) = AreArmsOf Is body left × (other ≡ operator) × Is from s arm

-- ---- in the order of result columns, or in none

-- after DISTINCT and operators there is no row to compute a term of ORDER BY on, which so is a result column
abbrev pub IsResultColumn : KeyTerm → Type 0
IsResultColumn (KeyTerm.result at) = ⊤
IsResultColumn (KeyTerm.term t) = ⊥

abbrev pub AreResults : List Key → Type 0
AreResults order = All (λ key. IsResultColumn key.by) order

-- rows stay as they come where ORDER BY is empty; elsewhere they are put in its order, and all of their values are shown
abbrev pub IsOrderOf : List Key → Option OrderData → Type 0
IsOrderOf order None = order ≡ []
IsOrderOf order (Some o) = (o.keys ≡ order) × (o.hidden ≡ 0)

-- arms of the query's SELECTs, with its ORDER BY, LIMIT and OFFSET
pub record IsAnswerOf (w : Datum) (db : Database) (query : QueryData) (answer : AnswerData) : Type 0 where
  pub arms : AreArmsOf (IsArmOf w db) query.body answer.arms
  pub results : AreResults query.order
  pub order : IsOrderOf query.order answer.order
  pub limit : answer.limit ≡ query.limit
  pub offset : answer.offset ≡ query.offset

-- ---- one SELECT in any order

-- a term of ORDER BY says of what is seen of each of these rows what the SELECT's says of the row
abbrev pub KeySaysOf : (Row → Row) → List Row → List (List Datum) → KeyTerm → KeyTerm → Type 0
KeySaysOf seen rows answers (KeyTerm.result at) (KeyTerm.result n) = at ≡ n
KeySaysOf seen rows answers (KeyTerm.result at) (KeyTerm.term t) = ⊥
KeySaysOf seen rows answers (KeyTerm.term t) (KeyTerm.result n) = ⊥
KeySaysOf seen rows answers (KeyTerm.term t) (KeyTerm.term whole) = SaysOf seen rows t (filled answers whole)

pub record IsKeyOver (seen : Row → Row) (rows : List Row) (answers : List (List Datum)) (key whole : Key) : Type 0 where
  pub by : KeySaysOf seen rows answers key.by whole.by
  pub direction : key.direction ≡ whole.direction

-- where rows have the terms of ORDER BY that are no result columns after these, they have the values of ORDER BY at these places
pub record ArePlacesOf (columns : List Term) (order places : List Key) : Type 0 where
  pub directions : key_directions places ≡ key_directions order
  pub values : (w : Datum) (row : Row)
      → map (key_value (eval w) (term_values (eval w) (columns ++ order_terms order) row) []) places
      ≡ map (key_value (eval w) (term_values (eval w) columns row) row) order

-- an arm that has the terms of an ORDER BY over its plan after its result columns, which aren't shown
pub record IsOrderedArm (columns : List Term) (keys : List Key) (arm : ArmData) (order : OrderData) : Type 0 where
  pub all : arm.distinct ≡ false
  pub columns_are : arm.columns ≡ columns ++ order_terms keys
  pub places : ArePlacesOf columns keys order.keys
  pub hidden : order.hidden ≡ length (order_terms keys)

-- over a plan of the rows on which a SELECT without DISTINCT computes its result columns, in this order
pub record IsOrderedArmOf (w : Datum) (db : Database) (order : List Key) (from : From) (s : Select) (arm : ArmData) (o : OrderData) : Type 0 where
  pub all : s.distinct ≡ false
  pub columns : List Term
  pub keys : List Key
  pub sees : SeesRows w db from s arm.plan columns
  pub keys_are : AllZip (IsKeyOver sees.seen (computed_rows w db from s) (answers_in w db from)) keys order
  pub arm_is : IsOrderedArm columns keys arm o

-- such an arm for the query's one SELECT, with the query's ORDER BY, LIMIT and OFFSET
pub record IsOrderedAnswerOf (w : Datum) (db : Database) (query : QueryData) (answer : AnswerData) : Type 0 where
  pub from : From
  pub s : Select
  pub arm : ArmData
  pub order : OrderData
  pub body : query.body ≡ select from s
  pub arms : answer.arms ≡ one arm
  pub order_is : answer.order ≡ Some order
  pub arm_is : IsOrderedArmOf w db query.order from s arm order
  pub limit : answer.limit ≡ query.limit
  pub offset : answer.offset ≡ query.offset

-- ---- they are permitted

-- the lists of rows that these give are permitted
abbrev pub AnswerIsPermitted : Type 0
AnswerIsPermitted = (w : Datum) (db : Database) (query : QueryData) (answer : AnswerData) (rows : List Row)
    → IsAnswerOf w db query answer ⊎ IsOrderedAnswerOf w db query answer → IsAnswer w db answer rows → Permits w db query rows

-- what arms reach the query can reach
abbrev pub ArmsHitsAreHits : Type 0
ArmsHitsAreHits = (w : Datum) (db : Database) (query : QueryData) (arms : ArmsData)
    → AreResults query.order → AreArmsOf (HitsWithin w db) query.body arms → ArmsHit w db arms → Hits w db query

-- ---- one table

-- a plan reads this table with the SELECT's conditions, and result columns over it stand for those of the SELECT
pub record ReadsTable (w : Datum) (db : Database) (at width : ℕ) (s : Select) (plan : PlanData) (columns : List Term) : Type 0 where
  pub read : List ℕ
  pub constants : List Term
  pub tests : List Term
  pub plan_is : plan ≡ one_table at read constants tests
  pub split : IsSplitCondition read (condition_of w db (only (table at width)) s) constants tests
  pub columns_are : AreTestsOf read columns (map (filled (answers_in w db (only (table at width)))) s.columns)

-- so it has what is seen of the rows of a SELECT without groups and windows: the columns that are read
abbrev pub TableIsSeen : Type 0
TableIsSeen = (w : Datum) (db : Database) (at width : ℕ) (s : Select) (plan : PlanData) (columns : List Term) → s.grouping ≡ None → s.windows ≡ []
    → (reads : ReadsTable w db at width s plan columns) → (sees : SeesRows w db (only (table at width)) s plan columns) × (sees.seen ≡ shown reads.read)

-- a term of ORDER BY over the columns that are read
abbrev pub KeyStandsFor : List ℕ → List (List Datum) → KeyTerm → KeyTerm → Type 0
KeyStandsFor read answers (KeyTerm.result at) (KeyTerm.result n) = at ≡ n
KeyStandsFor read answers (KeyTerm.result at) (KeyTerm.term t) = ⊥
KeyStandsFor read answers (KeyTerm.term t) (KeyTerm.result n) = ⊥
KeyStandsFor read answers (KeyTerm.term t) (KeyTerm.term whole) = StandsFor read t (filled answers whole)

pub record IsKeyOf (read : List ℕ) (answers : List (List Datum)) (key whole : Key) : Type 0 where
  pub by : KeyStandsFor read answers key.by whole.by
  pub direction : key.direction ≡ whole.direction

-- and it says of them what the SELECT's says of any rows
abbrev pub TableKeysAreSeen : Type 0
TableKeysAreSeen = (read : List ℕ) (rows : List Row) (answers : List (List Datum)) (keys order : List Key)
    → AllZip (IsKeyOf read answers) keys order → AllZip (IsKeyOver (shown read) rows answers) keys order
