-- A plan of tables that are joined as they are written has the rows of FROM.
use Rattle.std.proofs.Common.{◌≡◌, ◌∙◌, ◌+◌, All, Bool, true, false, not, flat_map, ℕ, List, [], ◌∷◌, ◌++◌, ◌||◌, length, map, refl, sym, ap}
use Rattle.std.specs.List.{filter, list_any}
use Rattle.std.proofs.lemmas.List.{length-replicate, map-append}
use Rattle.std.proofs.lemmas.List.Elements.{All-head, All-tail, filter_agree}
use Rattle.values.specs.Database.{Database}
use Rattle.values.specs.Datum.{Datum, null}
use Rattle.values.specs.Row.{Row}
use Rattle.expr.specs.Conjuncts.{conjuncts}
use Rattle.expr.specs.Filled.{filled}
use Rattle.expr.specs.Term.{Term}
use Rattle.semantics.specs.Body.{source_rows}
use Rattle.semantics.specs.Joins.{alone, nulls, pads_left, pads_right}
use Rattle.semantics.specs.OneTable.{shown}
use Rattle.semantics.specs.Query.{From, JoinKind, Source, from_width, full, inner, joined, nothing, right, source_width, with_inner}
use Rattle.semantics.specs.Valuation.{meets, with_answers}
use Rattle.semantics.proofs.GroupLemmas.{map-map, map_agree}
use Rattle.logical_plan.specs.JoinPlan.{AreWideBefore, IsWritten, IsWrittenPlan, all_in_turn, columns_before, has_right, in_turn, joined_by, rows_in_turn, seen, with_lone}
use Rattle.logical_plan.specs.Plan.{PlanData, are_met, are_true, beside, or_alone, rows_of, table_rows}
use Rattle.logical_plan.specs.Stands.{AreTestsOf}
use Rattle.logical_plan.proofs.JoinLemmas.{AreTables, behind_seen, on_true, rows_before, rows_tested, rows_wide, shown_beside, shown_nulls, value_of, wide_before}
use Rattle.logical_plan.proofs.RowLemmas.{filter-map}
use Rattle.logical_plan.proofs.StandLemmas.{tests_agree}

with_lone-map : (b : Bool) (f : Row → Row) (lone rows : List Row) → with_lone b (map f lone) (map f rows) ≡ map f (with_lone b lone rows)
with_lone-map false f lone rows = refl
with_lone-map true f lone rows = sym (map-append f rows lone)

-- ---- a table, behind rows of which these columns are read

module _ (w : Datum) (read columns : List ℕ) (m width : ℕ) (on : Term) (tests : List Term)
    (is : read ≡ columns_before m read ++ map (λ c. m + c) columns) (tests_are : AreTestsOf read tests (conjuncts (filled [] on))) where
  abbrev first : List ℕ
  first = columns_before m read

  abbrev met : Row → Row → Bool
  met = meets (with_answers w []) on

  abbrev are_long : List Row → Type 0
  are_long ls = All (λ l. length l ≡ m) ls

  abbrev behind : Bool → List Row → Row → List Row
  behind padded rows l = or_alone padded (l ++ nulls (length columns)) (beside w tests l (map (shown columns) rows))

  abbrev turned_of : Bool → List Row → Row → List Row
  turned_of padded rows l = or_alone padded (l ++ nulls width) (map (λ r. l ++ r) (filter (met l) rows))

  -- the pairs of each row, or its NULLs
  behind_all : (padded : Bool) (ls rows : List Row) → are_long ls
      → flat_map (behind padded rows) (map (shown first) ls) ≡ map (shown read) (flat_map (turned_of padded rows) ls)
  behind_all padded [] rows long = refl
  behind_all padded (l ∷ ls) rows long =
      let rest = behind_all padded ls rows (All-tail (λ l. length l ≡ m) l ls long) in
      (λ i. behind_seen w read columns m width on tests is tests_are padded l rows (All-head (λ l. length l ≡ m) l ls long) i ++ rest i)
      ∙ sym (map-append (shown read) (turned_of padded rows l) (flat_map (turned_of padded rows) ls))

  -- a row of the table is met by what is read of a row before it where that row meets it
  any_met : (r : Row) (ls : List Row) → are_long ls → list_any (are_met w tests (shown columns r)) (map (shown first) ls) ≡ list_any (λ l. met l r) ls
  any_met r [] long = refl
  any_met r (l ∷ ls) long =
      let rest = any_met r ls (All-tail (λ l. length l ≡ m) l ls long) in
      λ i. on_true w read columns m width on tests is tests_are l r (All-head (λ l. length l ≡ m) l ls long) i || rest i

  nulls_before : (r : Row) → nulls (length first) ++ shown columns r ≡ shown read (nulls m ++ r)
  nulls_before r =
      ap (λ l. l ++ shown columns r) (sym (shown_nulls m first)) ∙ sym (shown_beside (nulls m) r m read columns (length-replicate m null) is)

  abbrev lone : List Row → List Row → List Row
  lone ls rows = alone (λ r l. met l r) rows ls

  lone_seen : (ls rows : List Row) → are_long ls
      → map (λ r. nulls (length first) ++ r) (alone (are_met w tests) (map (shown columns) rows) (map (shown first) ls))
      ≡ map (shown read) (map (λ r. nulls m ++ r) (lone ls rows))
  lone_seen ls rows long =
      ap (map (λ r. nulls (length first) ++ r))
      (filter-map (λ r. not (list_any (are_met w tests r) (map (shown first) ls))) (shown columns) rows
      ∙ ap (map (shown columns))
      (filter_agree (λ r. not (list_any (are_met w tests (shown columns r)) (map (shown first) ls))) (λ r. not (list_any (λ l. met l r) ls))
      (λ r. ap not (any_met r ls long)) rows))
      ∙ map-map (λ r. nulls (length first) ++ r) (shown columns) (lone ls rows)
      ∙ map_agree (λ r. nulls (length first) ++ shown columns r) (λ r. shown read (nulls m ++ r)) nulls_before (lone ls rows)
      ∙ sym (map-map (shown read) (λ r. nulls m ++ r) (lone ls rows))

  -- the rows of a join of each kind
  pub all_seen : (kind : JoinKind) (ls rows : List Row) → are_long ls
      → with_lone (pads_left kind) (map (λ r. nulls (length first) ++ r) (alone (are_met w tests) (map (shown columns) rows) (map (shown first) ls)))
      (flat_map (behind (pads_right kind) rows) (map (shown first) ls))
      ≡ map (shown read) (all_in_turn kind m width met ls rows)
  all_seen kind ls rows long =
      (λ i. with_lone (pads_left kind) (lone_seen ls rows long i) (behind_all (pads_right kind) ls rows long i))
      ∙ with_lone-map (pads_left kind) (shown read) (map (λ r. nulls m ++ r) (lone ls rows)) (in_turn kind width met ls rows)

-- ---- the plan

pub written_tables : (from : From) (read : List ℕ) (plan : PlanData) → IsWritten read from plan → AreTables from
written_tables nothing read plan of = tt
written_tables (joined from kind source on) read plan of =
    (written_tables from (columns_before (from_width from) read) of.left of.before, (of.at, of.width, of.source_is))
written_tables (with_inner from query) read plan of = absurd of

module _ (w : Datum) (db : Database) where
  rows_by : (kind : JoinKind) (left : PlanData) (before at : ℕ) (columns : List ℕ) (tests : List Term)
      → rows_of w db (joined_by kind left before at columns tests)
      ≡ with_lone (pads_left kind) (map (λ r. nulls before ++ r) (alone (are_met w tests) (map (shown columns) (table_rows db at)) (rows_of w db left)))
      (flat_map (λ l. or_alone (pads_right kind) (l ++ nulls (length columns)) (beside w tests l (map (shown columns) (table_rows db at)))) (rows_of w db left))
  rows_by inner left before at columns tests = refl
  rows_by JoinKind.left left before at columns tests = refl
  rows_by right left before at columns tests = refl
  rows_by full left before at columns tests = refl

  pub written_rows : (from : From) (read : List ℕ) (plan : PlanData) → AreWideBefore db from → IsWritten read from plan
      → rows_of w db plan ≡ map (seen from read) (rows_in_turn w db (value_of w db) from)
  written_rows nothing read plan wide of = ap (rows_of w db) of
  written_rows (joined from kind source on) read plan wide of =
      let first = columns_before (from_width from) read in
      let ls = rows_in_turn w db (value_of w db) from in
      ap (rows_of w db) of.plan_is
      ∙ rows_by kind of.left (length first) of.at of.columns of.tests
      ∙ ap (λ lefts. with_lone (pads_left kind) (map (λ r. nulls (length first) ++ r) (alone (are_met w of.tests) (map (shown of.columns) (table_rows db of.at)) lefts))
      (flat_map (λ l. or_alone (pads_right kind) (l ++ nulls (length of.columns)) (beside w of.tests l (map (shown of.columns) (table_rows db of.at)))) lefts))
      (rows_before w db from read of.left ls (written_rows from first of.left (wide_before db from wide) of.before))
      ∙ all_seen w read of.columns (from_width from) of.width on of.tests of.read_is of.tests_are kind ls (table_rows db of.at)
      (rows_wide w db from (written_tables from first of.left of.before) wide)
      ∙ ap (λ (s : Source). map (shown read) (all_in_turn kind (from_width from) (source_width s) (meets (value_of w db) on) ls (source_rows w db s))) (sym of.source_is)
  written_rows (with_inner from query) read plan wide of = absurd of

  -- and conditions on them
  pub written_plan_rows : (from : From) (read : List ℕ) (conditions : List Term) (plan : PlanData) → has_right from ≡ true → AreWideBefore db from
      → IsWrittenPlan read from conditions plan → rows_of w db plan ≡ map (seen from read) (filter (are_true w conditions) (rows_in_turn w db (value_of w db) from))
  written_plan_rows nothing read conditions plan some wide of = absurd cc
  written_plan_rows (joined from kind source on) read conditions plan some wide of =
      let rows = rows_in_turn w db (value_of w db) (joined from kind source on) in
      ap (rows_of w db) of.plan_is ∙ rows_tested w db of.tests of.below
      ∙ ap (filter (are_true w of.tests)) (written_rows (joined from kind source on) read of.below wide of.below_is)
      ∙ filter-map (are_true w of.tests) (shown read) rows
      ∙ ap (map (shown read))
      (filter_agree (λ row. are_true w of.tests (shown read row)) (are_true w conditions) (λ row. tests_agree w read of.tests conditions row of.tests_are) rows)
  written_plan_rows (with_inner from query) read conditions plan some wide of = absurd of.below_is
