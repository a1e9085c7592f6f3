-- The sources and columns of the plan of a typed SELECT are some of those that have the catalog's columns.
use Rattle.std.proofs.Common.{◌≡◌, ◌+◌, ◌<◌, arith, All, Bool, false, ℕ, ℤ, List, [], ◌∷◌, ◌++◌, length, map, Option, Some, None, true, refl, sym, subst}
use Rattle.std.proofs.lemmas.List.Elements.{All-cons, All-head, All-nil, All-tail}
use Rattle.values.specs.declared.value.Ty.{Ty}
use Rattle.expr.specs.Conjuncts.{conjuncts}
use Rattle.expr.specs.Filled.{filled}
use Rattle.expr.specs.Term.{Term}
use Rattle.semantics.specs.Query.{From, Grouping, JoinKind, Key, Select, Source, WindowCall, from_width, full, inner, joined, nothing, right, source_width, table, with_inner}
use Rattle.semantics.specs.Typed.{FromHasTypes, IsTyped, SourceHasTypes}
use Rattle.logical_plan.specs.answers.Sources.{IsPlanOf, SourceData}
use Rattle.logical_plan_terms.proofs.PlacedLemmas.{All-back}
use Rattle.logical_plan.specs.JoinPlan.{IsEarlyPlan, IsJoinPlan, IsPlanBy, IsWritten, columns_before, has_right, joined_by}
use Rattle.logical_plan.specs.Plan.{PlanData, once}
use Rattle.logical_plan.specs.Stands.{tested}
use Rattle.logical_plan.proofs.JoinLemmas.{before_within}
use Rattle.logical_plan_queries.specs.select_plans.Columns.{HaveColumns}
use Rattle.logical_plan_queries.specs.select_plans.Laws.{of_select}
use Rattle.logical_plan_queries.specs.select_plans.Made.{IsMadeOver, IsOverRows, IsOverWindows}
use Rattle.logical_plan_queries.specs.select_plans.Read.{IsReadBy, IsReadOf, reads_all, terms_in}
use Rattle.logical_plan_queries.specs.select_plans.Served.{IsServedFrom}
use Rattle.logical_plan_queries.proofs.lemmas.select_plans.ColumnLemmas.{IsColumnsAt, columns_at}
use Rattle.logical_plan_queries.proofs.lemmas.select_plans.PlaceLemmas.{places_within}
use Rattle.logical_plan_queries.proofs.lemmas.select_plans.ReadLemmas.{all_read}
use Rattle.logical_plan_queries.proofs.lemmas.select_plans.TypedLemmas.{query_within, source_is}
use Rattle.logical_plan_terms.specs.table_plans.Input.{input_from}
use Rattle.logical_plan_terms.specs.declared.table_plans.inputs.Input.{Input}

shifted : (m n : ℕ) (cs : List ℕ) → All (λ c. c < m + n) (map (λ c. m + c) cs) → All (λ c. c < n) cs
shifted m n [] all = All-nil (λ c. c < n)
shifted m n (c ∷ cs) all =
    let here : m + c < m + n = All-head (λ c. c < m + n) (m + c) (map (λ c. m + c) cs) all in
    All-cons (λ c. c < n) c cs (omega (arith, here)) (shifted m n cs (All-tail (λ c. c < m + n) (m + c) (map (λ c. m + c) cs) all))

tested_of : (sources : List SourceData) (tests : List Term) (plan : PlanData) → IsPlanOf sources plan → IsPlanOf sources (tested tests plan)
tested_of sources [] plan of = of
tested_of sources (test ∷ tests) plan of = of

module _ (catalog : List (List Ty)) (sources : List SourceData) (have : HaveColumns catalog sources) where
  -- a typed table behind such a plan
  nest_over : (m : ℕ) (source : Source) (at width : ℕ) (r : List Ty) (read places : List ℕ) → source ≡ table at width
      → SourceHasTypes catalog source r → All (λ c. c < m + source_width source) read → read ≡ columns_before m read ++ map (λ c. m + c) places
      → IsColumnsAt sources at places
  nest_over m source at width r read places same typed within read_is =
      let table_is = source_is catalog source at width r same typed in
      let behind : All (λ c. c < m + source_width source) (map (λ c. m + c) places) =
      All-back (λ c. c < m + source_width source) (columns_before m read) (map (λ c. m + c) places)
      (subst (λ cs. All (λ c. c < m + source_width source) cs) read_is within) in
      columns_at catalog sources have at r places table_is.0 (subst (λ n. All (λ c. c < n) places) (sym table_is.1) (shifted m (source_width source) places behind))

  -- the plan of typed tables, of which these columns are read
  early_over : (from : From) → (answers types : List Ty) → FromHasTypes catalog answers from types
      → (read : List ℕ) → All (λ c. c < from_width from) read → (conditions : List Term) (plan : PlanData) → IsEarlyPlan read from conditions plan → IsPlanOf sources plan
  early_over nothing answers types typed read within conditions plan of = subst (IsPlanOf sources) (sym of.plan_is) (tested_of sources of.tests once tt)
  early_over (joined from inner source on) answers types typed read within conditions plan of =
      let m = from_width from in
      let nest = nest_over m source of.at of.width typed.1 read of.columns of.source_is typed.3 within of.read_is in
      subst (IsPlanOf sources) (sym of.plan_is) (
        early_over from answers typed.0 typed.2 (columns_before m read) (before_within m read) of.early of.left of.before,
        record { table = nest.0; columns = nest.1; scanned = refl },
      )
  early_over (joined from JoinKind.left source on) answers types typed read within conditions plan of =
      let m = from_width from in
      let nest = nest_over m source of.at of.width typed.1 read of.columns of.source_is typed.3 within of.read_is in
      subst (IsPlanOf sources) (sym of.plan_is)
      (tested_of sources of.above (PlanData.joined of.left (record { table = of.at; columns = of.columns; tests = of.tests; padded = true; search = None })) (
        early_over from answers typed.0 typed.2 (columns_before m read) (before_within m read) of.early of.left of.before,
        record { table = nest.0; columns = nest.1; scanned = refl },
      ))
  early_over (joined from right source on) answers types typed read within conditions plan of = absurd of
  early_over (joined from full source on) answers types typed read within conditions plan of = absurd of
  early_over (with_inner from query) answers types typed read within conditions plan of = absurd of

  -- a table by a join of each kind
  joined_over : (kind : JoinKind) (left : PlanData) (before at : ℕ) (columns : List ℕ) (tests : List Term) → IsPlanOf sources left
      → IsColumnsAt sources at columns
      → IsPlanOf sources (joined_by kind left before at columns tests)
  joined_over inner left before at columns tests of nest = (of, record { table = nest.0; columns = nest.1; scanned = refl })
  joined_over JoinKind.left left before at columns tests of nest = (of, record { table = nest.0; columns = nest.1; scanned = refl })
  joined_over right left before at columns tests of nest = (of, record { table = nest.0; columns = nest.1; scanned = refl })
  joined_over full left before at columns tests of nest = (of, record { table = nest.0; columns = nest.1; scanned = refl })

  written_over : (from : From) → (answers types : List Ty) → FromHasTypes catalog answers from types
      → (read : List ℕ) → All (λ c. c < from_width from) read → (plan : PlanData) → IsWritten read from plan → IsPlanOf sources plan
  written_over nothing answers types typed read within plan of = subst (IsPlanOf sources) (sym of) tt
  written_over (joined from kind source on) answers types typed read within plan of =
      let m = from_width from in
      subst (IsPlanOf sources) (sym of.plan_is)
      (joined_over kind of.left (length (columns_before m read)) of.at of.columns of.tests
      (written_over from answers typed.0 typed.2 (columns_before m read) (before_within m read) of.left of.before)
      (nest_over m source of.at of.width typed.1 read of.columns of.source_is typed.3 within of.read_is))
  written_over (with_inner from query) answers types typed read within plan of = absurd of

  from_over : (from : From) → (answers types : List Ty) → FromHasTypes catalog answers from types
      → (read : List ℕ) → All (λ c. c < from_width from) read → (conditions : List Term) (plan : PlanData) → IsJoinPlan read from conditions plan → IsPlanOf sources plan
  from_over from answers types typed read within conditions plan of = by_kind (has_right from) of
    where
      by_kind : (b : Bool) → IsPlanBy b read from conditions plan → IsPlanOf sources plan
      by_kind false of = early_over from answers types typed read within conditions plan of
      by_kind true of =
          subst (IsPlanOf sources) (sym of.plan_is)
          (tested_of sources of.tests of.below (written_over from answers types typed read within of.below of.below_is))

  module _ (input : Input) (s : Select) (inner : IsServedFrom (input_from input)) where
    -- what is read behind FROM and WHERE, groups of it, and windows over either
    rows_over : (read : List ℕ) (grouping : Option Grouping) (below : PlanData) (known : List ℕ) (plan : PlanData) → IsOverRows read grouping below known plan
        → IsPlanOf sources below → IsPlanOf sources plan
    rows_over read None below known plan over of = subst (IsPlanOf sources) (sym over.1) of
    rows_over read (Some g) below known plan over of = subst (IsPlanOf sources) (sym over.1.plan_is) of

    windows_over : (calls : List WindowCall) (taken : List ℕ) (inputs : PlanData) (known : List ℕ) (plan : PlanData) → IsOverWindows calls taken inputs known plan
        → IsPlanOf sources inputs → IsPlanOf sources plan
    windows_over [] taken inputs known plan over of = subst (IsPlanOf sources) (sym over.1) of
    windows_over (call ∷ calls) taken inputs known plan over of = subst (IsPlanOf sources) (sym over.1.plan_is) of

    -- only columns of the tables are read
    read_within : (order : List Key) (limit : Option ℤ) (offset : ℤ) → IsTyped catalog (of_select (input_from input) s order limit offset)
        → (read : List ℕ) → IsReadOf (input_from input) s order read → All (λ c. c < from_width (input_from input)) read
    read_within order limit offset typed read are = by_all (reads_all s.windows s.grouping) refl are
      where
        by_all : (b : Bool) → reads_all s.windows s.grouping ≡ b → IsReadBy b (input_from input) (terms_in (input_from input) s order) read
            → All (λ c. c < from_width (input_from input)) read
        by_all true all are = subst (All (λ c. c < from_width (input_from input))) (sym are) (places_within (from_width (input_from input)))
        by_all false named are =
            all_read (λ c. c < from_width (input_from input)) read (terms_in (input_from input) s order) are
            (query_within catalog (input_from input) inner s order limit offset typed.0 typed.1 named)

    pub plan_over : (order : List Key) (limit : Option ℤ) (offset : ℤ) (plan : PlanData) (es : List Term)
        → IsTyped catalog (of_select (input_from input) s order limit offset) → IsMadeOver input s order plan es → IsPlanOf sources plan
    plan_over order limit offset plan es typed made =
        let body = typed.1.body in
        windows_over s.windows made.taken made.inputs made.columns plan made.rows_are
        (rows_over made.read s.grouping made.below made.taken made.inputs made.inputs_are
        (from_over (input_from input) body.0 body.1 body.3 made.read (read_within order limit offset typed made.read made.are_read)
        (conjuncts (filled [] s.condition)) made.below made.below_is))
