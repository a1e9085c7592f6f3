-- The plan of a query without the queries in it, over their rows.
use Rattle.std.proofs.Common.{◌≡◌, ◌∙◌, ◌≤◌, inl, inr, ℕ, List, [], ◌∷◌, ◌++◌, Vec, Global, Result, length, map, take, refl, sym, ap, subst, arith, IsPermutation}
use Rattle.std.specs.Result.{IfErr, MatchResult}
use Rattle.std.proofs.lemmas.Result.{IfErr-weaker, MatchResult-weaker}
use Rattle.std.specs.List.{AllZip}
use Rattle.std.proofs.lemmas.List.{length-map}
use Rattle.std.proofs.lemmas.List.Elements.{All-nil}
use Rattle.std.proofs.lemmas.List.Sorted.{IsPermutation-refl, IsPermutation-sym}
use Rattle.values.specs.Database.{Database}
use Rattle.values.specs.Datum.{Datum, null, int, text, blob}
use Rattle.values.specs.Row.{Row, rows_data}
use Rattle.values.specs.declared.fault.Fault.{Fault}
use Rattle.values.specs.declared.fault.Fault.TheVariants.{NoMemory}
use Rattle.values.specs.declared.value.Value.{Value}
use Rattle.values.specs.declared.value.Ty.{Ty}
use Rattle.values.specs.declared.value.Ty.TheVariants.{Int}
use Rattle.expr.specs.Types.{IsOfType}
use Rattle.btree.specs.image.Pages.{Pages}
use Rattle.schema_tables.specs.ColumnTypes.{column_types, types_of}
use Rattle.schema_tables.specs.TableData.{TableData}
use Rattle.semantics_rewrites.proofs.lemmas.materialized_queries.FlatHitLemmas.{materialized_with_hits}
use Rattle.logical_plan_queries.specs.compound_plans.Work.{selects_work}
use Rattle.semantics_rewrites.proofs.lemmas.materialized_queries.FlatLemmas.{AreFrom, all_from, materialized_with_permits}
use Rattle.semantics_rewrites.proofs.lemmas.materialized_queries.PartLemmas.{plain_hits, plain_rows}
use Rattle.semantics_rewrites.proofs.lemmas.materialized_queries.WholeTypeLemmas.{materialized_query_typed}
use Rattle.semantics_rewrites.specs.materialized_queries.Flat.{kept_of, with_kept}
use Rattle.semantics_rewrites.specs.materialized_queries.FlatTyped.{IsFlatQueryTyped}
use Rattle.semantics_rewrites.specs.materialized_queries.FlatWith.{materialized_with, queries_of, with_rows}
use Rattle.semantics_rewrites.specs.materialized_queries.Parts.{plain}
use Rattle.semantics.proofs.ElementLemmas.{AllZip-both, length_all_zip}
use Rattle.semantics.specs.Answer.{IsStandIn, Permits}
use Rattle.semantics.specs.Body.{SameTables, body_rows, source_rows}
use Rattle.semantics.specs.Hits.{Hits}
use Rattle.semantics.specs.Query.{Body, QueryData}
use Rattle.semantics.specs.Typed.{HasTypes, IsTyped, SourceHasTypes}
use Rattle.operators_loops.specs.Basis.{AreStored, Basis}
use Rattle.logical_plan.specs.Plan.{PlanData, once}
use Rattle.logical_plan_queries.proofs.WideLemmas.{typed_wide}
use Rattle.logical_plan_queries.specs.Answers.{AreWideFor, IsAnswerOf, IsPlanFor, PlannedData, work_of}
use Rattle.logical_plan_queries.specs.Served.{HaveServedForm}
use Rattle.operators_runs.specs.execution.Given.{IsRowCause}
use Rattle.logical_plan_queries.proofs.lemmas.select_plans.ColumnLemmas.{tables_have_columns}
use Rattle.logical_plan_queries.specs.select_plans.Columns.{HaveColumns}
use Rattle.semantics_rewrites.proofs.lemmas.schema_sources.TypeLemmas.{typed_within}
use Rattle.semantics_rewrites.specs.schema_sources.Within.{IsBodyWithin}
use Rattle.logical_plan.specs.answers.Sources.{sources_of}
use Rattle.operators_runs.specs.inner_rows.Computed.{AreComputedRows, AreSomeWhere}
use Rattle.operators_runs.specs.inner_rows.InnerView.{InnerData, kept_rows}
use Rattle.operators_runs.specs.inner_rows.Over.{AreSaid, BeginsAnswer, IsBodyCause, IsPlanOverKept, IsQueryCause, basis_over}
use Rattle.operators_runs.specs.inner_rows.Runnable.{IsComputableBody, IsRunnableBody}
use Rattle.operators_runs.proofs.lemmas.inner_rows.FirstLemmas.{some_alike}
use Rattle.operators_runs.proofs.lemmas.inner_rows.KeptLemmas.{Lists, kept_are_stored, kept_have_columns, tables_count}
use Rattle.operators_runs.proofs.lemmas.inner_rows.RunnableLemmas.{materialized_is_served}
use Rattle.operators_runs.proofs.lemmas.inner_rows.WorkLemmas.{selects_fewer}

stand_in_is : (w : Datum) → IsStandIn w → IsOfType Int w
stand_in_is null is = tt
stand_in_is (int z) is = refl
stand_in_is (text s) is = absurd is
stand_in_is (blob b) is = absurd is

turned : (xs ys : List (List Row)) → AllZip IsPermutation xs ys → AllZip IsPermutation ys xs
turned [] [] all = tt
turned [] (y ∷ ys) all = absurd all
turned (x ∷ xs) [] all = absurd all
turned (x ∷ xs) (y ∷ ys) all = (IsPermutation-sym x y all.0, turned xs ys all.1)

alike : (xs : List (List Row)) → AllZip IsPermutation xs xs
alike [] = tt
alike (x ∷ xs) = (IsPermutation-refl x, alike xs)

module _ (pages : Pages) (tables : List TableData) (on : Basis) (said : AreSaid pages tables on) (query : QueryData) (inner : InnerData)
    (are : AreComputedRows on.w on.db (kept_of query.body) (queries_of query.body) inner) (typed : IsTyped (column_types tables) query) where
  abbrev flat : QueryData
  flat = materialized_with inner.answers (length tables) query

  abbrev db' : Database
  db' = with_rows on.db inner.kept

  count : length on.db.tables ≡ length tables
  count = tables_count pages tables on said

  types_count : length (column_types tables) ≡ length tables
  types_count = length-map tables types_of

  within : IsBodyWithin (length on.db.tables) query.body
  within = subst (λ n. IsBodyWithin n query.body) (types_count ∙ sym count) (typed_within (column_types tables) query typed)

  same : SameTables db' (with_kept on.w on.db (kept_of query.body))
  same = record {
    schema = IsPermutation-refl on.db.schema;
    tables = AllZip-both IsPermutation on.db.tables inner.kept on.db.tables (map (source_rows on.w on.db) (kept_of query.body)) (alike on.db.tables)
        (turned (map (source_rows on.w on.db) (kept_of query.body)) inner.kept are.kept);
  }

  materialized_at : materialized_with inner.answers (length on.db.tables) query ≡ flat
  materialized_at = ap (λ n. materialized_with inner.answers n query) count

  types_of_flat : IsFlatQueryTyped on.w on.db (column_types tables) query typed.0
  types_of_flat = materialized_query_typed (column_types tables) on.w (stand_in_is on.w said.stand_in) on.db said.fits query typed.0 typed.1

  -- the types of the columns of the tables, and of the lists of rows behind them
  abbrev catalog : List (List Ty)
  catalog = column_types tables ++ types_of_flat.kinds

  materialized_typed : IsTyped catalog flat
  materialized_typed = (typed.0, subst (λ n. HasTypes catalog (materialized_with inner.answers n query) typed.0) types_count (types_of_flat.typed inner.answers are.answers))

  wide : AreWideFor db' flat.body
  wide = typed_wide catalog db' (types_of_flat.fits db' same) flat materialized_typed

  -- its own SELECTs ask for no more pages
  plan_few : (planned : PlannedData) → IsPlanFor flat planned
      → work_of on.w db' (take (length on.db.tables) on.sizes) planned ≤ selects_work on.w on.db on.sizes query.body
  plan_few planned is =
      let over = is.few on.w db' (take (length on.db.tables) on.sizes) wide in
      let fewer = selects_fewer on.w on.db (kept_of query.body) db' same on.sizes inner.answers (length tables) query.body (omega (arith, count)) within
      (subst (λ n. AreFrom on.w on.db (with_kept on.w on.db (kept_of query.body)).tables n (kept_of query.body)) count (all_from on.w on.db (kept_of query.body)))
      are.answers in
      omega (arith, over, fewer)

  pub plan_is_over : (planned : PlannedData) → IsPlanFor flat planned → IsPlanOverKept on query inner.kept planned
  plan_is_over planned is = record {
    permits = λ answer answers. materialized_with_permits on.w on.db query within db' inner.answers answer same are.answers
        (subst (λ q. Permits on.w db' q answer) (sym materialized_at) (is.permits on.w db' answer wide answers));
    hits = λ hits. materialized_with_hits on.w on.db query within db' inner.answers same are.answers
        (subst (Hits on.w db') (sym materialized_at) (is.hits on.w db' wide hits));
    few = plan_few planned is;
  }

  -- it is one that has a plan, over sources with the columns of such a catalog
  pub materialized_is_planned : (kept : Lists) → inner.kept ≡ kept_rows kept → IsRunnableBody query.body
      → (catalog : List (List Ty)) × HaveColumns catalog (sources_of tables kept) × IsTyped catalog flat × HaveServedForm flat.body
  materialized_is_planned kept kept_are runs =
      let long : length types_of_flat.kinds ≡ length kept =
      sym (length_all_zip (SourceHasTypes (column_types tables)) (kept_of query.body) types_of_flat.kinds types_of_flat.sources)
      ∙ sym (length-map (kept_of query.body) (source_rows on.w on.db))
      ∙ length_all_zip IsPermutation (map (source_rows on.w on.db) (kept_of query.body)) inner.kept are.kept
      ∙ ap length kept_are ∙ length-map kept (λ rows. rows_data rows.items) in (
        catalog,
        kept_have_columns (column_types tables) types_of_flat.kinds tables kept (tables_have_columns tables) long,
        materialized_typed,
        materialized_is_served catalog inner.answers (length tables) query.body materialized_typed.0 runs materialized_typed.1.body,
      )

-- ---- the rows of a body

module _ (pages : Pages) (tables : List TableData) (on : Basis) (of : Body) where
  pub plain_typed : IsComputableBody (column_types tables) of → IsTyped (column_types tables) (plain of)
  plain_typed (runs, (types, has)) = (types, record { body = has; order = All-nil _ })

  pub rows_are : (kept : List (List Row)) (planned : PlannedData) → IsPlanOverKept on (plain of) kept planned → (rows : List Row)
      → IsAnswerOf on.w (with_rows on.db kept) planned rows → IsPermutation (body_rows on.w on.db of) rows
  rows_are kept planned is rows answer = plain_rows on.w on.db of rows (is.permits rows answer)

  begun_are : (kept : List (List Row)) (planned : PlannedData) → IsPlanOverKept on (plain of) kept planned → (plan : PlanData) (rows : List Row)
      → BeginsAnswer (basis_over tables on kept plan) planned rows → AreSomeWhere (body_rows on.w on.db of) rows
  begun_are kept planned is plan rows begun =
      some_alike (body_rows on.w on.db of) (rows ++ begun.rest) (rows_are kept planned is (rows ++ begun.rest) begun.answer) ∙ begun.some

  pub cause_is : (kept : List (List Row)) (planned : PlannedData) → IsPlanOverKept on (plain of) kept planned → (plan : PlanData) (e : Fault)
      → IsRowCause (basis_over tables on kept plan) planned e → IsBodyCause on of e
  cause_is kept planned is plan e (inl read) = inl read
  cause_is kept planned is plan e (inr (overflows, hits)) = inr (overflows, plain_hits on.w on.db of (is.hits hits))

module _ (pages : Pages) (tables : List TableData) (on : Basis) (said : AreSaid pages tables on) (of : Body) (runs : IsComputableBody (column_types tables) of)
    (kept : Lists) (answers : List (List Datum))
    (are : AreComputedRows on.w on.db (kept_of of) (queries_of of) (record { kept = kept_rows kept; answers = answers })) where
  abbrev inner : InnerData
  inner = record { kept = kept_rows kept; answers = answers }

  typed_plain : IsTyped (column_types tables) (plain of)
  typed_plain = plain_typed pages tables on of runs

  -- what a plan gives are the rows of the body
  pub rows_given : (planned : PlannedData) → IsPlanFor (materialized_with answers (length tables) (plain of)) planned
      → (result : Result (Vec (Vec Value Global) Global) Fault)
      → ((on : Basis) → AreStored pages (sources_of tables kept) on
      → MatchResult result (λ rows. IsAnswerOf on.w on.db planned (rows_data rows.items)) (IsRowCause on planned))
      → MatchResult result (λ rows. IsPermutation (body_rows on.w on.db of) (rows_data rows.items)) (IsBodyCause on of)
  rows_given planned is result gives =
      let over = plan_is_over pages tables on said (plain of) inner are typed_plain planned is in
      MatchResult-weaker result (gives (basis_over tables on (kept_rows kept) once) (kept_are_stored pages tables kept on once said))
      (λ rows. rows_are pages tables on of (kept_rows kept) planned over (rows_data rows.items))
      (cause_is pages tables on of (kept_rows kept) planned over once)

  -- the first of them is one where the body has some
  pub row_given : (planned : PlannedData) → IsPlanFor (materialized_with answers (length tables) (plain of)) planned
      → (result : Result (Vec (Vec Value Global) Global) Fault)
      → ((on : Basis) → AreStored pages (sources_of tables kept) on
      → MatchResult result (λ rows. BeginsAnswer on planned (rows_data rows.items)) (IsRowCause on planned))
      → MatchResult result (λ rows. AreSomeWhere (body_rows on.w on.db of) (rows_data rows.items)) (IsBodyCause on of)
  row_given planned is result gives =
      let over = plan_is_over pages tables on said (plain of) inner are typed_plain planned is in
      MatchResult-weaker result (gives (basis_over tables on (kept_rows kept) once) (kept_are_stored pages tables kept on once said))
      (λ rows. begun_are pages tables on of (kept_rows kept) planned over once (rows_data rows.items))
      (cause_is pages tables on of (kept_rows kept) planned over once)

  -- within what its SELECTs may ask for
  pub rows_asked : (planned : PlannedData) → IsPlanFor (materialized_with answers (length tables) (plain of)) planned
      → work_of on.w (with_rows on.db (kept_rows kept)) (take (length tables) on.sizes) planned ≤ selects_work on.w on.db on.sizes of
  rows_asked planned is =
      let over = plan_is_over pages tables on said (plain of) inner are typed_plain planned is in
      subst (λ (n : ℕ). work_of on.w (with_rows on.db (kept_rows kept)) (take n on.sizes) planned ≤ selects_work on.w on.db on.sizes of)
      (tables_count pages tables on said) over.few

  -- and there is one
  pub plan_found : {T : Type 0} (result : Result T Fault)
      → ((catalog : List (List Ty)) → HaveColumns catalog (sources_of tables kept) → IsTyped catalog (materialized_with answers (length tables) (plain of))
      → HaveServedForm (materialized_with answers (length tables) (plain of)).body → IfErr result (λ e. e ≡ NoMemory))
      → IfErr result (IsBodyCause on of)
  plan_found result only =
      let found = materialized_is_planned pages tables on said (plain of) inner are typed_plain kept refl runs.0 in
      IfErr-weaker result (λ e. e ≡ NoMemory) (IsBodyCause on of) (λ e is. inl (inr is)) (only found.0 found.1 found.2 found.3)

-- ---- a whole query

module _ (pages : Pages) (tables : List TableData) (on : Basis) (said : AreSaid pages tables on) (query : QueryData) (typed : IsTyped (column_types tables) query)
    (runs : IsRunnableBody query.body) (kept : Lists) (answers : List (List Datum))
    (are : AreComputedRows on.w on.db (kept_of query.body) (queries_of query.body) (record { kept = kept_rows kept; answers = answers })) where
  pub whole_found : (e : Fault) → ((catalog : List (List Ty)) → HaveColumns catalog (sources_of tables kept) → IsTyped catalog (materialized_with answers (length tables) query)
      → HaveServedForm (materialized_with answers (length tables) query).body → e ≡ NoMemory) → IsQueryCause on query e
  whole_found e only =
      let found = materialized_is_planned pages tables on said query (record { kept = kept_rows kept; answers = answers }) are typed kept refl runs in
      inl (inr (only found.0 found.1 found.2 found.3))
