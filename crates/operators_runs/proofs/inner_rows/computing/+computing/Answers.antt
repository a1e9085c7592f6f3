use Rattle.std.proofs.Common.{◌≡◌, ◌∙◌, [], ◌++◌, All, OnOk, append-nil, arith, length, map, rules, subst, sym, ap, IsPermutation}
use Rattle.std.specs.Result.{MatchResult}
use Rattle.std.proofs.lemmas.List.{take_all}
use Rattle.std.proofs.lemmas.List.Elements.{All-head}
use Rattle.std.proofs.lemmas.Result.{err_from_is_err_and}
use Rattle.resolver_bodies.specs.BodyView.{body_of, inner_of, joined_all, joined_of, single_of, source_of, tables_of}
use Rattle.resolver_bodies.specs.declared.bodies.Body.TheFolds.{fold-roll-Body, fold-roll-Source, fold-roll-Tables, fold_out-Body, fold_out-Joined, fold_out-Single, fold_out-Source, fold_out-Tables}
use Rattle.resolver_bodies.specs.declared.bodies.Body.TheViews.{the_lemmas}
use Rattle.resolver_bodies.specs.declared.bodies.Joined.{out-Joined}
use Rattle.resolver_bodies.specs.declared.bodies.Single.{out-Single}
use Rattle.resolver_bodies.specs.declared.bodies.Tables.{out-Tables}
use Rattle.semantics.specs.Body.{body_rows}
use Rattle.semantics.specs.Query as q
use Rattle.semantics_names.specs.Statement.{operator_of, with_answers}
use Rattle.resolver_copies.specs.materialized_bodies.FlatView.{kept_among}
use Rattle.semantics_rewrites.specs.materialized_queries.Flat.{kept_in, kept_of, kept_source}
use Rattle.semantics_rewrites.specs.materialized_queries.FlatWith.{queries_in, queries_of}
use Rattle.pager.proofs.CallLemmas.{SameImage-trans}
use Rattle.operators_runs.specs.inner_rows.Computed.{AddsAsMany, AreSomeWhere}
use Rattle.values.specs.Row.{rows_data}
use Rattle.operators_runs.specs.inner_rows.Over.{IsBodyCause}
use Rattle.schema_tables.specs.ColumnTypes.{column_types}
use Rattle.operators_runs.specs.inner_rows.InnerView.{inner_data}
use Rattle.operators_runs.specs.inner_rows.Runnable.{IsComputable}
use Rattle.operators_runs.proofs.lemmas.inner_rows.AddingLemmas.{AddsWhere, CallsWhere, StopsWhere, calls_then, first_among, first_asked, many_calls, query_many, query_more, query_stops, source_many, source_more, source_stops, stops_first}
use Rattle.operators_runs.proofs.lemmas.inner_rows.AskedLemmas.{AsksOnOk, AsksWhere, asks_nothing, body_asks, calls_ask, derived_asks, queries_ask, query_asks, source_asks}
use Rattle.operators_runs.proofs.lemmas.inner_rows.PushLemmas.{asked_stops, body_gives, body_stops, derived_adds, derived_stops, held, many_rows, many_values, query_adds, with_rows}
use Rattle.operators_runs.proofs.lemmas.inner_rows.RunnableLemmas.{kept_are, queries_are}
use Rattle.operators_runs.proofs.inner_rows.computing.+computing.Goals as goal

pub add_sources-loop-joined-preserved : goal.add_sources-loop-joined-preserved
add_sources-loop-joined-preserved g t c =
    let inv = c.loop-joined.invariant in
    let at = c.loop-joined.joined-index in
    let within = c.loop-joined-test.true in
    let is = c.joined-item.is in
    let same : (joined_of c.joined-item.result).source ≡ source_of (out-Joined c.joined-item.result).source = search (rules, the_lemmas, fold_out-Joined) in
    record {
      stays = SameImage-trans _ _ _ inv.stays c.add_source.ensures.reads.image;
      failures = c.in_ok-add_source.ensures.reads.failures ∙ inv.failures;
      many = source_many joined_of c.args.sources.now at c.joined-item.result within is _ _ _ inv.many
          (subst (λ source. AddsAsMany (kept_source source) [] (inner_data c.loop-joined.inner) (inner_data c.add_source.new.inner)) (sym same) c.in_ok-add_source.ensures.many);
      rows = source_more joined_of c.args.sources.now at c.joined-item.result within is c.args.tables.now _ _ inv.stays _ _ _ inv.rows
          (subst (λ source. AddsWhere c.args.tables.now c.loop-joined.pager.state (kept_source source) [] (inner_data c.loop-joined.inner) (inner_data c.add_source.new.inner)) (sym same)
          c.in_ok-add_source.ensures.rows);
      asked = source_asks joined_of c.args.sources.now at c.joined-item.result within is c.args.tables.now _ _ c.add_source.new.pager.state inv.stays inv.asked
          (subst (λ source. AsksWhere c.args.tables.now c.loop-joined.pager.state (kept_source source) [] c.add_source.new.pager.state) (sym same)
          c.in_ok-add_source.ensures.pages);
    }

pub add_sources-returns-in_err-add_source-clause-rows : goal.add_sources-returns-in_err-add_source-clause-rows
add_sources-returns-in_err-add_source-clause-rows g t c =
    let inv = c.loop-joined.invariant in
    let same : (joined_of c.joined-item.result).source ≡ source_of (out-Joined c.joined-item.result).source = search (rules, the_lemmas, fold_out-Joined) in
    let p = err_from_is_err_and c.from_residual.result c.from_residual.ensures.1 in
    rw (p.1, p.2)
    (source_stops joined_of c.args.sources.now c.loop-joined.joined-index c.joined-item.result c.loop-joined-test.true c.joined-item.is c.args.tables.now _ _ inv.stays _
    (subst (λ source. StopsWhere c.args.tables.now c.loop-joined.pager.state (kept_source source) [] c.in_err-add_source.field-0.0) (sym same) c.in_err-add_source.ensures.rows))

pub add_sources-returns-clause-rows : goal.add_sources-returns-clause-rows
add_sources-returns-clause-rows g t c =
    let end : c.loop-joined.joined-index ≡ length c.args.sources.now = search rules in
    let all : first_among joined_of c.args.sources.now c.loop-joined.joined-index ≡ kept_among (map joined_of c.args.sources.now) =
    ap (λ xs. kept_among (map joined_of xs)) (take_all c.loop-joined.joined-index c.args.sources.now (omega (arith, end))) in
    subst (λ sources. AddsWhere c.args.tables.now c.args.pager.now.state sources [] (inner_data c.args.inner.now) (inner_data c.loop-joined.inner)) all c.loop-joined.invariant.rows

pub add_sources-returns-clause-pages : goal.add_sources-returns-clause-pages
add_sources-returns-clause-pages g t c =
    let end : c.loop-joined.joined-index ≡ length c.args.sources.now = search rules in
    let all : first_among joined_of c.args.sources.now c.loop-joined.joined-index ≡ kept_among (map joined_of c.args.sources.now) =
    ap (λ xs. kept_among (map joined_of xs)) (take_all c.loop-joined.joined-index c.args.sources.now (omega (arith, end))) in
    subst (λ sources. AsksWhere c.args.tables.now c.args.pager.now.state sources [] c.loop-joined.pager.state) all c.loop-joined.invariant.asked

-- ---- one source

pub add_source-returns-in-Table-clause-pages : goal.add_source-returns-in-Table-clause-pages
add_source-returns-in-Table-clause-pages g t c =
    let is : source_of c.args.source.now ≡ q.Source.table c.in-Table.field-0 c.in-Table.field-1 = search (rules, the_lemmas, fold-roll-Source, fold_out-Source) in
    subst (λ source. AsksWhere c.args.tables.now c.args.pager.now.state (kept_source source) [] c.args.pager.now.state) (sym is)
    (asks_nothing c.args.tables.now c.args.pager.now.state)

pub add_source-returns-in_ok-push-in-Derived-clause-pages : goal.add_source-returns-in_ok-push-in-Derived-clause-pages
add_source-returns-in_ok-push-in-Derived-clause-pages g t c =
    let of = body_of c.deref.result.now in
    let is : source_of c.args.source.now ≡ q.Source.derived of = search (rules, the_lemmas, fold-roll-Source, fold_out-Source) in
    subst (λ source. AsksWhere c.args.tables.now c.args.pager.now.state (kept_source source) [] c.body_rows.new.pager.state) (sym is)
    (derived_asks c.args.tables.now c.args.pager.now.state c.body_rows.new.pager.state of c.in_ok-rows-in-Derived.ensures.pages)

pub add_source-returns-in-Schema-clause-rows : goal.add_source-returns-in-Schema-clause-rows
add_source-returns-in-Schema-clause-rows g t c = λ steady on said all.
    let is : source_of c.args.source.now ≡ q.Source.schema = search (rules, the_lemmas, fold-roll-Source, fold_out-Source) in
    absurd (All-head (IsComputable (column_types c.args.tables.now)) q.Source.schema [] (subst (λ source. All (IsComputable (column_types c.args.tables.now)) (kept_source source)) is all.0)).0

pub add_source-returns-in_err-rows-in-Derived-clause-rows : goal.add_source-returns-in_err-rows-in-Derived-clause-rows
add_source-returns-in_err-rows-in-Derived-clause-rows g t c =
    let of = body_of c.deref.result.now in
    let is : source_of c.args.source.now ≡ q.Source.derived of = search (rules, the_lemmas, fold-roll-Source, fold_out-Source) in
    let p = err_from_is_err_and c.from_residual.result c.from_residual.ensures.1 in
    rw (p.1, p.2)
    (subst (λ source. StopsWhere c.args.tables.now c.args.pager.now.state (kept_source source) [] c.in_err-rows-in-Derived.field-0.0) (sym is)
    (derived_stops c.args.tables.now c.args.pager.now.state of c.in_err-rows-in-Derived.field-0.0 c.in_err-rows-in-Derived.ensures.rows))

pub add_source-returns-in_ok-push-in-Derived-clause-many : goal.add_source-returns-in_ok-push-in-Derived-clause-many
add_source-returns-in_ok-push-in-Derived-clause-many g t c =
    let of = body_of c.deref.result.now in
    let is : source_of c.args.source.now ≡ q.Source.derived of = search (rules, the_lemmas, fold-roll-Source, fold_out-Source) in
    let kept = c.args.inner.now.kept.items in
    let answers = c.args.inner.now.answers.items in
    let rows = c.in_ok-rows-in-Derived.rows in
    rw c.in_ok-push-in-Derived.ensures.items
    (subst (λ source. AddsAsMany (kept_source source) [] (held kept answers) (with_rows kept answers rows)) (sym is) (many_rows kept answers rows of))

pub add_source-returns-in_ok-push-in-Derived-clause-rows : goal.add_source-returns-in_ok-push-in-Derived-clause-rows
add_source-returns-in_ok-push-in-Derived-clause-rows g t c =
    let of = body_of c.deref.result.now in
    let is : source_of c.args.source.now ≡ q.Source.derived of = search (rules, the_lemmas, fold-roll-Source, fold_out-Source) in
    let kept = c.args.inner.now.kept.items in
    let answers = c.args.inner.now.answers.items in
    let rows = c.in_ok-rows-in-Derived.rows in
    rw c.in_ok-push-in-Derived.ensures.items
    (subst (λ source. AddsWhere c.args.tables.now c.args.pager.now.state (kept_source source) [] (held kept answers) (with_rows kept answers rows)) (sym is)
    (derived_adds c.args.tables.now c.args.pager.now.state of kept answers rows c.in_ok-rows-in-Derived.ensures.rows))

-- ---- queries inside expressions

pub add_queries-returns-in_err-rows-clause-rows : goal.add_queries-returns-in_err-rows-clause-rows
add_queries-returns-in_err-rows-clause-rows g t c =
    let inv = c.loop-query.invariant in
    let p = err_from_is_err_and c.from_residual.result c.from_residual.ensures.1 in
    rw (p.1, p.2)
    (query_stops inner_of c.args.queries.now c.loop-query.query-index c.query-item.result c.loop-query-test.true c.query-item.is c.args.tables.now _ _ inv.stays _
    (asked_stops c.args.tables.now c.loop-query.pager.state (inner_of c.query-item.result) c.in_err-rows.field-0.0 c.in_err-rows.ensures.rows))

pub add_queries-loop-query-preserved : goal.add_queries-loop-query-preserved
add_queries-loop-query-preserved g t c =
    let inv = c.loop-query.invariant in
    let at = c.loop-query.query-index in
    let query = inner_of c.query-item.result in
    let within = c.loop-query-test.true in
    let is = c.query-item.is in
    let kept = c.loop-query.inner.kept.items in
    let answers = c.loop-query.inner.answers.items in
    let rows = c.in_ok-rows.rows in
    let values = c.in_ok-values.values in
    record {
      stays = SameImage-trans _ _ _ inv.stays c.query_rows.ensures.reads.image;
      failures = c.in_ok-rows.ensures.reads.failures ∙ inv.failures;
      many = query_many inner_of c.args.queries.now at c.query-item.result within is _ _ _ inv.many (rw c.in_ok-push.ensures.items (many_values kept answers values query));
      rows = query_more inner_of c.args.queries.now at c.query-item.result within is c.args.tables.now _ _ inv.stays _ _ _ inv.rows
          (rw c.in_ok-push.ensures.items (query_adds c.args.tables.now c.loop-query.pager.state query kept answers rows values c.in_ok-rows.ensures.rows c.in_ok-values.ensures));
      asked = queries_ask inner_of c.args.queries.now at c.query-item.result within is c.args.tables.now _ _ c.query_rows.new.pager.state inv.stays inv.asked
          (query_asks c.args.tables.now c.loop-query.pager.state c.query_rows.new.pager.state query c.in_ok-rows.ensures.pages);
    }

pub add_queries-returns-clause-rows : goal.add_queries-returns-clause-rows
add_queries-returns-clause-rows g t c =
    let end : c.loop-query.query-index ≡ length c.args.queries.now = search rules in
    let all : first_asked inner_of c.args.queries.now c.loop-query.query-index ≡ map inner_of c.args.queries.now =
    ap (map inner_of) (take_all c.loop-query.query-index c.args.queries.now (omega (arith, end))) in
    subst (λ queries. AddsWhere c.args.tables.now c.args.pager.now.state [] queries (inner_data c.args.inner.now) (inner_data c.loop-query.inner)) all c.loop-query.invariant.rows

pub add_queries-returns-clause-pages : goal.add_queries-returns-clause-pages
add_queries-returns-clause-pages g t c =
    let end : c.loop-query.query-index ≡ length c.args.queries.now = search rules in
    let all : first_asked inner_of c.args.queries.now c.loop-query.query-index ≡ map inner_of c.args.queries.now =
    ap (map inner_of) (take_all c.loop-query.query-index c.args.queries.now (omega (arith, end))) in
    subst (λ queries. AsksWhere c.args.tables.now c.args.pager.now.state [] queries c.loop-query.pager.state) all c.loop-query.invariant.asked

-- ---- FROM

pub add_tables-returns-in_err-add_sources-clause-rows : goal.add_tables-returns-in_err-add_sources-clause-rows
add_tables-returns-in_err-add_sources-clause-rows g t c =
    let js = map joined_of c.as_slice.result.now in
    let qs = map inner_of (out-Tables c.args.from.now).inner.items in
    let from = with_answers (joined_all q.From.nothing js) qs in
    let is : tables_of c.args.from.now ≡ from = search (rules, the_lemmas, fold-roll-Tables, fold_out-Tables) in
    let kept : kept_in (tables_of c.args.from.now) ≡ kept_among js = ap kept_in is ∙ kept_are js qs in
    let asked : queries_in (tables_of c.args.from.now) ≡ qs = ap queries_in is ∙ queries_are js qs in
    let p = err_from_is_err_and c.from_residual.result c.from_residual.ensures.1 in
    rw (p.1, p.2)
    (subst (λ sources. StopsWhere c.args.tables.now c.args.pager.now.state sources (queries_in (tables_of c.args.from.now)) c.in_err-add_sources.field-0.0)
    (append-nil (kept_among js) ∙ sym kept)
    (subst (λ queries. StopsWhere c.args.tables.now c.args.pager.now.state (kept_among js ++ []) queries c.in_err-add_sources.field-0.0) (sym asked)
    (stops_first c.args.tables.now c.args.pager.now.state (kept_among js) [] [] qs c.in_err-add_sources.field-0.0 c.in_err-add_sources.ensures.rows)))

pub add_tables-returns-clause-many : goal.add_tables-returns-clause-many
add_tables-returns-clause-many g t c =
    let js = map joined_of c.as_slice.result.now in
    let qs = map inner_of c.as_slice-2.result.now in
    let is : tables_of c.args.from.now ≡ with_answers (joined_all q.From.nothing js) qs = search (rules, the_lemmas, fold-roll-Tables, fold_out-Tables) in
    let kept : kept_in (tables_of c.args.from.now) ≡ kept_among js = ap kept_in is ∙ kept_are js qs in
    let asked : queries_in (tables_of c.args.from.now) ≡ qs = ap queries_in is ∙ queries_are js qs in
    subst (λ sources. OnOk c.add_queries.result (AddsAsMany sources (queries_in (tables_of c.args.from.now)) (inner_data c.args.inner.now) (inner_data c.add_queries.new.inner)))
    (append-nil (kept_among js) ∙ sym kept)
    (subst (λ queries. OnOk c.add_queries.result (AddsAsMany (kept_among js ++ []) queries (inner_data c.args.inner.now) (inner_data c.add_queries.new.inner))) (sym asked)
    (many_calls c.args.tables.now (kept_among js) [] [] qs (inner_data c.args.inner.now) (inner_data c.add_sources.new.inner) (inner_data c.add_queries.new.inner) c.add_queries.result
    c.in_ok-add_sources.ensures.many c.add_queries.ensures.many))

pub add_tables-returns-clause-rows : goal.add_tables-returns-clause-rows
add_tables-returns-clause-rows g t c =
    let js = map joined_of c.as_slice.result.now in
    let qs = map inner_of c.as_slice-2.result.now in
    let is : tables_of c.args.from.now ≡ with_answers (joined_all q.From.nothing js) qs = search (rules, the_lemmas, fold-roll-Tables, fold_out-Tables) in
    let kept : kept_in (tables_of c.args.from.now) ≡ kept_among js = ap kept_in is ∙ kept_are js qs in
    let asked : queries_in (tables_of c.args.from.now) ≡ qs = ap queries_in is ∙ queries_are js qs in
    subst (λ sources. CallsWhere c.args.tables.now c.args.pager.now.state sources (queries_in (tables_of c.args.from.now)) (inner_data c.args.inner.now) (inner_data c.add_queries.new.inner) c.add_queries.result)
    (append-nil (kept_among js) ∙ sym kept)
    (subst (λ queries. CallsWhere c.args.tables.now c.args.pager.now.state (kept_among js ++ []) queries (inner_data c.args.inner.now) (inner_data c.add_queries.new.inner) c.add_queries.result) (sym asked)
    (calls_then c.args.tables.now c.args.pager.now.state c.add_sources.new.pager.state c.add_sources.ensures.reads.image (kept_among js) [] [] qs (inner_data c.args.inner.now)
    (inner_data c.add_sources.new.inner) (inner_data c.add_queries.new.inner) c.add_queries.result c.in_ok-add_sources.ensures.rows c.add_queries.ensures.rows))

pub add_tables-returns-clause-pages : goal.add_tables-returns-clause-pages
add_tables-returns-clause-pages g t c =
    let js = map joined_of c.as_slice.result.now in
    let qs = map inner_of c.as_slice-2.result.now in
    let is : tables_of c.args.from.now ≡ with_answers (joined_all q.From.nothing js) qs = search (rules, the_lemmas, fold-roll-Tables, fold_out-Tables) in
    let kept : kept_in (tables_of c.args.from.now) ≡ kept_among js = ap kept_in is ∙ kept_are js qs in
    let asked : queries_in (tables_of c.args.from.now) ≡ qs = ap queries_in is ∙ queries_are js qs in
    subst (λ sources. AsksOnOk c.args.tables.now c.args.pager.now.state sources (queries_in (tables_of c.args.from.now)) c.add_queries.new.pager.state c.add_queries.result)
    (append-nil (kept_among js) ∙ sym kept)
    (subst (λ queries. AsksOnOk c.args.tables.now c.args.pager.now.state (kept_among js ++ []) queries c.add_queries.new.pager.state c.add_queries.result) (sym asked)
    (calls_ask c.args.tables.now c.args.pager.now.state c.add_sources.new.pager.state c.add_queries.new.pager.state c.add_sources.ensures.reads.image
    (kept_among js) [] [] qs c.add_queries.result c.in_ok-add_sources.ensures.pages c.add_queries.ensures.pages))

-- ---- SELECT

pub add_body-returns-in-Select-clause-pages : goal.add_body-returns-in-Select-clause-pages
add_body-returns-in-Select-clause-pages g t c =
    let single = single_of c.in-Select.single in
    let is : body_of c.args.body.now ≡ q.Body.select single.from single.select = search (rules, the_lemmas, fold-roll-Body, fold_out-Body) in
    let from : single.from ≡ tables_of (out-Single c.in-Select.single).tables = search (rules, the_lemmas, fold_out-Single) in
    subst (λ body. AsksOnOk c.args.tables.now c.args.pager.now.state (kept_of body) (queries_of body) c.add_tables.new.pager.state c.add_tables.result) (sym is)
    (subst (λ from. AsksOnOk c.args.tables.now c.args.pager.now.state (kept_in from) (queries_in from) c.add_tables.new.pager.state c.add_tables.result) (sym from)
    c.add_tables.ensures.pages)

pub add_body-returns-in_ok-add_body-in-Compound-clause-pages : goal.add_body-returns-in_ok-add_body-in-Compound-clause-pages
add_body-returns-in_ok-add_body-in-Compound-clause-pages g t c =
    let single = single_of c.in-Compound.single in
    let left = body_of c.deref.result.now in
    let call = c.add_tables-in-Compound in
    let start = c.args.pager.now.state in
    let is : body_of c.args.body.now ≡ q.Body.compound left (operator_of c.in-Compound.field-1) single.from single.select =
    search (rules, the_lemmas, fold-roll-Body, fold_out-Body) in
    let from : single.from ≡ tables_of (out-Single c.in-Compound.single).tables = search (rules, the_lemmas, fold_out-Single) in
    subst (λ body. AsksOnOk c.args.tables.now start (kept_of body) (queries_of body) call.new.pager.state call.result) (sym is)
    (subst (λ from. AsksOnOk c.args.tables.now start (kept_of left ++ kept_in from) (queries_of left ++ queries_in from) call.new.pager.state call.result) (sym from)
    (calls_ask c.args.tables.now start c.add_body.new.pager.state call.new.pager.state c.add_body.ensures.reads.image (kept_of left) _ (queries_of left) _ call.result
    c.in_ok-add_body-in-Compound.ensures.pages call.ensures.pages))

pub add_body-returns-in-Select-clause-rows : goal.add_body-returns-in-Select-clause-rows
add_body-returns-in-Select-clause-rows g t c =
    let single = single_of c.in-Select.single in
    let is : body_of c.args.body.now ≡ q.Body.select single.from single.select = search (rules, the_lemmas, fold-roll-Body, fold_out-Body) in
    let from : single.from ≡ tables_of (out-Single c.in-Select.single).tables = search (rules, the_lemmas, fold_out-Single) in
    subst (λ body. CallsWhere c.args.tables.now c.args.pager.now.state (kept_of body) (queries_of body) (inner_data c.args.inner.now) (inner_data c.add_tables.new.inner) c.add_tables.result)
    (sym is)
    (subst (λ from. CallsWhere c.args.tables.now c.args.pager.now.state (kept_in from) (queries_in from) (inner_data c.args.inner.now) (inner_data c.add_tables.new.inner) c.add_tables.result)
    (sym from) c.add_tables.ensures.rows)

pub add_body-returns-in_err-add_body-in-Compound-clause-rows : goal.add_body-returns-in_err-add_body-in-Compound-clause-rows
add_body-returns-in_err-add_body-in-Compound-clause-rows g t c =
    let single = single_of c.in-Compound.single in
    let left = body_of c.deref.result.now in
    let is : body_of c.args.body.now ≡ q.Body.compound left (operator_of c.in-Compound.field-1) single.from single.select =
    search (rules, the_lemmas, fold-roll-Body, fold_out-Body) in
    let p = err_from_is_err_and c.from_residual.result c.from_residual.ensures.1 in
    let e = c.in_err-add_body-in-Compound.field-0.0 in
    rw (p.1, p.2)
    (subst (λ body. StopsWhere c.args.tables.now c.args.pager.now.state (kept_of body) (queries_of body) e) (sym is)
    (stops_first c.args.tables.now c.args.pager.now.state (kept_of left) (kept_in single.from) (queries_of left) (queries_in single.from) e c.in_err-add_body-in-Compound.ensures.rows))

pub add_body-returns-in_ok-add_body-in-Compound-clause-many : goal.add_body-returns-in_ok-add_body-in-Compound-clause-many
add_body-returns-in_ok-add_body-in-Compound-clause-many g t c =
    let single = single_of c.in-Compound.single in
    let left = body_of c.deref.result.now in
    let call = c.add_tables-in-Compound in
    let is : body_of c.args.body.now ≡ q.Body.compound left (operator_of c.in-Compound.field-1) single.from single.select =
    search (rules, the_lemmas, fold-roll-Body, fold_out-Body) in
    let from : single.from ≡ tables_of (out-Single c.in-Compound.single).tables = search (rules, the_lemmas, fold_out-Single) in
    subst (λ body. OnOk call.result (AddsAsMany (kept_of body) (queries_of body) (inner_data c.args.inner.now) (inner_data call.new.inner))) (sym is)
    (subst (λ from. OnOk call.result (AddsAsMany (kept_of left ++ kept_in from) (queries_of left ++ queries_in from) (inner_data c.args.inner.now) (inner_data call.new.inner))) (sym from)
    (many_calls c.args.tables.now (kept_of left) _ (queries_of left) _ (inner_data c.args.inner.now) (inner_data c.add_body.new.inner) (inner_data call.new.inner) call.result
    c.in_ok-add_body-in-Compound.ensures.many call.ensures.many))

pub add_body-returns-in_ok-add_body-in-Compound-clause-rows : goal.add_body-returns-in_ok-add_body-in-Compound-clause-rows
add_body-returns-in_ok-add_body-in-Compound-clause-rows g t c =
    let single = single_of c.in-Compound.single in
    let left = body_of c.deref.result.now in
    let call = c.add_tables-in-Compound in
    let start = c.args.pager.now.state in
    let is : body_of c.args.body.now ≡ q.Body.compound left (operator_of c.in-Compound.field-1) single.from single.select =
    search (rules, the_lemmas, fold-roll-Body, fold_out-Body) in
    let from : single.from ≡ tables_of (out-Single c.in-Compound.single).tables = search (rules, the_lemmas, fold_out-Single) in
    subst (λ body. CallsWhere c.args.tables.now start (kept_of body) (queries_of body) (inner_data c.args.inner.now) (inner_data call.new.inner) call.result) (sym is)
    (subst (λ from. CallsWhere c.args.tables.now start (kept_of left ++ kept_in from) (queries_of left ++ queries_in from) (inner_data c.args.inner.now) (inner_data call.new.inner) call.result)
    (sym from)
    (calls_then c.args.tables.now start c.add_body.new.pager.state c.add_body.ensures.reads.image (kept_of left) _ (queries_of left) _ (inner_data c.args.inner.now)
    (inner_data c.add_body.new.inner) (inner_data call.new.inner) call.result c.in_ok-add_body-in-Compound.ensures.rows call.ensures.rows))

-- ---- the rows of a body

pub body_rows-returns-in_err-add_body-clause-rows : goal.body_rows-returns-in_err-add_body-clause-rows
body_rows-returns-in_err-add_body-clause-rows g t c =
    let p = err_from_is_err_and c.from_residual.result c.from_residual.ensures.1 in
    rw (p.1, p.2)
    (body_stops c.args.tables.now c.args.pager.now.state c.add_body.new.pager.state c.add_body.ensures.reads.image (body_of c.args.body.now) c.in_err-add_body.field-0.0
    c.in_err-add_body.ensures.rows)

pub body_rows-returns-clause-rows : goal.body_rows-returns-clause-rows
body_rows-returns-clause-rows g t c =
    let of = body_of c.args.body.now in
    body_gives c.args.tables.now c.args.pager.now.state c.add_body.new.pager.state c.add_body.ensures.reads.image of
    (λ on. MatchResult c.materialized_rows.result (λ rows. IsPermutation (body_rows on.w on.db of) (rows_data rows.items)) (IsBodyCause on of))
    c.new-inner.result.kept.items c.new-inner.result.answers.items (inner_data c.add_body.new.inner) c.new-inner.ensures.kept c.new-inner.ensures.answers
    c.in_ok-add_body.ensures.rows c.materialized_rows.ensures.rows

pub body_rows-returns-clause-pages : goal.body_rows-returns-clause-pages
body_rows-returns-clause-pages g t c =
    body_asks c.args.tables.now c.args.pager.now.state c.add_body.new.pager.state c.materialized_rows.new.pager.state c.add_body.ensures.reads.image (body_of c.args.body.now)
    c.new-inner.result.kept.items c.new-inner.result.answers.items (inner_data c.add_body.new.inner) c.materialized_rows.result c.new-inner.ensures.kept
    c.new-inner.ensures.answers c.in_ok-add_body.ensures.rows c.in_ok-add_body.ensures.pages c.materialized_rows.ensures.pages

-- ---- one of them

pub body_row-returns-in_err-add_body-clause-rows : goal.body_row-returns-in_err-add_body-clause-rows
body_row-returns-in_err-add_body-clause-rows g t c =
    let p = err_from_is_err_and c.from_residual.result c.from_residual.ensures.1 in
    rw (p.1, p.2)
    (body_stops c.args.tables.now c.args.pager.now.state c.add_body.new.pager.state c.add_body.ensures.reads.image (body_of c.args.body.now) c.in_err-add_body.field-0.0
    c.in_err-add_body.ensures.rows)

pub body_row-returns-clause-rows : goal.body_row-returns-clause-rows
body_row-returns-clause-rows g t c =
    let of = body_of c.args.body.now in
    body_gives c.args.tables.now c.args.pager.now.state c.add_body.new.pager.state c.add_body.ensures.reads.image of
    (λ on. MatchResult c.materialized_row.result (λ rows. AreSomeWhere (body_rows on.w on.db of) (rows_data rows.items)) (IsBodyCause on of))
    c.new-inner.result.kept.items c.new-inner.result.answers.items (inner_data c.add_body.new.inner) c.new-inner.ensures.kept c.new-inner.ensures.answers
    c.in_ok-add_body.ensures.rows c.materialized_row.ensures.rows

pub body_row-returns-clause-pages : goal.body_row-returns-clause-pages
body_row-returns-clause-pages g t c =
    body_asks c.args.tables.now c.args.pager.now.state c.add_body.new.pager.state c.materialized_row.new.pager.state c.add_body.ensures.reads.image (body_of c.args.body.now)
    c.new-inner.result.kept.items c.new-inner.result.answers.items (inner_data c.add_body.new.inner) c.materialized_row.result c.new-inner.ensures.kept
    c.new-inner.ensures.answers c.in_ok-add_body.ensures.rows c.in_ok-add_body.ensures.pages c.materialized_row.ensures.pages
