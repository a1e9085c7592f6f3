-- Rows and values that are put behind others, and why this stops.
use Rattle.std.proofs.Common.{◌≡◌, inl, inr, List, [], ◌∷◌, ◌++◌, append-nil, append_assoc, map, sym, subst, arith, IsPermutation}
use Rattle.std.specs.List.{AllZip}
use Rattle.std.proofs.lemmas.List.{length-append, map-append}
use Rattle.std.proofs.lemmas.List.Elements.{All-contains, Contains-append_left, Contains-append_right, Contains-push}
use Rattle.expr.proofs.BagLemmas.{IsPermutation-same}
use Rattle.values.specs.Database.{Database}
use Rattle.values.specs.Datum.{Datum}
use Rattle.values.specs.Row.{Row}
use Rattle.values.specs.declared.fault.Fault.{Fault}
use Rattle.semantics_rewrites.proofs.lemmas.materialized_queries.AnswerLemmas.{answer_alike}
use Rattle.semantics_rewrites.proofs.lemmas.materialized_queries.PartLemmas.{plain_hits, queries_hit, sources_hit}
use Rattle.semantics_rewrites.specs.materialized_queries.Flat.{kept_of}
use Rattle.semantics_rewrites.specs.materialized_queries.FlatWith.{answer_from, body_in, queries_of}
use Rattle.semantics.proofs.ElementLemmas.{AllZip-both}
use Rattle.semantics.specs.Body.{answer_of, source_rows}
use Rattle.semantics.specs.Hits.{BodyHits, HitsOrdered, SourceHits}
use Rattle.semantics.specs.Query.{Body, InnerQuery, Key, QueryData, Source, derived, exists, values_of}
use Rattle.operators_loops.specs.Basis.{Basis}
use Rattle.operators_runs.specs.inner_rows.Computed.{AddsAsMany, AddsRows, AreComputedRows, AreRowsFor}
use Rattle.operators_runs.specs.inner_rows.InnerView.{InnerData}
use Rattle.operators_runs.specs.inner_rows.Over.{IsBodyCause, IsInnerCause, IsQueryCause, SomeHits}

-- ---- how many

pub many_none : (old : InnerData) → AddsAsMany [] [] old old
many_none old = record { kept = omega arith; answers = omega arith }

pub many_then : (sources others : List Source) (queries more : List InnerQuery) (old mid new : InnerData) → AddsAsMany sources queries old mid → AddsAsMany others more mid new
    → AddsAsMany (sources ++ others) (queries ++ more) old new
many_then sources others queries more old mid new first then = record {
  kept = let a = first.kept in let b = then.kept in let c = length-append sources others in omega (arith, a, b, c);
  answers = let a = first.answers in let b = then.answers in let c = length-append queries more in omega (arith, a, b, c);
}

pub many_source : (source : Source) (kept : List (List Row)) (rows : List Row) (answers : List (List Datum))
    → AddsAsMany (source ∷ []) [] (record { kept = kept; answers = answers }) (record { kept = kept ++ rows ∷ []; answers = answers })
many_source source kept rows answers = record {
  kept = length-append kept (rows ∷ []);
  answers = omega arith;
}

pub many_query : (query : InnerQuery) (kept : List (List Row)) (answers : List (List Datum)) (values : List Datum)
    → AddsAsMany [] (query ∷ []) (record { kept = kept; answers = answers }) (record { kept = kept; answers = answers ++ values ∷ [] })
many_query query kept answers values = record {
  kept = omega arith;
  answers = length-append answers (values ∷ []);
}

-- ---- which

module _ (w : Datum) (db : Database) where
  zip_both : {A B : Type 0} (g : A → List B) (xs ys : List A) (us vs : List (List B)) → AllZip IsPermutation (map g xs) us → AllZip IsPermutation (map g ys) vs
      → AllZip IsPermutation (map g (xs ++ ys)) (us ++ vs)
  zip_both g xs ys us vs p q =
      subst (λ front. AllZip IsPermutation front (us ++ vs)) (sym (map-append g xs ys)) (AllZip-both IsPermutation (map g xs) (map g ys) us vs p q)

  pub rows_none : AreComputedRows w db [] [] (record { kept = []; answers = [] })
  rows_none = record { kept = tt; answers = tt }

  pub adds_none : (old : InnerData) → AddsRows w db [] [] old old
  adds_none old before asked are = record {
    kept = subst (λ (sources : List Source). AllZip IsPermutation (map (source_rows w db) sources) old.kept) (sym (append-nil before)) are.kept;
    answers = subst (λ (queries : List InnerQuery). AllZip IsPermutation (map (answer_of w db) queries) old.answers) (sym (append-nil asked)) are.answers;
  }

  pub adds_then : (sources others : List Source) (queries more : List InnerQuery) (old mid new : InnerData) → AddsRows w db sources queries old mid
      → AddsRows w db others more mid new → AddsRows w db (sources ++ others) (queries ++ more) old new
  adds_then sources others queries more old mid new first then before asked are =
      let all = then (before ++ sources) (asked ++ queries) (first before asked are) in
      subst (λ (ss : List Source). AreComputedRows w db ss (asked ++ (queries ++ more)) new) (append_assoc before sources others)
      (subst (λ (qs : List InnerQuery). AreComputedRows w db ((before ++ sources) ++ others) qs new) (append_assoc asked queries more) all)

  pub adds_source : (source : Source) (kept : List (List Row)) (rows : List Row) (answers : List (List Datum)) → IsPermutation (source_rows w db source) rows
      → AddsRows w db (source ∷ []) [] (record { kept = kept; answers = answers }) (record { kept = kept ++ rows ∷ []; answers = answers })
  adds_source source kept rows answers same before asked are = record {
    kept = zip_both (source_rows w db) before (source ∷ []) kept (rows ∷ []) are.kept (same, tt);
    answers = subst (λ (queries : List InnerQuery). AllZip IsPermutation (map (answer_of w db) queries) answers) (sym (append-nil asked)) are.answers;
  }

  rows_answer : (query : InnerQuery) (rows : List Row) → AreRowsFor w db query rows → IsPermutation (answer_of w db query) (answer_from query rows)
  rows_answer (values_of of) rows same = answer_alike w db (values_of of) rows same
  rows_answer (exists of) rows some = IsPermutation-same _ _ some

  pub adds_query : (query : InnerQuery) (kept : List (List Row)) (answers : List (List Datum)) (rows : List Row) (values : List Datum)
      → AreRowsFor w db query rows → values ≡ answer_from query rows
      → AddsRows w db [] (query ∷ []) (record { kept = kept; answers = answers }) (record { kept = kept; answers = answers ++ values ∷ [] })
  adds_query query kept answers rows values are_rows is before asked are = record {
    kept = subst (λ (sources : List Source). AllZip IsPermutation (map (source_rows w db) sources) kept) (sym (append-nil before)) are.kept;
    answers = zip_both (answer_of w db) asked (query ∷ []) answers (values ∷ []) are.answers
        (subst (IsPermutation (answer_of w db query)) (sym is) (rows_answer query rows are_rows), tt);
  }

-- ---- why it stops

module _ (on : Basis) where
  pub cause_front : (sources others : List Source) (queries more : List InnerQuery) (e : Fault) → IsInnerCause on sources queries e
      → IsInnerCause on (sources ++ others) (queries ++ more) e
  cause_front sources others queries more e (inl read) = inl read
  cause_front sources others queries more e (inr (same, inl (source, held, hits))) = inr (same, inl (source, Contains-append_left sources others source held, hits))
  cause_front sources others queries more e (inr (same, inr (query, held, hits))) = inr (same, inr (query, Contains-append_left queries more query held, hits))

  pub cause_back : (sources others : List Source) (queries more : List InnerQuery) (e : Fault) → IsInnerCause on others more e
      → IsInnerCause on (sources ++ others) (queries ++ more) e
  cause_back sources others queries more e (inl read) = inl read
  cause_back sources others queries more e (inr (same, inl (source, held, hits))) = inr (same, inl (source, Contains-append_right sources others source held, hits))
  cause_back sources others queries more e (inr (same, inr (query, held, hits))) = inr (same, inr (query, Contains-append_right queries more query held, hits))

  -- a source is a query
  pub cause_source : (of : Body) (e : Fault) → IsBodyCause on of e → IsInnerCause on (derived of ∷ []) [] e
  cause_source of e (inl read) = inl read
  cause_source of e (inr (same, hits)) = inr (same, inl (derived of, Contains-push [] (derived of), hits))

  pub cause_query : (query : InnerQuery) (e : Fault) → IsBodyCause on (body_in query) e → IsInnerCause on [] (query ∷ []) e
  cause_query query e (inl read) = inl read
  cause_query query e (inr (same, hits)) = inr (same, inr (query, Contains-push [] query, hits))

  -- what one of the queries in a query reaches, the query reaches
  hits_whole : (order : List Key) (of : Body) → SomeHits on.w on.db (kept_of of) (queries_of of) → HitsOrdered on.w on.db order of
  hits_whole order of (inl (source, held, hits)) =
      All-contains (λ source. SourceHits on.w on.db source → HitsOrdered on.w on.db order of) (kept_of of) source (sources_hit on.w on.db order of) held hits
  hits_whole order of (inr (query, held, hits)) =
      All-contains (λ query. BodyHits on.w on.db (body_in query) → HitsOrdered on.w on.db order of) (queries_of of) query (queries_hit on.w on.db order of) held hits

  pub cause_whole : (query : QueryData) (e : Fault) → IsInnerCause on (kept_of query.body) (queries_of query.body) e → IsQueryCause on query e
  cause_whole query e (inl read) = inl read
  cause_whole query e (inr (same, hits)) = inr (same, hits_whole query.order query.body hits)

  pub cause_body : (of : Body) (e : Fault) → IsInnerCause on (kept_of of) (queries_of of) e → IsBodyCause on of e
  cause_body of e (inl read) = inl read
  cause_body of e (inr (same, hits)) = inr (same, plain_hits on.w on.db of (hits_whole [] of hits))
