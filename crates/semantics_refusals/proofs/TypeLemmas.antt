-- The types of a query, or why it has none.
use Rattle.std.proofs.Common.{false, not, List, [], ◌∷◌, ◌++◌, length, Option, Some, None, Result, Ok, ◌≡◌, suc, nat_eq, nat_lt, slice_get, ap, sym, ◌∙◌, arith}
use Rattle.std.proofs.lemmas.Bool.{eqb-false}
use Rattle.values.specs.declared.fault.Fault.{Fault}
use Rattle.values.specs.declared.fault.Fault.TheVariants.{BadFrame, ColumnCount, TypeMismatch, WrongPlace}
use Rattle.values.specs.declared.value.Ty.{Ty}
use Rattle.values.specs.declared.value.Ty.TheVariants.{Int}
use Rattle.expr.specs.Term.{Term}
use Rattle.expr.specs.TermType.{one_of, one_type, type_of_term, wanted}
use Rattle.semantics.specs.Query.{Aggregate, AggregateFunction, Body, From, Grouping, InnerQuery, Key, KeyTerm, QueryData, Select, SortTerm, Source, Window, WindowCall, WindowFunction, body_width}
use Rattle.semantics_names.specs.Outcome.{each, found_or}
use Rattle.semantics_names.specs.Types.{aggregate_type, answer_types, body_types, both_type, call_type, computed_types, condition_type, from_types, function_type, grouped_types, inner_type, is_frame, key_type, measure_type, of_width, one_types, query_types, select_types, single_type, source_types, term_type, typed, window_types}
use Rattle.semantics_names.proofs.OutcomeLemmas.{both-ok, followed-ok, found-ok}
use Rattle.semantics_refusals.proofs.EvenLemmas.{IsEvenBody, IsEvenFrom, IsEvenInner, IsEvenSource}
use Rattle.semantics_refusals.proofs.OutcomeLemmas.{Only, also_only, all_only, both_only, checked_only, followed_only, found_only, known_only, ok, refused}

-- ---- as many types as columns

pub each_length : {A B : Type 0} (f : A → Result B Fault) (xs : List A) (ys : List B) → each f xs ≡ Ok ys → length ys ≡ length xs
each_length f [] ys e = let same : [] ≡ ys = cc in ap length (sym same)
each_length f (x ∷ xs) ys e =
    let (y, rest, first, others, same) = both-ok ◌∷◌ (f x) (each f xs) ys e in
    ap length (sym same) ∙ ap suc (each_length f xs rest others)

pub select_length : (answers row : List Ty) (s : Select) (types : List Ty) → select_types answers row s ≡ Ok types → length types ≡ length s.columns
select_length answers row s types e =
    let (computed, is, last) = followed-ok (computed_types answers row s) _ types e in each_length (term_type answers computed) s.columns types last

one_length : (xs ys zs : List Ty) → one_types xs ys ≡ Ok zs → length zs ≡ length xs
one_length [] [] zs e = let same : [] ≡ zs = cc in ap length (sym same)
one_length (x ∷ xs) (y ∷ ys) zs e =
    let (z, rest, first, others, same) = both-ok ◌∷◌ (typed (one_type x y)) (one_types xs ys) zs e in
    ap length (sym same) ∙ ap suc (one_length xs ys rest others)
one_length [] (y ∷ ys) zs e = absurd cc
one_length (x ∷ xs) [] zs e = absurd cc

pub body_length : (tables : List (List Ty)) (body : Body) (types : List Ty) → body_types tables body ≡ Ok types → length types ≡ body_width body
body_length tables (Body.select from s) types e =
    let (answers, are, more) = followed-ok (answer_types tables from) _ types e in
    let (row, is, last) = followed-ok (from_types tables answers from) _ types more in
    select_length answers row s types last
body_length tables (Body.compound left operator from s) types e =
    let (first, begun, others) = followed-ok (body_types tables left) _ types e in
    let (answers, are, more) = followed-ok (answer_types tables from) _ types others in
    let (row, is, last) = followed-ok (from_types tables answers from) _ types more in
    let (second, of, joined) = followed-ok (select_types answers row s) (one_types first) types last in
    one_length first second types joined ∙ body_length tables left first begun

-- it holds of the faults of types
pub record TakesTypes (F : Fault → Type 0) : Type 0 where
  pub mismatch : F TypeMismatch
  pub bad_frame : F BadFrame

module _ (F : Fault → Type 0) (takes : TakesTypes F) where
  pub typed_only : (ty : Option Ty) → Only F (typed ty)
  typed_only ty = found_only TypeMismatch ty takes.mismatch

  module _ (answers columns : List Ty) where
    term_only : (t : Term) → Only F (term_type answers columns t)
    term_only t = typed_only (type_of_term columns answers t)

    condition_only : (t : Term) → Only F (condition_type answers columns t)
    condition_only t = typed_only (wanted Int (type_of_term columns answers t))

    measure_only : (function : AggregateFunction) (argument : Term) → Only F (measure_type answers columns function argument)
    measure_only AggregateFunction.count argument = also_only (λ of. Int) (term_type answers columns argument) (term_only argument)
    measure_only AggregateFunction.sum argument = condition_only argument
    measure_only AggregateFunction.min argument = term_only argument
    measure_only AggregateFunction.max argument = term_only argument

    aggregate_only : (a : Aggregate) → Only F (aggregate_type answers columns a)
    aggregate_only a = measure_only a.function a.argument

    both_types_only : (x y : Term) → Only F (both_type answers columns x y)
    both_types_only x y = typed_only (one_of (type_of_term columns answers x) (type_of_term columns answers y))

    function_only : (f : WindowFunction) → Only F (function_type answers columns f)
    function_only (WindowFunction.aggregate a) = aggregate_only a
    function_only WindowFunction.row_number = ok Int
    function_only WindowFunction.rank = ok Int
    function_only WindowFunction.dense_rank = ok Int
    function_only (WindowFunction.ntile n) = checked_only (nat_lt 0 n) BadFrame (Ok Int) (λ _. takes.bad_frame) (ok Int)
    function_only (WindowFunction.lag x n otherwise) = both_types_only x otherwise
    function_only (WindowFunction.lead x n otherwise) = both_types_only x otherwise
    function_only (WindowFunction.first_value x) = term_only x
    function_only (WindowFunction.last_value x) = term_only x
    function_only (WindowFunction.nth_value x n) = checked_only (nat_lt 0 n) BadFrame (term_type answers columns x) (λ _. takes.bad_frame) (term_only x)

    window_only : (v : Window) → Only F (window_types answers columns v)
    window_only v =
        followed_only (each (term_type answers columns) v.partition) _ (all_only (term_type answers columns) v.partition term_only) (λ _.
        followed_only (each (λ s. term_type answers columns s.term) v.order) _
        (all_only (λ (s : SortTerm). term_type answers columns s.term) v.order (λ s. term_only s.term))
        (λ types. checked_only (is_frame answers columns v.order v.frame) BadFrame (Ok types) (λ _. takes.bad_frame) (ok types)))

    call_only : (c : WindowCall) → Only F (call_type answers columns c)
    call_only c = followed_only (window_types answers columns c.window) _ (window_only c.window) (λ _. function_only c.function)

  -- ---- one SELECT

  module _ (answers row : List Ty) where
    grouped_only : (grouping : Option Grouping) → Only F (grouped_types answers row grouping)
    grouped_only None = ok row
    grouped_only (Some g) =
        followed_only (each (term_type answers row) g.by) _ (all_only (term_type answers row) g.by (term_only answers row)) (λ by.
        followed_only (each (aggregate_type answers row) g.aggregates) _ (all_only (aggregate_type answers row) g.aggregates (aggregate_only answers row))
        (λ aggregates. also_only _ (condition_type answers (by ++ aggregates) g.having) (condition_only answers (by ++ aggregates) g.having)))

    computed_only : (s : Select) → Only F (computed_types answers row s)
    computed_only s =
        followed_only (condition_type answers row s.condition) _ (condition_only answers row s.condition) (λ _.
        followed_only (grouped_types answers row s.grouping) _ (grouped_only s.grouping) (λ input.
        also_only _ (each (call_type answers input) s.windows) (all_only (call_type answers input) s.windows (call_only answers input))))

    select_only : (s : Select) → Only F (select_types answers row s)
    select_only s =
        followed_only (computed_types answers row s) _ (computed_only s) (λ computed.
        all_only (term_type answers computed) s.columns (term_only answers computed))

  -- ---- queries

  one_types_only : (xs ys : List Ty) → length xs ≡ length ys → Only F (one_types xs ys)
  one_types_only [] [] even = ok []
  one_types_only (x ∷ xs) (y ∷ ys) even =
      both_only ◌∷◌ (typed (one_type x y)) (one_types xs ys) (typed_only (one_type x y)) (one_types_only xs ys (omega arith))
  one_types_only [] (y ∷ ys) even = absurd (omega arith)
  one_types_only (x ∷ xs) [] even = absurd (omega arith)

  single_only : (types : List Ty) → length types ≡ 1 → Only F (single_type types)
  single_only [] even = absurd (omega arith)
  single_only (ty ∷ []) even = ok ty
  single_only (ty ∷ other ∷ types) even = absurd (omega arith)

  module _ (tables : List (List Ty)) where
    mutual
      source_only : (source : Source) → IsEvenSource tables source → Only F (source_types tables source)
      source_only (Source.table at width) even =
          known_only (found_or TypeMismatch (slice_get tables at)) (of_width width) (found_only TypeMismatch (slice_get tables at) takes.mismatch)
          (λ types is. checked_only (nat_eq width (length types)) ColumnCount (Ok types)
          (λ e. absurd (eqb-false width (length types) e (even types (found-ok TypeMismatch (slice_get tables at) types is)))) (ok types))
      source_only Source.schema even = ok _
      source_only (Source.derived body) even = body_only body even

      from_only : (answers : List Ty) (from : From) → IsEvenFrom tables from → Only F (from_types tables answers from)
      from_only answers From.nothing even = ok []
      from_only answers (From.joined from kind source on) even =
          followed_only (from_types tables answers from) _ (from_only answers from even.0) (λ left.
          followed_only (source_types tables source) _ (source_only source even.1) (λ right.
          also_only (λ _. left ++ right) (condition_type answers (left ++ right) on) (condition_only answers (left ++ right) on)))
      from_only answers (From.with_inner from query) even = from_only answers from even.0

      inner_only : (query : InnerQuery) → IsEvenInner tables query → Only F (inner_type tables query)
      inner_only (InnerQuery.values_of body) even =
          known_only (body_types tables body) single_type (body_only body even.0) (λ types is. single_only types (body_length tables body types is ∙ even.1))
      inner_only (InnerQuery.exists body) even = also_only (λ types. Int) (body_types tables body) (body_only body even)

      answers_only : (from : From) → IsEvenFrom tables from → Only F (answer_types tables from)
      answers_only From.nothing even = ok []
      answers_only (From.joined from kind source on) even = answers_only from even.0
      answers_only (From.with_inner from query) even =
          both_only (λ before ty. before ++ ty ∷ []) (answer_types tables from) (inner_type tables query) (answers_only from even.0) (inner_only query even.1)

      pub body_only : (body : Body) → IsEvenBody tables body → Only F (body_types tables body)
      body_only (Body.select from s) even =
          followed_only (answer_types tables from) _ (answers_only from even) (λ answers.
          followed_only (from_types tables answers from) _ (from_only answers from even) (λ row. select_only answers row s))
      body_only (Body.compound left operator from s) even =
          known_only (body_types tables left) _ (body_only left even.0) (λ first is.
          followed_only (answer_types tables from) _ (answers_only from even.1) (λ answers.
          followed_only (from_types tables answers from) _ (from_only answers from even.1) (λ row.
          known_only (select_types answers row s) (one_types first) (select_only answers row s) (λ types are.
          one_types_only first types (body_length tables left first is ∙ even.2 ∙ sym (select_length answers row s types are))))))

    -- a term of ORDER BY over one SELECT
    pub order_only : (from : From) (s : Select) (t : Term) → IsEvenFrom tables from → (not s.distinct ≡ false → F WrongPlace)
        → (types : List Ty) → Only F (key_type tables (Body.select from s) types (KeyTerm.term t))
    order_only from s t even place types =
        checked_only (not s.distinct) WrongPlace _ place
        (followed_only (answer_types tables from) _ (answers_only from even) (λ answers.
        followed_only (from_types tables answers from) _ (from_only answers from even) (λ row.
        followed_only (computed_types answers row s) _ (computed_only answers row s) (λ computed. term_only answers computed t))))

    key_only : F WrongPlace → (body : Body) (types : List Ty) (key : KeyTerm) → IsEvenBody tables body → Only F (key_type tables body types key)
    key_only place body types (KeyTerm.result at) even = typed_only (slice_get types at)
    key_only place (Body.select from s) types (KeyTerm.term t) even = order_only from s t even (λ _. place) types
    key_only place (Body.compound left operator from s) types (KeyTerm.term t) even = refused WrongPlace place

    pub query_only : F WrongPlace → (q : QueryData) → IsEvenBody tables q.body → Only F (query_types tables q)
    query_only place q even =
        followed_only (body_types tables q.body) _ (body_only q.body even) (λ types.
        also_only (λ _. types) (each (λ k. key_type tables q.body types k.by) q.order)
        (all_only (λ (k : Key). key_type tables q.body types k.by) q.order (λ k. key_only place q.body types k.by even)))
