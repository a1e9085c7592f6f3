-- What is typed by computing is typed as the meaning of queries says.
use Rattle.std.proofs.Common.{◌≡◌, ◌⊎◌, inl, inr, Bool, true, false, not, ◌&&◌, ◌||◌, if◌then◌else◌, List, [], ◌∷◌, ◌++◌, length, Option, Some, None, Ok, Err, slice_get, refl, sym, subst, ◌∙◌, arith, nat_lt, nat_le, nat_eq}
use Rattle.std.specs.List.{AllZip}
use Rattle.std.proofs.lemmas.Bool.{eqb-true, leb-true, ltb-true}
use Rattle.std.proofs.lemmas.Option.{slice_get_within}
use Rattle.values.specs.declared.fault.Fault.TheVariants.{BadFrame, ColumnCount, TypeMismatch, WrongPlace}
use Rattle.values.specs.declared.value.Ty.{Ty}
use Rattle.values.specs.declared.value.Ty.TheVariants.{Int, Text, Blob, Null}
use Rattle.expr.specs.Term.{Term}
use Rattle.expr.specs.TermType.{Finds, one_of, one_type, type_of_term, wanted}
use Rattle.expr.specs.Types.{FitsType}
use Rattle.expr.proofs.TermTypeLemmas.{types_are_found}
use Rattle.semantics.specs.Query.{AggregateFunction, Body, Edge, Frame, FrameUnit, From, Grouping, InnerQuery, KeyTerm, QueryData, Select, SortTerm, Source, Window, WindowCall, WindowFunction}
use Rattle.semantics.specs.Typed.{AggregateGives, AnswersHaveTypes, BodyHasTypes, CallHasType, ComputedHasTypes, FromHasTypes, FunctionHasType, GroupedHasTypes, HasTypes, InnerHasType, IsTyped, IsDistance, IsFrame, IsKeyTerm, IsOneNumber, IsTerm, IsTermOf, IsWindow, SelectHasTypes, SourceHasTypes, UnitFits, edge_rank}
use Rattle.semantics_names.specs.Laws.{MismatchIsUntyped}
use Rattle.semantics_names.specs.Outcome.{each, found_or}
use Rattle.semantics_names.specs.Statement.{Named, named}
use Rattle.semantics_names.specs.Typed.{Table, Types, column_types, known_tables, with_types}
use Rattle.sql_reader_syntax.specs.StatementTree.{StatementTree}
use Rattle.semantics_names.specs.Types.{aggregate_type, answer_types, body_types, both_type, call_type, computed_types, condition_type, from_types, function_type, grouped_types, inner_type, is_distance, is_frame, is_one_number, is_whole, key_type, measure_type, of_width, one_types, query_types, select_types, single_type, source_types, term_type, typed, unit_fits, window_types}
use Rattle.semantics_names.proofs.OutcomeLemmas.{also-ok, both-ok, checked-ok, each-all, each-zip, followed-ok, found-ok}

-- ---- types

-- both may stand where their one type is wanted
both_fit : (a b c : Ty) → one_type a b ≡ Some c → FitsType a c × FitsType b c
both_fit Null b c e = (inl refl, inr cc)
both_fit Int Null c e = (inr cc, inl refl)
both_fit Int Int c e = (inr cc, inr cc)
both_fit Int Text c e = absurd cc
both_fit Int Blob c e = absurd cc
both_fit Text Null c e = (inr cc, inl refl)
both_fit Text Text c e = (inr cc, inr cc)
both_fit Text Int c e = absurd cc
both_fit Text Blob c e = absurd cc
both_fit Blob Null c e = (inr cc, inl refl)
both_fit Blob Blob c e = (inr cc, inr cc)
both_fit Blob Int c e = absurd cc
both_fit Blob Text c e = absurd cc

both_find : (a b : Option Ty) (c : Ty) → one_of a b ≡ Some c → Finds a c × Finds b c
both_find (Some a) (Some b) c e = both_fit a b c e
both_find (Some a) None c e = absurd cc
both_find None b c e = absurd cc

number_fits : (of ty : Ty) → one_type Int of ≡ Some ty → FitsType of Int
number_fits Null ty e = inl refl
number_fits Int ty e = inr refl
number_fits Text ty e = absurd cc
number_fits Blob ty e = absurd cc

number_found : (o : Option Ty) (ty : Ty) → wanted Int o ≡ Some ty → Finds o Int
number_found (Some of) ty e = number_fits of ty e
number_found None ty e = absurd cc

pub finds_itself : (o : Option Ty) (ty : Ty) → o ≡ Some ty → Finds o ty
finds_itself (Some of) ty e = inr cc
finds_itself None ty e = absurd cc

-- what has a type that may stand where another is wanted has the other
finds_more : (o : Option Ty) (a b : Ty) → Finds o a → FitsType a b → Finds o b
finds_more None a b f g = f
finds_more (Some of) a b (inl e) g = inl e
finds_more (Some of) a b (inr e) (inl n) = inl (e ∙ n)
finds_more (Some of) a b (inr e) (inr s) = inr (e ∙ s)

module _ (answers columns : List Ty) where
  pub has_type : (t : Term) (ty : Ty) → Finds (type_of_term columns answers t) ty → IsTermOf answers columns t ty
  has_type t ty found = (types_are_found columns answers t ty).1 found

  fits_more : (t : Term) (a b : Ty) → IsTermOf answers columns t a → FitsType a b → IsTermOf answers columns t b
  fits_more t a b is fit = has_type t b (finds_more (type_of_term columns answers t) a b ((types_are_found columns answers t a).0 is) fit)

  pub term_is : (t : Term) (ty : Ty) → term_type answers columns t ≡ Ok ty → IsTermOf answers columns t ty
  term_is t ty e = has_type t ty (finds_itself (type_of_term columns answers t) ty (found-ok TypeMismatch (type_of_term columns answers t) ty e))

  number_is : (t : Term) (ty : Ty) → condition_type answers columns t ≡ Ok ty → IsTermOf answers columns t Int
  number_is t ty e = has_type t Int (number_found (type_of_term columns answers t) ty (found-ok TypeMismatch (wanted Int (type_of_term columns answers t)) ty e))

  both_are : (x y : Term) (ty : Ty) → both_type answers columns x y ≡ Ok ty → IsTermOf answers columns x ty × IsTermOf answers columns y ty
  both_are x y ty e =
      let (f, g) = both_find (type_of_term columns answers x) (type_of_term columns answers y) ty (found-ok TypeMismatch (one_of (type_of_term columns answers x) (type_of_term columns answers y)) ty e) in
      (has_type x ty f, has_type y ty g)

  whole_found : (o : Option Ty) → is_whole o ≡ true → Finds o Int
  whole_found None e = absurd cc
  whole_found (Some Int) e = inr refl
  whole_found (Some Null) e = inl refl
  whole_found (Some Text) e = absurd cc
  whole_found (Some Blob) e = absurd cc

  -- ---- aggregates and windows

  wanted_number : (o : Option Ty) (ty : Ty) → wanted Int o ≡ Some ty → ty ≡ Int
  wanted_number (Some Null) ty e = cc
  wanted_number (Some Int) ty e = cc
  wanted_number (Some Text) ty e = absurd cc
  wanted_number (Some Blob) ty e = absurd cc
  wanted_number None ty e = absurd cc

  pub aggregate_is : (f : AggregateFunction) (t : Term) (ty : Ty) → measure_type answers columns f t ≡ Ok ty → AggregateGives answers columns f t ty
  aggregate_is AggregateFunction.count t ty e =
      let (of, is, same) = also-ok (λ of. Int) (term_type answers columns t) ty e in ((of, term_is t of is), sym same)
  aggregate_is AggregateFunction.sum t ty e =
      (number_is t ty e, wanted_number (type_of_term columns answers t) ty (found-ok TypeMismatch (wanted Int (type_of_term columns answers t)) ty e))
  aggregate_is AggregateFunction.min t ty e = term_is t ty e
  aggregate_is AggregateFunction.max t ty e = term_is t ty e

  function_is : (f : WindowFunction) (ty : Ty) → function_type answers columns f ≡ Ok ty → FunctionHasType answers columns f ty
  function_is (WindowFunction.aggregate a) ty e = aggregate_is a.function a.argument ty e
  function_is WindowFunction.row_number ty e = cc
  function_is WindowFunction.rank ty e = cc
  function_is WindowFunction.dense_rank ty e = cc
  function_is (WindowFunction.ntile n) ty e =
      let (some, rest) = checked-ok (nat_lt 0 n) BadFrame (Ok Int) ty e in (ltb-true 0 n some, cc)
  function_is (WindowFunction.lag x n otherwise) ty e = both_are x otherwise ty e
  function_is (WindowFunction.lead x n otherwise) ty e = both_are x otherwise ty e
  function_is (WindowFunction.first_value x) ty e = term_is x ty e
  function_is (WindowFunction.last_value x) ty e = term_is x ty e
  function_is (WindowFunction.nth_value x n) ty e =
      let (some, rest) = checked-ok (nat_lt 0 n) BadFrame (term_type answers columns x) ty e in (term_is x ty rest, ltb-true 0 n some)

  distance_is : (edge : Edge) → IsDistance edge → is_distance edge ≡ true
  distance_is Edge.unbounded_preceding (inl e) = absurd (omega arith)
  distance_is Edge.unbounded_preceding (inr e) = absurd (omega arith)
  distance_is (Edge.preceding n) d = refl
  distance_is Edge.current_row (inl e) = absurd (omega arith)
  distance_is Edge.current_row (inr e) = absurd (omega arith)
  distance_is (Edge.following n) d = refl
  distance_is Edge.unbounded_following (inl e) = absurd (omega arith)
  distance_is Edge.unbounded_following (inr e) = absurd (omega arith)

  one_number_is : (order : List SortTerm) → is_one_number answers columns order ≡ true → IsOneNumber answers columns order
  one_number_is [] e = absurd cc
  one_number_is (s ∷ []) e = (s, refl, has_type s.term Int (whole_found (type_of_term columns answers s.term) e))
  one_number_is (s ∷ s' ∷ rest) e = absurd cc

  asked : (start end number : Bool) → (if start || end then number else true) ≡ true → (start ≡ true) ⊎ (end ≡ true) → number ≡ true
  asked true end number e d = e
  asked false true number e d = e
  asked false false number e (inl d) = absurd cc
  asked false false number e (inr d) = absurd cc

  distances : (start end : Edge) → IsDistance start ⊎ IsDistance end → (is_distance start ≡ true) ⊎ (is_distance end ≡ true)
  distances start end (inl d) = inl (distance_is start d)
  distances start end (inr d) = inr (distance_is end d)

  unit_is : (order : List SortTerm) (unit : FrameUnit) (start end : Edge) → unit_fits answers columns order unit start end ≡ true → UnitFits answers columns order unit start end
  unit_is order FrameUnit.rows start end e = tt
  unit_is order FrameUnit.range start end e =
      λ d. one_number_is order (asked (is_distance start) (is_distance end) (is_one_number answers columns order) e (distances start end d))
  unit_is order FrameUnit.groups start end e = ltb-true 0 (length order) e

  and_both : (a b : Bool) → (a && b) ≡ true → (a ≡ true) × (b ≡ true)
  and_both true b e = (refl, e)
  and_both false b e = absurd cc

  frame_is : (order : List SortTerm) (frame : Frame) → is_frame answers columns order frame ≡ true → IsFrame answers columns order frame
  frame_is order frame e =
      let (first, others) = and_both (nat_lt (edge_rank frame.start) 4) _ e in
      let (second, more) = and_both (nat_lt 0 (edge_rank frame.end)) _ others in
      let (third, fourth) = and_both (nat_le (edge_rank frame.start) (edge_rank frame.end)) _ more in
      record {
        starts = ltb-true (edge_rank frame.start) 4 first;
        ends = ltb-true 0 (edge_rank frame.end) second;
        in_turn = leb-true (edge_rank frame.start) (edge_rank frame.end) third;
        unit = unit_is order frame.unit frame.start frame.end fourth;
      }

  window_is : (v : Window) (types : List Ty) → window_types answers columns v ≡ Ok types → IsWindow answers columns v
  window_is v types e =
      let (of, by, more) = followed-ok (each (term_type answers columns) v.partition) _ types e in
      let (sorts, in_order, last) = followed-ok (each (λ s. term_type answers columns s.term) v.order) _ types more in
      let (fits, same) = checked-ok (is_frame answers columns v.order v.frame) BadFrame (Ok sorts) types last in
      record {
        partition = each-all (term_type answers columns) (IsTerm answers columns) (λ t ty is. (ty, term_is t ty is)) v.partition of by;
        order = each-all (λ s. term_type answers columns s.term) (λ s. IsTerm answers columns s.term) (λ s ty is. (ty, term_is s.term ty is)) v.order sorts in_order;
        frame = frame_is v.order v.frame fits;
      }

  call_is : (call : WindowCall) (ty : Ty) → call_type answers columns call ≡ Ok ty → CallHasType answers columns call ty
  call_is call ty e =
      let (types, over, function) = followed-ok (window_types answers columns call.window) _ ty e in
      (window_is call.window types over, function_is call.function ty function)

-- ---- one SELECT

module _ (answers row : List Ty) where
  pub grouping_is : (g : Option Grouping) (types : List Ty) → grouped_types answers row g ≡ Ok types → GroupedHasTypes answers row g types
  grouping_is None types e = cc
  grouping_is (Some g) types e =
      let (keys, by, more) = followed-ok (each (term_type answers row) g.by) _ types e in
      let (values, aggregates, last) = followed-ok (each (aggregate_type answers row) g.aggregates) _ types more in
      let (ty, having, same) = also-ok (λ _. keys ++ values) (condition_type answers (keys ++ values) g.having) types last in
      record {
        keys = keys;
        values = values;
        by = each-zip (term_type answers row) (IsTermOf answers row) (term_is answers row) g.by keys by;
        aggregates = each-zip (aggregate_type answers row) (λ a ty. AggregateGives answers row a.function a.argument ty) (λ a ty is. aggregate_is answers row a.function a.argument ty is) g.aggregates values aggregates;
        types_are = sym same;
        having = subst (λ columns. IsTermOf answers columns g.having Int) same (number_is answers (keys ++ values) g.having ty having);
      }

  pub computed_is : (s : Select) (types : List Ty) → computed_types answers row s ≡ Ok types → ComputedHasTypes answers row s types
  computed_is s types e =
      let (ty, condition, more) = followed-ok (condition_type answers row s.condition) _ types e in
      let (inputs, grouped, last) = followed-ok (grouped_types answers row s.grouping) _ types more in
      let (values, calls, same) = also-ok (λ calls. inputs ++ calls) (each (call_type answers inputs) s.windows) types last in
      record {
        inputs = inputs;
        values = values;
        condition = number_is answers row s.condition ty condition;
        grouped = grouping_is s.grouping inputs grouped;
        windows = each-zip (call_type answers inputs) (CallHasType answers inputs) (call_is answers inputs) s.windows values calls;
        types_are = sym same;
      }

  select_is : (s : Select) (types : List Ty) → select_types answers row s ≡ Ok types → SelectHasTypes answers row s types
  select_is s types e =
      let (computed, is, columns) = followed-ok (computed_types answers row s) _ types e in
      (computed, computed_is s computed is, each-zip (term_type answers computed) (IsTermOf answers computed) (term_is answers computed) s.columns types columns)

  -- the columns of a SELECT have the types that theirs may stand for
  columns_more : (computed : List Ty) (ts : List Term) (first types : List Ty) → AllZip (IsTermOf answers computed) ts first → AllZip FitsType first types → AllZip (IsTermOf answers computed) ts types
  columns_more computed [] [] [] is fit = tt
  columns_more computed [] [] (ty ∷ types) is fit = absurd fit
  columns_more computed [] (of ∷ first) types is fit = absurd is
  columns_more computed (t ∷ ts) [] types is fit = absurd is
  columns_more computed (t ∷ ts) (of ∷ first) [] is fit = absurd fit
  columns_more computed (t ∷ ts) (of ∷ first) (ty ∷ types) is fit =
      (fits_more answers computed t of ty is.0 fit.0, columns_more computed ts first types is.1 fit.1)

  select_more : (s : Select) (first types : List Ty) → SelectHasTypes answers row s first → AllZip FitsType first types → SelectHasTypes answers row s types
  select_more s first types (computed, is, columns) fit = (computed, is, columns_more computed s.columns first types columns fit)

-- ---- queries

all_fit : (first second types : List Ty) → one_types first second ≡ Ok types → AllZip FitsType first types × AllZip FitsType second types
all_fit [] [] [] e = (tt, tt)
all_fit [] [] (ty ∷ types) e = absurd cc
all_fit [] (b ∷ second) types e = absurd cc
all_fit (a ∷ first) [] types e = absurd cc
all_fit (a ∷ first) (b ∷ second) types e =
    parts types (both-ok ◌∷◌ (typed (one_type a b)) (one_types first second) types e) (all_fit first second)
  where
    parts : (zs : List Ty) → (c : Ty) × (rest : List Ty) × (typed (one_type a b) ≡ Ok c) × (one_types first second ≡ Ok rest) × (c ∷ rest ≡ zs)
        → ((rest : List Ty) → one_types first second ≡ Ok rest → AllZip FitsType first rest × AllZip FitsType second rest)
        → AllZip FitsType (a ∷ first) zs × AllZip FitsType (b ∷ second) zs
    parts [] (c, rest, one, others, same) more = absurd cc
    parts (z ∷ zs) (c, rest, one, others, same) more =
        let head : c ≡ z = cc in
        let tail : rest ≡ zs = cc in
        let (l, r) = both_fit a b z (found-ok TypeMismatch (one_type a b) z (subst (λ v. typed (one_type a b) ≡ Ok v) head one)) in
        let (ls, rs) = more zs (subst (λ v. one_types first second ≡ Ok v) tail others) in
        ((l, ls), (r, rs))

module _ (tables : List (List Ty)) where
  -- a query has the types that its own may stand for
  body_more : (body : Body) (first types : List Ty) → BodyHasTypes tables body first → AllZip FitsType first types → BodyHasTypes tables body types
  body_more (Body.select from s) first types (answers, row, given, shown, select) fit =
      (answers, row, given, shown, select_more answers row s first types select fit)
  body_more (Body.compound left operator from s) first types (body, (answers, row, given, shown, select)) fit =
      (body_more left first types body fit, (answers, row, given, shown, select_more answers row s first types select fit))

  one_column : (types : List Ty) (ty : Ty) → single_type types ≡ Ok ty → types ≡ ty ∷ []
  one_column [] ty e = absurd cc
  one_column (of ∷ []) ty e = cc
  one_column (of ∷ other ∷ rest) ty e = absurd cc

  mutual
    pub source_is : (source : Source) (types : List Ty) → source_types tables source ≡ Ok types → SourceHasTypes tables source types
    source_is (Source.table at width) types e =
        let (found, there, sized) = followed-ok (found_or TypeMismatch (slice_get tables at)) (of_width width) types e in
        let (wide, same) = checked-ok (nat_eq width (length found)) ColumnCount (Ok found) types sized in
        let are : found ≡ types = cc in (
          subst (λ v. slice_get tables at ≡ Some v) are (found-ok TypeMismatch (slice_get tables at) found there),
          subst (λ v. width ≡ length v) are (eqb-true width (length found) wide),
        )
    source_is Source.schema types e = cc
    source_is (Source.derived body) types e = body_is body types e

    pub from_is : (answers : List Ty) (from : From) (types : List Ty) → from_types tables answers from ≡ Ok types → FromHasTypes tables answers from types
    from_is answers From.nothing types e = cc
    from_is answers (From.joined from kind source on) types e =
        let (l, left, more) = followed-ok (from_types tables answers from) _ types e in
        let (r, right, last) = followed-ok (source_types tables source) _ types more in
        let (ty, condition, same) = also-ok (λ _. l ++ r) (condition_type answers (l ++ r) on) types last in (
          l,
          r,
          from_is answers from l left,
          source_is source r right,
          sym same,
          subst (λ row. IsTermOf answers row on Int) same (number_is answers (l ++ r) on ty condition),
        )
    from_is answers (From.with_inner from query) types e = from_is answers from types e

    inner_is : (query : InnerQuery) (ty : Ty) → inner_type tables query ≡ Ok ty → InnerHasType tables query ty
    inner_is (InnerQuery.values_of body) ty e =
        let (types, is, one) = followed-ok (body_types tables body) single_type ty e in
        subst (BodyHasTypes tables body) (one_column types ty one) (body_is body types is)
    inner_is (InnerQuery.exists body) ty e =
        let (types, is, same) = also-ok (λ types. Int) (body_types tables body) ty e in
        ((types, body_is body types is), sym same)

    pub answers_are : (from : From) (types : List Ty) → answer_types tables from ≡ Ok types → AnswersHaveTypes tables from types
    answers_are From.nothing types e = cc
    answers_are (From.joined from kind source on) types e = answers_are from types e
    answers_are (From.with_inner from query) types e =
        let (before, ty, earlier, inner, same) = both-ok (λ before ty. before ++ ty ∷ []) (answer_types tables from) (inner_type tables query) types e in
        (before, ty, answers_are from before earlier, inner_is query ty inner, sym same)

    pub body_is : (body : Body) (types : List Ty) → body_types tables body ≡ Ok types → BodyHasTypes tables body types
    body_is (Body.select from s) types e =
        let (answers, given, more) = followed-ok (answer_types tables from) _ types e in
        let (row, shown, select) = followed-ok (from_types tables answers from) _ types more in
        (answers, row, answers_are from answers given, from_is answers from row shown, select_is answers row s types select)
    body_is (Body.compound left operator from s) types e =
        let (first, body, others) = followed-ok (body_types tables left) _ types e in
        let (answers, given, more) = followed-ok (answer_types tables from) _ types others in
        let (row, shown, last) = followed-ok (from_types tables answers from) _ types more in
        let (second, select, one) = followed-ok (select_types answers row s) (one_types first) types last in
        let (l, r) = all_fit first second types one in (
          body_more left first types (body_is left first body) l,
          (
            answers,
            row,
            answers_are from answers given,
            from_is answers from row shown,
            select_more answers row s second types (select_is answers row s second select) r,
          ),
        )

  not_true : (b : Bool) → not b ≡ true → b ≡ false
  not_true true e = absurd cc
  not_true false e = refl

  key_is : (body : Body) (types : List Ty) (key : KeyTerm) (ty : Ty) → key_type tables body types key ≡ Ok ty → IsKeyTerm tables body types key
  key_is body types (KeyTerm.result at) ty e = slice_get_within types at ty (found-ok TypeMismatch (slice_get types at) ty e)
  key_is (Body.select from s) types (KeyTerm.term t) ty e =
      let (plain, more) = checked-ok (not s.distinct) WrongPlace _ ty e in
      let (answers, given, others) = followed-ok (answer_types tables from) _ ty more in
      let (row, shown, rest) = followed-ok (from_types tables answers from) _ ty others in
      let (computed, is, last) = followed-ok (computed_types answers row s) _ ty rest in (
        not_true s.distinct plain,
        (
          answers,
          row,
          computed,
          answers_are from answers given,
          from_is answers from row shown,
          computed_is answers row s computed is,
          (ty, term_is answers computed t ty last),
        ),
      )
  key_is (Body.compound left operator from s) types (KeyTerm.term t) ty e = absurd cc

  pub query_is : (query : QueryData) (types : List Ty) → query_types tables query ≡ Ok types → HasTypes tables query types
  query_is query types e =
      let (of, is, more) = followed-ok (body_types tables query.body) _ types e in
      let (keys, order, same) = also-ok (λ _. of) (each (λ k. key_type tables query.body of k.by) query.order) types more in
      subst (HasTypes tables query) same (record {
        body = body_is query.body of is;
        order = each-all (λ k. key_type tables query.body of k.by) (λ k. IsKeyTerm tables query.body of k.by) (λ k ty is. key_is query.body of k.by ty is) query.order keys order;
      })

pub statement_is : (tables : List Table) (tree : StatementTree) (n : Named) → Types tables tree n → IsTyped (column_types tables) n.query
statement_is tables tree n e =
    let (found, names, typed) = followed-ok (named (known_tables tables) tree) (with_types (column_types tables)) n e in
    let (beside, all, last) = followed-ok (each (body_types (column_types tables)) found.beside) _ n typed in
    let (types, is, same) = also-ok (λ _. found) (query_types (column_types tables) found.query) n last in
    subst (λ n. IsTyped (column_types tables) n.query) same (types, query_is (column_types tables) found.query types is)

-- ---- terms without a type

none_found : (o : Option Ty) → typed o ≡ Err TypeMismatch → (ty : Ty) → Finds o ty → ⊥
none_found None e ty found = found
none_found (Some of) e ty found = absurd cc

found_some : (o : Option Ty) → ((ty : Ty) → Finds o ty → ⊥) → typed o ≡ Err TypeMismatch
found_some None untyped = refl
found_some (Some of) untyped = absurd (untyped of (inr refl))

pub mismatch_is_untyped : MismatchIsUntyped
mismatch_is_untyped answers columns t = (
  (λ e is. none_found (type_of_term columns answers t) e is.0 ((types_are_found columns answers t is.0).0 is.1)),
  (λ untyped. found_some (type_of_term columns answers t) (λ ty found. untyped (ty, has_type answers columns t ty found))),
)
