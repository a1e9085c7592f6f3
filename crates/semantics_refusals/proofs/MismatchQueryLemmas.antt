-- A query that is refused by its types has an expression that is of another type than its place wants.
use Rattle.std.proofs.Common.{◌≡◌, ◌⊎◌, inl, inr, ℕ, suc, ◌+◌, List, [], ◌∷◌, ◌++◌, length, nat_eq, Some, None, Result, Ok, Err, slice_get, refl, sym, subst, ◌∙◌, arith, length-append}
use Rattle.values.specs.declared.fault.Fault.{Fault}
use Rattle.values.specs.declared.fault.Fault.TheVariants.{ColumnCount, TypeMismatch}
use Rattle.values.specs.declared.value.Ty.{Ty}
use Rattle.values.specs.declared.value.Ty.TheVariants.{Int}
use Rattle.expr.specs.Term.{Term}
use Rattle.expr.specs.TermType.{one_type, type_of_term, wanted}
use Rattle.semantics.specs.Query.{Body, From, InnerQuery, JoinKind, Operator, Select, Source, from_width, source_width}
use Rattle.semantics_names.specs.Outcome.{also, followed, found_or}
use Rattle.semantics_names.specs.Types.{answer_types, body_types, condition_type, from_types, inner_type, of_width, one_types, select_types, single_type, source_types, typed}
use Rattle.semantics_refusals.specs.Mismatches.{AnswersMisfit, AreMismatched, BodyMisfits, FromMisfits, InnerMisfits, SingleMisfits, SourceMisfits}
use Rattle.semantics_refusals.proofs.ClashLemmas.{IsWithin, misfits_of, one_none}
use Rattle.semantics_refusals.proofs.LengthLemmas.{answers_length, from_length, source_length}
use Rattle.semantics_refusals.proofs.MismatchLemmas.{select_err}
use Rattle.semantics_refusals.proofs.ErrLemmas.{also-err, both-err, checked-err, followed-err, found-err}
use Rattle.semantics_refusals.proofs.OwnLemmas.{own_answers, own_body, own_row, own_select, own_source}
use Rattle.semantics_refusals.proofs.WithinLemmas.{BodyIsWithin, FromIsWithin, InnerIsWithin, IsWithinSelect, SourceIsWithin, inner_count}

-- ---- columns of two types

apart_err : (first second : List Ty) → one_types first second ≡ Err TypeMismatch → AreMismatched first second
apart_err [] [] e = absurd cc
apart_err [] (y ∷ ys) e = absurd cc
apart_err (x ∷ xs) [] e = absurd cc
apart_err (x ∷ xs) (y ∷ ys) e = by (both-err ◌∷◌ (typed (one_type x y)) (one_types xs ys) TypeMismatch e) (apart_err xs ys)
  where
    by : (typed (one_type x y) ≡ Err TypeMismatch) ⊎ ((ty : Ty) × (typed (one_type x y) ≡ Ok ty) × (one_types xs ys ≡ Err TypeMismatch))
        → (one_types xs ys ≡ Err TypeMismatch → AreMismatched xs ys) → AreMismatched (x ∷ xs) (y ∷ ys)
    by (inl d) more = record {
      at = 0;
      one = x;
      other = y;
      there = refl;
      beside = refl;
      apart = λ ty f g. one_none x y ty (found-err TypeMismatch (one_type x y) TypeMismatch d) f g;
    }
    by (inr (ty, is, d)) more =
        let rest = more d in
        record { at = suc rest.at; one = rest.one; other = rest.other; there = rest.there; beside = rest.beside; apart = rest.apart }

single_err : (types : List Ty) → single_type types ≡ Err TypeMismatch → ⊥
single_err [] e = absurd cc
single_err (ty ∷ []) e = absurd cc
single_err (ty ∷ other ∷ types) e = absurd cc

-- ---- queries

module _ (tables : List (List Ty)) where
  -- a SELECT as it is within its own numbers is so over the types that it has
  pub select_there : (from : From) (s : Select) (answers row : List Ty) → answer_types tables from ≡ Ok answers
      → from_types tables answers from ≡ Ok row
      → IsWithinSelect (inner_count from) (from_width from) s → IsWithinSelect (length answers) (length row) s
  select_there from s answers row are is w =
      subst (λ n. IsWithinSelect n (length row) s) (sym (answers_length tables from answers are))
      (subst (λ n. IsWithinSelect (inner_count from) n s) (sym (from_length tables answers from row is)) w)

  pub from_there : (from : From) (answers : List Ty) → answer_types tables from ≡ Ok answers → FromIsWithin tables (inner_count from) from
      → FromIsWithin tables (length answers) from
  from_there from answers are w = subst (λ n. FromIsWithin tables n from) (sym (answers_length tables from answers are)) w

  no_table : (at width : ℕ) (of : List Ty) → slice_get tables at ≡ Some of → source_types tables (Source.table at width) ≡ Err TypeMismatch → ⊥
  no_table at width of there e = by (followed-err (found_or TypeMismatch (slice_get tables at)) (of_width width) TypeMismatch e)
    where
      sized : (types : List Ty) → (ColumnCount ≡ TypeMismatch) ⊎ (Ok types ≡ Err TypeMismatch) → ⊥
      sized types (inl d) = absurd cc
      sized types (inr d) = absurd cc

      by : (found_or TypeMismatch (slice_get tables at) ≡ Err TypeMismatch)
          ⊎ ((types : List Ty) × (found_or TypeMismatch (slice_get tables at) ≡ Ok types) × (of_width width types ≡ Err TypeMismatch)) → ⊥
      by (inl d) = let none = found-err TypeMismatch (slice_get tables at) TypeMismatch d in absurd (apart (sym there ∙ none))
        where
          apart : Some of ≡ None → ⊥
          apart f = absurd cc
      by (inr (types, is, d)) = sized types (checked-err (nat_eq width (length types)) ColumnCount (Ok types) TypeMismatch d)

  joined_err : (answers : List Ty) (from : From) (kind : JoinKind) (source : Source) (on : Term)
      → (from_types tables answers from ≡ Err TypeMismatch → FromMisfits tables answers from)
      → (source_types tables source ≡ Err TypeMismatch → SourceMisfits tables source)
      → IsWithin (length answers) (from_width from + source_width source) on
      → from_types tables answers (From.joined from kind source on) ≡ Err TypeMismatch
      → FromMisfits tables answers (From.joined from kind source on)
  joined_err answers from kind source on earlier given w e = by (followed-err (from_types tables answers from) _ TypeMismatch e)
    where
      condition : (left right : List Ty) → from_types tables answers from ≡ Ok left → source_types tables source ≡ Ok right
          → condition_type answers (left ++ right) on ≡ Err TypeMismatch → FromMisfits tables answers (From.joined from kind source on)
      condition left right is of d =
          let first : length left ≡ from_width from = from_length tables answers from left is in
          let second : length right ≡ source_width source = source_length tables source right of in
          let total : length (left ++ right) ≡ length left + length right = length-append left right in
          let size : from_width from + source_width source ≡ length (left ++ right) = omega (arith, first, second, total) in
          FromMisfits.on left right (own_row tables answers from left is) (own_source tables source right of)
          (misfits_of answers (left ++ right) on (subst (λ n. IsWithin (length answers) n on) size w)
          (found-err TypeMismatch (wanted Int (type_of_term (left ++ right) answers on)) TypeMismatch d))

      right_side : (left : List Ty) → from_types tables answers from ≡ Ok left
          → (source_types tables source ≡ Err TypeMismatch)
          ⊎ ((right : List Ty) × (source_types tables source ≡ Ok right)
          × (also (λ (_ : Ty). left ++ right) (condition_type answers (left ++ right) on) ≡ Err TypeMismatch))
          → FromMisfits tables answers (From.joined from kind source on)
      right_side left is (inl d) = FromMisfits.source (given d)
      right_side left is (inr (right, of, d)) =
          condition left right is of (also-err (λ (_ : Ty). left ++ right) (condition_type answers (left ++ right) on) TypeMismatch d)

      by : (from_types tables answers from ≡ Err TypeMismatch)
          ⊎ ((left : List Ty) × (from_types tables answers from ≡ Ok left)
          × (followed (source_types tables source) (λ right. also (λ (_ : Ty). left ++ right) (condition_type answers (left ++ right) on))
          ≡ Err TypeMismatch)) → FromMisfits tables answers (From.joined from kind source on)
      by (inl d) = FromMisfits.earlier (earlier d)
      by (inr (left, is, d)) = right_side left is (followed-err (source_types tables source) _ TypeMismatch d)

  members_err : (body : Body) → (body_types tables body ≡ Err TypeMismatch → BodyMisfits tables body)
      → inner_type tables (InnerQuery.values_of body) ≡ Err TypeMismatch → BodyMisfits tables body
  members_err body inside e = by (followed-err (body_types tables body) single_type TypeMismatch e)
    where
      by : (body_types tables body ≡ Err TypeMismatch)
          ⊎ ((types : List Ty) × (body_types tables body ≡ Ok types) × (single_type types ≡ Err TypeMismatch)) → BodyMisfits tables body
      by (inl d) = inside d
      by (inr (types, is, d)) = absurd (single_err types d)

  asked_err : (from : From) (query : InnerQuery) → (answer_types tables from ≡ Err TypeMismatch → AnswersMisfit tables from)
      → (inner_type tables query ≡ Err TypeMismatch → InnerMisfits tables query)
      → answer_types tables (From.with_inner from query) ≡ Err TypeMismatch → AnswersMisfit tables (From.with_inner from query)
  asked_err from query earlier inner e =
      by (both-err (λ (before : List Ty) (ty : Ty). before ++ ty ∷ []) (answer_types tables from) (inner_type tables query) TypeMismatch e)
    where
      by : (answer_types tables from ≡ Err TypeMismatch)
          ⊎ ((before : List Ty) × (answer_types tables from ≡ Ok before) × (inner_type tables query ≡ Err TypeMismatch))
          → AnswersMisfit tables (From.with_inner from query)
      by (inl d) = AnswersMisfit.other (earlier d)
      by (inr (before, is, d)) = AnswersMisfit.inner (inner d)

  -- where the inner queries, or FROM behind them, are refused by types, they misfit
  abbrev AnswersErr : From → Type 0
  AnswersErr from = answer_types tables from ≡ Err TypeMismatch → AnswersMisfit tables from

  abbrev FromErr : From → Type 0
  FromErr from =
      (answers : List Ty) → answer_types tables from ≡ Ok answers → from_types tables answers from ≡ Err TypeMismatch
      → FromMisfits tables answers from

  -- a SELECT with its FROM misfits, or what is asked of the types of both is refused so
  abbrev pub IsRefusedAt : {A : Type 0} → From → Select → (List Ty → List Ty → Result A Fault) → Type 0
  IsRefusedAt from s g =
      SingleMisfits tables from s
      ⊎ ((answers row : List Ty) × (answer_types tables from ≡ Ok answers) × (from_types tables answers from ≡ Ok row)
      × (g answers row ≡ Err TypeMismatch))

  pub single_misfits : (from : From) (s : Select) {A : Type 0} (g : List Ty → List Ty → Result A Fault) → AnswersErr from → FromErr from
      → followed (answer_types tables from) (λ answers. followed (from_types tables answers from) (g answers)) ≡ Err TypeMismatch
      → IsRefusedAt from s g
  single_misfits from s g in_answers in_from e = by (followed-err (answer_types tables from) _ TypeMismatch e)
    where
      sources : (answers : List Ty) → answer_types tables from ≡ Ok answers
          → (from_types tables answers from ≡ Err TypeMismatch)
          ⊎ ((row : List Ty) × (from_types tables answers from ≡ Ok row) × (g answers row ≡ Err TypeMismatch)) → IsRefusedAt from s g
      sources answers are (inl d) = inl (SingleMisfits.sources answers (own_answers tables from answers are) (in_from answers are d))
      sources answers are (inr (row, is, d)) = inr (answers, row, are, is, d)

      by : (answer_types tables from ≡ Err TypeMismatch)
          ⊎ ((answers : List Ty) × (answer_types tables from ≡ Ok answers)
          × (followed (from_types tables answers from) (g answers) ≡ Err TypeMismatch)) → IsRefusedAt from s g
      by (inl d) = inl (SingleMisfits.answers (in_answers d))
      by (inr (answers, are, d)) = sources answers are (followed-err (from_types tables answers from) (g answers) TypeMismatch d)

  select_misfits : (from : From) (s : Select) (answers row : List Ty) → IsWithinSelect (inner_count from) (from_width from) s
      → answer_types tables from ≡ Ok answers → from_types tables answers from ≡ Ok row → select_types answers row s ≡ Err TypeMismatch
      → SingleMisfits tables from s
  select_misfits from s answers row w are is e =
      SingleMisfits.select answers row (own_answers tables from answers are) (own_row tables answers from row is)
      (select_err answers row s (select_there from s answers row are is w) e)

  alone_err : (from : From) (s : Select) → IsWithinSelect (inner_count from) (from_width from) s → AnswersErr from → FromErr from
      → body_types tables (Body.select from s) ≡ Err TypeMismatch → SingleMisfits tables from s
  alone_err from s w in_answers in_from e = by (single_misfits from s (λ answers row. select_types answers row s) in_answers in_from e)
    where
      by : IsRefusedAt from s (λ answers row. select_types answers row s) → SingleMisfits tables from s
      by (inl m) = m
      by (inr (answers, row, are, is, d)) = select_misfits from s answers row w are is d

  compound_err : (left : Body) (operator : Operator) (from : From) (s : Select) → IsWithinSelect (inner_count from) (from_width from) s
      → (body_types tables left ≡ Err TypeMismatch → BodyMisfits tables left) → AnswersErr from → FromErr from
      → body_types tables (Body.compound left operator from s) ≡ Err TypeMismatch → BodyMisfits tables (Body.compound left operator from s)
  compound_err left operator from s w in_left in_answers in_from e = by (followed-err (body_types tables left) _ TypeMismatch e)
    where
      columns : (first answers row : List Ty) → body_types tables left ≡ Ok first → answer_types tables from ≡ Ok answers
          → from_types tables answers from ≡ Ok row
          → (select_types answers row s ≡ Err TypeMismatch)
          ⊎ ((second : List Ty) × (select_types answers row s ≡ Ok second) × (one_types first second ≡ Err TypeMismatch))
          → BodyMisfits tables (Body.compound left operator from s)
      columns first answers row begun are is (inl d) = BodyMisfits.last (select_misfits from s answers row w are is d)
      columns first answers row begun are is (inr (second, of, d)) =
          BodyMisfits.columns first second (own_body tables left first begun) (own_select tables from s answers row second are is of)
          (apart_err first second d)

      last : (first : List Ty) → body_types tables left ≡ Ok first
          → IsRefusedAt from s (λ answers row. followed (select_types answers row s) (one_types first))
          → BodyMisfits tables (Body.compound left operator from s)
      last first begun (inl m) = BodyMisfits.last m
      last first begun (inr (answers, row, are, is, d)) =
          columns first answers row begun are is (followed-err (select_types answers row s) (one_types first) TypeMismatch d)

      by : (body_types tables left ≡ Err TypeMismatch)
          ⊎ ((first : List Ty) × (body_types tables left ≡ Ok first)
          × (followed (answer_types tables from) (λ answers. followed (from_types tables answers from) (λ row.
          followed (select_types answers row s) (one_types first))) ≡ Err TypeMismatch)) → BodyMisfits tables (Body.compound left operator from s)
      by (inl d) = BodyMisfits.before (in_left d)
      by (inr (first, begun, d)) =
          last first begun (single_misfits from s (λ answers row. followed (select_types answers row s) (one_types first)) in_answers in_from d)

  mutual
    source_err : (source : Source) → SourceIsWithin tables source → source_types tables source ≡ Err TypeMismatch → SourceMisfits tables source
    source_err (Source.table at width) w e = absurd (no_table at width w.0 w.1 e)
    source_err Source.schema w e = absurd cc
    source_err (Source.derived body) w e = SourceMisfits.derived (body_err body w e)

    pub from_err : (answers : List Ty) (from : From) → FromIsWithin tables (length answers) from
        → from_types tables answers from ≡ Err TypeMismatch
        → FromMisfits tables answers from
    from_err answers From.nothing w e = absurd cc
    from_err answers (From.joined from kind source on) w e =
        joined_err answers from kind source on (λ d. from_err answers from w.0 d) (λ d. source_err source w.1 d) w.2 e
    from_err answers (From.with_inner from query) w e = FromMisfits.beside (from_err answers from w.0 e)

    inner_err : (query : InnerQuery) → InnerIsWithin tables query → inner_type tables query ≡ Err TypeMismatch → InnerMisfits tables query
    inner_err (InnerQuery.values_of body) w e = InnerMisfits.members (members_err body (λ d. body_err body w d) e)
    inner_err (InnerQuery.exists body) w e =
        InnerMisfits.tested (body_err body w (also-err (λ (types : List Ty). Int) (body_types tables body) TypeMismatch e))

    pub answers_err : (count : ℕ) (from : From) → FromIsWithin tables count from → answer_types tables from ≡ Err TypeMismatch
        → AnswersMisfit tables from
    answers_err count From.nothing w e = absurd cc
    answers_err count (From.joined from kind source on) w e = AnswersMisfit.joined (answers_err count from w.0 e)
    answers_err count (From.with_inner from query) w e =
        asked_err from query (λ d. answers_err count from w.0 d) (λ d. inner_err query w.1 d) e

    pub body_err : (body : Body) → BodyIsWithin tables body → body_types tables body ≡ Err TypeMismatch → BodyMisfits tables body
    body_err (Body.select from s) w e =
        BodyMisfits.alone
        (alone_err from s w.1 (λ d. answers_err (inner_count from) from w.0 d)
        (λ answers are d. from_err answers from (from_there from answers are w.0) d) e)
    body_err (Body.compound left operator from s) w e =
        compound_err left operator from s w.2 (λ d. body_err left w.0 d) (λ d. answers_err (inner_count from) from w.1 d)
        (λ answers are d. from_err answers from (from_there from answers are w.1) d) e
