-- A query with a window whose frame can't be has no types.
use Rattle.std.proofs.Common.{◌≡◌, ◌<◌, ◌≤◌, List, [], ◌∷◌, length, Ok, All, ap, sym, subst, ◌∙◌, arith}
use Rattle.std.specs.List.{AllZip}
use Rattle.std.proofs.lemmas.List.Elements.{All-contains}
use Rattle.values.specs.declared.value.Ty.{Ty}
use Rattle.values.specs.declared.value.Ty.TheVariants.{Int}
use Rattle.expr.specs.Types.{FitsType}
use Rattle.semantics.specs.Query.{Body, Frame, FrameUnit, From, InnerQuery, Select, SortTerm, Source, WindowCall, WindowFunction}
use Rattle.semantics.specs.Typed.{AnswersHaveTypes, BodyHasTypes, CallHasType, FromHasTypes, FunctionHasType, InnerHasType, IsFrame, IsTyped, SelectHasTypes, SourceHasTypes, UnitFits, edge_rank}
use Rattle.semantics_names.specs.Laws.{IsTypedBody, TypedIsTaken}
use Rattle.semantics_names.specs.Statement.{Named, named}
use Rattle.semantics_names.specs.Typed.{Table, Types, column_types, known_tables}
use Rattle.semantics_names.proofs.FoundLemmas.{term_fits}
use Rattle.sql_reader_syntax.specs.StatementTree.{StatementTree}
use Rattle.semantics_refusals.specs.BadFrames.{BodyHas, CantBe, FromHas, HasNoCall, InnerHas, IsNoCall, NamedHas, SingleHas, SourceHas}
use Rattle.semantics_refusals.proofs.MistypedLemmas.{inputs_fit, related}
use Rattle.semantics_refusals.proofs.MistypedQueryLemmas.{from_over}

-- what is typed over answers and a row, where others may stand in their places
module _ (row general answers given : List Ty) (fit : AllZip FitsType general row) (replies : AllZip FitsType given answers) where
  frame_refuted : (order : List SortTerm) (frame : Frame) → CantBe given general order frame → IsFrame answers row order frame → ⊥
  frame_refuted order frame (CantBe.starts_last e) h =
      let at : edge_rank frame.start ≡ 4 = ap edge_rank e in
      let less : edge_rank frame.start < 4 = h.starts in
      omega (arith, at, less)
  frame_refuted order frame (CantBe.ends_first e) h =
      let at : edge_rank frame.end ≡ 0 = ap edge_rank e in
      let some : 0 < edge_rank frame.end = h.ends in
      omega (arith, at, some)
  frame_refuted order frame (CantBe.backward before) h =
      let turn : edge_rank frame.start ≤ edge_rank frame.end = h.in_turn in omega (arith, before, turn)
  frame_refuted order frame (CantBe.range e distance none) h =
      let fits : UnitFits answers row order FrameUnit.range frame.start frame.end =
      subst (λ unit. UnitFits answers row order unit frame.start frame.end) e h.unit in
      let (s, only, is) = fits distance in
      none (s, only, term_fits row general answers given fit replies s.term Int is)
  frame_refuted order frame (CantBe.groups e none) h =
      let fits : UnitFits answers row order FrameUnit.groups frame.start frame.end =
      subst (λ unit. UnitFits answers row order unit frame.start frame.end) e h.unit in
      let some : 0 < length order = fits in
      let nothing : length order ≡ 0 = ap length none in
      omega (arith, some, nothing)

  call_refuted : (c : WindowCall) (ty : Ty) → IsNoCall given general c → CallHasType answers row c ty → ⊥
  call_refuted c ty (IsNoCall.frame none) (over, h) = frame_refuted c.window.order c.window.frame none over.frame
  call_refuted c ty (IsNoCall.buckets e) (over, h) =
      let is : FunctionHasType answers row (WindowFunction.ntile 0) ty = subst (λ f. FunctionHasType answers row f ty) e h in
      let some : 0 < 0 = is.0 in omega (arith, some)
  call_refuted c ty (IsNoCall.nth t e) (over, h) =
      let is : FunctionHasType answers row (WindowFunction.nth_value t 0) ty = subst (λ f. FunctionHasType answers row f ty) e h in
      let some : 0 < 0 = is.1 in omega (arith, some)

-- over the rows that windows take
module _ (row general answers given : List Ty) (fit : AllZip FitsType general row) (replies : AllZip FitsType given answers) where
  select_refuted : (s : Select) (types : List Ty) → HasNoCall given general s → SelectHasTypes answers row s types → ⊥
  select_refuted s types has (computed, h, columns) =
      let (ty, is) = related (CallHasType answers h.inputs) s.windows h.values has.call h.windows has.there in
      call_refuted h.inputs has.inputs answers given
      (inputs_fit row general answers given fit replies s.grouping has.inputs h.inputs has.own h.grouped) replies has.call ty has.is is

module _ (tables : List (List Ty)) where
  mutual
    source_refuted : {source : Source} → SourceHas tables HasNoCall source → (types : List Ty) → SourceHasTypes tables source types → ⊥
    source_refuted (SourceHas.derived h) types typed = body_refuted h types typed

    from_refuted : {from : From} → FromHas tables HasNoCall from → (given answers row : List Ty) → AnswersHaveTypes tables from given
        → FromHasTypes tables answers from row → ⊥
    from_refuted (FromHas.earlier h) given answers row asked (l, r, left, right, e, condition) = from_refuted h given answers l asked left
    from_refuted (FromHas.source h) given answers row asked (l, r, left, right, e, condition) = source_refuted h r right
    from_refuted (FromHas.beside h) given answers row (before, ty, earlier, inner, e) typed = from_refuted h before answers row earlier typed
    from_refuted (FromHas.inner h) given answers row (before, ty, earlier, inner, e) typed = inner_refuted h ty inner

    inner_refuted : {query : InnerQuery} → InnerHas tables HasNoCall query → (ty : Ty) → InnerHasType tables query ty → ⊥
    inner_refuted (InnerHas.members h) ty typed = body_refuted h (ty ∷ []) typed
    inner_refuted (InnerHas.tested h) ty ((types, typed), e) = body_refuted h types typed

    single_refuted : {from : From} {s : Select} → SingleHas tables HasNoCall from s → (answers row types : List Ty)
        → AnswersHaveTypes tables from answers → FromHasTypes tables answers from row → SelectHasTypes answers row s types → ⊥
    single_refuted (SingleHas.sources h) answers row types asked typed select = from_refuted h answers answers row asked typed
    single_refuted (SingleHas.select {from = from} {s = s} given general own other h) answers row types asked typed select =
        let replies : AllZip FitsType given answers = own.least answers asked in
        select_refuted row general answers given (other.least row (from_over tables answers given replies from row typed)) replies s types h select

    body_refuted : {body : Body} → BodyHas tables HasNoCall body → (types : List Ty) → BodyHasTypes tables body types → ⊥
    body_refuted (BodyHas.alone h) types (answers, row, asked, typed, select) = single_refuted h answers row types asked typed select
    body_refuted (BodyHas.before h) types (left, right) = body_refuted h types left
    body_refuted (BodyHas.last h) types (left, (answers, row, asked, typed, select)) = single_refuted h answers row types asked typed select

  named_refuted : (n : Named) → NamedHas tables HasNoCall n → IsTyped tables n.query → All (IsTypedBody tables) n.beside → ⊥
  named_refuted n (NamedHas.query h) (types, typed) all = body_refuted h types typed.body
  named_refuted n (NamedHas.beside body there h) typed all =
      let (types, is) = All-contains (IsTypedBody tables) n.beside body all there in body_refuted h types is

-- a statement whose names make a query with such a window is none
pub frames_refuted : TypedIsTaken → (tables : List Table) (tree : StatementTree) (n m : Named) → named (known_tables tables) tree ≡ Ok m
    → NamedHas (column_types tables) HasNoCall m → Types tables tree n → ⊥
frames_refuted taken tables tree n m names has is =
    let (named_so, typed, all) = (taken tables tree n).0 is in
    let both : Ok m ≡ Ok n = sym names ∙ named_so in
    let same : m ≡ n = cc in
    named_refuted (column_types tables) n (subst (NamedHas (column_types tables) HasNoCall) same has) typed all
