-- The types of a query that may stand for two.
use Rattle.std.proofs.Common.{◌≡◌, List, [], ◌∷◌, ◌++◌, length, Option, Some, None, refl, sym, ap, subst, ◌∙◌}
use Rattle.std.specs.List.{AllZip}
use Rattle.std.proofs.lemmas.List.Elements.{All-weaker}
use Rattle.values.specs.declared.value.Ty.{Ty}
use Rattle.values.specs.declared.value.Ty.TheVariants.{Int}
use Rattle.expr.specs.Term.{Term}
use Rattle.expr.specs.Types.{FitsType, HasType}
use Rattle.semantics.proofs.ElementLemmas.{length_all_zip}
use Rattle.semantics.proofs.TypedLemmas.{body_width-is}
use Rattle.semantics.specs.Query.{AggregateFunction, Body, Edge, FrameUnit, From, Grouping, InnerQuery, Select, SortTerm, Source, Window, WindowFunction, compound, derived, exists, joined, nothing, schema, select, source_width, table, values_of, with_inner}
use Rattle.semantics.specs.Typed.{AggregateGives, AggregateHasType, AnswersHaveTypes, BodyHasTypes, CallHasType, ComputedHasTypes, FromHasTypes, FunctionHasType, GroupedHasTypes, InnerHasType, IsTerm, IsWindow, SelectHasTypes, SourceHasTypes, UnitFits, schema_types}
use Rattle.semantics_rewrites.proofs.lemmas.materialized_queries.FlatTypeLemmas.{zip_append}
use Rattle.semantics_rewrites.proofs.lemmas.materialized_queries.FinerLemmas.{Finer, finer_left, finer_right, finer_term, meet, meets, meets_self, term_meet}

pub zip_weaker : {A B : Type 0} (R S : A → B → Type 0) → ((x : A) (y : B) → R x y → S x y) → (xs : List A) (ys : List B) → AllZip R xs ys → AllZip S xs ys
zip_weaker R S each [] [] all = tt
zip_weaker R S each [] (y ∷ ys) all = absurd all
zip_weaker R S each (x ∷ xs) [] all = absurd all
zip_weaker R S each (x ∷ xs) (y ∷ ys) all = (each x y all.0, zip_weaker R S each xs ys all.1)

zip_meet : {X : Type 0} (P Q R : X → Ty → Type 0) → ((x : X) (a b : Ty) → P x a → Q x b → R x (meet a b)) → (xs : List X) (ts us : List Ty)
    → AllZip P xs ts → AllZip Q xs us → AllZip R xs (meets ts us)
zip_meet P Q R each [] [] us p q = tt
zip_meet P Q R each [] (t ∷ ts) us p q = absurd p
zip_meet P Q R each (x ∷ xs) [] us p q = absurd p
zip_meet P Q R each (x ∷ xs) (t ∷ ts) [] p q = absurd q
zip_meet P Q R each (x ∷ xs) (t ∷ ts) (u ∷ us) p q = (each x t u p.0 q.0, zip_meet P Q R each xs ts us p.1 q.1)

zip_long : {X : Type 0} (P Q : X → Ty → Type 0) (xs : List X) (ts us : List Ty) → AllZip P xs ts → AllZip Q xs us → length ts ≡ length us
zip_long P Q xs ts us p q = sym (length_all_zip P xs ts p) ∙ length_all_zip Q xs us q

both_int : (a b : Ty) → a ≡ Int → b ≡ Int → meet a b ≡ Int
both_int a b p q = ap (meet a) q ∙ ap (λ x. meet x Int) p

-- ---- one SELECT: from two typings over rows and answers, one over finer ones

module _ (first second answers : List Ty) (finer_first : Finer answers first) (finer_second : Finer answers second) where
  -- over rows
  module _ (ts us row : List Ty) (finer_ts : Finer row ts) (finer_us : Finer row us) where
    as_first : (t : Term) (ty : Ty) → HasType ts first t ty → HasType row answers t ty
    as_first = finer_term ts row first answers finer_ts finer_first

    as_second : (t : Term) (ty : Ty) → HasType us second t ty → HasType row answers t ty
    as_second = finer_term us row second answers finer_us finer_second

    both_terms : (t : Term) (a b : Ty) → HasType ts first t a → HasType us second t b → HasType row answers t (meet a b)
    both_terms t a b p q = term_meet row answers t a b (as_first t a p) (as_second t b q)

    some_first : (t : Term) → IsTerm first ts t → IsTerm answers row t
    some_first t is = (is.0, as_first t is.0 is.1)

    both_aggregates : (function : AggregateFunction) (argument : Term) (a b : Ty) → AggregateGives first ts function argument a
        → AggregateGives second us function argument b → AggregateGives answers row function argument (meet a b)
    both_aggregates AggregateFunction.count argument a b p q = (some_first argument p.0, both_int a b p.1 q.1)
    both_aggregates AggregateFunction.sum argument a b p q = (as_first argument Int p.0, both_int a b p.1 q.1)
    both_aggregates AggregateFunction.min argument a b p q = both_terms argument a b p q
    both_aggregates AggregateFunction.max argument a b p q = both_terms argument a b p q

    unit_first : (order : List SortTerm) (unit : FrameUnit) (start end : Edge) → UnitFits first ts order unit start end → UnitFits answers row order unit start end
    unit_first order FrameUnit.rows start end fits = fits
    unit_first order FrameUnit.range start end fits = λ distant. let one = fits distant in (one.0, one.1, as_first one.0.term Int one.2)
    unit_first order FrameUnit.groups start end fits = fits

    window_first : (window : Window) → IsWindow first ts window → IsWindow answers row window
    window_first window is = record {
      partition = All-weaker (IsTerm first ts) (IsTerm answers row) some_first window.partition is.partition;
      order = All-weaker (λ (s : SortTerm). IsTerm first ts s.term) (λ (s : SortTerm). IsTerm answers row s.term) (λ s. some_first s.term) window.order is.order;
      frame = record {
        starts = is.frame.starts;
        ends = is.frame.ends;
        in_turn = is.frame.in_turn;
        unit = unit_first window.order window.frame.unit window.frame.start window.frame.end is.frame.unit;
      };
    }

    both_functions : (function : WindowFunction) (a b : Ty) → FunctionHasType first ts function a → FunctionHasType second us function b
        → FunctionHasType answers row function (meet a b)
    both_functions (WindowFunction.aggregate g) a b p q = both_aggregates g.function g.argument a b p q
    both_functions WindowFunction.row_number a b p q = both_int a b p q
    both_functions WindowFunction.rank a b p q = both_int a b p q
    both_functions WindowFunction.dense_rank a b p q = both_int a b p q
    both_functions (WindowFunction.ntile n) a b p q = (p.0, both_int a b p.1 q.1)
    both_functions (WindowFunction.lag x n otherwise) a b p q = (both_terms x a b p.0 q.0, both_terms otherwise a b p.1 q.1)
    both_functions (WindowFunction.lead x n otherwise) a b p q = (both_terms x a b p.0 q.0, both_terms otherwise a b p.1 q.1)
    both_functions (WindowFunction.first_value x) a b p q = both_terms x a b p q
    both_functions (WindowFunction.last_value x) a b p q = both_terms x a b p q
    both_functions (WindowFunction.nth_value x n) a b p q = (both_terms x a b p.0 q.0, p.1)

  module _ (ts us row : List Ty) (finer_ts : Finer row ts) (finer_us : Finer row us) where
    both_groupings : (g : Option Grouping) (xs ys : List Ty) → GroupedHasTypes first ts g xs → GroupedHasTypes second us g ys
        → (types : List Ty) × Finer types xs × Finer types ys × GroupedHasTypes answers row g types
    both_groupings None xs ys p q = (row, subst (Finer row) (sym p) finer_ts, subst (Finer row) (sym q) finer_us, refl)
    both_groupings (Some g) xs ys p q =
        let keys_long = zip_long (HasType ts first) (HasType us second) g.by p.keys q.keys p.by q.by in
        let values_long = zip_long (AggregateHasType first ts) (AggregateHasType second us) g.aggregates p.values q.values p.aggregates q.aggregates in
        let keys = meets p.keys q.keys in
        let values = meets p.values q.values in
        let finer_xs : Finer (keys ++ values) xs = subst (Finer (keys ++ values)) (sym p.types_are)
        (zip_append FitsType keys p.keys values p.values (finer_left p.keys q.keys) (finer_left p.values q.values)) in
        let finer_ys : Finer (keys ++ values) ys = subst (Finer (keys ++ values)) (sym q.types_are)
        (zip_append FitsType keys q.keys values q.values (finer_right p.keys q.keys keys_long) (finer_right p.values q.values values_long)) in (
          keys ++ values,
          finer_xs,
          finer_ys,
          record {
            keys = keys;
            values = values;
            by = zip_meet (HasType ts first) (HasType us second) (HasType row answers) (both_terms ts us row finer_ts finer_us) g.by p.keys q.keys p.by q.by;
            aggregates = zip_meet (AggregateHasType first ts) (AggregateHasType second us) (AggregateHasType answers row)
                (λ a x y. both_aggregates ts us row finer_ts finer_us a.function a.argument x y) g.aggregates p.values q.values p.aggregates q.aggregates;
            types_are = refl;
            having = as_first xs ys (keys ++ values) finer_xs finer_ys g.having Int p.having;
          },
        )

    both_computed : (s : Select) (xs ys : List Ty) → ComputedHasTypes first ts s xs → ComputedHasTypes second us s ys
        → (types : List Ty) × Finer types xs × Finer types ys × ComputedHasTypes answers row s types
    both_computed s xs ys p q =
        let inputs = both_groupings s.grouping p.inputs q.inputs p.grouped q.grouped in
        let long = zip_long (CallHasType first p.inputs) (CallHasType second q.inputs) s.windows p.values q.values p.windows q.windows in
        let values = meets p.values q.values in (
          inputs.0 ++ values,
          subst (Finer (inputs.0 ++ values)) (sym p.types_are) (zip_append FitsType inputs.0 p.inputs values p.values inputs.1 (finer_left p.values q.values)),
          subst (Finer (inputs.0 ++ values)) (sym q.types_are) (zip_append FitsType inputs.0 q.inputs values q.values inputs.2 (finer_right p.values q.values long)),
          record {
            inputs = inputs.0;
            values = values;
            condition = as_first ts us row finer_ts finer_us s.condition Int p.condition;
            grouped = inputs.3;
            windows = zip_meet (CallHasType first p.inputs) (CallHasType second q.inputs) (CallHasType answers inputs.0)
                (λ call x y is same. (
                  window_first p.inputs q.inputs inputs.0 inputs.1 inputs.2 call.window is.0,
                  both_functions p.inputs q.inputs inputs.0 inputs.1 inputs.2 call.function x y is.1 same.1,
                )) s.windows p.values q.values p.windows q.windows;
            types_are = refl;
          },
        )

    both_selects : (s : Select) (xs ys : List Ty) → SelectHasTypes first ts s xs → SelectHasTypes second us s ys → SelectHasTypes answers row s (meets xs ys)
    both_selects s xs ys p q =
        let computed = both_computed s p.0 q.0 p.1 q.1 in (
          computed.0,
          computed.3,
          zip_meet (HasType p.0 first) (HasType q.0 second) (HasType computed.0 answers) (both_terms p.0 q.0 computed.0 computed.1 computed.2) s.columns xs ys p.2 q.2,
        )

-- ---- of one typing

module _ (first answers ts row : List Ty) (alike : Finer answers first) (finer : Finer row ts) where
  pub finer_computed : (s : Select) (xs : List Ty) → ComputedHasTypes first ts s xs → (types : List Ty) × Finer types xs × ComputedHasTypes answers row s types
  finer_computed s xs p =
      let both = both_computed first first answers alike alike ts ts row finer finer s xs xs p p in (both.0, both.1, both.3)

  pub finer_select : (s : Select) (xs : List Ty) → SelectHasTypes first ts s xs → SelectHasTypes answers row s xs
  finer_select s xs p =
      let computed = finer_computed s p.0 p.1 in (
        computed.0,
        computed.2,
        zip_weaker (HasType p.0 first) (HasType computed.0 answers) (finer_term p.0 computed.0 first answers computed.1 alike) s.columns xs p.2,
      )

-- ---- sources and queries

some_one : {A : Type 0} (x y : A) → Some x ≡ Some y → x ≡ y
some_one x y same = cc

module _ (catalog : List (List Ty)) where
  pub source_long : (source : Source) (types : List Ty) → SourceHasTypes catalog source types → source_width source ≡ length types
  source_long (table at width) types has = has.1
  source_long schema types has = ap length (sym has)
  source_long (derived of) types has = body_width-is catalog of types has

  mutual
    pub source_meet : (source : Source) (ts us : List Ty) → SourceHasTypes catalog source ts → SourceHasTypes catalog source us → SourceHasTypes catalog source (meets ts us)
    source_meet (table at width) ts us p q =
        let same : ts ≡ us = some_one ts us (sym p.0 ∙ q.0) in
        subst (SourceHasTypes catalog (table at width)) (sym (ap (meets ts) (sym same) ∙ meets_self ts)) p
    source_meet schema ts us p q = ap (meets ts) q ∙ ap (λ x. meets x schema_types) p ∙ meets_self schema_types
    source_meet (derived of) ts us p q = body_meet of ts us p q

    both_froms : (first second answers : List Ty) → Finer answers first → Finer answers second → (from : From) (ts us : List Ty) → FromHasTypes catalog first from ts
        → FromHasTypes catalog second from us → (types : List Ty) × Finer types ts × Finer types us × FromHasTypes catalog answers from types
    both_froms first second answers finer_first finer_second nothing ts us p q =
        ([], subst (Finer []) (sym p) tt, subst (Finer []) (sym q) tt, refl)
    both_froms first second answers finer_first finer_second (joined from kind source on) ts us p q =
        let left = both_froms first second answers finer_first finer_second from p.0 q.0 p.2 q.2 in
        let right = meets p.1 q.1 in
        let long = sym (source_long source p.1 p.3) ∙ source_long source q.1 q.3 in
        let finer_ts : Finer (left.0 ++ right) ts = subst (Finer (left.0 ++ right)) (sym p.4) (zip_append FitsType left.0 p.0 right p.1 left.1 (finer_left p.1 q.1)) in
        let finer_us : Finer (left.0 ++ right) us = subst (Finer (left.0 ++ right)) (sym q.4) (zip_append FitsType left.0 q.0 right q.1 left.2 (finer_right p.1 q.1 long)) in (
          left.0 ++ right,
          finer_ts,
          finer_us,
          (left.0, right, left.3, source_meet source p.1 q.1 p.3 q.3, refl, finer_term ts (left.0 ++ right) first answers finer_ts finer_first on Int p.5),
        )
    both_froms first second answers finer_first finer_second (with_inner from query) ts us p q =
        both_froms first second answers finer_first finer_second from ts us p q

    inner_meet : (query : InnerQuery) (a b : Ty) → InnerHasType catalog query a → InnerHasType catalog query b → InnerHasType catalog query (meet a b)
    inner_meet (values_of of) a b p q = body_meet of (a ∷ []) (b ∷ []) p q
    inner_meet (exists of) a b p q = (p.0, both_int a b p.1 q.1)

    both_answers : (from : From) (ts us : List Ty) → AnswersHaveTypes catalog from ts → AnswersHaveTypes catalog from us
        → (types : List Ty) × Finer types ts × Finer types us × AnswersHaveTypes catalog from types
    both_answers nothing ts us p q = ([], subst (Finer []) (sym p) tt, subst (Finer []) (sym q) tt, refl)
    both_answers (joined from kind source on) ts us p q = both_answers from ts us p q
    both_answers (with_inner from query) ts us p q =
        let before = both_answers from p.0 q.0 p.2 q.2 in
        let ty = meet p.1 q.1 in (
          before.0 ++ ty ∷ [],
          subst (Finer (before.0 ++ ty ∷ [])) (sym p.4) (zip_append FitsType before.0 p.0 (ty ∷ []) (p.1 ∷ []) before.1 (finer_left (p.1 ∷ []) (q.1 ∷ []))),
          subst (Finer (before.0 ++ ty ∷ [])) (sym q.4) (zip_append FitsType before.0 q.0 (ty ∷ []) (q.1 ∷ []) before.2 (finer_right (p.1 ∷ []) (q.1 ∷ []) refl)),
          (before.0, ty, before.3, inner_meet query p.1 q.1 p.3 q.3, refl),
        )

    pub body_meet : (of : Body) (ts us : List Ty) → BodyHasTypes catalog of ts → BodyHasTypes catalog of us → BodyHasTypes catalog of (meets ts us)
    body_meet (select from s) ts us p q =
        let answers = both_answers from p.0 q.0 p.2 q.2 in
        let row = both_froms p.0 q.0 answers.0 answers.1 answers.2 from p.1 q.1 p.3 q.3 in
        (answers.0, row.0, answers.3, row.3, both_selects p.0 q.0 answers.0 answers.1 answers.2 p.1 q.1 row.0 row.1 row.2 s ts us p.4 q.4)
    body_meet (compound before operator from s) ts us (first, p) (second, q) =
        let answers = both_answers from p.0 q.0 p.2 q.2 in
        let row = both_froms p.0 q.0 answers.0 answers.1 answers.2 from p.1 q.1 p.3 q.3 in (
          body_meet before ts us first second,
          (answers.0, row.0, answers.3, row.3, both_selects p.0 q.0 answers.0 answers.1 answers.2 p.1 q.1 row.0 row.1 row.2 s ts us p.4 q.4),
        )
