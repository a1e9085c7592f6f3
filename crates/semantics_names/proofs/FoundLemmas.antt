-- What the meaning of queries types is typed by computing.
use Rattle.std.proofs.Common.{◌≡◌, ◌⊎◌, inl, inr, Bool, true, false, not, ◌&&◌, ◌||◌, if◌then◌else◌, ℕ, zero, suc, ◌<◌, List, [], ◌∷◌, ◌++◌, length, Option, Some, None, Result, Ok, All, slice_get, refl, sym, subst, ap, ◌∙◌, arith, nat_lt, nat_le, nat_eq}
use Rattle.std.specs.List.{AllZip}
use Rattle.std.proofs.lemmas.Bool.{eq-eqb, le-leb, lt-ltb}
use Rattle.std.proofs.lemmas.Option.{slice_get-get_or}
use Rattle.std.proofs.lemmas.List.Elements.{All-head, All-tail}
use Rattle.values.specs.declared.fault.Fault.{Fault}
use Rattle.values.specs.declared.fault.Fault.TheVariants.{BadFrame, ColumnCount, TypeMismatch, WrongPlace}
use Rattle.values.specs.declared.value.Ty.{Ty}
use Rattle.values.specs.declared.value.Ty.TheVariants.{Int, Text, Blob, Null}
use Rattle.expr.specs.Term.{Term, Terms, Arms, literal, column, call, arithmetic, concat, compare, is, and, or, between, among, coalesce, choice, choice_of, null_if, like, none, answer, more, no_arms, arm}
use Rattle.expr.specs.TermType.{Finds, one_of, one_type, type_of_term, wanted}
use Rattle.expr.specs.Types.{ArmsHaveTypes, FitsAt, FitsType, HasType, HaveType}
use Rattle.expr.proofs.TermTypeLemmas.{types_are_found}
use Rattle.semantics.specs.Query.{AggregateFunction, Body, Edge, Frame, FrameUnit, From, Grouping, InnerQuery, KeyTerm, QueryData, Select, SortTerm, Source, Window, WindowCall, WindowFunction}
use Rattle.semantics.specs.Typed.{AggregateGives, AnswersHaveTypes, BodyHasTypes, CallHasType, ComputedHasTypes, FromHasTypes, FunctionHasType, GroupedHasTypes, HasTypes, InnerHasType, IsDistance, IsFrame, IsKeyTerm, IsOneNumber, IsTerm, IsTermOf, IsTyped, IsWindow, SelectHasTypes, SourceHasTypes, UnitFits, edge_rank, schema_types}
use Rattle.semantics_names.specs.Laws.{IsTypedBody, TypedIsTaken}
use Rattle.semantics_names.specs.Outcome.{also, both, checked, each, followed, found_or}
use Rattle.semantics_names.specs.Statement.{Named, named}
use Rattle.semantics_names.specs.Typed.{Table, Types, column_types, known_tables, with_types}
use Rattle.semantics_names.specs.Types.{aggregate_type, answer_types, body_types, both_type, call_type, computed_types, condition_type, from_types, function_type, grouped_types, inner_type, is_distance, is_frame, is_one_number, is_whole, key_type, measure_type, of_width, one_types, query_types, select_types, single_type, source_types, term_type, typed, unit_fits, window_types}
use Rattle.sql_reader_syntax.specs.StatementTree.{StatementTree}
use Rattle.semantics_names.proofs.OutcomeLemmas.{also-ok, each-all, followed-ok}
use Rattle.semantics_names.proofs.TypeLemmas.{body_is, statement_is}

-- ---- outcomes

-- something is handed out of which this holds
Gives : {A : Type 0} → Result A Fault → (A → Type 0) → Type 0
Gives {A} r P = (a : A) × (r ≡ Ok a) × P a

pub followed-gives : {A B : Type 0} (r : Result A Fault) (g : A → Result B Fault) (a : A) (b : B) → r ≡ Ok a → g a ≡ Ok b → followed r g ≡ Ok b
followed-gives r g a b e d = subst (λ r. followed r g ≡ Ok b) (sym e) d

also-gives : {A B : Type 0} (g : A → B) (r : Result A Fault) (a : A) → r ≡ Ok a → also g r ≡ Ok (g a)
also-gives g r a e = subst (λ r. also g r ≡ Ok (g a)) (sym e) refl

both-gives : {A B C : Type 0} (g : A → B → C) (r : Result A Fault) (s : Result B Fault) (a : A) (b : B) → r ≡ Ok a → s ≡ Ok b → both g r s ≡ Ok (g a b)
both-gives g r s a b e d = subst (λ r. both g r s ≡ Ok (g a b)) (sym e) (also-gives (g a) s b d)

checked-gives : {A : Type 0} (kept : Bool) (fault : Fault) (r : Result A Fault) (a : A) → kept ≡ true → r ≡ Ok a → checked kept fault r ≡ Ok a
checked-gives kept fault r a e d = subst (λ k. checked k fault r ≡ Ok a) (sym e) d

typed-gives : (o : Option Ty) (ty : Ty) → o ≡ Some ty → typed o ≡ Ok ty
typed-gives o ty e = subst (λ o. typed o ≡ Ok ty) (sym e) refl

pub each-zip-gives : {A B C : Type 0} (f : A → Result B Fault) (R : A → C → Type 0) (S : B → C → Type 0)
    → ((x : A) (c : C) → R x c → (b : B) × (f x ≡ Ok b) × S b c) → (xs : List A) (cs : List C) → AllZip R xs cs → (bs : List B) × (each f xs ≡ Ok bs) × AllZip S bs cs
each-zip-gives f R S gives [] [] zip = ([], refl, tt)
each-zip-gives f R S gives [] (c ∷ cs) zip = absurd zip
each-zip-gives f R S gives (x ∷ xs) [] zip = absurd zip
each-zip-gives f R S gives (x ∷ xs) (c ∷ cs) zip =
    let (b, first, one) = gives x c zip.0 in
    let (bs, others, all) = each-zip-gives f R S gives xs cs zip.1 in
    (b ∷ bs, both-gives ◌∷◌ (f x) (each f xs) b bs first others, (one, all))

each-all-gives : {A B : Type 0} (f : A → Result B Fault) (P : A → Type 0) → ((x : A) → P x → (b : B) × (f x ≡ Ok b)) → (xs : List A) → All P xs → (bs : List B) × (each f xs ≡ Ok bs)
each-all-gives f P gives [] all = ([], refl)
each-all-gives f P gives (x ∷ xs) all =
    let (b, first) = gives x (All-head P x xs all) in
    let (bs, others) = each-all-gives f P gives xs (All-tail P x xs all) in
    (b ∷ bs, both-gives ◌∷◌ (f x) (each f xs) b bs first others)

-- ---- types that may stand where others are wanted

AllFit : List Ty → List Ty → Type 0
AllFit = AllZip FitsType

pub fits_itself : (types : List Ty) → AllZip FitsType types types
fits_itself [] = tt
fits_itself (ty ∷ types) = (inr refl, fits_itself types)

pub fits_then : (a b c : Ty) → FitsType a b → FitsType b c → FitsType a c
fits_then a b c (inl e) g = inl e
fits_then a b c (inr e) (inl n) = inl (e ∙ n)
fits_then a b c (inr e) (inr d) = inr (e ∙ d)

pub fits-append : (first second types others : List Ty) → AllZip FitsType first types → AllZip FitsType second others → AllZip FitsType (first ++ second) (types ++ others)
fits-append [] second [] others f g = g
fits-append [] second (ty ∷ types) others f g = absurd f
fits-append (of ∷ first) second [] others f g = absurd f
fits-append (of ∷ first) second (ty ∷ types) others f g = (f.0, fits-append first second types others f.1 g)

fit_lengths : (first types : List Ty) → AllZip FitsType first types → length first ≡ length types
fit_lengths [] [] f = refl
fit_lengths [] (ty ∷ types) f = absurd f
fit_lengths (of ∷ first) [] f = absurd f
fit_lengths (of ∷ first) (ty ∷ types) f = ap suc (fit_lengths first types f.1)

one_itself : (a : Ty) → one_type a a ≡ Some a
one_itself Int = refl
one_itself Text = refl
one_itself Blob = refl
one_itself Null = refl

one_null : (a : Ty) → one_type a Null ≡ Some a
one_null Int = refl
one_null Text = refl
one_null Blob = refl
one_null Null = refl

pub one_fits : (a b ty : Ty) → FitsType a ty → FitsType b ty → (c : Ty) × (one_type a b ≡ Some c) × FitsType c ty
one_fits a b ty (inl e) g = (b, subst (λ a. one_type a b ≡ Some b) (sym e) refl, g)
one_fits a b ty (inr e) (inl n) = (a, subst (λ b. one_type a b ≡ Some a) (sym n) (one_null a), inr e)
one_fits a b ty (inr e) (inr d) = (ty, subst (λ a. one_type a b ≡ Some ty) (sym e) (subst (λ b. one_type ty b ≡ Some ty) (sym d) (one_itself ty)), inr refl)

finds_some : (o : Option Ty) (ty : Ty) → Finds o ty → (of : Ty) × (o ≡ Some of) × FitsType of ty
finds_some None ty found = absurd found
finds_some (Some of) ty found = (of, refl, found)

number_wanted : (of : Ty) → FitsType of Int → one_type Int of ≡ Some Int
number_wanted of (inl e) = subst (λ of. one_type Int of ≡ Some Int) (sym e) refl
number_wanted of (inr e) = subst (λ of. one_type Int of ≡ Some Int) (sym e) refl

whole_is : (of : Ty) → FitsType of Int → is_whole (Some of) ≡ true
whole_is of (inl e) = subst (λ of. is_whole (Some of) ≡ true) (sym e) refl
whole_is of (inr e) = subst (λ of. is_whole (Some of) ≡ true) (sym e) refl

fits_at : (first types : List Ty) (i : ℕ) (ty : Ty) → AllZip FitsType first types → FitsAt types i ty → FitsAt first i ty
fits_at [] [] i ty fit at = at
fits_at [] (t ∷ types) i ty fit at = absurd fit
fits_at (f ∷ first) [] i ty fit at = absurd fit
fits_at (f ∷ first) (t ∷ types) zero ty fit (of, there, fits) =
    let same : t ≡ of = cc in (f, refl, fits_then f t ty fit.0 (subst (λ t. FitsType t ty) (sym same) fits))
fits_at (f ∷ first) (t ∷ types) (suc i) ty fit at = fits_at first types i ty fit.1 at

-- what is typed over columns and answers is so over those that may stand in their places
module _ (columns other answers others : List Ty) (fit : AllZip FitsType other columns) (replies : AllZip FitsType others answers) where
  mutual
    pub term_fits : (t : Term) (ty : Ty) → HasType columns answers t ty → HasType other others t ty
    term_fits (literal v) ty h = h
    term_fits (column i) ty h = fits_at other columns i ty fit h
    term_fits (call f a) ty (of, x, takes, e) = (of, term_fits a of x, takes, e)
    term_fits (arithmetic op a b) ty (x, y, e) = (term_fits a Int x, term_fits b Int y, e)
    term_fits (concat a b) ty (x, y, e) = (term_fits a Text x, term_fits b Text y, e)
    term_fits (compare op a b) ty (of, x, y, e) = (of, term_fits a of x, term_fits b of y, e)
    term_fits (is a b) ty (of, x, y, e) = (of, term_fits a of x, term_fits b of y, e)
    term_fits (and a b) ty (x, y, e) = (term_fits a Int x, term_fits b Int y, e)
    term_fits (or a b) ty (x, y, e) = (term_fits a Int x, term_fits b Int y, e)
    term_fits (between v a b) ty (of, x, y, z, e) = (of, term_fits v of x, term_fits a of y, term_fits b of z, e)
    term_fits (among v items) ty (of, x, xs, e) = (of, term_fits v of x, terms_fit items of xs, e)
    term_fits (coalesce items) ty h = terms_fit items ty h
    term_fits (choice rest e) ty (xs, x) = (arms_fit rest Int ty xs, term_fits e ty x)
    term_fits (choice_of v rest e) ty (of, x, xs, y) = (of, term_fits v of x, arms_fit rest of ty xs, term_fits e ty y)
    term_fits (null_if a b) ty (x, y) = (term_fits a ty x, term_fits b ty y)
    term_fits (like a b) ty (x, y, e) = (term_fits a Text x, term_fits b Text y, e)

    terms_fit : (ts : Terms) (ty : Ty) → HaveType columns answers ts ty → HaveType other others ts ty
    terms_fit none ty h = h
    terms_fit (answer k) ty h = fits_at others answers k ty replies h
    terms_fit (more t ts) ty (x, xs) = (term_fits t ty x, terms_fit ts ty xs)

    arms_fit : (rest : Arms) (of ty : Ty) → ArmsHaveTypes columns answers rest of ty → ArmsHaveTypes other others rest of ty
    arms_fit no_arms of ty h = h
    arms_fit (arm c e rest) of ty (x, y, xs) = (term_fits c of x, term_fits e ty y, arms_fit rest of ty xs)

  -- ---- terms

  term_gives : (t : Term) (ty : Ty) → IsTermOf answers columns t ty → (of : Ty) × (term_type others other t ≡ Ok of) × FitsType of ty
  term_gives t ty h =
      let (of, found, fits) = finds_some (type_of_term other others t) ty ((types_are_found other others t ty).0 (term_fits t ty h)) in
      (of, typed-gives (type_of_term other others t) of found, fits)

  number_gives : (t : Term) → IsTermOf answers columns t Int → condition_type others other t ≡ Ok Int
  number_gives t h =
      let (of, found, fits) = finds_some (type_of_term other others t) Int ((types_are_found other others t Int).0 (term_fits t Int h)) in
      typed-gives (wanted Int (type_of_term other others t)) Int (subst (λ o. wanted Int o ≡ Some Int) (sym found) (number_wanted of fits))

  both_give : (x y : Term) (ty : Ty) → IsTermOf answers columns x ty → IsTermOf answers columns y ty → (of : Ty) × (both_type others other x y ≡ Ok of) × FitsType of ty
  both_give x y ty h k =
      let (a, found, f) = finds_some (type_of_term other others x) ty ((types_are_found other others x ty).0 (term_fits x ty h)) in
      let (b, also_found, g) = finds_some (type_of_term other others y) ty ((types_are_found other others y ty).0 (term_fits y ty k)) in
      let (c, one, fits) = one_fits a b ty f g in (
        c,
        typed-gives (one_of (type_of_term other others x) (type_of_term other others y)) c
            (subst (λ o. one_of o (type_of_term other others y) ≡ Some c) (sym found) (subst (λ o. one_of (Some a) o ≡ Some c) (sym also_found) one)),
        fits,
      )

  pub terms_give : (ts : List Term) (types : List Ty) → AllZip (IsTermOf answers columns) ts types
      → (found : List Ty) × (each (term_type others other) ts ≡ Ok found) × AllZip FitsType found types
  terms_give = each-zip-gives (term_type others other) (IsTermOf answers columns) FitsType term_gives

  -- ---- aggregates and windows

  pub aggregate_gives : (f : AggregateFunction) (t : Term) (ty : Ty) → AggregateGives answers columns f t ty → (of : Ty) × (measure_type others other f t ≡ Ok of) × FitsType of ty
  aggregate_gives AggregateFunction.count t ty ((of, h), e) =
      let (found, found_so, fits) = term_gives t of h in (Int, also-gives (λ of. Int) (term_type others other t) found found_so, inr (sym e))
  aggregate_gives AggregateFunction.sum t ty (h, e) = (Int, number_gives t h, inr (sym e))
  aggregate_gives AggregateFunction.min t ty h = term_gives t ty h
  aggregate_gives AggregateFunction.max t ty h = term_gives t ty h

  function_gives : (f : WindowFunction) (ty : Ty) → FunctionHasType answers columns f ty → (of : Ty) × (function_type others other f ≡ Ok of) × FitsType of ty
  function_gives (WindowFunction.aggregate a) ty h = aggregate_gives a.function a.argument ty h
  function_gives WindowFunction.row_number ty e = (Int, refl, inr (sym e))
  function_gives WindowFunction.rank ty e = (Int, refl, inr (sym e))
  function_gives WindowFunction.dense_rank ty e = (Int, refl, inr (sym e))
  function_gives (WindowFunction.ntile n) ty (some, e) = (Int, checked-gives (nat_lt 0 n) BadFrame (Ok Int) Int (lt-ltb 0 n some) refl, inr (sym e))
  function_gives (WindowFunction.lag x n otherwise) ty (h, k) = both_give x otherwise ty h k
  function_gives (WindowFunction.lead x n otherwise) ty (h, k) = both_give x otherwise ty h k
  function_gives (WindowFunction.first_value x) ty h = term_gives x ty h
  function_gives (WindowFunction.last_value x) ty h = term_gives x ty h
  function_gives (WindowFunction.nth_value x n) ty (h, some) =
      let (of, found_so, fits) = term_gives x ty h in (of, checked-gives (nat_lt 0 n) BadFrame (term_type others other x) of (lt-ltb 0 n some) found_so, fits)

  is_distance_so : (edge : Edge) → is_distance edge ≡ true → IsDistance edge
  is_distance_so Edge.unbounded_preceding e = absurd cc
  is_distance_so (Edge.preceding n) e = inl refl
  is_distance_so Edge.current_row e = absurd cc
  is_distance_so (Edge.following n) e = inr refl
  is_distance_so Edge.unbounded_following e = absurd cc

  one_number_gives : (order : List SortTerm) → IsOneNumber answers columns order → is_one_number others other order ≡ true
  one_number_gives order (s, only, h) =
      let (of, found, fits) = finds_some (type_of_term other others s.term) Int ((types_are_found other others s.term Int).0 (term_fits s.term Int h)) in
      subst (λ order. is_one_number others other order ≡ true) (sym only) (subst (λ o. is_whole o ≡ true) (sym found) (whole_is of fits))

  asked_gives : (start end number : Bool) → ((start ≡ true) ⊎ (end ≡ true) → number ≡ true) → (if start || end then number else true) ≡ true
  asked_gives true end number h = h (inl refl)
  asked_gives false true number h = h (inr refl)
  asked_gives false false number h = refl

  distances_so : (start end : Edge) → (is_distance start ≡ true) ⊎ (is_distance end ≡ true) → IsDistance start ⊎ IsDistance end
  distances_so start end (inl e) = inl (is_distance_so start e)
  distances_so start end (inr e) = inr (is_distance_so end e)

  unit_gives : (order : List SortTerm) (unit : FrameUnit) (start end : Edge) → UnitFits answers columns order unit start end → unit_fits others other order unit start end ≡ true
  unit_gives order FrameUnit.rows start end h = refl
  unit_gives order FrameUnit.range start end h =
      asked_gives (is_distance start) (is_distance end) (is_one_number others other order) (λ d. one_number_gives order (h (distances_so start end d)))
  unit_gives order FrameUnit.groups start end h = lt-ltb 0 (length order) h

  both_hold : (a b : Bool) → a ≡ true → b ≡ true → (a && b) ≡ true
  both_hold true b e f = f
  both_hold false b e f = absurd cc

  frame_gives : (order : List SortTerm) (frame : Frame) → IsFrame answers columns order frame → is_frame others other order frame ≡ true
  frame_gives order frame h =
      both_hold (nat_lt (edge_rank frame.start) 4) _ (lt-ltb (edge_rank frame.start) 4 h.starts)
      (both_hold (nat_lt 0 (edge_rank frame.end)) _ (lt-ltb 0 (edge_rank frame.end) h.ends)
      (both_hold (nat_le (edge_rank frame.start) (edge_rank frame.end)) _ (le-leb (edge_rank frame.start) (edge_rank frame.end) h.in_turn)
      (unit_gives order frame.unit frame.start frame.end h.unit)))

  some_term : (t : Term) → IsTerm answers columns t → (of : Ty) × (term_type others other t ≡ Ok of)
  some_term t (ty, h) = let (of, found_so, fits) = term_gives t ty h in (of, found_so)

  window_gives : (v : Window) → IsWindow answers columns v → (types : List Ty) × (window_types others other v ≡ Ok types)
  window_gives v h =
      let (by, partition) = each-all-gives (term_type others other) (IsTerm answers columns) some_term v.partition h.partition in
      let (sorts, order) = each-all-gives (λ s. term_type others other s.term) (λ s. IsTerm answers columns s.term) (λ s found_so. some_term s.term found_so) v.order h.order in (
        sorts,
        followed-gives (each (term_type others other) v.partition) _ by sorts partition
            (followed-gives (each (λ s. term_type others other s.term) v.order) _ sorts sorts order
            (checked-gives (is_frame others other v.order v.frame) BadFrame (Ok sorts) sorts (frame_gives v.order v.frame h.frame) refl)),
      )

  call_gives : (c : WindowCall) (ty : Ty) → CallHasType answers columns c ty → (of : Ty) × (call_type others other c ≡ Ok of) × FitsType of ty
  call_gives c ty (over, h) =
      let (types, window) = window_gives c.window over in
      let (of, found_so, fits) = function_gives c.function ty h in
      (of, followed-gives (window_types others other c.window) _ types of window found_so, fits)

-- ---- one SELECT

module _ (row other answers others : List Ty) (fit : AllZip FitsType other row) (replies : AllZip FitsType others answers) where
  pub grouping_gives : (g : Option Grouping) (types : List Ty) → GroupedHasTypes answers row g types
      → (found : List Ty) × (grouped_types others other g ≡ Ok found) × AllZip FitsType found types
  grouping_gives None types e = (other, refl, subst (AllZip FitsType other) (sym e) fit)
  grouping_gives (Some g) types h =
      let (keys, by, keys_fit) = terms_give row other answers others fit replies g.by h.keys h.by in
      let (values, aggregates, values_fit) =
      each-zip-gives (aggregate_type others other) (λ a ty. AggregateGives answers row a.function a.argument ty) FitsType
      (λ a ty found_so. aggregate_gives row other answers others fit replies a.function a.argument ty found_so) g.aggregates h.values h.aggregates in
      let both_fit : AllZip FitsType (keys ++ values) types =
      subst (AllZip FitsType (keys ++ values)) (sym h.types_are) (fits-append keys values h.keys h.values keys_fit values_fit) in (
        keys ++ values,
        followed-gives (each (term_type others other) g.by) _ keys (keys ++ values) by
            (followed-gives (each (aggregate_type others other) g.aggregates) _ values (keys ++ values) aggregates
            (also-gives (λ _. keys ++ values) (condition_type others (keys ++ values) g.having) Int
            (number_gives types (keys ++ values) answers others both_fit replies g.having h.having))),
        both_fit,
      )

  pub computed_gives : (s : Select) (types : List Ty) → ComputedHasTypes answers row s types
      → (found : List Ty) × (computed_types others other s ≡ Ok found) × AllZip FitsType found types
  computed_gives s types h =
      let (inputs, grouped, inputs_fit) = grouping_gives s.grouping h.inputs h.grouped in
      let (values, calls, values_fit) =
      each-zip-gives (call_type others inputs) (CallHasType answers h.inputs) FitsType (call_gives h.inputs inputs answers others inputs_fit replies) s.windows h.values h.windows in (
        inputs ++ values,
        followed-gives (condition_type others other s.condition) _ Int (inputs ++ values) (number_gives row other answers others fit replies s.condition h.condition)
            (followed-gives (grouped_types others other s.grouping) _ inputs (inputs ++ values) grouped
            (also-gives (λ calls. inputs ++ calls) (each (call_type others inputs) s.windows) values calls)),
        subst (AllZip FitsType (inputs ++ values)) (sym h.types_are) (fits-append inputs values h.inputs h.values inputs_fit values_fit),
      )

  select_gives : (s : Select) (types : List Ty) → SelectHasTypes answers row s types
      → (found : List Ty) × (select_types others other s ≡ Ok found) × AllZip FitsType found types
  select_gives s types (computed, h, columns) =
      let (rows, found_so, rows_fit) = computed_gives s computed h in
      let (found, shown, found_fit) = terms_give computed rows answers others rows_fit replies s.columns types columns in
      (found, followed-gives (computed_types others other s) _ rows found found_so shown, found_fit)

-- ---- queries

one_give : (first second types : List Ty) → AllZip FitsType first types → AllZip FitsType second types
    → (found : List Ty) × (one_types first second ≡ Ok found) × AllZip FitsType found types
one_give [] [] [] f g = ([], refl, tt)
one_give [] [] (ty ∷ types) f g = absurd f
one_give [] (b ∷ second) [] f g = absurd g
one_give [] (b ∷ second) (ty ∷ types) f g = absurd f
one_give (a ∷ first) second [] f g = absurd f
one_give (a ∷ first) [] (ty ∷ types) f g = absurd g
one_give (a ∷ first) (b ∷ second) (ty ∷ types) f g =
    let (c, one, c_fits) = one_fits a b ty f.0 g.0 in
    let (found, others, all) = one_give first second types f.1 g.1 in
    (c ∷ found, both-gives ◌∷◌ (typed (one_type a b)) (one_types first second) c found (typed-gives (one_type a b) c one) others, (c_fits, all))

one_column_gives : (found : List Ty) (ty : Ty) → AllZip FitsType found (ty ∷ []) → (of : Ty) × (single_type found ≡ Ok of) × FitsType of ty
one_column_gives [] ty f = absurd f
one_column_gives (of ∷ []) ty f = (of, refl, f.0)
one_column_gives (of ∷ other ∷ rest) ty f = absurd f.1

module _ (tables : List (List Ty)) where
  mutual
    pub source_gives : (source : Source) (types : List Ty) → SourceHasTypes tables source types
        → (found : List Ty) × (source_types tables source ≡ Ok found) × AllZip FitsType found types
    source_gives (Source.table at width) types (there, wide) = (
      types,
      followed-gives (found_or TypeMismatch (slice_get tables at)) (of_width width) types types
          (subst (λ o. found_or TypeMismatch o ≡ Ok types) (sym there) refl)
          (checked-gives (nat_eq width (length types)) ColumnCount (Ok types) types (eq-eqb width (length types) wide) refl),
      fits_itself types,
    )
    source_gives Source.schema types e = (schema_types, refl, subst (AllZip FitsType schema_types) (sym e) (fits_itself schema_types))
    source_gives (Source.derived body) types h = body_gives body types h

    pub from_gives : (answers others : List Ty) → AllZip FitsType others answers → (from : From) (types : List Ty) → FromHasTypes tables answers from types
        → (found : List Ty) × (from_types tables others from ≡ Ok found) × AllZip FitsType found types
    from_gives answers others replies From.nothing types e = ([], refl, subst (AllZip FitsType []) (sym e) tt)
    from_gives answers others replies (From.joined from kind source on) types (l, r, left, right, e, condition) =
        let (ls, shown, ls_fit) = from_gives answers others replies from l left in
        let (rs, given, rs_fit) = source_gives source r right in
        let both_fit : AllZip FitsType (ls ++ rs) types = subst (AllZip FitsType (ls ++ rs)) (sym e) (fits-append ls rs l r ls_fit rs_fit) in (
          ls ++ rs,
          followed-gives (from_types tables others from) _ ls (ls ++ rs) shown
              (followed-gives (source_types tables source) _ rs (ls ++ rs) given
              (also-gives (λ _. ls ++ rs) (condition_type others (ls ++ rs) on) Int (number_gives types (ls ++ rs) answers others both_fit replies on condition))),
          both_fit,
        )
    from_gives answers others replies (From.with_inner from query) types h = from_gives answers others replies from types h

    inner_gives : (query : InnerQuery) (ty : Ty) → InnerHasType tables query ty → (of : Ty) × (inner_type tables query ≡ Ok of) × FitsType of ty
    inner_gives (InnerQuery.values_of body) ty h =
        let (found, found_so, found_fit) = body_gives body (ty ∷ []) h in
        let (of, one, fits) = one_column_gives found ty found_fit in
        (of, followed-gives (body_types tables body) single_type found of found_so one, fits)
    inner_gives (InnerQuery.exists body) ty ((types, h), e) =
        let (found, found_so, found_fit) = body_gives body types h in
        (Int, also-gives (λ types. Int) (body_types tables body) found found_so, inr (sym e))

    pub answers_give : (from : From) (types : List Ty) → AnswersHaveTypes tables from types
        → (found : List Ty) × (answer_types tables from ≡ Ok found) × AllZip FitsType found types
    answers_give From.nothing types e = ([], refl, subst (AllZip FitsType []) (sym e) tt)
    answers_give (From.joined from kind source on) types h = answers_give from types h
    answers_give (From.with_inner from query) types (before, ty, earlier, inner, e) =
        let (found, found_so, found_fit) = answers_give from before earlier in
        let (of, one, fits) = inner_gives query ty inner in (
          found ++ of ∷ [],
          both-gives (λ before ty. before ++ ty ∷ []) (answer_types tables from) (inner_type tables query) found of found_so one,
          subst (AllZip FitsType (found ++ of ∷ [])) (sym e) (fits-append found (of ∷ []) before (ty ∷ []) found_fit (fits, tt)),
        )

    pub body_gives : (body : Body) (types : List Ty) → BodyHasTypes tables body types
        → (found : List Ty) × (body_types tables body ≡ Ok found) × AllZip FitsType found types
    body_gives (Body.select from s) types (answers, row, given, shown, select) =
        let (others, found_so, replies) = answers_give from answers given in
        let (rows, are, rows_fit) = from_gives answers others replies from row shown in
        let (found, select_is, found_fit) = select_gives row rows answers others rows_fit replies s types select in
        (found, followed-gives (answer_types tables from) _ others found found_so (followed-gives (from_types tables others from) _ rows found are select_is), found_fit)
    body_gives (Body.compound left operator from s) types (body, (answers, row, given, shown, select)) =
        let (first, left_is, first_fit) = body_gives left types body in
        let (others, found_so, replies) = answers_give from answers given in
        let (rows, are, rows_fit) = from_gives answers others replies from row shown in
        let (second, select_is, second_fit) = select_gives row rows answers others rows_fit replies s types select in
        let (found, one, found_fit) = one_give first second types first_fit second_fit in (
          found,
          followed-gives (body_types tables left) _ first found left_is
              (followed-gives (answer_types tables from) _ others found found_so
              (followed-gives (from_types tables others from) _ rows found are
              (followed-gives (select_types others rows s) (one_types first) second found select_is one))),
          found_fit,
        )

  false_not : (b : Bool) → b ≡ false → not b ≡ true
  false_not true e = absurd cc
  false_not false e = refl

  key_gives : (body : Body) (types found : List Ty) → AllZip FitsType found types → (key : KeyTerm) → IsKeyTerm tables body types key
      → (ty : Ty) × (key_type tables body found key ≡ Ok ty)
  key_gives body types found fit (KeyTerm.result at) within =
      let same : length found ≡ length types = fit_lengths found types fit in
      let inside : at < length found = omega arith in
      (_, typed-gives (slice_get found at) _ (slice_get-get_or found at Int inside))
  key_gives (Body.select from s) types found fit (KeyTerm.term t) (plain, (answers, row, computed, given, shown, h, (ty, typed_so))) =
      let (others, found_so, replies) = answers_give from answers given in
      let (rows, are, rows_fit) = from_gives answers others replies from row shown in
      let (inputs, computed_is, inputs_fit) = computed_gives row rows answers others rows_fit replies s computed h in
      let (of, one, fits) = term_gives computed inputs answers others inputs_fit replies t ty typed_so in (
        of,
        checked-gives (not s.distinct) WrongPlace _ of (false_not s.distinct plain)
            (followed-gives (answer_types tables from) _ others of found_so
            (followed-gives (from_types tables others from) _ rows of are
            (followed-gives (computed_types others rows s) _ inputs of computed_is one))),
      )
  key_gives (Body.compound left operator from s) types found fit (KeyTerm.term t) h = absurd h

  query_gives : (query : QueryData) (types : List Ty) → HasTypes tables query types → (found : List Ty) × (query_types tables query ≡ Ok found)
  query_gives query types h =
      let (found, found_so, fit) = body_gives query.body types h.body in
      let (keys, order) =
      each-all-gives (λ k. key_type tables query.body found k.by) (λ k. IsKeyTerm tables query.body types k.by)
      (λ k key. key_gives query.body types found fit k.by key) query.order h.order in (
        found,
        followed-gives (body_types tables query.body) _ found found found_so
            (also-gives (λ _. found) (each (λ k. key_type tables query.body found k.by) query.order) keys order),
      )

  beside_gives : (body : Body) → IsTypedBody tables body → (types : List Ty) × (body_types tables body ≡ Ok types)
  beside_gives body (types, h) = let (found, found_so, fit) = body_gives body types h in (found, found_so)

-- ---- statements

beside_is : (tables : List Table) (tree : StatementTree) (n : Named) → Types tables tree n
    → (named (known_tables tables) tree ≡ Ok n) × All (IsTypedBody (column_types tables)) n.beside
beside_is tables tree n e =
    let (found, names, so) = followed-ok (named (known_tables tables) tree) (with_types (column_types tables)) n e in
    let (beside, all, last) = followed-ok (each (body_types (column_types tables)) found.beside) _ n so in
    let (types, found_so, same) = also-ok (λ _. found) (query_types (column_types tables) found.query) n last in
    let P : Named → Type 0 = λ m. (named (known_tables tables) tree ≡ Ok m) × All (IsTypedBody (column_types tables)) m.beside in
    subst P same
    (names, each-all (body_types (column_types tables)) (IsTypedBody (column_types tables)) (λ body types found_so. (types, body_is (column_types tables) body types found_so)) found.beside beside all)

taken_is : (tables : List Table) (tree : StatementTree) (n : Named)
    → (named (known_tables tables) tree ≡ Ok n) × IsTyped (column_types tables) n.query × All (IsTypedBody (column_types tables)) n.beside → Types tables tree n
taken_is tables tree n (names, (types, h), all) =
    let (beside, typed_beside) = each-all-gives (body_types (column_types tables)) (IsTypedBody (column_types tables)) (beside_gives (column_types tables)) n.beside all in
    let (found, found_so) = query_gives (column_types tables) n.query types h in
    followed-gives (named (known_tables tables) tree) (with_types (column_types tables)) n n names
    (followed-gives (each (body_types (column_types tables)) n.beside) _ beside n typed_beside
    (also-gives (λ _. n) (query_types (column_types tables) n.query) found found_so))

pub typed_is_taken : TypedIsTaken
typed_is_taken tables tree n =
    ((λ e. let (names, beside) = beside_is tables tree n e in (names, statement_is tables tree n e, beside)), taken_is tables tree n)
