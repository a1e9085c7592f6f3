-- A statement in which a call, a number, `*` or an expression of ORDER BY is where it may not be is no query.
use Rattle.std.proofs.Common.{◌≡◌, ◌≢◌, ◌⊎◌, inl, inr, ◌<◌, Bool, true, false, if◌then◌else◌, ℕ, zero, suc, ℤ, pos, negsuc, List, [], ◌∷◌, ◌++◌, length, Option, Some, None, Result, Ok, All, Contains, nat_eq, nat_le, nat_lt, ap, refl, sym, subst, ◌∙◌}
use Rattle.std.specs.List.{filter_map}
use Rattle.std.proofs.lemmas.Bool.{ltb-true}
use Rattle.std.proofs.lemmas.List.Elements.{All-head, All-tail}
use Rattle.values.specs.declared.fault.Fault.{Fault}
use Rattle.values.specs.declared.fault.Fault.TheVariants.{ColumnCount, DuplicateName, Limit, WrongPlace}
use Rattle.expr.specs.Term.{Term}
use Rattle.semantics.specs.Query.{Aggregate, AggregateFunction, Body, Key, KeyTerm, Window, WindowCall, WindowFunction, always, filtered}
use Rattle.sql_reader_syntax.specs.ExprTree.{BehindTree, CoreTree, ExprTree, ExprTrees, MaybeExpr, OverTree, QueryTree, ResultTree, ResultTrees, TermTrees, WindowTree, plain}
use Rattle.sql_reader_syntax.specs.StatementTree.{ItemTree}
use Rattle.sql_reader_syntax.specs.Tree.{Name}
use Rattle.sql_reader_syntax.specs.declared.expr.Function.{Function}
use Rattle.sql_reader_syntax.specs.declared.expr.Function.TheVariants as w
use Rattle.semantics_names.specs.Expression.{Answers, Says, term_of}
use Rattle.semantics_names.specs.Laws.{ColumnsAreScalar, IsScalar}
use Rattle.semantics_names.specs.Outcome.{also, both, each, followed}
use Rattle.semantics_names.specs.Parts.{all_parts, from_parts, maybe_parts, parts, parts_behind_groups}
use Rattle.semantics_names.specs.Places.{Defined, aggregate, aggregate_call, aggregate_named, aggregate_of, call_of, columns_say, defined_as, filter_of, function_or, ranking, ranking_unless, window_call, window_of, windows_say}
use Rattle.semantics_names.specs.Same.{is_same_aggregate, is_same_call}
use Rattle.semantics_names.specs.Scope.{Scope, bare_term, is_bare}
use Rattle.semantics_names.specs.Sources.{Known}
use Rattle.semantics_names.specs.Statement.{CoreData, Input, Named, Queried, ResultColumn, Single, all_results, are_distinct, as_input, behind_groups, by_of, compounded, condition_of, core_of, defined_of, finished, firsts, from_tree, group_term, input_of, key_term, keys_of, max_columns, named, named_at, named_or, no_number, no_row, number_alone, numbered, numbered_or, on_row, one_or, operator_of, query_of, result, results_of, simple, single_of, some_of, starred, window_names}
use Rattle.semantics_names.specs.Typed.{column_types, known_tables, with_types}
use Rattle.semantics_names.proofs.OutcomeLemmas.{also-ok, both-ok, checked-ok, followed-ok}
use Rattle.semantics_refusals.specs.Columns.{HasNames, names_of_results, results_in}
use Rattle.semantics_refusals.specs.UnknownColumns.{InSelect, IsNoResult}
use Rattle.semantics_refusals.specs.Written.{HasSelect, terms_in}
use Rattle.semantics_refusals.specs.WrongPlaces.{GroupsByNumber, HasNoRow, HasOver, HasStar, HasWrongPlace, InQuery, IsAggregate, IsNoNumber, IsNumber, MayHaveOver, Measures, Misplaces, Ranks, SortsWrongly, StarsNothing, WrongPlaceIsRefused, expressions, groups_in, inside_call, plain_parts}
use Rattle.semantics_refusals.proofs.CoreLemmas.{is_distinct, number_alone_is, number_is}
use Rattle.semantics_refusals.proofs.CoreToldLemmas.{keys_given}
use Rattle.semantics_refusals.proofs.NameLemmas.{all_names, core_names, listed_of, names_in}
use Rattle.semantics_refusals.proofs.OkLemmas.{IsGiven}
use Rattle.semantics_refusals.proofs.PartLemmas.{Each, among, join, more, none, weaker}
use Rattle.semantics_refusals.proofs.SameColumnLemmas.{listed_same, names_one, same_inside, shows_one}
use Rattle.semantics_refusals.proofs.ScopeLemmas.{named_some}
use Rattle.semantics_refusals.proofs.SelectLemmas.{TakenSelect, part_taken, select_taken}
use Rattle.semantics_refusals.proofs.TakenLemmas.{IsTakenQuery, answers_with, from_taken, inside}
use Rattle.semantics_refusals.proofs.WindowLemmas.{core_windows, firsts_given, from_scalar, term_scalar, whole}

-- ---- numbers

-- the number of a result column
numbered_there : (width : ℕ) (z : ℤ) (k : KeyTerm) → numbered width z ≡ Ok k → (at : ℕ) × (at < width) × (z ≡ pos (suc at))
numbered_there width (pos zero) k e = absurd cc
numbered_there width (pos (suc at)) k e =
    let (there, made) = checked-ok (nat_lt at width) WrongPlace (Ok (KeyTerm.result at)) k e in (at, ltb-true at width there, refl)
numbered_there width (negsuc n) k e = absurd cc

module _ (names : List Name) (otherwise : ExprTree → Result KeyTerm Fault) where
  -- an expression that is taken as a number is that of a result column
  number_there : (e : ExprTree) (z : ℤ) → IsNumber e z → IsGiven (key_term names otherwise e) → (at : ℕ) × (at < length names) × (z ≡ pos (suc at))
  number_there e z is (k, made) = by (number_alone e) (number_alone_is is) made
    where
      by : (number : Option ℤ) → number ≡ Some z → numbered_or (length names) number (named_or names otherwise e) ≡ Ok k
          → (at : ℕ) × (at < length names) × (z ≡ pos (suc at))
      by (Some n) same d =
          let alike : n ≡ z = cc in subst (λ z. (at : ℕ) × (at < length names) × (z ≡ pos (suc at))) alike (numbered_there (length names) n k d)
      by None same d = absurd cc

  -- any other is computed, where it isn't the name of a result column
  pub computed : (e : ExprTree) → IsNoNumber e → IsNoResult names e → IsGiven (key_term names otherwise e) → IsGiven (otherwise e)
  computed e plainly apart (k, made) = by (number_alone e) refl made
    where
      places : (name : Name) → e ≡ ExprTree.Column None name → (at : List ℕ) → named_at name 0 names ≡ at
          → one_or at (otherwise (ExprTree.Column None name)) ≡ Ok k → IsGiven (otherwise (ExprTree.Column None name))
      places name same [] are d = (k, d)
      places name same (at ∷ others) are d = let (found, is) = named_some name 0 names at others are in absurd (apart name found same is)

      named_so : (x : ExprTree) → e ≡ x → named_or names otherwise x ≡ Ok k → IsGiven (otherwise x)
      named_so (ExprTree.Column None name) same d = places name same (named_at name 0 names) refl d
      named_so _ same d = (k, d)

      by : (number : Option ℤ) → number_alone e ≡ number → numbered_or (length names) number (named_or names otherwise e) ≡ Ok k → IsGiven (otherwise e)
      by (Some z) is d = absurd (plainly z (number_is e z is))
      by None is d = named_so e refl d

-- ---- one SELECT

by_plain : (answers : Answers) (scope : Scope) (by : ExprTrees) (ts : List Term) → by_of answers scope by ≡ Ok ts
    → Each (λ e. number_alone e ≡ None) (expressions by)
by_plain answers scope ExprTrees.No_more ts e = none
by_plain answers scope (ExprTrees.More x others) ts e =
    let (u, us, is, rest, same) = both-ok ◌∷◌ (group_term answers scope x) (by_of answers scope others) ts e in
    more x (expressions others) (no_number_in (number_alone x) (term_of answers (columns_say scope) x) u is) (by_plain answers scope others us rest)
  where
    no_number_in : (number : Option ℤ) (r : Result Term Fault) (u : Term) → no_number number r ≡ Ok u → number ≡ None
    no_number_in (Some z) r u e = absurd cc
    no_number_in None r u e = refl

starred_some : (answers : Answers) (scope : Scope) (input : Input) (says : Says) (results : ResultTrees) (columns : List ResultColumn)
    → all_results answers scope input says results ≡ Ok columns → HasStar results → starred scope ≢ []
starred_some answers scope input says ResultTrees.No_result columns e star = elim star [ ]
starred_some answers scope input says (ResultTrees.Result r rs) columns e star =
    let (first, others, is, rest, same) =
    both-ok ◌++◌ (results_of answers scope input says r) (all_results answers scope input says rs) columns e in
    by r star first is (λ star. starred_some answers scope input says rs others rest star)
  where
    some : (shown others : List ResultColumn) → some_of WrongPlace shown ≡ Ok others → shown ≢ []
    some [] others e same = absurd cc
    some (c ∷ cs) others e same = absurd cc

    by : (r : ResultTree) → HasStar (ResultTrees.Result r rs) → (first : List ResultColumn) → results_of answers scope input says r ≡ Ok first
        → (HasStar rs → starred scope ≢ []) → starred scope ≢ []
    by r (HasStar.later star) first is after = after star
    by _ HasStar.here first is after =
        let (shown, given, last) = followed-ok (some_of WrongPlace (starred scope)) (each (as_input answers input)) first is in
        some (starred scope) shown given

-- ---- calls

module _ (answers : Answers) where
  module _ (scalars : ColumnsAreScalar) (scope : Scope) where
    filter_scalar : (filter : MaybeExpr) (argument t : Term) → filter_of answers (columns_say scope) filter argument ≡ Ok t
        → Each IsScalar (maybe_parts filter ++ [])
    filter_scalar MaybeExpr.Absent argument t e = none
    filter_scalar (MaybeExpr.Present x) argument t e =
        let (u, is, same) = also-ok (λ condition. filtered condition argument) (term_of answers (columns_say scope) x) t e in
        join (parts x) [] (term_scalar scalars answers scope x u is) none

    measured_scalar : (function : AggregateFunction) (x : ExprTree) (filter : MaybeExpr) (a : Aggregate)
        → also (aggregate function) (followed (term_of answers (columns_say scope) x) (filter_of answers (columns_say scope) filter)) ≡ Ok a
        → Each IsScalar (all_parts (ExprTrees.More x ExprTrees.No_more) ++ (maybe_parts filter ++ []))
    measured_scalar function x filter a e =
        let (t, made, same) =
        also-ok (aggregate function) (followed (term_of answers (columns_say scope) x) (filter_of answers (columns_say scope) filter)) a e in
        let (u, is, rest) = followed-ok (term_of answers (columns_say scope) x) (filter_of answers (columns_say scope) filter) t made in
        join (all_parts (ExprTrees.More x ExprTrees.No_more)) (maybe_parts filter ++ [])
        (join (parts x) [] (term_scalar scalars answers scope x u is) none) (filter_scalar filter u t rest)

    measure_scalar : (function : Function) (es : ExprTrees) (filter : MaybeExpr) → Measures function es
        → ((r : Result Aggregate Fault) → aggregate_call answers (columns_say scope) (aggregate_named function) es filter ≡ Some r → IsGiven r)
        → Each IsScalar (all_parts es ++ (maybe_parts filter ++ []))
    measure_scalar w.Count (ExprTrees.More x ExprTrees.No_more) filter m given =
        let (a, e) = given _ refl in measured_scalar AggregateFunction.count x filter a e
    measure_scalar w.Sum (ExprTrees.More x ExprTrees.No_more) filter m given =
        let (a, e) = given _ refl in measured_scalar AggregateFunction.sum x filter a e
    measure_scalar w.Min (ExprTrees.More x ExprTrees.No_more) filter m given =
        let (a, e) = given _ refl in measured_scalar AggregateFunction.min x filter a e
    measure_scalar w.Max (ExprTrees.More x ExprTrees.No_more) filter m given =
        let (a, e) = given _ refl in measured_scalar AggregateFunction.max x filter a e
    measure_scalar _ _ filter m given = absurd m

    -- in an aggregate that is taken all is scalar
    pub aggregate_scalar : (part : ExprTree) → IsAggregate part
        → ((r : Result Aggregate Fault) → aggregate_of answers (columns_say scope) part ≡ Some r → IsGiven r) → Each IsScalar (inside_call part)
    aggregate_scalar (ExprTree.CountRows (BehindTree.Behind filter OverTree.No_over)) m given =
        let (a, e) = given _ refl in
        let (t, is, same) = also-ok (aggregate AggregateFunction.count) (filter_of answers (columns_say scope) filter always) a e in
        filter_scalar filter always t is
    aggregate_scalar (ExprTree.Call function es (BehindTree.Behind filter OverTree.No_over)) m given = measure_scalar function es filter m given
    aggregate_scalar _ m given = absurd m

  module _ (says : Says) where
    ranks_given : (function : Function) (es : ExprTrees) (g : WindowFunction) → ranking answers says function es ≡ Ok g → Ranks function es
    ranks_given w.RowNumber ExprTrees.No_more g e = tt
    ranks_given w.Rank ExprTrees.No_more g e = tt
    ranks_given w.DenseRank ExprTrees.No_more g e = tt
    ranks_given w.NTile (ExprTrees.More (ExprTree.Number (pos n)) ExprTrees.No_more) g e = tt
    ranks_given w.FirstValue (ExprTrees.More x ExprTrees.No_more) g e = tt
    ranks_given w.LastValue (ExprTrees.More x ExprTrees.No_more) g e = tt
    ranks_given w.NthValue (ExprTrees.More x (ExprTrees.More (ExprTree.Number (pos n)) ExprTrees.No_more)) g e = tt
    ranks_given w.Lag (ExprTrees.More x ExprTrees.No_more) g e = tt
    ranks_given w.Lag (ExprTrees.More x (ExprTrees.More (ExprTree.Number (pos n)) ExprTrees.No_more)) g e = tt
    ranks_given w.Lag (ExprTrees.More x (ExprTrees.More (ExprTree.Number (pos n)) (ExprTrees.More d ExprTrees.No_more))) g e = tt
    ranks_given w.Lead (ExprTrees.More x ExprTrees.No_more) g e = tt
    ranks_given w.Lead (ExprTrees.More x (ExprTrees.More (ExprTree.Number (pos n)) ExprTrees.No_more)) g e = tt
    ranks_given w.Lead (ExprTrees.More x (ExprTrees.More (ExprTree.Number (pos n)) (ExprTrees.More d ExprTrees.No_more))) g e = tt
    ranks_given _ _ g e = absurd cc

    unless_given : (filter : MaybeExpr) (function : Function) (es : ExprTrees) (g : WindowFunction) → ranking_unless answers says filter function es ≡ Ok g
        → (filter ≡ MaybeExpr.Absent) × Ranks function es
    unless_given MaybeExpr.Absent function es g e = (refl, ranks_given function es g e)
    unless_given (MaybeExpr.Present x) function es g e = absurd cc

    function_given : (function : Function) (es : ExprTrees) (filter : MaybeExpr) (g : WindowFunction)
        → function_or (aggregate_call answers says (aggregate_named function) es filter) (ranking_unless answers says filter function es) ≡ Ok g
        → Measures function es ⊎ ((filter ≡ MaybeExpr.Absent) × Ranks function es)
    function_given w.Count (ExprTrees.More x ExprTrees.No_more) filter g e = inl tt
    function_given w.Sum (ExprTrees.More x ExprTrees.No_more) filter g e = inl tt
    function_given w.Min (ExprTrees.More x ExprTrees.No_more) filter g e = inl tt
    function_given w.Max (ExprTrees.More x ExprTrees.No_more) filter g e = inl tt
    function_given function es filter g e = inr (unless_given filter function es g e)

    module _ (defined : List Defined) where
      before_given : (function : Function) (es : ExprTrees) (filter : MaybeExpr) (v : Result Window Fault)
          → IsGiven (both window_call (function_or (aggregate_call answers says (aggregate_named function) es filter)
          (ranking_unless answers says filter function es)) v)
          → Measures function es ⊎ ((filter ≡ MaybeExpr.Absent) × Ranks function es)
      before_given function es filter v (c, e) =
          let (g, u, first, last, same) =
          both-ok window_call (function_or (aggregate_call answers says (aggregate_named function) es filter) (ranking_unless answers says filter function es)) v c e in
          function_given function es filter g first

      -- a call with OVER that is taken may have it
      over_given : (part : ExprTree) → HasOver part → ((r : Result WindowCall Fault) → call_of answers says defined part ≡ Some r → IsGiven r)
          → MayHaveOver part
      over_given (ExprTree.CountRows after) h given = tt
      over_given (ExprTree.Call function es (BehindTree.Behind filter OverTree.No_over)) h given = absurd h
      over_given (ExprTree.Call function es (BehindTree.Behind filter (OverTree.OverName name))) h given =
          before_given function es filter (defined_as defined name) (given _ refl)
      over_given (ExprTree.Call function es (BehindTree.Behind filter (OverTree.Over v))) h given =
          before_given function es filter (window_of answers says v) (given _ refl)
      over_given _ h given = tt

-- a scalar function has no OVER
pub scalar_over : (part : ExprTree) → IsScalar part → HasOver part → ⊥
scalar_over (ExprTree.CountRows after) scalar h = scalar
scalar_over (ExprTree.Call function es (BehindTree.Behind filter OverTree.No_over)) scalar h = h
scalar_over (ExprTree.Call function es (BehindTree.Behind filter (OverTree.OverName name))) scalar h = name_none filter name scalar.0
  where
    name_none : (filter : MaybeExpr) (name : Name) → BehindTree.Behind filter (OverTree.OverName name) ≡ plain → ⊥
    name_none filter name same = absurd cc
scalar_over (ExprTree.Call function es (BehindTree.Behind filter (OverTree.Over v))) scalar h = over_none filter v scalar.0
  where
    over_none : (filter : MaybeExpr) (v : WindowTree) → BehindTree.Behind filter (OverTree.Over v) ≡ plain → ⊥
    over_none filter v same = absurd cc
scalar_over _ scalar h = h

-- the calls of a SELECT that is taken
record IsCalled (core : CoreTree) (order : TermTrees) : Type 0 where
  aggregates : (part q : ExprTree) → Contains (parts_behind_groups core order) part → IsAggregate part → Contains (inside_call part) q → IsScalar q
  over : Each (λ part. HasOver part → MayHaveOver part) (parts_behind_groups core order)

core_called : ColumnsAreScalar → (answers : Answers) (scope : Scope) (core : CoreTree) (order : TermTrees) (c : CoreData)
    → core_of answers scope core order ≡ Ok c → IsCalled core order
core_called scalars answers scope (CoreTree.Select distinct results from condition by having windows) order c e =
    let behind = parts_behind_groups (CoreTree.Select distinct results from condition by having windows) order in
    let (test, is, others) = followed-ok (condition_of answers (columns_say scope) condition) _ c e in
    let (keys, are, rest) = followed-ok (by_of answers scope by) _ c others in
    let (aggregates, found, last) =
    followed-ok (firsts is_same_aggregate [] (filter_map (aggregate_of answers (columns_say scope)) behind)) _ c rest in
    let (input, given, all) =
    followed-ok (input_of answers scope keys aggregates having) (behind_groups answers scope distinct results order behind windows test) c last in
    let (apart, on) = checked-ok (are_distinct (window_names windows)) DuplicateName _ c all in
    let (defined, are_defined, next) = followed-ok (defined_of answers input.says windows) _ c on in
    let (calls, called, end) = followed-ok (firsts is_same_call [] (filter_map (call_of answers input.says defined) behind)) _ c next in
    record {
      aggregates = λ part q there m inside.
          among (aggregate_scalar answers scalars scope part m
          (among (firsts_given is_same_aggregate [] aggregates (aggregate_of answers (columns_say scope)) behind found) there)) inside;
      over = weaker (λ part so h. over_given answers input.says defined part h so)
          (firsts_given is_same_call [] calls (call_of answers input.says defined) behind called);
    }

-- what is known of a SELECT that is taken, of ORDER BY and its result columns
record IsPlaced (scope : Scope) (core : CoreTree) (order : TermTrees) : Type 0 where
  keys : Each (λ e. number_alone e ≡ None) (groups_in core)
  star : HasStar (results_in core) → starred scope ≢ []
  numbers : (e : ExprTree) (z : ℤ) → Contains (terms_in order) e → IsNumber e z
      → (at : ℕ) × (at < length (names_of_results scope (results_in core))) × (z ≡ pos (suc at))
  rows : is_distinct core ≡ true → (e : ExprTree) → Contains (terms_in order) e → IsNoNumber e → IsNoResult (names_of_results scope (results_in core)) e → ⊥

core_placed : (answers : Answers) (scope : Scope) (core : CoreTree) (order : TermTrees) (c : CoreData) → core_of answers scope core order ≡ Ok c
    → IsPlaced scope core order
core_placed answers scope (CoreTree.Select distinct results from condition by having windows) order c e =
    let behind = parts_behind_groups (CoreTree.Select distinct results from condition by having windows) order in
    let (test, is, others) = followed-ok (condition_of answers (columns_say scope) condition) _ c e in
    let (keys, are, rest) = followed-ok (by_of answers scope by) _ c others in
    let (aggregates, found, last) =
    followed-ok (firsts is_same_aggregate [] (filter_map (aggregate_of answers (columns_say scope)) behind)) _ c rest in
    let (input, given, all) =
    followed-ok (input_of answers scope keys aggregates having) (behind_groups answers scope distinct results order behind windows test) c last in
    let (apart, on) = checked-ok (are_distinct (window_names windows)) DuplicateName _ c all in
    let (defined, are_defined, next) = followed-ok (defined_of answers input.says windows) _ c on in
    let (calls, called, end) = followed-ok (firsts is_same_call [] (filter_map (call_of answers input.says defined) behind)) _ c next in
    let says = windows_say answers input.says defined input.width calls in
    let (columns, shown, after) = followed-ok (all_results answers scope input says results) _ c end in
    let (few, sorting) = checked-ok (nat_le (length columns) max_columns) Limit _ c after in
    let (sort, sorted, made) =
    also-ok (finished distinct test input.grouping defined calls columns) (keys_of (names_in columns) (on_row answers distinct says) order) c sorting in
    let given_keys : Each (λ e. IsGiven (key_term (names_in columns) (on_row answers distinct says) e)) (terms_in order) =
    keys_given (names_in columns) (on_row answers distinct says) order sort sorted in
    let alike : names_in columns ≡ names_of_results scope results = all_names answers input scope says results columns shown in
    record {
      keys = by_plain answers scope by keys are;
      star = starred_some answers scope input says results columns shown;
      numbers = λ x z there number.
          subst (λ names. (at : ℕ) × (at < length names) × (z ≡ pos (suc at))) alike
          (number_there (names_in columns) (on_row answers distinct says) x z number (among given_keys there));
      rows = λ is x there plainly apart.
          no_row_is distinct says is x
          (computed (names_in columns) (on_row answers distinct says) x plainly (subst (λ names. IsNoResult names x) (sym alike) apart) (among given_keys there));
    }
  where
    no_row_is : (distinct : Bool) (says : Says) → distinct ≡ true → (x : ExprTree) → IsGiven (on_row answers distinct says x) → ⊥
    no_row_is true says is x (k, d) = absurd cc
    no_row_is false says is x (k, d) = absurd cc

-- ---- queries

module _ (known : List Known) where
  taken_placed : (core : CoreTree) (by : TermTrees) (taken : TakenSelect known core by) → IsPlaced taken.sources.scope core by
  taken_placed core by taken =
      core_placed (answers_with known (inside taken.deep known) taken.inners) taken.sources.scope core by taken.made taken.is

  group_refuted : (items : List ItemTree) (core : CoreTree) (by : TermTrees) → TakenSelect known core by → GroupsByNumber items core by → ⊥
  group_refuted items core by taken g =
      let none_is : number_alone g.e ≡ None = among (taken_placed core by taken).keys g.written in
      let both : None ≡ Some g.z = sym none_is ∙ number_alone_is g.is in
      absurd cc

  star_refuted : (core : CoreTree) (by : TermTrees) → TakenSelect known core by → StarsNothing (listed_of known) core by → ⊥
  star_refuted core by taken s =
      let queries : QueryTree → Result Queried Fault = inside taken.deep known in
      let same = shows_one known queries (same_inside known taken.deep) (answers_with known queries taken.inners) s.shows taken.sources taken.from in
      (taken_placed core by taken).star s.star (all_gone taken.sources.scope (subst (λ scope. All (λ shown. shown.places ≡ []) scope) same s.none))
    where
      all_gone : (scope : Scope) → All (λ shown. shown.places ≡ []) scope → starred scope ≡ []
      all_gone [] all = refl
      all_gone (t ∷ ts) all = by_places (is_bare t.places) (ap is_bare (All-head (λ shown. shown.places ≡ []) t ts all))
          (all_gone ts (All-tail (λ shown. shown.places ≡ []) t ts all))
        where
          by_places : (b : Bool) → b ≡ false → starred ts ≡ [] → (if b then result t.name (bare_term t.places) ∷ starred ts else starred ts) ≡ []
          by_places true e rest = absurd cc
          by_places false e rest = rest

  distinct_of : {core : CoreTree} → HasNoRow (QueryTree.Core core) → is_distinct core ≡ true
  distinct_of HasNoRow.distinct = refl

  core_sorts : (core : CoreTree) (order : TermTrees) (scope : Scope) → IsPlaced scope core order
      → ((names : List Name) → HasNames (listed_of known) (QueryTree.Core core) names → names ≡ names_of_results scope (results_in core))
      → SortsWrongly (listed_of known) (QueryTree.Core core) order → ⊥
  core_sorts core order scope placed alike (SortsWrongly.number names e z has there is out) =
      let (at, less, same) = placed.numbers e z there is in
      out at (subst (λ names. at < length names) (sym (alike names has)) less) same
  core_sorts core order scope placed alike (SortsWrongly.expression names e has there plainly apart rowless) =
      placed.rows (distinct_of rowless) e there plainly (subst (λ names. IsNoResult names e) (alike names has) apart)

  no_row_given : (e : ExprTree) → IsGiven (no_row e) → ⊥
  no_row_given e (k, d) = absurd cc

  compound_sorts : (query : QueryTree) (order : TermTrees) (names : List Name) (keys : List Key) → keys_of names no_row order ≡ Ok keys
      → ((others : List Name) → HasNames (listed_of known) query others → others ≡ names) → SortsWrongly (listed_of known) query order → ⊥
  compound_sorts query order names keys sorted alike (SortsWrongly.number others e z has there is out) =
      let (at, less, same) = number_there names no_row e z is (among (keys_given names no_row order keys sorted) there) in
      out at (subst (λ names. at < length names) (sym (alike others has)) less) same
  compound_sorts query order names keys sorted alike (SortsWrongly.expression others e has there plainly apart rowless) =
      no_row_given e (computed names no_row e plainly (subst (λ names. IsNoResult names e) (alike others has) apart)
      (among (keys_given names no_row order keys sorted) there))

  sorts_refuted : (query : QueryTree) (order : TermTrees) → IsTakenQuery known query order → SortsWrongly (listed_of known) query order → ⊥
  sorts_refuted (QueryTree.Core core) order (deep, (q, e)) sorts =
      let queries : QueryTree → Result Queried Fault = inside deep known in
      let (s, is, same) = also-ok simple (single_of known queries core order) q e in
      let (inners, f, from, (c, of, made)) = from_taken known queries core order s is in
      let named : c.names ≡ names_of_results f.scope (results_in core) = core_names (answers_with known queries inners) f.scope core order c of in
      let called : q.names ≡ names_of_results f.scope (results_in core) =
      sym (ap (λ (q : Queried). q.names) same) ∙ sym (ap (λ (s : Single). s.core.names) made) ∙ named in
      core_sorts core order f.scope (core_placed (answers_with known queries inners) f.scope core order c of)
      (λ names has. names_one known queries (same_inside known deep) has order q e ∙ called) sorts
  sorts_refuted (QueryTree.Compound left operator core) order (deep, (q, e)) sorts =
      let queries : QueryTree → Result Queried Fault = inside deep known in
      let (l, is, rest) = followed-ok (query_of known queries left TermTrees.No_term) _ q e in
      let (s, single, last) = followed-ok (single_of known queries core TermTrees.No_term) (compounded order l operator) q rest in
      let (even, sorting) = checked-ok (nat_eq (length l.names) (length s.core.names)) ColumnCount _ q last in
      let (keys, sorted, same) =
      also-ok (λ keys. record {
        body = Body.compound l.body (operator_of operator) s.from s.core.select;
        names = l.names;
        order = keys;
        beside = l.beside ++ s.beside;
      }) (keys_of l.names no_row order) q sorting in
      compound_sorts (QueryTree.Compound left operator core) order l.names keys sorted
      (λ names has. names_one known queries (same_inside known deep) has order q e ∙ sym (ap (λ (q : Queried). q.names) same)) sorts

  module _ (scalars : ColumnsAreScalar) (core : CoreTree) (by : TermTrees) (taken : TakenSelect known core by) where
    on_scalar : Each IsScalar (from_parts (from_tree core))
    on_scalar =
        from_scalar scalars known (inside taken.deep known) (answers_with known (inside taken.deep known) taken.inners) (from_tree core) taken.sources
        taken.from

    plain_scalar : Each IsScalar (plain_parts core)
    plain_scalar =
        (core_windows scalars (answers_with known (inside taken.deep known) taken.inners) taken.sources.scope core by taken.made taken.is).scalar

    called : IsCalled core by
    called = core_called scalars (answers_with known (inside taken.deep known) taken.inners) taken.sources.scope core by taken.made taken.is

    call_refuted : (items : List ItemTree) → Misplaces items core by → ⊥
    call_refuted items (Misplaces.on part there apart) = apart (among on_scalar there)
    call_refuted items (Misplaces.plain part there apart) = apart (among plain_scalar there)
    call_refuted items (Misplaces.in_aggregate outer part there is inside apart) = apart (called.aggregates outer part there is inside)
    call_refuted items (Misplaces.over part there has apart) =
        apart (among (whole core by called.over (weaker (λ part scalar h. absurd (scalar_over part scalar h)) on_scalar)
        (weaker (λ part scalar h. absurd (scalar_over part scalar h)) plain_scalar)) there has)

pub wrong_place_is_refused : ColumnsAreScalar → WrongPlaceIsRefused
wrong_place_is_refused scalars tables tree n has e =
    let (found, names, so) = followed-ok (named (known_tables tables) tree) (with_types (column_types tables)) n e in
    by found names has
  where
    by : (found : Named) → named (known_tables tables) tree ≡ Ok found → HasWrongPlace tables tree → ⊥
    by found names (HasWrongPlace.call has) =
        let (w, items, taken) = part_taken tables tree found (HasSelect Misplaces) has names in
        let here = has.is in
        call_refuted w.known scalars here.core here.by (select_taken w.known has.query has.order here.core here.by taken here.select) has.items here.is
    by found names (HasWrongPlace.group has) =
        let (w, items, taken) = part_taken tables tree found (HasSelect GroupsByNumber) has names in
        let here = has.is in
        group_refuted w.known has.items here.core here.by (select_taken w.known has.query has.order here.core here.by taken here.select) here.is
    by found names (HasWrongPlace.star has) =
        let (w, items, taken) = part_taken tables tree found (InSelect tables StarsNothing) has names in
        let here = has.is in
        star_refuted w.known here.core here.by (select_taken w.known has.query has.order here.core here.by taken here.select)
        (subst (λ listed. StarsNothing listed here.core here.by) (listed_same tables here.are w items) here.is)
    by found names (HasWrongPlace.order has) =
        let (w, items, taken) = part_taken tables tree found (InQuery tables SortsWrongly) has names in
        sorts_refuted w.known has.query has.order taken
        (subst (λ listed. SortsWrongly listed has.query has.order) (listed_same tables has.is.are w items) has.is.is)
