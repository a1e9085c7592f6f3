-- What the places of a SELECT say names columns that there are, and so do aggregates and windows.
use Rattle.std.proofs.Common.{ℕ, pos, ◌+◌, ◌<◌, ◌≤◌, List, [], ◌∷◌, length, Option, Some, None, Result, Ok, Err, refl, arith}
use Rattle.std.specs.Str.{str_eq_ignore_ascii_case}
use Rattle.values.specs.Datum.{null}
use Rattle.values.specs.declared.fault.Fault.{Fault}
use Rattle.values.specs.declared.fault.Fault.TheVariants.{BadFrame, BareColumn, WrongPlace}
use Rattle.expr.specs.Term.{Term, literal}
use Rattle.sql_reader_syntax.specs.ExprTree.{BehindTree, ExprTree, ExprTrees, MaybeExpr, OverTree, TermTrees, WindowTree}
use Rattle.sql_reader_syntax.specs.Tree.{Name}
use Rattle.sql_reader_syntax.specs.declared.expr.Function.{Function}
use Rattle.sql_reader_syntax.specs.declared.expr.Function.TheVariants as w
use Rattle.semantics.specs.Query.{always, filtered, Aggregate, AggregateFunction, SortTerm, Window, WindowCall, WindowFunction}
use Rattle.semantics_names.specs.Expression.{Answers, Says, term_of, terms_of}
use Rattle.semantics_names.specs.Places.{Defined, aggregate, aggregate_call, aggregate_column, aggregate_named, aggregate_of, bare, beside_keys, call_column, call_of, column_from, columns_say, count_rows, defined_as, filter_of, frame_of, function_or, groups_say, key_column, key_or, of_term, over, over_call, place_of, ranking, ranking_unless, sorted, window, window_call, window_of, windows_say}
use Rattle.semantics_names.specs.Same.{is_same_aggregate, is_same_call, is_same_term}
use Rattle.semantics_names.specs.Scope.{Scope, column_of}
use Rattle.semantics_refusals.proofs.ClashLemmas.{IsWithin}
use Rattle.semantics_refusals.proofs.HandsLemmas.{Hands, IfAny, IsBelow, also_hands, both_hands, followed_hands, if_hands, no_hands, place_below}
use Rattle.semantics_refusals.proofs.PartLemmas.{Each, first, more, none, one, rest, weaker}
use Rattle.semantics_refusals.proofs.WithinLemmas.{FunctionIsWithin, IsWithinCall, IsWithinWindow}
use Rattle.semantics_refusals.proofs.WithinScopeLemmas.{AreAnswers}
use Rattle.semantics_refusals.proofs.WithinTermLemmas.{IsOfColumns, term_within, terms_within}

-- what a place says of a part is of columns of a row of so many
pub record IsSaying (width : ℕ) (says : Says) : Type 0 where
  pub so : (part : ExprTree) → Hands (IfAny (IsOfColumns width)) (says part)

pub wider : (width wide : ℕ) (t : Term) → width ≤ wide → IsOfColumns width t → IsOfColumns wide t
wider width wide t few h = record { places = h.places; is = h.is; within = weaker (λ at less. omega (arith, less)) h.within }

pub anything : {A : Type 0} (r : Result A Fault) → Hands (λ _. Unit {0}) r
anything (Ok a) = record { is = tt }
anything (Err fault) = record { is = tt }

pub column_there : (start most width : ℕ) (at : Option ℕ) → start + most ≤ width → IsBelow most at
    → IfAny (IsOfColumns width) (column_from start at)
column_there start most width None few h = record { is = tt }
column_there start most width (Some at) few h =
    let less : at < most = h.is in record { is = record { places = (start + at) ∷ []; is = refl; within = one (omega arith) } }

module _ (count : ℕ) (answers : Answers) (answered : AreAnswers count answers) where
  module _ (width : ℕ) (says : Says) (saying : IsSaying width says) where
    pub term_so : (e : ExprTree) → Hands (IsWithin count width) (term_of answers says e)
    term_so = term_within count width answers says (answered.so width) saying.so

    filter_within : (filter : MaybeExpr) (argument : Term) → IsWithin count width argument
        → Hands (IsWithin count width) (filter_of answers says filter argument)
    filter_within MaybeExpr.Absent argument h = record { is = h }
    filter_within (MaybeExpr.Present e) argument h =
        also_hands (λ condition. filtered condition argument) (term_of answers says e) (term_so e) (λ c k. ((k, h, tt), tt))

    abbrev OfAggregate : Aggregate → Type 0
    OfAggregate a = IsWithin count width a.argument

    aggregate_call_within : (function : Option AggregateFunction) (items : ExprTrees) (filter : MaybeExpr)
        → IfAny (Hands (λ (a : Aggregate). IsWithin count width a.argument)) (aggregate_call answers says function items filter)
    aggregate_call_within (Some function) (ExprTrees.More e ExprTrees.No_more) filter = record {
      is =
          also_hands (aggregate function) _
          (followed_hands (term_of answers says e) (filter_of answers says filter) (term_so e) (λ t h. filter_within filter t h)) (λ t h. h);
    }
    aggregate_call_within _ _ filter = record { is = tt }

    count_within : (filter : MaybeExpr) → Hands (λ (a : Aggregate). IsWithin count width a.argument) (count_rows answers says filter)
    count_within filter =
        also_hands (aggregate AggregateFunction.count) (filter_of answers says filter always) (filter_within filter always tt) (λ t h. h)

    pub aggregate_within : (part : ExprTree)
        → IfAny (Hands (λ (a : Aggregate). IsWithin count width a.argument)) (aggregate_of answers says part)
    aggregate_within (ExprTree.CountRows (BehindTree.Behind filter OverTree.No_over)) = record { is = count_within filter }
    aggregate_within (ExprTree.Call function items (BehindTree.Behind filter OverTree.No_over)) =
        aggregate_call_within (aggregate_named function) items filter
    aggregate_within _ = record { is = tt }

    sorted_within : (order : TermTrees) → Hands (Each (λ (s : SortTerm). IsWithin count width s.term)) (sorted answers says order)
    sorted_within TermTrees.No_term = record { is = none }
    sorted_within (TermTrees.Term e direction others) =
        both_hands _ (term_of answers says e) (sorted answers says others) (term_so e) (sorted_within others) (λ t ts h all. more _ ts h all)

    pub window_within : (v : WindowTree) → Hands (IsWithinWindow count width) (window_of answers says v)
    window_within (WindowTree.Window partition order frame) =
        followed_hands (terms_of answers says partition) _ (terms_within count width answers says (answered.so width) saying.so partition) (λ ts by.
        both_hands (window ts) (sorted answers says order) (frame_of frame) (sorted_within order) (anything (frame_of frame))
        (λ sorts frame in_order any. record { partition = by; order = in_order }))

    defined_within : (defined : List Defined) (name : Name) → Each (λ (d : Defined). IsWithinWindow count width d.window) defined
        → Hands (IsWithinWindow count width) (defined_as defined name)
    defined_within [] name all = no_hands BadFrame
    defined_within (d ∷ ds) name all =
        if_hands (str_eq_ignore_ascii_case d.name name) (Ok d.window) (defined_as ds name) (λ _. record { is = first all })
        (λ _. defined_within ds name (rest all))

    over_within : (defined : List Defined) (o : OverTree) → Each (λ (d : Defined). IsWithinWindow count width d.window) defined
        → IfAny (Hands (IsWithinWindow count width)) (over answers says defined o)
    over_within defined OverTree.No_over all = record { is = tt }
    over_within defined (OverTree.OverName name) all = record { is = defined_within defined name all }
    over_within defined (OverTree.Over v) all = record { is = window_within v }

    of_term_within : (function : Term → WindowFunction) (e : ExprTree)
        → ((t : Term) → IsWithin count width t → FunctionIsWithin count width (function t))
        → Hands (FunctionIsWithin count width) (of_term answers says function e)
    of_term_within function e so = also_hands function (term_of answers says e) (term_so e) so

    ranking_within : (name : Function) (items : ExprTrees) → Hands (FunctionIsWithin count width) (ranking answers says name items)
    ranking_within w.RowNumber ExprTrees.No_more = record { is = tt }
    ranking_within w.Rank ExprTrees.No_more = record { is = tt }
    ranking_within w.DenseRank ExprTrees.No_more = record { is = tt }
    ranking_within w.NTile (ExprTrees.More (ExprTree.Number (pos n)) ExprTrees.No_more) = record { is = tt }
    ranking_within w.FirstValue (ExprTrees.More e ExprTrees.No_more) = of_term_within WindowFunction.first_value e (λ t h. h)
    ranking_within w.LastValue (ExprTrees.More e ExprTrees.No_more) = of_term_within WindowFunction.last_value e (λ t h. h)
    ranking_within w.NthValue (ExprTrees.More e (ExprTrees.More (ExprTree.Number (pos n)) ExprTrees.No_more)) =
        of_term_within (λ t. WindowFunction.nth_value t n) e (λ t h. h)
    ranking_within w.Lag (ExprTrees.More e ExprTrees.No_more) = of_term_within (λ t. WindowFunction.lag t 1 (literal null)) e (λ t h. (h, tt))
    ranking_within w.Lag (ExprTrees.More e (ExprTrees.More (ExprTree.Number (pos n)) ExprTrees.No_more)) =
        of_term_within (λ t. WindowFunction.lag t n (literal null)) e (λ t h. (h, tt))
    ranking_within w.Lag (ExprTrees.More e (ExprTrees.More (ExprTree.Number (pos n)) (ExprTrees.More d ExprTrees.No_more))) =
        both_hands (λ t otherwise. WindowFunction.lag t n otherwise) (term_of answers says e) (term_of answers says d) (term_so e) (term_so d)
        (λ t u h k. (h, k))
    ranking_within w.Lead (ExprTrees.More e ExprTrees.No_more) = of_term_within (λ t. WindowFunction.lead t 1 (literal null)) e (λ t h. (h, tt))
    ranking_within w.Lead (ExprTrees.More e (ExprTrees.More (ExprTree.Number (pos n)) ExprTrees.No_more)) =
        of_term_within (λ t. WindowFunction.lead t n (literal null)) e (λ t h. (h, tt))
    ranking_within w.Lead (ExprTrees.More e (ExprTrees.More (ExprTree.Number (pos n)) (ExprTrees.More d ExprTrees.No_more))) =
        both_hands (λ t otherwise. WindowFunction.lead t n otherwise) (term_of answers says e) (term_of answers says d) (term_so e) (term_so d)
        (λ t u h k. (h, k))
    ranking_within _ _ = no_hands WrongPlace

    ranking_unless_within : (filter : MaybeExpr) (name : Function) (items : ExprTrees)
        → Hands (FunctionIsWithin count width) (ranking_unless answers says filter name items)
    ranking_unless_within MaybeExpr.Absent name items = ranking_within name items
    ranking_unless_within (MaybeExpr.Present e) name items = no_hands WrongPlace

    function_within : (o : Option (Result Aggregate Fault)) (otherwise : Result WindowFunction Fault)
        → IfAny (Hands (λ (a : Aggregate). IsWithin count width a.argument)) o → Hands (FunctionIsWithin count width) otherwise
        → Hands (FunctionIsWithin count width) (function_or o otherwise)
    function_within (Some r) otherwise h k = also_hands WindowFunction.aggregate r h.is (λ a of. of)
    function_within None otherwise h k = k

    over_call_within : (o : Option (Result Window Fault)) (function : Result WindowFunction Fault) → IfAny (Hands (IsWithinWindow count width)) o
        → Hands (FunctionIsWithin count width) function → IfAny (Hands (IsWithinCall count width)) (over_call o function)
    over_call_within None function h k = record { is = tt }
    over_call_within (Some v) function h k =
        record { is = both_hands window_call function v k h.is (λ f v of in_window. record { window = in_window; function = of }) }

    pub call_within : (defined : List Defined) → Each (λ (d : Defined). IsWithinWindow count width d.window) defined → (part : ExprTree)
        → IfAny (Hands (IsWithinCall count width)) (call_of answers says defined part)
    call_within defined all (ExprTree.CountRows (BehindTree.Behind filter o)) =
        over_call_within (over answers says defined o) _ (over_within defined o all)
        (also_hands WindowFunction.aggregate (count_rows answers says filter) (count_within filter) (λ a of. of))
    call_within defined all (ExprTree.Call function items (BehindTree.Behind filter o)) =
        over_call_within (over answers says defined o) _ (over_within defined o all)
        (function_within (aggregate_call answers says (aggregate_named function) items filter) (ranking_unless answers says filter function items)
        (aggregate_call_within (aggregate_named function) items filter) (ranking_unless_within filter function items))
    call_within defined all _ = record { is = tt }

  -- ---- behind groups

  module _ (by : List Term) where
    pub key_there : (width : ℕ) (r : Result Term Fault) → length by ≤ width → IfAny (IsOfColumns width) (key_column by r)
    key_there width (Ok t) few = column_there 0 (length by) width (place_of is_same_term t by) (omega arith) (place_below is_same_term t by)
    key_there width (Err fault) few = record { is = tt }

    key_or_within : (width : ℕ) (key : Option Term) (otherwise : Result (Option Term) Fault) → IfAny (IsOfColumns width) key
        → Hands (IfAny (IsOfColumns width)) otherwise → Hands (IfAny (IsOfColumns width)) (key_or key otherwise)
    key_or_within width (Some t) otherwise h k = record { is = record { is = h.is } }
    key_or_within width None otherwise h k = k

    bare_none : (width : ℕ) (r : Result Term Fault) → Hands (IfAny (IsOfColumns width)) (bare r)
    bare_none width (Ok t) = no_hands BareColumn
    bare_none width (Err fault) = no_hands fault

    aggregate_there : (aggregates : List Aggregate) (o : Option (Result Aggregate Fault))
        → Hands (IfAny (IsOfColumns (length by + length aggregates))) (aggregate_column (length by) aggregates o)
    aggregate_there aggregates None = record { is = record { is = tt } }
    aggregate_there aggregates (Some r) =
        also_hands _ r (anything r)
        (λ a any. column_there (length by) (length aggregates) (length by + length aggregates) (place_of is_same_aggregate a aggregates) (omega arith)
        (place_below is_same_aggregate a aggregates))

    beside_within : (scope : Scope) (aggregates : List Aggregate) (part : ExprTree)
        → Hands (IfAny (IsOfColumns (length by + length aggregates))) (beside_keys answers scope by aggregates part)
    beside_within scope aggregates (ExprTree.Column table name) = bare_none (length by + length aggregates) (column_of scope table name)
    beside_within scope aggregates part = aggregate_there aggregates (aggregate_of answers (columns_say scope) part)

    pub groups_within : (scope : Scope) (aggregates : List Aggregate)
        → IsSaying (length by + length aggregates) (groups_say answers scope by aggregates)
    groups_within scope aggregates = record {
      so = λ part.
          key_or_within (length by + length aggregates) (key_column by (term_of answers (columns_say scope) part))
          (beside_keys answers scope by aggregates part)
          (key_there (length by + length aggregates) (term_of answers (columns_say scope) part) (omega arith)) (beside_within scope aggregates part);
    }

  -- ---- behind windows

  call_there : (width : ℕ) (calls : List WindowCall) (o : Option (Result WindowCall Fault)) (beneath : Result (Option Term) Fault)
      → Hands (IfAny (IsOfColumns width)) beneath → Hands (IfAny (IsOfColumns (width + length calls))) (call_column width calls o beneath)
  call_there width calls None (Ok (Some t)) h = record { is = record { is = wider width (width + length calls) t (omega arith) h.is.is } }
  call_there width calls None (Ok None) h = record { is = record { is = tt } }
  call_there width calls None (Err fault) h = no_hands fault
  call_there width calls (Some r) beneath h =
      also_hands _ r (anything r)
      (λ c any. column_there width (length calls) (width + length calls) (place_of is_same_call c calls) (omega arith)
      (place_below is_same_call c calls))

  pub windows_within : (width : ℕ) (says : Says) → IsSaying width says → (defined : List Defined) (calls : List WindowCall)
      → IsSaying (width + length calls) (windows_say answers says defined width calls)
  windows_within width says saying defined calls =
      record { so = λ part. call_there width calls (call_of answers says defined part) (says part) (saying.so part) }
