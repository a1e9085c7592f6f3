-- Where an expression is taken, each name of a column in it stands for one.
use Rattle.std.proofs.Common.{◌≡◌, ℕ, pos, List, [], ◌∷◌, ◌++◌, length, Option, Some, None, Result, Ok, Err, ap, ◌∙◌, refl, subst₂}
use Rattle.values.specs.Datum.{null}
use Rattle.values.specs.declared.fault.Fault.{Fault}
use Rattle.expr.specs.Term.{Term, literal}
use Rattle.sql_reader_syntax.specs.ExprTree.{ArmTrees, BehindTree, ExprTree, ExprTrees, MaybeExpr, OverTree, TermTrees, WindowTree}
use Rattle.sql_reader_syntax.specs.Tree.{Name}
use Rattle.sql_reader_syntax.specs.declared.expr.Function.{Function}
use Rattle.sql_reader_syntax.specs.declared.expr.Function.TheVariants as w
use Rattle.semantics.specs.Query.{always, filtered, Aggregate, AggregateFunction, Window, WindowCall, WindowFunction}
use Rattle.semantics_names.specs.Expression.{Answers, InnerTree, Says, among_answer, among_items, arms_of, between_bounds, binary, called, case, operand_of, otherwise_of, postfix, prefix, term_of, terms_of}
use Rattle.semantics_names.specs.Outcome.{also, both, chosen, followed}
use Rattle.semantics_names.specs.Parts.{all_parts, arms_parts, behind_parts, maybe_parts, over_parts, parts, terms_parts, window_parts}
use Rattle.semantics_names.specs.Places.{Defined, aggregate, aggregate_call, aggregate_column, aggregate_named, aggregate_of, bare, beside_keys, call_column, call_of, columns_say, count_rows, filter_of, frame_of, function_or, groups_say, key_column, key_or, of_term, over, over_call, ranking, ranking_unless, sorted, window, window_call, window_of, windows_say}
use Rattle.semantics_names.specs.Scope.{Scope, column_of}
use Rattle.semantics_names.proofs.OutcomeLemmas.{also-ok, both-ok, followed-ok}
use Rattle.semantics_refusals.proofs.OkLemmas.{IsGiven}
use Rattle.semantics_refusals.proofs.PartLemmas.{Each, join, none, one}

-- if it is a name of a column, it stands for one
pub record IsNamed (scope : Scope) (part : ExprTree) : Type 0 where
  pub is : (table : Option Name) (name : Name) → part ≡ ExprTree.Column table name → IsGiven (column_of scope table name)

module _ (scope : Scope) (answers : Answers) where
  -- a place says of a part that it is a term where all names in it stand for columns
  pub record Tells (says : Says) : Type 0 where
    pub known : (part : ExprTree) (t : Term) → says part ≡ Ok (Some t) → Each (IsNamed scope) (parts part)

  -- what is said, or what is made of the parts
  by_chosen : {A : Type 0} (part : ExprTree) (r : Result (Option A) Fault) (s : Result A Fault) (a : A) → chosen r s ≡ Ok a
      → ((b : A) → r ≡ Ok (Some b) → Each (IsNamed scope) (parts part)) → (s ≡ Ok a → Each (IsNamed scope) (parts part)) → Each (IsNamed scope) (parts part)
  by_chosen part (Ok (Some b)) s a e known made = known b refl
  by_chosen part (Ok None) s a e known made = made e
  by_chosen part (Err fault) s a e known made = absurd cc

  -- a scalar function has nothing behind it
  called_plain : (after : BehindTree) (name : Function) (items : List Term) (t : Term) → called after name items ≡ Ok t
      → Each (IsNamed scope) (behind_parts after)
  called_plain (BehindTree.Behind MaybeExpr.Absent OverTree.No_over) name items t e = none
  called_plain _ name items t e = absurd cc

  module _ (says : Says) (tells : Tells says) where
    mutual
      pub told : (e : ExprTree) (t : Term) → term_of answers says e ≡ Ok t → Each (IsNamed scope) (parts e)
      told ExprTree.Null t e = one (record { is = λ table name same. absurd cc })
      told (ExprTree.Number z) t e = one (record { is = λ table name same. absurd cc })
      told (ExprTree.Text content) t e = one (record { is = λ table name same. absurd cc })
      told (ExprTree.Blob bytes) t e = one (record { is = λ table name same. absurd cc })
      told (ExprTree.Column table name) t e =
          by_chosen (ExprTree.Column table name) (says (ExprTree.Column table name)) _ t e (tells.known (ExprTree.Column table name)) (λ made. absurd cc)
      told (ExprTree.Prefix op x) t e =
          by_chosen (ExprTree.Prefix op x) (says (ExprTree.Prefix op x)) _ t e (tells.known (ExprTree.Prefix op x)) (λ made.
          let (u, is, same) = also-ok (prefix op) (term_of answers says x) t made in
          join (parts x) _ (told x u is) (one (record { is = λ table name same. absurd cc })))
      told (ExprTree.Binary op x y) t e =
          by_chosen (ExprTree.Binary op x y) (says (ExprTree.Binary op x y)) _ t e (tells.known (ExprTree.Binary op x y)) (λ made.
          let (u, v, is, other, same) = both-ok (binary op) (term_of answers says x) (term_of answers says y) t made in
          join (parts x ++ parts y) _ (join (parts x) (parts y) (told x u is) (told y v other)) (one (record { is = λ table name same. absurd cc })))
      told (ExprTree.Postfix op x) t e =
          by_chosen (ExprTree.Postfix op x) (says (ExprTree.Postfix op x)) _ t e (tells.known (ExprTree.Postfix op x)) (λ made.
          let (u, is, same) = also-ok (postfix op) (term_of answers says x) t made in
          join (parts x) _ (told x u is) (one (record { is = λ table name same. absurd cc })))
      told (ExprTree.Between not x low high) t e =
          by_chosen (ExprTree.Between not x low high) (says (ExprTree.Between not x low high)) _ t e (tells.known (ExprTree.Between not x low high)) (λ made.
          let (u, is, more) = followed-ok (term_of answers says x) _ t made in
          let (l, h, under, above, same) = both-ok (between_bounds not u) (term_of answers says low) (term_of answers says high) t more in
          join (parts x ++ parts low ++ parts high) _
          (join (parts x ++ parts low) (parts high) (join (parts x) (parts low) (told x u is) (told low l under)) (told high h above))
          (one (record { is = λ table name same. absurd cc })))
      told (ExprTree.In not x items) t e =
          by_chosen (ExprTree.In not x items) (says (ExprTree.In not x items)) _ t e (tells.known (ExprTree.In not x items)) (λ made.
          let (u, us, is, others, same) = both-ok (among_items not) (term_of answers says x) (terms_of answers says items) t made in
          join (parts x ++ all_parts items) _ (join (parts x) (all_parts items) (told x u is) (told_items items us others))
          (one (record { is = λ table name same. absurd cc })))
      told (ExprTree.InQuery not x query) t e =
          by_chosen (ExprTree.InQuery not x query) (says (ExprTree.InQuery not x query)) _ t e (tells.known (ExprTree.InQuery not x query)) (λ made.
          let (u, us, is, others, same) = both-ok (among_answer not) (term_of answers says x) (answers (InnerTree.values_in query)) t made in
          join (parts x) _ (told x u is) (one (record { is = λ table name same. absurd cc })))
      told (ExprTree.Exists query) t e = one (record { is = λ table name same. absurd cc })
      told (ExprTree.CountRows after) t e =
          by_chosen (ExprTree.CountRows after) (says (ExprTree.CountRows after)) _ t e (tells.known (ExprTree.CountRows after)) (λ made. absurd cc)
      told (ExprTree.Call function items after) t e =
          by_chosen (ExprTree.Call function items after) (says (ExprTree.Call function items after)) _ t e
          (tells.known (ExprTree.Call function items after)) (λ made.
          let (us, is, more) = followed-ok (terms_of answers says items) (called after function) t made in
          join (all_parts items ++ behind_parts after) _
          (join (all_parts items) (behind_parts after) (told_items items us is) (called_plain after function us t more))
          (one (record { is = λ table name same. absurd cc })))
      told (ExprTree.Case operand arms otherwise) t e =
          by_chosen (ExprTree.Case operand arms otherwise) (says (ExprTree.Case operand arms otherwise)) _ t e
          (tells.known (ExprTree.Case operand arms otherwise)) (λ made.
          let (x, is, more) = followed-ok (operand_of answers says operand) _ t made in
          let (us, u, each, last, same) = both-ok (case x) (arms_of answers says arms) (otherwise_of answers says otherwise) t more in
          join (maybe_parts operand ++ arms_parts arms ++ maybe_parts otherwise) _
          (join (maybe_parts operand ++ arms_parts arms) (maybe_parts otherwise)
          (join (maybe_parts operand) (arms_parts arms) (told_operand operand x is) (told_arms arms us each)) (told_otherwise otherwise u last))
          (one (record { is = λ table name same. absurd cc })))

      pub told_items : (es : ExprTrees) (ts : List Term) → terms_of answers says es ≡ Ok ts → Each (IsNamed scope) (all_parts es)
      told_items ExprTrees.No_more ts e = none
      told_items (ExprTrees.More x xs) ts e =
          let (u, us, is, others, same) = both-ok ◌∷◌ (term_of answers says x) (terms_of answers says xs) ts e in
          join (parts x) (all_parts xs) (told x u is) (told_items xs us others)

      told_operand : (operand : MaybeExpr) (o : Option Term) → operand_of answers says operand ≡ Ok o → Each (IsNamed scope) (maybe_parts operand)
      told_operand MaybeExpr.Absent o e = none
      told_operand (MaybeExpr.Present x) o e = let (u, is, same) = also-ok Some (term_of answers says x) o e in told x u is

      told_otherwise : (otherwise : MaybeExpr) (t : Term) → otherwise_of answers says otherwise ≡ Ok t → Each (IsNamed scope) (maybe_parts otherwise)
      told_otherwise MaybeExpr.Absent t e = none
      told_otherwise (MaybeExpr.Present x) t e = told x t e

      told_arms : (arms : ArmTrees) (us : List (Term × Term)) → arms_of answers says arms ≡ Ok us → Each (IsNamed scope) (arms_parts arms)
      told_arms ArmTrees.No_arm us e = none
      told_arms (ArmTrees.Arm when then more) us e =
          let (u, others, is, rest, same) =
          both-ok ◌∷◌ (both (λ c e. (c, e)) (term_of answers says when) (term_of answers says then)) (arms_of answers says more) us e in
          let (c, d, first, second, made) = both-ok (λ c e. (c, e)) (term_of answers says when) (term_of answers says then) u is in
          join (parts when ++ parts then) (arms_parts more) (join (parts when) (parts then) (told when c first) (told then d second))
          (told_arms more others rest)

    -- ---- aggregates

    filter_told : (filter : MaybeExpr) (argument t : Term) → filter_of answers says filter argument ≡ Ok t → Each (IsNamed scope) (maybe_parts filter)
    filter_told MaybeExpr.Absent argument t e = none
    filter_told (MaybeExpr.Present x) argument t e =
        let (u, is, same) = also-ok (λ condition. filtered condition argument) (term_of answers says x) t e in told x u is

    aggregate_call_told : (function : Option AggregateFunction) (items : ExprTrees) (filter : MaybeExpr) (a : Aggregate)
        → aggregate_call answers says function items filter ≡ Some (Ok a) → Each (IsNamed scope) (all_parts items) × Each (IsNamed scope) (maybe_parts filter)
    aggregate_call_told (Some function) (ExprTrees.More x ExprTrees.No_more) filter a e =
        let is : also (aggregate function) (followed (term_of answers says x) (filter_of answers says filter)) ≡ Ok a = cc in
        let (t, made, same) = also-ok (aggregate function) (followed (term_of answers says x) (filter_of answers says filter)) a is in
        let (u, of, more) = followed-ok (term_of answers says x) (filter_of answers says filter) t made in
        (join (parts x) [] (told x u of) none, filter_told filter u t more)
    aggregate_call_told _ _ filter a e = absurd cc

    count_told : (filter : MaybeExpr) (a : Aggregate) → count_rows answers says filter ≡ Ok a → Each (IsNamed scope) (maybe_parts filter)
    count_told filter a e =
        let (t, is, same) = also-ok (aggregate AggregateFunction.count) (filter_of answers says filter always) a e in filter_told filter always t is

    pub aggregate_told : (part : ExprTree) (a : Aggregate) → aggregate_of answers says part ≡ Some (Ok a) → Each (IsNamed scope) (parts part)
    aggregate_told (ExprTree.CountRows (BehindTree.Behind filter OverTree.No_over)) a e =
        let is : count_rows answers says filter ≡ Ok a = cc in
        join (maybe_parts filter ++ []) _ (join (maybe_parts filter) [] (count_told filter a is) none) (one (record { is = λ table name same. absurd cc }))
    aggregate_told (ExprTree.Call function items (BehindTree.Behind filter OverTree.No_over)) a e =
        let (all, of) = aggregate_call_told (aggregate_named function) items filter a e in
        join (all_parts items ++ (maybe_parts filter ++ [])) _ (join (all_parts items) (maybe_parts filter ++ []) all (join (maybe_parts filter) [] of none))
        (one (record { is = λ table name same. absurd cc }))
    aggregate_told _ a e = absurd cc

    -- ---- windows

    sorted_told : (order : TermTrees) (ts : List _) → sorted answers says order ≡ Ok ts → Each (IsNamed scope) (terms_parts order)
    sorted_told TermTrees.No_term ts e = none
    sorted_told (TermTrees.Term x direction more) ts e =
        let (u, us, is, others, same) = both-ok _ (term_of answers says x) (sorted answers says more) ts e in
        join (parts x) (terms_parts more) (told x u is) (sorted_told more us others)

    pub window_told : (v : WindowTree) (made : Window) → window_of answers says v ≡ Ok made → Each (IsNamed scope) (window_parts v)
    window_told (WindowTree.Window partition order frame) made e =
        let (ts, is, more) = followed-ok (terms_of answers says partition) _ made e in
        let (us, f, sort, last, same) = both-ok (window ts) (sorted answers says order) (frame_of frame) made more in
        join (all_parts partition) (terms_parts order) (told_items partition ts is) (sorted_told order us sort)

    over_told : (defined : List Defined) (o : OverTree) (v : Window) → over answers says defined o ≡ Some (Ok v) → Each (IsNamed scope) (over_parts o)
    over_told defined OverTree.No_over v e = absurd cc
    over_told defined (OverTree.OverName name) v e = none
    over_told defined (OverTree.Over w) v e = let is : window_of answers says w ≡ Ok v = cc in window_told w v is

    of_told : (function : Term → WindowFunction) (x : ExprTree) (g : WindowFunction) → of_term answers says function x ≡ Ok g → Each (IsNamed scope) (parts x)
    of_told function x g e = let (u, is, same) = also-ok function (term_of answers says x) g e in told x u is

    -- a number behind it, and another argument behind that
    with_number : (x : ExprTree) (n : ℕ) → Each (IsNamed scope) (parts x)
        → Each (IsNamed scope) (all_parts (ExprTrees.More x (ExprTrees.More (ExprTree.Number (pos n)) ExprTrees.No_more)))
    with_number x n all = join (parts x) (ExprTree.Number (pos n) ∷ []) all (one (record { is = λ table name same. absurd cc }))

    two_told : (function : Term → Term → WindowFunction) (x : ExprTree) (n : ℕ) (d : ExprTree) (g : WindowFunction)
        → both function (term_of answers says x) (term_of answers says d) ≡ Ok g
        → Each (IsNamed scope) (all_parts (ExprTrees.More x (ExprTrees.More (ExprTree.Number (pos n)) (ExprTrees.More d ExprTrees.No_more))))
    two_told function x n d g e =
        let (u, v, is, other, same) = both-ok function (term_of answers says x) (term_of answers says d) g e in
        join (parts x) (ExprTree.Number (pos n) ∷ [] ++ (parts d ++ [])) (told x u is)
        (join (ExprTree.Number (pos n) ∷ []) (parts d ++ []) (one (record { is = λ table name same. absurd cc })) (join (parts d) [] (told d v other) none))

    ranking_told : (name : Function) (items : ExprTrees) (g : WindowFunction) → ranking answers says name items ≡ Ok g → Each (IsNamed scope) (all_parts items)
    ranking_told w.RowNumber ExprTrees.No_more g e = none
    ranking_told w.Rank ExprTrees.No_more g e = none
    ranking_told w.DenseRank ExprTrees.No_more g e = none
    ranking_told w.NTile (ExprTrees.More (ExprTree.Number (pos n)) ExprTrees.No_more) g e = one (record { is = λ table name same. absurd cc })
    ranking_told w.FirstValue (ExprTrees.More x ExprTrees.No_more) g e = join (parts x) [] (of_told WindowFunction.first_value x g e) none
    ranking_told w.LastValue (ExprTrees.More x ExprTrees.No_more) g e = join (parts x) [] (of_told WindowFunction.last_value x g e) none
    ranking_told w.NthValue (ExprTrees.More x (ExprTrees.More (ExprTree.Number (pos n)) ExprTrees.No_more)) g e =
        with_number x n (of_told (λ t. WindowFunction.nth_value t n) x g e)
    ranking_told w.Lag (ExprTrees.More x ExprTrees.No_more) g e = join (parts x) [] (of_told (λ t. WindowFunction.lag t 1 (literal null)) x g e) none
    ranking_told w.Lag (ExprTrees.More x (ExprTrees.More (ExprTree.Number (pos n)) ExprTrees.No_more)) g e =
        with_number x n (of_told (λ t. WindowFunction.lag t n (literal null)) x g e)
    ranking_told w.Lag (ExprTrees.More x (ExprTrees.More (ExprTree.Number (pos n)) (ExprTrees.More d ExprTrees.No_more))) g e =
        two_told (λ t otherwise. WindowFunction.lag t n otherwise) x n d g e
    ranking_told w.Lead (ExprTrees.More x ExprTrees.No_more) g e = join (parts x) [] (of_told (λ t. WindowFunction.lead t 1 (literal null)) x g e) none
    ranking_told w.Lead (ExprTrees.More x (ExprTrees.More (ExprTree.Number (pos n)) ExprTrees.No_more)) g e =
        with_number x n (of_told (λ t. WindowFunction.lead t n (literal null)) x g e)
    ranking_told w.Lead (ExprTrees.More x (ExprTrees.More (ExprTree.Number (pos n)) (ExprTrees.More d ExprTrees.No_more))) g e =
        two_told (λ t otherwise. WindowFunction.lead t n otherwise) x n d g e
    ranking_told _ _ g e = absurd cc

    unless_told : (filter : MaybeExpr) (name : Function) (items : ExprTrees) (g : WindowFunction) → ranking_unless answers says filter name items ≡ Ok g
        → Each (IsNamed scope) (all_parts items) × Each (IsNamed scope) (maybe_parts filter)
    unless_told MaybeExpr.Absent name items g e = (ranking_told name items g e, none)
    unless_told (MaybeExpr.Present x) name items g e = absurd cc

    function_told : (filter : MaybeExpr) (name : Function) (items : ExprTrees) (g : WindowFunction) (o : Option (Result Aggregate Fault))
        → aggregate_call answers says (aggregate_named name) items filter ≡ o → function_or o (ranking_unless answers says filter name items) ≡ Ok g
        → Each (IsNamed scope) (all_parts items) × Each (IsNamed scope) (maybe_parts filter)
    function_told filter name items g None is e = unless_told filter name items g e
    function_told filter name items g (Some r) is e =
        let (a, of, same) = also-ok WindowFunction.aggregate r g e in
        aggregate_call_told (aggregate_named name) items filter a (is ∙ ap Some of)

    over_call_ok : (o : Option (Result Window Fault)) (f : Result WindowFunction Fault) (c : WindowCall) → over_call o f ≡ Some (Ok c)
        → (v : Window) × (g : WindowFunction) × (o ≡ Some (Ok v)) × (f ≡ Ok g)
    over_call_ok None f c e = absurd cc
    over_call_ok (Some r) f c e =
        let is : both window_call f r ≡ Ok c = cc in
        let (g, v, first, second, same) = both-ok window_call f r c is in
        (v, g, ap Some second, first)

    pub call_told : (defined : List Defined) (part : ExprTree) (c : WindowCall) → call_of answers says defined part ≡ Some (Ok c)
        → Each (IsNamed scope) (parts part)
    call_told defined (ExprTree.CountRows (BehindTree.Behind filter o)) c e =
        let (v, g, over_is, function_is) = over_call_ok (over answers says defined o) (also WindowFunction.aggregate (count_rows answers says filter)) c e in
        let (a, is, same) = also-ok WindowFunction.aggregate (count_rows answers says filter) g function_is in
        join (maybe_parts filter ++ over_parts o) _ (join (maybe_parts filter) (over_parts o) (count_told filter a is) (over_told defined o v over_is))
        (one (record { is = λ table name same. absurd cc }))
    call_told defined (ExprTree.Call function items (BehindTree.Behind filter o)) c e =
        let (v, g, over_is, function_is) =
        over_call_ok (over answers says defined o)
        (function_or (aggregate_call answers says (aggregate_named function) items filter) (ranking_unless answers says filter function items)) c e in
        let (all, of) = function_told filter function items g (aggregate_call answers says (aggregate_named function) items filter) refl function_is in
        join (all_parts items ++ (maybe_parts filter ++ over_parts o)) _
        (join (all_parts items) (maybe_parts filter ++ over_parts o) all (join (maybe_parts filter) (over_parts o) of (over_told defined o v over_is)))
        (one (record { is = λ table name same. absurd cc }))
    call_told defined _ c e = absurd cc

    pub windows_tell : (defined : List Defined) (width : ℕ) (calls : List WindowCall) → Tells (windows_say answers says defined width calls)
    windows_tell defined width calls = record { known = λ part t e. by part t (call_of answers says defined part) refl e }
      where
        by : (part : ExprTree) (t : Term) (o : Option (Result WindowCall Fault)) → call_of answers says defined part ≡ o
            → call_column width calls o (says part) ≡ Ok (Some t) → Each (IsNamed scope) (parts part)
        by part t None is e = tells.known part t e
        by part t (Some r) is e = let (c, of, same) = also-ok _ r (Some t) e in call_told defined part c (is ∙ ap Some of)

  -- ---- the places

  pub columns_tell : Tells (columns_say scope)
  columns_tell = record { known = by }
    where
      by : (part : ExprTree) (t : Term) → columns_say scope part ≡ Ok (Some t) → Each (IsNamed scope) (parts part)
      by (ExprTree.Column table name) t e =
          let (u, is, same) = also-ok Some (column_of scope table name) (Some t) e in
          one (record {
            is = λ other called same.
                let tables : table ≡ other = cc in
                let names : name ≡ called = cc in
                subst₂ (λ table name. IsGiven (column_of scope table name)) tables names (u, is);
          })
      by _ t e = absurd cc

  pub groups_tell : (by : List Term) (aggregates : List Aggregate) → Tells (groups_say answers scope by aggregates)
  groups_tell by aggregates = record { known = λ part t e. key part t (term_of answers (columns_say scope) part) refl e }
    where
      aggregated : (part : ExprTree) (t : Term) (o : Option (Result Aggregate Fault)) → aggregate_of answers (columns_say scope) part ≡ o
          → aggregate_column (length by) aggregates o ≡ Ok (Some t) → Each (IsNamed scope) (parts part)
      aggregated part t None is e = absurd cc
      aggregated part t (Some r) is e =
          let (a, of, same) = also-ok _ r (Some t) e in aggregate_told (columns_say scope) columns_tell part a (is ∙ ap Some of)

      bare_none : (r : Result Term Fault) (t : Term) → bare r ≡ Ok (Some t) → ⊥
      bare_none (Ok u) t e = absurd cc
      bare_none (Err fault) t e = absurd cc

      beside : (part : ExprTree) (t : Term) → beside_keys answers scope by aggregates part ≡ Ok (Some t) → Each (IsNamed scope) (parts part)
      beside (ExprTree.Column table name) t e = absurd (bare_none (column_of scope table name) t e)
      beside part t e = aggregated part t (aggregate_of answers (columns_say scope) part) refl e

      key : (part : ExprTree) (t : Term) (r : Result Term Fault) → term_of answers (columns_say scope) part ≡ r
          → key_or (key_column by r) (beside_keys answers scope by aggregates part) ≡ Ok (Some t) → Each (IsNamed scope) (parts part)
      key part t (Ok u) is e = told (columns_say scope) columns_tell part u is
      key part t (Err fault) is e = beside part t e
