-- What the places of a SELECT say of a part of an expression.
use Rattle.std.proofs.Common.{◌≡◌, ◌⊎◌, inl, inr, Bool, true, false, if◌then◌else◌, true≢false, ℕ, pos, List, [], ◌∷◌, ◌++◌, length, map, Option, Some, None, Result, Ok, Err, All, refl, sym, subst, ◌∙◌}
use Rattle.std.specs.Str.{str_eq_ignore_ascii_case}
use Rattle.std.proofs.lemmas.List.Elements.{All-cons, All-nil}
use Rattle.values.specs.Datum.{null}
use Rattle.values.specs.declared.fault.Fault.{Fault}
use Rattle.values.specs.declared.fault.Fault.TheVariants.{BadFrame, BareColumn, WrongPlace}
use Rattle.expr.specs.Term.{Term, literal}
use Rattle.sql_reader_syntax.specs.ExprTree.{BehindTree, ExprTree, ExprTrees, MaybeExpr, OverTree, TermTrees, WindowTree}
use Rattle.sql_reader_syntax.specs.Tree.{Name}
use Rattle.sql_reader_syntax.specs.declared.expr.Function.{Function}
use Rattle.sql_reader_syntax.specs.declared.expr.Function.TheVariants as w
use Rattle.semantics.specs.Query.{always, filtered, Aggregate, AggregateFunction, Window, WindowCall, WindowFunction}
use Rattle.semantics_names.specs.Expression.{Answers, Says, term_of, terms_of}
use Rattle.semantics_names.specs.Laws.{IsSameInAnyCase, IsScalar}
use Rattle.semantics_names.specs.Outcome.{also, both, followed}
use Rattle.semantics_names.specs.Parts.{all_parts, maybe_parts, over_parts, parts, terms_parts, window_parts}
use Rattle.semantics_names.specs.Places.{Defined, aggregate, aggregate_call, aggregate_column, aggregate_named, aggregate_of, bare, beside_keys, call_column, call_of, columns_say, count_rows, defined_as, filter_of, frame_of, function_or, groups_say, key_column, key_or, of_term, over, over_call, ranking, ranking_unless, sorted, window, window_call, window_of, windows_say}
use Rattle.semantics_names.specs.Scope.{Scope, column_of}
use Rattle.semantics_refusals.specs.BadFrames.{IsOver}
use Rattle.semantics_refusals.specs.WrongPlaces.{HasOver, IsAggregate, Measures, Ranks, inside_call}
use Rattle.semantics_refusals.proofs.OutcomeLemmas.{Only, OnlySome, Takes, also_back, also_only, both_only, followed_only, nothing, ok, refused, some}
use Rattle.semantics_refusals.proofs.PartLemmas.{Each, back, first, front, more, none, rest}
use Rattle.semantics_refusals.proofs.TermLemmas.{Base, IsFineCall, Sound, frame_in, term_only, terms_only}

-- ---- a name of a column is never passed over

pub columns_named : (scope : Scope) (part : ExprTree) (table : Option Name) (name : Name) → part ≡ ExprTree.Column table name
    → columns_say scope part ≡ Ok None → ⊥
columns_named scope part table name same none =
    some_none (column_of scope table name) (subst (λ part. columns_say scope part ≡ Ok None) same none)
  where
    some_none : (r : Result Term Fault) → also Some r ≡ Ok None → ⊥
    some_none (Ok t) e = absurd cc
    some_none (Err fault) e = absurd cc

pub groups_named : (answers : Answers) (scope : Scope) (by : List Term) (aggregates : List Aggregate) (part : ExprTree) (table : Option Name) (name : Name)
    → part ≡ ExprTree.Column table name → groups_say answers scope by aggregates part ≡ Ok None → ⊥
groups_named answers scope by aggregates part table name same none =
    key_none (key_column by (term_of answers (columns_say scope) (ExprTree.Column table name))) (column_of scope table name)
    (subst (λ part. groups_say answers scope by aggregates part ≡ Ok None) same none)
  where
    key_none : (key : Option Term) (r : Result Term Fault) → key_or key (bare r) ≡ Ok None → ⊥
    key_none (Some t) r e = absurd cc
    key_none None (Ok t) e = absurd cc
    key_none None (Err fault) e = absurd cc

pub windows_named : (answers : Answers) (says : Says) (defined : List Defined) (width : ℕ) (calls : List WindowCall) (part : ExprTree) (table : Option Name)
    (name : Name) → part ≡ ExprTree.Column table name → (says part ≡ Ok None → ⊥) → windows_say answers says defined width calls part ≡ Ok None → ⊥
windows_named answers says defined width calls part table name same apart none =
    apart (subst (λ part. says part ≡ Ok None) (sym same) (subst (λ part. windows_say answers says defined width calls part ≡ Ok None) same none))

-- what speaks of the columns of FROM alone
pub plainly : (F : Fault → Type 0) (windows : List Name) (answers : Answers) (scope : Scope) (xs : List ExprTree) → Each (Base F windows answers scope) xs
    → Each (λ part. ¬ IsScalar part → F WrongPlace) xs → Each (Sound F windows answers (columns_say scope)) xs
plainly F windows answers scope [] all fits = none
plainly F windows answers scope (x ∷ xs) all fits =
    more x xs (record {
      said = (first all).said;
      answered = (first all).answered;
      framed = (first all).framed;
      named = columns_named scope x;
      fits = λ _. first fits;
    }) (plainly F windows answers scope xs (rest all) (rest fits))

module _ (F : Fault → Type 0) (takes : Takes F) (windows : List Name) where
  bare_only : (r : Result Term Fault) → Only F r → F BareColumn → Only F (bare r)
  bare_only (Ok t) o is = refused BareColumn is
  bare_only (Err fault) o is = record { is = o.is }

  key_only : (key : Option Term) (otherwise : Result (Option Term) Fault) → Only F otherwise → Only F (key_or key otherwise)
  key_only (Some t) otherwise o = ok _
  key_only None otherwise o = o

  column_from_only : (at : ℕ) (all : List Aggregate) (o : Option (Result Aggregate Fault)) → OnlySome F o → Only F (aggregate_column at all o)
  column_from_only at all None s = ok None
  column_from_only at all (Some r) s = also_only _ r s.is

  -- ---- windows

  defined_only : (defined : List Defined) (name : Name)
      → (All (λ other. ¬ IsSameInAnyCase other name) (map (λ (d : Defined). d.name) defined) → F BadFrame) → Only F (defined_as defined name)
  defined_only [] name none = refused BadFrame (none (All-nil (λ other. ¬ IsSameInAnyCase other name)))
  defined_only (d ∷ ds) name none = by (str_eq_ignore_ascii_case d.name name) refl (λ more. defined_only ds name more)
    where
      by : (b : Bool) → str_eq_ignore_ascii_case d.name name ≡ b
          → ((All (λ other. ¬ IsSameInAnyCase other name) (map (λ (d : Defined). d.name) ds) → F BadFrame) → Only F (defined_as ds name))
          → Only F (if b then Ok d.window else defined_as ds name)
      by true same rest = ok d.window
      by false apart rest =
          rest (λ all. none (All-cons (λ other. ¬ IsSameInAnyCase other name) d.name (map (λ (d : Defined). d.name) ds)
          (λ same. true≢false (sym same ∙ apart)) all))

  over_call_only : (o : Option (Result Window Fault)) (function : Result WindowFunction Fault) → OnlySome F o → Only F function
      → OnlySome F (over_call o function)
  over_call_only None function s o = nothing
  over_call_only (Some window) function s o = some _ (both_only window_call function window o s.is)

  call_column_only : (at : ℕ) (calls : List WindowCall) (o : Option (Result WindowCall Fault)) (beneath : Result (Option Term) Fault) → OnlySome F o
      → Only F beneath → Only F (call_column at calls o beneath)
  call_column_only at calls None beneath s o = o
  call_column_only at calls (Some r) beneath s o = also_only _ r s.is

  module _ (answers : Answers) where
    module _ (says : Says) where
      term_so : (e : ExprTree) → Each (Sound F windows answers says) (parts e) → Only F (term_of answers says e)
      term_so = term_only F windows answers says

      filter_only : (filter : MaybeExpr) (argument : Term) → Each (Sound F windows answers says) (maybe_parts filter) → Only F (filter_of answers says filter argument)
      filter_only MaybeExpr.Absent argument all = ok argument
      filter_only (MaybeExpr.Present e) argument all = also_only (λ condition. filtered condition argument) (term_of answers says e) (term_so e all)

      -- an aggregate function over an expression
      measured : (function : AggregateFunction) (e : ExprTree) (filter : MaybeExpr)
          → Each (Sound F windows answers says) (all_parts (ExprTrees.More e ExprTrees.No_more)) → Each (Sound F windows answers says) (maybe_parts filter)
          → Only F (also (aggregate function) (followed (term_of answers says e) (filter_of answers says filter)))
      measured function e filter all of =
          also_only (aggregate function) _ (followed_only (term_of answers says e) (filter_of answers says filter)
          (term_so e (front (parts e) [] all)) (λ t. filter_only filter t of))

      count_only : (filter : MaybeExpr) → Each (Sound F windows answers says) (maybe_parts filter) → Only F (count_rows answers says filter)
      count_only filter of = also_only (aggregate AggregateFunction.count) (filter_of answers says filter always) (filter_only filter always of)

      measure_only : (function : Function) (items : ExprTrees) (filter : MaybeExpr)
          → (Measures function items → Each (Sound F windows answers says) (all_parts items ++ (maybe_parts filter ++ [])))
          → OnlySome F (aggregate_call answers says (aggregate_named function) items filter)
      measure_only w.Count (ExprTrees.More e ExprTrees.No_more) filter so =
          some _ (measured AggregateFunction.count e filter (front (all_parts (ExprTrees.More e ExprTrees.No_more)) (maybe_parts filter ++ []) (so tt))
          (front (maybe_parts filter) [] (back (all_parts (ExprTrees.More e ExprTrees.No_more)) (maybe_parts filter ++ []) (so tt))))
      measure_only w.Sum (ExprTrees.More e ExprTrees.No_more) filter so =
          some _ (measured AggregateFunction.sum e filter (front (all_parts (ExprTrees.More e ExprTrees.No_more)) (maybe_parts filter ++ []) (so tt))
          (front (maybe_parts filter) [] (back (all_parts (ExprTrees.More e ExprTrees.No_more)) (maybe_parts filter ++ []) (so tt))))
      measure_only w.Min (ExprTrees.More e ExprTrees.No_more) filter so =
          some _ (measured AggregateFunction.min e filter (front (all_parts (ExprTrees.More e ExprTrees.No_more)) (maybe_parts filter ++ []) (so tt))
          (front (maybe_parts filter) [] (back (all_parts (ExprTrees.More e ExprTrees.No_more)) (maybe_parts filter ++ []) (so tt))))
      measure_only w.Max (ExprTrees.More e ExprTrees.No_more) filter so =
          some _ (measured AggregateFunction.max e filter (front (all_parts (ExprTrees.More e ExprTrees.No_more)) (maybe_parts filter ++ []) (so tt))
          (front (maybe_parts filter) [] (back (all_parts (ExprTrees.More e ExprTrees.No_more)) (maybe_parts filter ++ []) (so tt))))
      measure_only _ _ filter so = nothing

      pub aggregate_only : (part : ExprTree) → (IsAggregate part → Each (Sound F windows answers says) (inside_call part))
          → OnlySome F (aggregate_of answers says part)
      aggregate_only (ExprTree.CountRows (BehindTree.Behind filter OverTree.No_over)) so = some _ (count_only filter (front (maybe_parts filter) [] (so tt)))
      aggregate_only (ExprTree.Call function items (BehindTree.Behind filter OverTree.No_over)) so = measure_only function items filter so
      aggregate_only _ so = nothing

      sorted_only : (order : TermTrees) → Each (Sound F windows answers says) (terms_parts order) → Only F (sorted answers says order)
      sorted_only TermTrees.No_term all = ok _
      sorted_only (TermTrees.Term e direction more) all =
          both_only _ (term_of answers says e) (sorted answers says more) (term_so e (front (parts e) (terms_parts more) all))
          (sorted_only more (back (parts e) (terms_parts more) all))

      pub window_only : (v : WindowTree) → Each (Sound F windows answers says) (window_parts v) → Only F (frame_of (frame_in v))
          → Only F (window_of answers says v)
      window_only (WindowTree.Window partition order frame) all framed =
          followed_only (terms_of answers says partition) _
          (terms_only F windows answers says partition (front (all_parts partition) (terms_parts order) all))
          (λ ts. both_only (window ts) (sorted answers says order) (frame_of frame)
          (sorted_only order (back (all_parts partition) (terms_parts order) all)) framed)

      over_only : (defined : List Defined) → map (λ (d : Defined). d.name) defined ≡ windows → (part : ExprTree) (o : OverTree) → IsOver part o
          → IsFineCall F windows part → Each (Sound F windows answers says) (over_parts o) → OnlySome F (over answers says defined o)
      over_only defined named part OverTree.No_over is framed all = nothing
      over_only defined named part (OverTree.OverName name) is framed all =
          some _ (defined_only defined name (λ apart. framed.defined name is (subst (All (λ other. ¬ IsSameInAnyCase other name)) named apart)))
      over_only defined named part (OverTree.Over v) is framed all = some _ (window_only v all (framed.frame v is))

      of_term_only : (function : Term → WindowFunction) (e : ExprTree) → Each (Sound F windows answers says) (parts e) → Only F (of_term answers says function e)
      of_term_only function e all = also_only function (term_of answers says e) (term_so e all)

      two_only : (function : Term → Term → WindowFunction) (e d : ExprTree) → Each (Sound F windows answers says) (parts e) → Each (Sound F windows answers says) (parts d)
          → Only F (both function (term_of answers says e) (term_of answers says d))
      two_only function e d all more = both_only function (term_of answers says e) (term_of answers says d) (term_so e all) (term_so d more)

      -- the last of three arguments, the second of which is a number
      last_of : (e : ExprTree) (n : ℕ) (d : ExprTree) → Each (Sound F windows answers says)
          (all_parts (ExprTrees.More e (ExprTrees.More (ExprTree.Number (pos n)) (ExprTrees.More d ExprTrees.No_more)))) → Each (Sound F windows answers says) (parts d)
      last_of e n d all = front (parts d) [] (back (ExprTree.Number (pos n) ∷ []) (parts d ++ []) (back (parts e) _ all))

      ranking_only : (name : Function) (items : ExprTrees) → (¬ Ranks name items → F WrongPlace) → Each (Sound F windows answers says) (all_parts items) → Only F (ranking answers says name items)
      ranking_only w.RowNumber ExprTrees.No_more so all = ok _
      ranking_only w.Rank ExprTrees.No_more so all = ok _
      ranking_only w.DenseRank ExprTrees.No_more so all = ok _
      ranking_only w.NTile (ExprTrees.More (ExprTree.Number (pos n)) ExprTrees.No_more) so all = ok _
      ranking_only w.FirstValue (ExprTrees.More e ExprTrees.No_more) so all = of_term_only WindowFunction.first_value e (front (parts e) [] all)
      ranking_only w.LastValue (ExprTrees.More e ExprTrees.No_more) so all = of_term_only WindowFunction.last_value e (front (parts e) [] all)
      ranking_only w.NthValue (ExprTrees.More e (ExprTrees.More (ExprTree.Number (pos n)) ExprTrees.No_more)) so all =
          of_term_only (λ t. WindowFunction.nth_value t n) e (front (parts e) _ all)
      ranking_only w.Lag (ExprTrees.More e ExprTrees.No_more) so all = of_term_only (λ t. WindowFunction.lag t 1 (literal null)) e (front (parts e) [] all)
      ranking_only w.Lag (ExprTrees.More e (ExprTrees.More (ExprTree.Number (pos n)) ExprTrees.No_more)) so all =
          of_term_only (λ t. WindowFunction.lag t n (literal null)) e (front (parts e) _ all)
      ranking_only w.Lag (ExprTrees.More e (ExprTrees.More (ExprTree.Number (pos n)) (ExprTrees.More d ExprTrees.No_more))) so all =
          two_only (λ t otherwise. WindowFunction.lag t n otherwise) e d (front (parts e) _ all) (last_of e n d all)
      ranking_only w.Lead (ExprTrees.More e ExprTrees.No_more) so all = of_term_only (λ t. WindowFunction.lead t 1 (literal null)) e (front (parts e) [] all)
      ranking_only w.Lead (ExprTrees.More e (ExprTrees.More (ExprTree.Number (pos n)) ExprTrees.No_more)) so all =
          of_term_only (λ t. WindowFunction.lead t n (literal null)) e (front (parts e) _ all)
      ranking_only w.Lead (ExprTrees.More e (ExprTrees.More (ExprTree.Number (pos n)) (ExprTrees.More d ExprTrees.No_more))) so all =
          two_only (λ t otherwise. WindowFunction.lead t n otherwise) e d (front (parts e) _ all) (last_of e n d all)
      ranking_only _ _ so all = refused WrongPlace (so (λ ranks. ranks))

      present_none : (e : ExprTree) → MaybeExpr.Present e ≡ MaybeExpr.Absent → ⊥
      present_none e same = absurd cc

      ranking_unless_only : (filter : MaybeExpr) (name : Function) (items : ExprTrees) → (¬ ((filter ≡ MaybeExpr.Absent) × Ranks name items) → F WrongPlace)
          → Each (Sound F windows answers says) (all_parts items) → Only F (ranking_unless answers says filter name items)
      ranking_unless_only MaybeExpr.Absent name items so all = ranking_only name items (λ apart. so (λ both. apart both.1)) all
      ranking_unless_only (MaybeExpr.Present e) name items so all = refused WrongPlace (so (λ both. present_none e both.0))

      neither : {M R : Type 0} → (M → ⊥) → (R → ⊥) → M ⊎ R → ⊥
      neither no_m no_r (inl m) = no_m m
      neither no_m no_r (inr r) = no_r r

      -- what is before OVER
      before_over : (name : Function) (items : ExprTrees) (filter : MaybeExpr)
          → (¬ (Measures name items ⊎ ((filter ≡ MaybeExpr.Absent) × Ranks name items)) → F WrongPlace)
          → Each (Sound F windows answers says) (all_parts items) → Each (Sound F windows answers says) (maybe_parts filter)
          → Only F (function_or (aggregate_call answers says (aggregate_named name) items filter) (ranking_unless answers says filter name items))
      before_over w.Count (ExprTrees.More e ExprTrees.No_more) filter may given of =
          also_only WindowFunction.aggregate _ (measured AggregateFunction.count e filter given of)
      before_over w.Sum (ExprTrees.More e ExprTrees.No_more) filter may given of =
          also_only WindowFunction.aggregate _ (measured AggregateFunction.sum e filter given of)
      before_over w.Min (ExprTrees.More e ExprTrees.No_more) filter may given of =
          also_only WindowFunction.aggregate _ (measured AggregateFunction.min e filter given of)
      before_over w.Max (ExprTrees.More e ExprTrees.No_more) filter may given of =
          also_only WindowFunction.aggregate _ (measured AggregateFunction.max e filter given of)
      before_over name items filter may given of = ranking_unless_only filter name items (λ apart. may (neither (λ m. m) apart)) given

      counted_over : (defined : List Defined) → map (λ (d : Defined). d.name) defined ≡ windows → (filter : MaybeExpr) (o : OverTree)
          → IsFineCall F windows (ExprTree.CountRows (BehindTree.Behind filter o)) → Each (Sound F windows answers says) (maybe_parts filter ++ over_parts o)
          → OnlySome F (over_call (over answers says defined o) (also WindowFunction.aggregate (count_rows answers says filter)))
      counted_over defined named filter o framed of =
          over_call_only (over answers says defined o) _
          (over_only defined named (ExprTree.CountRows (BehindTree.Behind filter o)) o IsOver.rows framed (back (maybe_parts filter) (over_parts o) of))
          (also_only WindowFunction.aggregate (count_rows answers says filter) (count_only filter (front (maybe_parts filter) (over_parts o) of)))

      called_over : (defined : List Defined) → map (λ (d : Defined). d.name) defined ≡ windows → (function : Function) (items : ExprTrees)
          (filter : MaybeExpr) (o : OverTree) → IsFineCall F windows (ExprTree.Call function items (BehindTree.Behind filter o))
          → (¬ (Measures function items ⊎ ((filter ≡ MaybeExpr.Absent) × Ranks function items)) → F WrongPlace)
          → Each (Sound F windows answers says) (all_parts items ++ (maybe_parts filter ++ over_parts o))
          → OnlySome F (over_call (over answers says defined o)
          (function_or (aggregate_call answers says (aggregate_named function) items filter) (ranking_unless answers says filter function items)))
      called_over defined named function items filter o framed may of =
          let given = front (all_parts items) (maybe_parts filter ++ over_parts o) of in
          let after = back (all_parts items) (maybe_parts filter ++ over_parts o) of in
          over_call_only (over answers says defined o) _
          (over_only defined named (ExprTree.Call function items (BehindTree.Behind filter o)) o IsOver.call framed
          (back (maybe_parts filter) (over_parts o) after))
          (before_over function items filter may given (front (maybe_parts filter) (over_parts o) after))

      pub call_only : (defined : List Defined) → map (λ (d : Defined). d.name) defined ≡ windows → (part : ExprTree) → IsFineCall F windows part
          → (HasOver part → Each (Sound F windows answers says) (inside_call part)) → OnlySome F (call_of answers says defined part)
      call_only defined named (ExprTree.CountRows (BehindTree.Behind filter OverTree.No_over)) framed so = nothing
      call_only defined named (ExprTree.CountRows (BehindTree.Behind filter (OverTree.OverName name))) framed so =
          counted_over defined named filter (OverTree.OverName name) framed (so tt)
      call_only defined named (ExprTree.CountRows (BehindTree.Behind filter (OverTree.Over v))) framed so =
          counted_over defined named filter (OverTree.Over v) framed (so tt)
      call_only defined named (ExprTree.Call function items (BehindTree.Behind filter OverTree.No_over)) framed so = nothing
      call_only defined named (ExprTree.Call function items (BehindTree.Behind filter (OverTree.OverName name))) framed so =
          called_over defined named function items filter (OverTree.OverName name) framed (framed.function tt) (so tt)
      call_only defined named (ExprTree.Call function items (BehindTree.Behind filter (OverTree.Over v))) framed so =
          called_over defined named function items filter (OverTree.Over v) framed (framed.function tt) (so tt)
      call_only defined named _ framed so = nothing

      pub windows_only : (defined : List Defined) → map (λ (d : Defined). d.name) defined ≡ windows → (width : ℕ) (calls : List WindowCall) (part : ExprTree)
          → IsFineCall F windows part → (HasOver part → Each (Sound F windows answers says) (inside_call part)) → Only F (says part)
          → Only F (windows_say answers says defined width calls part)
      windows_only defined named width calls part framed so said =
          call_column_only width calls (call_of answers says defined part) (says part) (call_only defined named part framed so) said

    beside_only : (scope : Scope) (by : List Term) (aggregates : List Aggregate) (part : ExprTree) → Only F (columns_say scope part)
        → (IsAggregate part → Each (Sound F windows answers (columns_say scope)) (inside_call part)) → F BareColumn
        → Only F (beside_keys answers scope by aggregates part)
    beside_only scope by aggregates (ExprTree.Column table name) said so is =
        bare_only (column_of scope table name) (also_back Some (column_of scope table name) said) is
    beside_only scope by aggregates part said so is =
        column_from_only (length by) aggregates (aggregate_of answers (columns_say scope) part) (aggregate_only (columns_say scope) part so)

    pub groups_only : (scope : Scope) (by : List Term) (aggregates : List Aggregate) (part : ExprTree) → Only F (columns_say scope part)
        → (IsAggregate part → Each (Sound F windows answers (columns_say scope)) (inside_call part)) → F BareColumn
        → Only F (groups_say answers scope by aggregates part)
    groups_only scope by aggregates part said so is =
        key_only (key_column by (term_of answers (columns_say scope) part)) (beside_keys answers scope by aggregates part)
        (beside_only scope by aggregates part said so is)
