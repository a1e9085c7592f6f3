-- A statement in which a column is bare is no query.
use Rattle.std.proofs.Common.{◌≡◌, ◌⊎◌, inl, inr, Bool, true, false, ℕ, zero, suc, ◌+◌, ℤ, pos, List, [], ◌∷◌, ◌++◌, length, Option, Some, None, Result, Ok, Err, Contains, nat_le, ap, ap₂, refl, sym, subst, subst₂, ◌∙◌, arith}
use Rattle.std.specs.List.{filter_map}
use Rattle.std.proofs.lemmas.List.Elements.{Contains-append_cases}
use Rattle.values.specs.declared.fault.Fault.{Fault}
use Rattle.values.specs.declared.fault.Fault.TheVariants.{DuplicateName, Limit, UnknownColumn, WrongPlace}
use Rattle.values.specs.Datum.{null}
use Rattle.expr.specs.Term.{Term, literal}
use Rattle.semantics.specs.Query.{always, filtered, Aggregate, AggregateFunction, KeyTerm, SortTerm, Window, WindowCall, WindowFunction}
use Rattle.sql_reader_syntax.specs.ExprTree.{ArmTrees, BehindTree, CoreTree, DefinitionTrees, ExprTree, ExprTrees, MaybeExpr, OverTree, QueryTree, ResultTree, ResultTrees, TermTrees, WindowTree}
use Rattle.sql_reader_syntax.specs.StatementTree.{ItemTree}
use Rattle.sql_reader_syntax.specs.Tree.{Name}
use Rattle.sql_reader_syntax.specs.declared.expr.Function as written
use Rattle.sql_reader_syntax.specs.declared.expr.Function.TheVariants as w
use Rattle.semantics_names.specs.Expression.{Answers, InnerTree, Says, among_answer, among_items, arms_of, between_bounds, binary, called, case, operand_of, otherwise_of, postfix, prefix, term_of, terms_of}
use Rattle.semantics_names.specs.Laws.{SameIsEqual}
use Rattle.semantics_names.specs.Outcome.{also, both, chosen, each, followed}
use Rattle.semantics_names.specs.Parts.{inner_trees, parts_behind_groups}
use Rattle.semantics_names.specs.Places.{Defined, aggregate, aggregate_call, aggregate_column, aggregate_named, aggregate_of, bare, beside_keys, call_column, call_of, columns_say, count_rows, filter_of, frame_of, function_or, groups_say, key_column, key_or, of_term, over, over_call, place_of, ranking, ranking_unless, sorted, window, window_call, window_of, windows_say}
use Rattle.semantics_names.specs.Same.{is_same_aggregate, is_same_call, is_same_term}
use Rattle.semantics_names.specs.Scope.{Scope, column_of}
use Rattle.semantics_names.specs.Sources.{Known}
use Rattle.semantics_names.specs.Statement.{CoreData, Inner, Input, Queried, ResultColumn, With, all_results, are_distinct, as_input, behind_groups, by_of, condition_of, core_of, defined_of, finished, firsts, from_of, from_tree, group_term, grouping_of, inner_of, input_of, keys_of, max_columns, max_levels, named, on_row, or_bare, queried, query_of, result, results_of, single, some_of, starred, starred_of, window_names, with_inners, with_items}
use Rattle.semantics_names.specs.Typed.{Table, column_types, known_tables, with_types}
use Rattle.semantics_names.proofs.OneLemmas.{one_ok}
use Rattle.semantics_names.proofs.OutcomeLemmas.{also-ok, both-ok, checked-ok, followed-ok}
use Rattle.semantics_refusals.specs.BareColumns.{BareColumnIsRefused, HasBare, HasGroups, IsAfterGroups, IsGroupExpression, IsStarred, Operands, StandsOutside, after_in, arms_in, definitions_in, directly_in, maybe_in, operand_answers, over_in, values_in, window_in}
use Rattle.semantics_refusals.specs.Columns.{Shows, names_of_results}
use Rattle.semantics_refusals.specs.UnknownColumns.{IsNoResult}
use Rattle.semantics_refusals.specs.WrongPlaces.{IsAggregate, IsNoNumber, IsNumber, expressions, groups_in}
use Rattle.semantics_refusals.specs.Written.{HasQuery, levels_around, terms_in}
use Rattle.semantics_refusals.proofs.BareLemmas.{cases, head_or, keyed_is, no_element, place_column, place_group_term}
use Rattle.semantics_refusals.proofs.CoreToldLemmas.{keys_given}
use Rattle.semantics_refusals.proofs.NameLemmas.{all_names, names_in}
use Rattle.semantics_refusals.proofs.OkLemmas.{IsGiven, each-ok}
use Rattle.semantics_refusals.proofs.PartLemmas.{Each, among, join, more, none, one, weaker}
use Rattle.semantics_refusals.proofs.PlacedLemmas.{IsPlace, aggregate_is, aggregate_some, all_found}
use Rattle.semantics_refusals.proofs.SameColumnLemmas.{listed_same, same_inside, shows_one}
use Rattle.semantics_refusals.proofs.TakenLemmas.{answers_with, inner_taken, inside, single_in}
use Rattle.semantics_refusals.proofs.WithLemmas.{no_items, query_taken}
use Rattle.semantics_refusals.proofs.WrongPlaceLemmas.{computed}

-- ---- an expression that is taken

chosen-ok : {A : Type 0} (r : Result (Option A) Fault) (s : Result A Fault) (a : A) → chosen r s ≡ Ok a → (r ≡ Ok (Some a)) ⊎ (s ≡ Ok a)
chosen-ok (Ok (Some b)) s a e = let same : b ≡ a = cc in inl (ap (λ a. Ok (Some a)) same)
chosen-ok (Ok None) s a e = inr e
chosen-ok (Err fault) s a e = absurd cc

over_call_ok : (o : Option (Result Window Fault)) (f : Result WindowFunction Fault) (c : WindowCall) → over_call o f ≡ Some (Ok c)
    → (v : Window) × (g : WindowFunction) × (o ≡ Some (Ok v)) × (f ≡ Ok g)
over_call_ok None f c e = absurd cc
over_call_ok (Some r) f c e =
    let is : both window_call f r ≡ Ok c = cc in
    let (g, v, first, second, same) = both-ok window_call f r c is in (v, g, ap Some second, first)

module _ (answers : Answers) (says : Says) where
  -- it is a term
  abbrev IsTerm : ExprTree → Type 0
  IsTerm x = IsGiven (term_of answers says x)

  -- or a number
  record IsTaken (x : ExprTree) : Type 0 where
    is : IsTerm x ⊎ ((z : ℤ) × (x ≡ ExprTree.Number z))

  taken : {xs : List ExprTree} → Each IsTerm xs → Each IsTaken xs
  taken all = weaker (λ x given. record { is = inl given }) all

  items_taken : (es : ExprTrees) (ts : List Term) → terms_of answers says es ≡ Ok ts → Each IsTerm (expressions es)
  items_taken ExprTrees.No_more ts e = none
  items_taken (ExprTrees.More x es) ts e =
      let (t, us, is, rest, same) = both-ok ◌∷◌ (term_of answers says x) (terms_of answers says es) ts e in
      more x (expressions es) (t, is) (items_taken es us rest)

  operand_taken : (m : MaybeExpr) (o : Option Term) → operand_of answers says m ≡ Ok o → Each IsTerm (maybe_in m)
  operand_taken MaybeExpr.Absent o e = none
  operand_taken (MaybeExpr.Present x) o e = let (t, is, same) = also-ok Some (term_of answers says x) o e in one (t, is)

  otherwise_taken : (m : MaybeExpr) (t : Term) → otherwise_of answers says m ≡ Ok t → Each IsTerm (maybe_in m)
  otherwise_taken MaybeExpr.Absent t e = none
  otherwise_taken (MaybeExpr.Present x) t e = one (t, e)

  arms_taken : (arms : ArmTrees) (us : List (Term × Term)) → arms_of answers says arms ≡ Ok us → Each IsTerm (arms_in arms)
  arms_taken ArmTrees.No_arm us e = none
  arms_taken (ArmTrees.Arm test value arms) us e =
      let (u, others, is, rest, same) =
      both-ok ◌∷◌ (both (λ c e. (c, e)) (term_of answers says test) (term_of answers says value)) (arms_of answers says arms) us e in
      let (c, d, first, second, made) = both-ok (λ c e. (c, e)) (term_of answers says test) (term_of answers says value) u is in
      more test (value ∷ arms_in arms) (c, first) (more value (arms_in arms) (d, second) (arms_taken arms others rest))

  called_taken : (after : BehindTree) (function : written.Function) (ts : List Term) (t : Term) → called after function ts ≡ Ok t
      → Each IsTerm (after_in after)
  called_taken (BehindTree.Behind MaybeExpr.Absent OverTree.No_over) function ts t e = none
  called_taken (BehindTree.Behind MaybeExpr.Absent (OverTree.OverName name)) function ts t e = absurd cc
  called_taken (BehindTree.Behind MaybeExpr.Absent (OverTree.Over v)) function ts t e = absurd cc
  called_taken (BehindTree.Behind (MaybeExpr.Present x) o) function ts t e = absurd cc

  -- a place says what it is, or what stands directly in it is taken
  abbrev IsMade : ExprTree → Type 0
  IsMade e = ((u : Term) × (says e ≡ Ok (Some u))) ⊎ Each IsTerm (directly_in e)

  made : (e : ExprTree) (rest : Result Term Fault) (t : Term) → (rest ≡ Ok t → Each IsTerm (directly_in e)) → chosen (says e) rest ≡ Ok t → IsMade e
  made e rest t so is = cases (chosen-ok (says e) rest t is) (λ said. inl (t, said)) (λ d. inr (so d))

  term_made : (e : ExprTree) (t : Term) → term_of answers says e ≡ Ok t → IsMade e
  term_made (ExprTree.Prefix op x) t e =
      made (ExprTree.Prefix op x) _ t (λ d. let (u, is, same) = also-ok (prefix op) (term_of answers says x) t d in one (u, is)) e
  term_made (ExprTree.Binary op x y) t e =
      made (ExprTree.Binary op x y) _ t (λ d.
      let (u, v, is, so, same) = both-ok (binary op) (term_of answers says x) (term_of answers says y) t d in
      more x (y ∷ []) (u, is) (one (v, so))) e
  term_made (ExprTree.Postfix op x) t e =
      made (ExprTree.Postfix op x) _ t (λ d. let (u, is, same) = also-ok (postfix op) (term_of answers says x) t d in one (u, is)) e
  term_made (ExprTree.Between not x low high) t e =
      made (ExprTree.Between not x low high) _ t (λ d.
      let (u, is, rest) = followed-ok (term_of answers says x) _ t d in
      let (a, b, lower, upper, same) = both-ok (between_bounds not u) (term_of answers says low) (term_of answers says high) t rest in
      more x (low ∷ high ∷ []) (u, is) (more low (high ∷ []) (a, lower) (one (b, upper)))) e
  term_made (ExprTree.In not x items) t e =
      made (ExprTree.In not x items) _ t (λ d.
      let (u, us, is, rest, same) = both-ok (among_items not) (term_of answers says x) (terms_of answers says items) t d in
      more x (expressions items) (u, is) (items_taken items us rest)) e
  term_made (ExprTree.InQuery not x query) t e =
      made (ExprTree.InQuery not x query) _ t (λ d.
      let (u, members, is, rest, same) = both-ok (among_answer not) (term_of answers says x) (answers (InnerTree.values_in query)) t d in
      one (u, is)) e
  term_made (ExprTree.CountRows after) t e = made (ExprTree.CountRows after) _ t (λ d. absurd cc) e
  term_made (ExprTree.Call function items after) t e =
      made (ExprTree.Call function items after) _ t (λ d.
      let (ts, is, rest) = followed-ok (terms_of answers says items) (called after function) t d in
      join (expressions items) (after_in after) (items_taken items ts is) (called_taken after function ts t rest)) e
  term_made (ExprTree.Case operand arms otherwise) t e =
      made (ExprTree.Case operand arms otherwise) _ t (λ d.
      let (x, is, rest) = followed-ok (operand_of answers says operand) _ t d in
      let (us, u, so, last, same) = both-ok (case x) (arms_of answers says arms) (otherwise_of answers says otherwise) t rest in
      join (maybe_in operand ++ arms_in arms) (maybe_in otherwise)
      (join (maybe_in operand) (arms_in arms) (operand_taken operand x is) (arms_taken arms us so)) (otherwise_taken otherwise u last)) e
  term_made _ t e = inr none

  -- ---- windows

  filter_taken : (filter : MaybeExpr) (argument t : Term) → filter_of answers says filter argument ≡ Ok t → Each IsTerm (maybe_in filter)
  filter_taken MaybeExpr.Absent argument t e = none
  filter_taken (MaybeExpr.Present x) argument t e =
      let (u, is, same) = also-ok (λ condition. filtered condition argument) (term_of answers says x) t e in one (u, is)

  aggregate_call_taken : (function : Option AggregateFunction) (items : ExprTrees) (filter : MaybeExpr) (a : Aggregate)
      → aggregate_call answers says function items filter ≡ Some (Ok a) → Each IsTerm (expressions items) × Each IsTerm (maybe_in filter)
  aggregate_call_taken (Some function) (ExprTrees.More x ExprTrees.No_more) filter a e =
      let is : also (aggregate function) (followed (term_of answers says x) (filter_of answers says filter)) ≡ Ok a = cc in
      let (t, made, same) = also-ok (aggregate function) (followed (term_of answers says x) (filter_of answers says filter)) a is in
      let (u, of, rest) = followed-ok (term_of answers says x) (filter_of answers says filter) t made in (one (u, of), filter_taken filter u t rest)
  aggregate_call_taken _ _ filter a e = absurd cc

  sorted_taken : (order : TermTrees) (ts : List SortTerm) → sorted answers says order ≡ Ok ts → Each IsTerm (terms_in order)
  sorted_taken TermTrees.No_term ts e = none
  sorted_taken (TermTrees.Term x direction order) ts e =
      let (u, us, is, rest, same) = both-ok _ (term_of answers says x) (sorted answers says order) ts e in
      more x (terms_in order) (u, is) (sorted_taken order us rest)

  window_taken : (v : WindowTree) (made : Window) → window_of answers says v ≡ Ok made → Each IsTerm (window_in v)
  window_taken (WindowTree.Window partition order frame) made e =
      let (ts, is, rest) = followed-ok (terms_of answers says partition) _ made e in
      let (us, f, sort, last, same) = both-ok (window ts) (sorted answers says order) (frame_of frame) made rest in
      join (expressions partition) (terms_in order) (items_taken partition ts is) (sorted_taken order us sort)

  over_taken : (defined : List Defined) (o : OverTree) (v : Window) → over answers says defined o ≡ Some (Ok v) → Each IsTerm (over_in o)
  over_taken defined OverTree.No_over v e = none
  over_taken defined (OverTree.OverName name) v e = none
  over_taken defined (OverTree.Over x) v e = let is : window_of answers says x ≡ Ok v = cc in window_taken x v is

  number : (n : ℕ) → IsTaken (ExprTree.Number (pos n))
  number n = record { is = inr (pos n, refl) }

  of_taken : (function : Term → WindowFunction) (x : ExprTree) (g : WindowFunction) → of_term answers says function x ≡ Ok g → IsTaken x
  of_taken function x g e = let (u, is, same) = also-ok function (term_of answers says x) g e in record { is = inl (u, is) }

  two_taken : (function : Term → Term → WindowFunction) (x : ExprTree) (n : ℕ) (d : ExprTree) (g : WindowFunction)
      → both function (term_of answers says x) (term_of answers says d) ≡ Ok g → Each IsTaken (x ∷ ExprTree.Number (pos n) ∷ d ∷ [])
  two_taken function x n d g e =
      let (u, v, is, so, same) = both-ok function (term_of answers says x) (term_of answers says d) g e in
      more x (ExprTree.Number (pos n) ∷ d ∷ []) (record { is = inl (u, is) })
      (more (ExprTree.Number (pos n)) (d ∷ []) (number n) (one (record { is = inl (v, so) })))

  with_number : (x : ExprTree) (n : ℕ) → IsTaken x → Each IsTaken (x ∷ ExprTree.Number (pos n) ∷ [])
  with_number x n is = more x (ExprTree.Number (pos n) ∷ []) is (one (number n))

  ranking_taken : (name : written.Function) (items : ExprTrees) (g : WindowFunction) → ranking answers says name items ≡ Ok g → Each IsTaken (expressions items)
  ranking_taken w.RowNumber ExprTrees.No_more g e = none
  ranking_taken w.Rank ExprTrees.No_more g e = none
  ranking_taken w.DenseRank ExprTrees.No_more g e = none
  ranking_taken w.NTile (ExprTrees.More (ExprTree.Number (pos n)) ExprTrees.No_more) g e = one (number n)
  ranking_taken w.FirstValue (ExprTrees.More x ExprTrees.No_more) g e = one (of_taken WindowFunction.first_value x g e)
  ranking_taken w.LastValue (ExprTrees.More x ExprTrees.No_more) g e = one (of_taken WindowFunction.last_value x g e)
  ranking_taken w.NthValue (ExprTrees.More x (ExprTrees.More (ExprTree.Number (pos n)) ExprTrees.No_more)) g e =
      with_number x n (of_taken (λ t. WindowFunction.nth_value t n) x g e)
  ranking_taken w.Lag (ExprTrees.More x ExprTrees.No_more) g e = one (of_taken (λ t. WindowFunction.lag t 1 (literal null)) x g e)
  ranking_taken w.Lag (ExprTrees.More x (ExprTrees.More (ExprTree.Number (pos n)) ExprTrees.No_more)) g e =
      with_number x n (of_taken (λ t. WindowFunction.lag t n (literal null)) x g e)
  ranking_taken w.Lag (ExprTrees.More x (ExprTrees.More (ExprTree.Number (pos n)) (ExprTrees.More d ExprTrees.No_more))) g e =
      two_taken (λ t otherwise. WindowFunction.lag t n otherwise) x n d g e
  ranking_taken w.Lead (ExprTrees.More x ExprTrees.No_more) g e = one (of_taken (λ t. WindowFunction.lead t 1 (literal null)) x g e)
  ranking_taken w.Lead (ExprTrees.More x (ExprTrees.More (ExprTree.Number (pos n)) ExprTrees.No_more)) g e =
      with_number x n (of_taken (λ t. WindowFunction.lead t n (literal null)) x g e)
  ranking_taken w.Lead (ExprTrees.More x (ExprTrees.More (ExprTree.Number (pos n)) (ExprTrees.More d ExprTrees.No_more))) g e =
      two_taken (λ t otherwise. WindowFunction.lead t n otherwise) x n d g e
  ranking_taken _ _ g e = absurd cc

  unless_taken : (filter : MaybeExpr) (name : written.Function) (items : ExprTrees) (g : WindowFunction) → ranking_unless answers says filter name items ≡ Ok g
      → Each IsTaken (expressions items) × Each IsTaken (maybe_in filter)
  unless_taken MaybeExpr.Absent name items g e = (ranking_taken name items g e, none)
  unless_taken (MaybeExpr.Present x) name items g e = absurd cc

  function_taken : (filter : MaybeExpr) (name : written.Function) (items : ExprTrees) (g : WindowFunction) (o : Option (Result Aggregate Fault))
      → aggregate_call answers says (aggregate_named name) items filter ≡ o → function_or o (ranking_unless answers says filter name items) ≡ Ok g
      → Each IsTaken (expressions items) × Each IsTaken (maybe_in filter)
  function_taken filter name items g None is e = unless_taken filter name items g e
  function_taken filter name items g (Some r) is e =
      let (a, of, same) = also-ok WindowFunction.aggregate r g e in
      let (all, rest) = aggregate_call_taken (aggregate_named name) items filter a (is ∙ ap Some of) in (taken all, taken rest)

  call_taken : (defined : List Defined) (e : ExprTree) (c : WindowCall) → call_of answers says defined e ≡ Some (Ok c) → Each IsTaken (directly_in e)
  call_taken defined (ExprTree.CountRows (BehindTree.Behind filter o)) c e =
      let (v, g, window_is, function_is) = over_call_ok (over answers says defined o) (also WindowFunction.aggregate (count_rows answers says filter)) c e in
      let (a, is, same) = also-ok WindowFunction.aggregate (count_rows answers says filter) g function_is in
      let (t, of, made) = also-ok (aggregate AggregateFunction.count) (filter_of answers says filter always) a is in
      join (maybe_in filter) (over_in o) (taken (filter_taken filter always t of)) (taken (over_taken defined o v window_is))
  call_taken defined (ExprTree.Call function items (BehindTree.Behind filter o)) c e =
      let (v, g, window_is, function_is) =
      over_call_ok (over answers says defined o)
      (function_or (aggregate_call answers says (aggregate_named function) items filter) (ranking_unless answers says filter function items)) c e in
      let (all, rest) = function_taken filter function items g (aggregate_call answers says (aggregate_named function) items filter) refl function_is in
      join (expressions items) (maybe_in filter ++ over_in o) all (join (maybe_in filter) (over_in o) rest (taken (over_taken defined o v window_is)))
  call_taken defined _ c e = absurd cc

-- ---- a column that stands outside

number_outside : {answers : Answers} {scope : Scope} {core : CoreTree} {table : Option Name} {name : Name} {e : ExprTree}
    → StandsOutside answers scope core (ExprTree.Column table name) e → (z : ℤ) → IsNumber e z → ⊥
number_outside (StandsOutside.itself apart) z is = elim is [ ]
number_outside (StandsOutside.inside x apart loose there deeper) z IsNumber.plain = no_element x there
number_outside (StandsOutside.inside x apart loose there deeper) z (IsNumber.signed {e = y} is) =
    number_outside deeper z (subst (λ e. IsNumber e z) (only_one y x there) is)
  where
    only_one : (y x : ExprTree) → Contains (y ∷ []) x → y ≡ x
    only_one y x there = cases (head_or y [] x there) (λ same. same) (λ none. no_element x none)

module _ (equal : SameIsEqual) (answers : Answers) (scope : Scope) (core : CoreTree) (groups : ExprTrees) (are : groups_in core ≡ expressions groups)
    (keys : List Term) (keyed : by_of answers scope groups ≡ Ok keys) (aggregates : List Aggregate) where
  abbrev said : Says
  said = groups_say answers scope keys aggregates

  -- what is known over groups is an expression of GROUP BY or an aggregate
  said_is : (e : ExprTree) (t : Term) → said e ≡ Ok (Some t) → IsGroupExpression answers scope core e ⊎ IsAggregate e
  said_is e t is = by_key (key_column keys (term_of answers (columns_say scope) e)) refl is
    where
      no_bare : (r : Result Term Fault) → bare r ≡ Ok (Some t) → ⊥
      no_bare (Ok u) d = absurd cc
      no_bare (Err fault) d = absurd cc

      of_aggregate : (e : ExprTree) (o : Option (Result Aggregate Fault)) → aggregate_of answers (columns_say scope) e ≡ o
          → aggregate_column (length keys) aggregates o ≡ Ok (Some t) → IsAggregate e
      of_aggregate e None is d = absurd cc
      of_aggregate e (Some r) is d = aggregate_is answers (columns_say scope) e r is

      beside_is : (e : ExprTree) → beside_keys answers scope keys aggregates e ≡ Ok (Some t) → IsAggregate e
      beside_is (ExprTree.Column table name) d = no_bare (column_of scope table name) d
      beside_is e d = of_aggregate e (aggregate_of answers (columns_say scope) e) refl d

      by_key : (key : Option Term) → key_column keys (term_of answers (columns_say scope) e) ≡ key
          → key_or key (beside_keys answers scope keys aggregates e) ≡ Ok (Some t) → IsGroupExpression answers scope core e ⊎ IsAggregate e
      by_key (Some u) is d = inl (keyed_is equal answers scope core groups are keys keyed e u is)
      by_key None is d = inr (beside_is e d)

  module _ (table : Option Name) (name : Name) where
    abbrev Outside : ExprTree → Type 0
    Outside e = StandsOutside answers scope core (ExprTree.Column table name) e

    no_column : (t : Term) → ¬ IsGroupExpression answers scope core (ExprTree.Column table name)
        → chosen (said (ExprTree.Column table name)) (Err WrongPlace) ≡ Ok t → ⊥
    no_column t apart is =
        cases (chosen-ok (said (ExprTree.Column table name)) (Err WrongPlace) t is)
        (λ known. cases (said_is (ExprTree.Column table name) t known) (λ g. apart g) (λ m. m)) (λ d. absurd cc)

    groups_refuted : {e : ExprTree} → Outside e → (t : Term) → term_of answers said e ≡ Ok t → ⊥
    groups_refuted (StandsOutside.itself apart) t is = no_column t apart is
    groups_refuted (StandsOutside.inside {e = e} x apart loose there deeper) t is =
        cases (term_made answers said e t is) (λ (u, known). cases (said_is e u known) (λ g. apart g) (λ m. loose m))
        (λ all. let (u, so) = among all there in groups_refuted deeper u so)

    module _ (defined : List Defined) (width : ℕ) (calls : List WindowCall) where
      windows_refuted : {e : ExprTree} → Outside e → (t : Term) → term_of answers (windows_say answers said defined width calls) e ≡ Ok t → ⊥
      windows_refuted (StandsOutside.itself apart) t is = no_column t apart is
      windows_refuted (StandsOutside.inside {e = e} x apart loose there deeper) t is =
          cases (term_made answers (windows_say answers said defined width calls) e t is)
          (λ (u, known). by_call u (call_of answers said defined e) refl known)
          (λ all. let (u, so) = among all there in windows_refuted deeper u so)
        where
          operand_refuted : IsTaken answers said x → ⊥
          operand_refuted given =
              cases given.is (λ (u, so). groups_refuted deeper u so)
              (λ (z, same). number_outside deeper z (subst (λ e. IsNumber e z) (sym same) IsNumber.plain))

          by_call : (u : Term) (o : Option (Result WindowCall Fault)) → call_of answers said defined e ≡ o
              → call_column width calls o (said e) ≡ Ok (Some u) → ⊥
          by_call u None so known = cases (said_is e u known) (λ g. apart g) (λ m. loose m)
          by_call u (Some r) so known =
              let (c, of, same) = also-ok _ r (Some u) known in
              operand_refuted (among (call_taken answers said defined e c (so ∙ ap Some of)) there)

-- ---- one SELECT

module _ (answers : Answers) (scope : Scope) (input : Input) (says : Says) where
  some_columns : (fault : Fault) (columns others : List ResultColumn) → some_of fault columns ≡ Ok others → columns ≡ others
  some_columns fault [] others e = absurd cc
  some_columns fault (c ∷ cs) others e = cc

  star_taken : (fault : Fault) (columns others : List ResultColumn) → followed (some_of fault columns) (each (as_input answers input)) ≡ Ok others
      → (r : ResultColumn) → Contains columns r → IsGiven (input.over_input r.term)
  star_taken fault columns others e r there =
      let (shown, is, rest) = followed-ok (some_of fault columns) (each (as_input answers input)) others e in
      let all : Each (λ r. IsGiven (as_input answers input r)) shown = record { is = each-ok (as_input answers input) shown others rest } in
      let (c, made) = among all (subst (λ columns. Contains columns r) (some_columns fault columns shown is) there) in
      let (t, of, same) = also-ok (result r.name) (input.over_input r.term) c made in (t, of)

  -- what is known of result columns that are taken
  record AreTaken (results : ResultTrees) : Type 0 where
    values : Each (λ x. IsGiven (term_of answers says x)) (values_in results)
    stars : (r : ResultColumn) → IsStarred scope r results → IsGiven (input.over_input r.term)

  results_taken : (results : ResultTrees) (columns : List ResultColumn) → all_results answers scope input says results ≡ Ok columns → AreTaken results
  results_taken ResultTrees.No_result columns e = record { values = none; stars = λ r starred. elim starred [ ] }
  results_taken (ResultTrees.Result ResultTree.All rs) columns e =
      let (shown, others, is, rest, same) =
      both-ok ◌++◌ (results_of answers scope input says ResultTree.All) (all_results answers scope input says rs) columns e in
      let later = results_taken rs others rest in
      record { values = later.values; stars = by shown is later.stars }
    where
      by : (shown : List ResultColumn) → results_of answers scope input says ResultTree.All ≡ Ok shown
          → ((r : ResultColumn) → IsStarred scope r rs → IsGiven (input.over_input r.term))
          → (r : ResultColumn) → IsStarred scope r (ResultTrees.Result ResultTree.All rs) → IsGiven (input.over_input r.term)
      by shown is later r (IsStarred.all there) = star_taken WrongPlace (starred scope) shown is r there
      by shown is later r (IsStarred.later starred) = later r starred
  results_taken (ResultTrees.Result (ResultTree.AllOf table) rs) columns e =
      let (shown, others, is, rest, same) =
      both-ok ◌++◌ (results_of answers scope input says (ResultTree.AllOf table)) (all_results answers scope input says rs) columns e in
      let later = results_taken rs others rest in
      record { values = later.values; stars = by shown is later.stars }
    where
      by : (shown : List ResultColumn) → results_of answers scope input says (ResultTree.AllOf table) ≡ Ok shown
          → ((r : ResultColumn) → IsStarred scope r rs → IsGiven (input.over_input r.term))
          → (r : ResultColumn) → IsStarred scope r (ResultTrees.Result (ResultTree.AllOf table) rs) → IsGiven (input.over_input r.term)
      by shown is later r (IsStarred.of there) = star_taken UnknownColumn (starred_of table 0 scope) shown is r there
      by shown is later r (IsStarred.later starred) = later r starred
  results_taken (ResultTrees.Result (ResultTree.Value x name) rs) columns e =
      let (shown, others, is, rest, same) =
      both-ok ◌++◌ (results_of answers scope input says (ResultTree.Value x name)) (all_results answers scope input says rs) columns e in
      let later = results_taken rs others rest in
      let (t, of, made) = also-ok _ (term_of answers says x) shown is in
      record { values = more x (values_in rs) (t, of) later.values; stars = by later.stars }
    where
      by : ((r : ResultColumn) → IsStarred scope r rs → IsGiven (input.over_input r.term))
          → (r : ResultColumn) → IsStarred scope r (ResultTrees.Result (ResultTree.Value x name) rs) → IsGiven (input.over_input r.term)
      by later r (IsStarred.later starred) = later r starred

definitions_taken : (answers : Answers) (says : Says) (windows : DefinitionTrees) (ds : List Defined) → defined_of answers says windows ≡ Ok ds
    → Each (λ x. IsGiven (term_of answers says x)) (definitions_in windows)
definitions_taken answers says DefinitionTrees.No_definition ds e = none
definitions_taken answers says (DefinitionTrees.Definition name v windows) ds e =
    let (made, rest, is, last, same) = both-ok _ (window_of answers says v) (defined_of answers says windows) ds e in
    join (window_in v) (definitions_in windows) (window_taken answers says v made is) (definitions_taken answers says windows rest last)

condition_taken : (answers : Answers) (says : Says) (condition : MaybeExpr) (t : Term) → condition_of answers says condition ≡ Ok t
    → Each (λ x. IsGiven (term_of answers says x)) (maybe_in condition)
condition_taken answers says MaybeExpr.Absent t e = none
condition_taken answers says (MaybeExpr.Present x) t e = one (t, e)

-- what GROUP BY has are terms of it
keys_some : (answers : Answers) (scope : Scope) (groups : ExprTrees) (keys : List Term) → by_of answers scope groups ≡ Ok keys → (e : ExprTree)
    → Contains (expressions groups) e → keys ≡ [] → ⊥
keys_some answers scope ExprTrees.No_more keys e x there none = no_element x there
keys_some answers scope (ExprTrees.More y others) keys e x there none =
    let (u, us, first, last, same) = both-ok ◌∷◌ (group_term answers scope y) (by_of answers scope others) keys e in
    let both : u ∷ us ≡ [] = same ∙ none in absurd cc

abbrev over_groups : Answers → Scope → List Term → List Aggregate → Term → Input
over_groups answers scope keys aggregates h = record {
  says = groups_say answers scope keys aggregates;
  over_input = λ t. or_bare (key_column keys (Ok t));
  width = length keys + length aggregates;
  grouping = Some (grouping_of keys aggregates h);
}

-- a SELECT with keys or aggregates is computed over groups
over_groups_is : (answers : Answers) (scope : Scope) (keys : List Term) (aggregates : List Aggregate) (having : MaybeExpr) (input : Input)
    → (keys ≡ [] → aggregates ≡ [] → ⊥) → input_of answers scope keys aggregates having ≡ Ok input
    → (h : Term) × (condition_of answers (groups_say answers scope keys aggregates) having ≡ Ok h) × (over_groups answers scope keys aggregates h ≡ input)
over_groups_is answers scope [] [] having input some e = absurd (some refl refl)
over_groups_is answers scope [] (a ∷ aggregates) having input some e =
    also-ok (over_groups answers scope [] (a ∷ aggregates)) (condition_of answers (groups_say answers scope [] (a ∷ aggregates)) having) input e
over_groups_is answers scope (t ∷ keys) aggregates having input some e =
    also-ok (over_groups answers scope (t ∷ keys) aggregates) (condition_of answers (groups_say answers scope (t ∷ keys) aggregates) having) input e

row_given : (answers : Answers) (says : Says) (distinct : Bool) (e : ExprTree) → IsGiven (on_row answers distinct says e) → IsGiven (term_of answers says e)
row_given answers says true e (k, d) = absurd cc
row_given answers says false e (k, d) = let (t, is, same) = also-ok KeyTerm.term (term_of answers says e) k d in (t, is)

or_bare_some : (key : Option Term) → IsGiven (or_bare key) → (t : Term) × (key ≡ Some t)
or_bare_some None (t, e) = absurd cc
or_bare_some (Some u) (t, e) = (u, refl)

core_refuted : SameIsEqual → (answers : Answers) (scope : Scope) (core : CoreTree) (order : TermTrees) (c : CoreData)
    → core_of answers scope core order ≡ Ok c → HasGroups core order → HasBare answers scope core order → ⊥
core_refuted equal answers scope (CoreTree.Select distinct results from condition groups having windows) order c e grouped has =
    let core : CoreTree = CoreTree.Select distinct results from condition groups having windows in
    let behind = parts_behind_groups core order in
    let (test, is, others) = followed-ok (condition_of answers (columns_say scope) condition) _ c e in
    let (keys, keyed, rest) = followed-ok (by_of answers scope groups) _ c others in
    let (aggregates, gathered, last) =
    followed-ok (firsts is_same_aggregate [] (filter_map (aggregate_of answers (columns_say scope)) behind)) _ c rest in
    let (input, given, all) =
    followed-ok (input_of answers scope keys aggregates having) (behind_groups answers scope distinct results order behind windows test) c last in
    let (h, having_is, same) =
    over_groups_is answers scope keys aggregates having input (some keys aggregates keyed gathered grouped) given in
    let over : Input = over_groups answers scope keys aggregates h in
    let on : behind_groups answers scope distinct results order behind windows test over ≡ Ok c =
    subst (λ input. behind_groups answers scope distinct results order behind windows test input ≡ Ok c) (sym same) all in
    let (apart, further) = checked-ok (are_distinct (window_names windows)) DuplicateName _ c on in
    let (defined, are_defined, next) = followed-ok (defined_of answers over.says windows) _ c further in
    let (calls, called, end) = followed-ok (firsts is_same_call [] (filter_map (call_of answers over.says defined) behind)) _ c next in
    let says = windows_say answers over.says defined over.width calls in
    let (columns, shown, after) = followed-ok (all_results answers scope over says results) _ c end in
    let (few, sorting) = checked-ok (nat_le (length columns) max_columns) Limit _ c after in
    let (sort, sorted, made) =
    also-ok (finished distinct test over.grouping defined calls columns) (keys_of (names_in columns) (on_row answers distinct says) order) c sorting in
    let taken_results = results_taken answers scope over says results columns shown in
    by keys keyed aggregates defined over.width calls taken_results.values (condition_taken answers over.says having h having_is)
    (definitions_taken answers over.says windows defined are_defined)
    (λ x there plainly apart.
    row_given answers says distinct x (computed (names_in columns) (on_row answers distinct says) x plainly
    (subst (λ titles. IsNoResult titles x) (sym (all_names answers over scope says results columns shown)) apart)
    (among (keys_given (names_in columns) (on_row answers distinct says) order sort sorted) there)))
    taken_results.stars has
  where
    some : (keys : List Term) (aggregates : List Aggregate) → by_of answers scope groups ≡ Ok keys
        → firsts is_same_aggregate [] (filter_map (aggregate_of answers (columns_say scope)) (parts_behind_groups (CoreTree.Select distinct results from condition groups having windows) order)) ≡ Ok aggregates
        → HasGroups (CoreTree.Select distinct results from condition groups having windows) order → keys ≡ [] → aggregates ≡ [] → ⊥
    some keys aggregates keyed gathered (HasGroups.key x there) no_key no_aggregate = keys_some answers scope groups keys keyed x there no_key
    some keys aggregates keyed gathered (HasGroups.aggregate part there m) no_key no_aggregate =
        let (r, is) = aggregate_some answers (columns_say scope) part m in
        let found =
        among (all_found is_same_aggregate (λ a. (equal.aggregates a a).1 refl) (aggregate_of answers (columns_say scope)) aggregates
        (parts_behind_groups (CoreTree.Select distinct results from condition groups having windows) order) gathered) there in
        let (a, same, p) = found.is r is in
        subst (λ aggregates. IsPlace (place_of is_same_aggregate a aggregates)) no_aggregate p

    by : (keys : List Term) → by_of answers scope groups ≡ Ok keys → (aggregates : List Aggregate) (defined : List Defined) (width : ℕ) (calls : List WindowCall)
        → Each (λ x. IsGiven (term_of answers (windows_say answers (groups_say answers scope keys aggregates) defined width calls) x)) (values_in results)
        → Each (λ x. IsGiven (term_of answers (groups_say answers scope keys aggregates) x)) (maybe_in having)
        → Each (λ x. IsGiven (term_of answers (groups_say answers scope keys aggregates) x)) (definitions_in windows)
        → ((x : ExprTree) → Contains (terms_in order) x → IsNoNumber x → IsNoResult (names_of_results scope results) x
        → IsGiven (term_of answers (windows_say answers (groups_say answers scope keys aggregates) defined width calls) x))
        → ((r : ResultColumn) → IsStarred scope r results → IsGiven (or_bare (key_column keys (Ok r.term))))
        → HasBare answers scope (CoreTree.Select distinct results from condition groups having windows) order → ⊥
    by keys keyed aggregates defined width calls values filtered_groups defines terms stars (HasBare.star r starred apart) =
        let (t, is) = or_bare_some (key_column keys (Ok r.term)) (stars r starred) in
        apart (place_group_term equal answers scope (CoreTree.Select distinct results from condition groups having windows) groups refl keys keyed r.term (place_column 0 (place_of is_same_term r.term keys) t is))
    by keys keyed aggregates defined width calls values filtered_groups defines terms stars (HasBare.column x (IsAfterGroups.sorted there apart) b) =
        let (t, is) = terms x there (λ z number. number_outside b.outside z number) apart in
        windows_refuted equal answers scope (CoreTree.Select distinct results from condition groups having windows) groups refl keys keyed aggregates b.table b.name defined width calls b.outside t is
    by keys keyed aggregates defined width calls values filtered_groups defines terms stars (HasBare.column x (IsAfterGroups.computed there) b) =
        cases (Contains-append_cases (values_in results ++ maybe_in having) (definitions_in windows) x there)
        (λ front.
        cases (Contains-append_cases (values_in results) (maybe_in having) x front)
        (λ value.
        let (t, is) = among values value in
        windows_refuted equal answers scope (CoreTree.Select distinct results from condition groups having windows) groups refl keys keyed aggregates b.table b.name defined width calls b.outside t is)
        (λ filter.
        let (t, is) = among filtered_groups filter in
        groups_refuted equal answers scope (CoreTree.Select distinct results from condition groups having windows) groups refl keys keyed aggregates b.table b.name b.outside t is))
        (λ window.
        let (t, is) = among defines window in
        groups_refuted equal answers scope (CoreTree.Select distinct results from condition groups having windows) groups refl keys keyed aggregates b.table b.name b.outside t is)

-- ---- the statement

-- a query that stands in one that is taken is taken, with as many levels left
all_taken_at : (known : List Known) (deep : ℕ) {query : QueryTree} {order : TermTrees} {inner : QueryTree} {by : TermTrees}
    (has : HasQuery query order inner by) (q : Queried) → queried deep known query order ≡ Ok q
    → (more : ℕ) × (suc (levels_around has + more) ≡ deep) × IsGiven (query_of known (inside more known) inner by)
all_taken_at known zero has q e = absurd cc
all_taken_at known (suc deep) HasQuery.own q e = (deep, omega arith, (q, e))
all_taken_at known (suc deep) (HasQuery.inside inner stands has) q e =
    let (p, is) = inner_taken known (inside deep known) stands q e in
    let (more, left, given) = all_taken_at known deep has p is in (more, omega (arith, left), given)

-- the answers are those by which it is taken
answers_same : {tables : List Table} {levels : ℕ} {items : List ItemTree} {core : CoreTree} {by : TermTrees} (o : Operands tables levels items core by)
    (w : With) (more : ℕ) (inners : List Inner) → o.w ≡ w → o.deep ≡ more
    → each (inner_of w.known (inside more w.known)) (inner_trees core by) ≡ Ok inners
    → operand_answers o ≡ answers_with w.known (inside more w.known) inners
answers_same {core = core} {by = by} o w more inners alike levels are =
    let given : each (inner_of w.known (inside more w.known)) (inner_trees core by) ≡ Ok o.inners =
    subst₂ (λ (w : With) deep. each (inner_of w.known (inside deep w.known)) (inner_trees core by) ≡ Ok o.inners) alike levels o.are in
    let same : o.inners ≡ inners = one_ok o.inners inners (each (inner_of w.known (inside more w.known)) (inner_trees core by)) given are in
    ap₂ (λ (w : With) deep. answers_with w.known (inside deep w.known) o.inners) alike levels
    ∙ ap (λ inners. answers_with w.known (inside more w.known) inners) same

pub bare_column_is_refused : SameIsEqual → BareColumnIsRefused
bare_column_is_refused equal tables tree n has e =
    let (found, names, so) = followed-ok (named (known_tables tables) tree) (with_types (column_types tables)) n e in
    let (w, begun, (q, is)) = query_taken (known_tables tables) tree found has.of names in
    let (more, left, (p, taken)) = all_taken_at w.known max_levels has.has q is in
    let here = has.is in
    let (s, single_is) = single_in w.known (inside more w.known) here.select p taken in
    let (inners, are, rest) =
    followed-ok (each (inner_of w.known (inside more w.known)) (inner_trees here.core here.by)) (with_inners w.known (inside more w.known) here.core here.by) s
    single_is in
    let answers : Answers = answers_with w.known (inside more w.known) inners in
    let (f, sources, last) = followed-ok (from_of w.known (inside more w.known) answers (from_tree here.core)) _ s rest in
    let (c, made, same) = also-ok (single inners f) (core_of answers f.scope here.core here.by) s last in
    let groups = here.is in
    let levels : groups.operands.deep ≡ more = level (levels_around has.has) groups.operands.deep more groups.operands.left left in
    let alike : groups.operands.w ≡ w =
    one_ok groups.operands.w w (with_items (no_items (known_tables tables)) has.items) groups.operands.mentioned begun in
    let answered : operand_answers groups.operands ≡ answers = answers_same groups.operands w more inners alike levels are in
    let shown : groups.scope ≡ f.scope =
    shows_one w.known (inside more w.known) (same_inside w.known more) answers
    (subst (λ listed. Shows listed (from_tree here.core) groups.scope) (listed_same tables here.are w begun) groups.shows) f sources in
    core_refuted equal answers f.scope here.core here.by c made groups.groups
    (subst (λ scope. HasBare answers scope here.core here.by) shown
    (subst (λ answers. HasBare answers groups.scope here.core here.by) answered groups.bare))
  where
    level : (levels deep more : ℕ) → suc (levels + deep) ≡ max_levels → suc (levels + more) ≡ max_levels → deep ≡ more
    level levels deep more one other = omega (arith, one, other)
