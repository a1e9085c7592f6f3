-- A SELECT that is refused because of a bare column has one.
use Rattle.std.proofs.Common.{◌≡◌, inl, Bool, true, false, ℕ, zero, suc, ◌+◌, ℤ, pos, negsuc, List, [], ◌∷◌, ◌++◌, length, Option, Some, None, Result, Ok, Err, Contains, nat_le, nat_lt, ap, refl, sym, subst, ◌∙◌}
use Rattle.std.specs.List.{cons_option, filter_map}
use Rattle.std.proofs.lemmas.List.Elements.{Contains-append_left, Contains-append_right}
use Rattle.values.specs.declared.fault.Fault.{Fault}
use Rattle.values.specs.declared.fault.Fault.TheVariants.{BareColumn, DuplicateName, Limit, UnknownColumn, WrongPlace}
use Rattle.expr.specs.Term.{Term}
use Rattle.semantics.specs.Query.{Aggregate, KeyTerm, WindowCall}
use Rattle.sql_reader_syntax.specs.ExprTree.{ArmTrees, BehindTree, CoreTree, DefinitionTrees, ExprTree, ExprTrees, FromTree, MaybeExpr, OverTree, ResultTree, ResultTrees, TermTrees, WindowTree}
use Rattle.sql_reader_syntax.specs.Tree.{Name}
use Rattle.semantics_names.specs.Expression.{Answers, Says, term_of}
use Rattle.semantics_names.specs.Laws.{ColumnsAreScalar, NameIsColumn, SameIsEqual}
use Rattle.semantics_names.specs.Outcome.{each, followed}
use Rattle.semantics_names.specs.Parts.{all_parts, arms_parts, behind_parts, core_parts, definitions_parts, from_parts, maybe_parts, over_parts, parts, parts_behind_groups, results_parts, terms_parts, window_parts}
use Rattle.semantics_names.specs.Places.{Defined, aggregate_column, aggregate_of, bare, beside_keys, call_column, call_of, columns_say, direction_of, groups_say, key_column, key_or, place_of, window_of, windows_say}
use Rattle.semantics_names.specs.Same.{is_same_aggregate, is_same_call, is_same_term}
use Rattle.semantics_names.specs.Scope.{Scope, column_of}
use Rattle.semantics_names.specs.Statement.{Input, ResultColumn, all_results, are_distinct, as_input, behind_groups, by_of, condition_of, core_of, defined_of, finished, firsts, group_term, grouped, grouping_of, input_of, key, key_term, keys_of, max_columns, named_at, named_or, no_number, number_alone, numbered, numbered_or, on_row, one_or, or_bare, result, results_of, shown, some_of, starred, starred_of, ungrouped, window_names}
use Rattle.semantics_names.proofs.OutcomeLemmas.{also-ok}
use Rattle.semantics_refusals.specs.BareColumns.{HasBare, HasGroups, IsAfterGroups, IsBareIn, IsGroupExpression, IsStarred, StandsOutside, after_in, arms_in, definitions_in, directly_in, maybe_in, over_in, values_in, window_in}
use Rattle.semantics_refusals.specs.Columns.{names_of_results}
use Rattle.semantics_refusals.specs.UnknownColumns.{IsNamedAt, IsNoResult}
use Rattle.semantics_refusals.specs.WrongPlaces.{HasOver, IsAggregate, expressions, groups_in, inside_call}
use Rattle.semantics_refusals.specs.Written.{terms_in}
use Rattle.semantics_refusals.proofs.BareLemmas.{cases, column_place, group_term_place, head, keyless, next}
use Rattle.semantics_refusals.proofs.BareTraceLemmas.{IsAnswered, IsOther, Traces, aggregate_other, call_traced, column_other, columns_other, columns_term_other, never, term_traced, window_traced}
use Rattle.semantics_refusals.proofs.CoreLemmas.{each_place}
use Rattle.semantics_refusals.proofs.ErrLemmas.{also-err, both-err, checked-err, each-err, firsts-err, followed-err}
use Rattle.semantics_refusals.proofs.NameLemmas.{all_names, names_in}
use Rattle.semantics_refusals.proofs.OutcomeLemmas.{OnlySome, Takes}
use Rattle.semantics_refusals.proofs.PartLemmas.{Deep, Each, among, back, deep_definitions, deep_maybe, deep_results, deep_terms, each_itself, first, front, itself, join, none, one, weaker}
use Rattle.semantics_refusals.proofs.PlacedLemmas.{AreFound, aggregate_is, all_found, groups_none}
use Rattle.semantics_refusals.proofs.ScopeLemmas.{named_none}
use Rattle.semantics_refusals.proofs.WindowLemmas.{firsts_given, term_scalar}
use Rattle.semantics_refusals.proofs.WrongPlaceLemmas.{aggregate_scalar, scalar_over}

-- ---- calls with OVER

-- a call of a window has OVER
call_over : (answers : Answers) (says : Says) (defined : List Defined) (part : ExprTree) (r : Result WindowCall Fault)
    → call_of answers says defined part ≡ Some r → HasOver part
call_over answers says defined (ExprTree.CountRows (BehindTree.Behind filter OverTree.No_over)) r is = absurd cc
call_over answers says defined (ExprTree.CountRows (BehindTree.Behind filter (OverTree.OverName name))) r is = tt
call_over answers says defined (ExprTree.CountRows (BehindTree.Behind filter (OverTree.Over v))) r is = tt
call_over answers says defined (ExprTree.Call function es (BehindTree.Behind filter OverTree.No_over)) r is = absurd cc
call_over answers says defined (ExprTree.Call function es (BehindTree.Behind filter (OverTree.OverName name))) r is = tt
call_over answers says defined (ExprTree.Call function es (BehindTree.Behind filter (OverTree.Over v))) r is = tt
call_over answers says defined _ r is = absurd cc

-- and is no aggregate
over_no_aggregate : (e : ExprTree) → HasOver e → IsAggregate e → ⊥
over_no_aggregate (ExprTree.CountRows (BehindTree.Behind filter OverTree.No_over)) h m = h
over_no_aggregate (ExprTree.Call function es (BehindTree.Behind filter OverTree.No_over)) h m = h
over_no_aggregate _ h m = m

-- it has no OVER
abbrev NoOver : ExprTree → Type 0
NoOver q = HasOver q → ⊥

-- what is inside an aggregate has none, and it has none itself
whole_call : (e : ExprTree) → IsAggregate e → Each NoOver (inside_call e) → Each NoOver (parts e)
whole_call (ExprTree.CountRows (BehindTree.Behind filter OverTree.No_over)) m all =
    join (behind_parts (BehindTree.Behind filter OverTree.No_over)) _ all (one (λ h. h))
whole_call (ExprTree.Call function es (BehindTree.Behind filter OverTree.No_over)) m all =
    join (all_parts es ++ behind_parts (BehindTree.Behind filter OverTree.No_over)) _ all (one (λ h. h))
whole_call _ m all = absurd m

key_or-err : (key : Option Term) (r : Result (Option Term) Fault) (fault : Fault) → key_or key r ≡ Err fault → (key ≡ None) × (r ≡ Err fault)
key_or-err None r fault e = (refl, e)
key_or-err (Some t) r fault e = absurd cc

key_or-none : (key : Option Term) (r : Result (Option Term) Fault) → key_or key r ≡ Ok None → key ≡ None
key_or-none None r e = refl
key_or-none (Some t) r e = absurd cc

or_bare-err : (key : Option Term) → or_bare key ≡ Err BareColumn → key ≡ None
or_bare-err None e = refl
or_bare-err (Some t) e = absurd cc

-- what is known of a part that is computed over groups
record Ready (answers : Answers) (core : CoreTree) (order : TermTrees) (part : ExprTree) : Type 0 where
  stands : Contains (parts_behind_groups core order) part
  answered : IsAnswered answers part

module _ (equal : SameIsEqual) (names : NameIsColumn) (scalars : ColumnsAreScalar) (answers : Answers) (scope : Scope) (core : CoreTree)
    (order : TermTrees) where
  abbrev Marks : (Says) → (ExprTree → Type 0) → Type 0
  Marks says Bad = Traces answers (Ready answers core order) (λ part ready. ready.answered) says Bad

  answered_all : {xs : List ExprTree} → Each (Ready answers core order) xs → Each (IsAnswered answers) xs
  answered_all all = weaker (λ part ready. ready.answered) all

  takes : Takes IsOther
  takes = record { laws = inl equal }

  -- over the columns of FROM nothing is bare
  columns_marks : Marks (columns_say scope) (λ _. ⊥)
  columns_marks = record {
    said = λ e all d. never (columns_say scope e) (columns_other scope e) d;
    down = λ e all none x there bad. bad;
    over = λ e all has x there bad. bad;
  }

  module _ (says : Says) (Bad : ExprTree → Type 0) (marks : Marks says Bad) (defined : List Defined) (width : ℕ) (calls : List WindowCall) where
    windows_marks : Marks (windows_say answers says defined width calls) Bad
    windows_marks = record {
      said = λ e all d. said e all (call_of answers says defined e) refl d;
      down = λ e all d x there bad. down e all x there bad (call_of answers says defined e) refl d;
      over = marks.over;
    }
      where
        said : (e : ExprTree) → Each (Ready answers core order) (parts e) → (o : Option (Result WindowCall Fault)) → call_of answers says defined e ≡ o
            → call_column width calls o (says e) ≡ Err BareColumn → Bad e
        said e all None is d = marks.said e all d
        said e all (Some r) is d =
            call_traced answers (Ready answers core order) (λ part ready. ready.answered) says Bad marks defined e all
            (call_over answers says defined e r is) (is ∙ ap Some (also-err _ r BareColumn d))

        down : (e : ExprTree) → Each (Ready answers core order) (parts e) → (x : ExprTree) → Contains (directly_in e) x → Bad x
            → (o : Option (Result WindowCall Fault)) → call_of answers says defined e ≡ o → call_column width calls o (says e) ≡ Ok None → Bad e
        down e all x there bad None is d = marks.down e all d x there bad
        down e all x there bad (Some r) is d = marks.over e all (call_over answers says defined e r is) x there bad

  -- ---- over groups

  module _ (written : ExprTrees) (are : groups_in core ≡ expressions written) (keys : List Term) (keyed : by_of answers scope written ≡ Ok keys)
      (aggregates : List Aggregate)
      (gathered : firsts is_same_aggregate [] (filter_map (aggregate_of answers (columns_say scope)) (parts_behind_groups core order)) ≡ Ok aggregates) where
    no_group_over : (e : ExprTree) → IsGroupExpression answers scope core e → Each NoOver (parts e)
    no_group_over e g = weaker (λ q scalar. scalar_over q scalar) (term_scalar scalars answers scope e g.t g.is)

    no_aggregate_over : (e : ExprTree) → Contains (parts_behind_groups core order) e → IsAggregate e → Each NoOver (parts e)
    no_aggregate_over e there m =
        whole_call e m (weaker (λ q scalar. scalar_over q scalar) (aggregate_scalar answers scalars scope e m
        (among (firsts_given is_same_aggregate [] aggregates (aggregate_of answers (columns_say scope)) (parts_behind_groups core order) gathered) there)))

    climb : (e : ExprTree) → ¬ IsGroupExpression answers scope core e → ¬ IsAggregate e → (x : ExprTree) → Contains (directly_in e) x
        → IsBareIn answers scope core x → IsBareIn answers scope core e
    climb e apart loose x there b = record {
      table = b.table;
      name = b.name;
      at = b.at;
      shown = b.shown;
      column = b.column;
      outside = StandsOutside.inside x apart loose there b.outside;
    }

    bare_here : (table : Option Name) (name : Name) → ¬ IsGroupExpression answers scope core (ExprTree.Column table name) → (r : Result Term Fault)
        → column_of scope table name ≡ r → bare r ≡ Err BareColumn → IsBareIn answers scope core (ExprTree.Column table name)
    bare_here table name apart (Ok t) is d =
        let (at, shown, column, same) = (names scope table name t).0 is in
        record { table = table; name = name; at = at; shown = shown; column = column; outside = StandsOutside.itself apart }
    bare_here table name apart (Err fault) is d =
        let same : fault ≡ BareColumn = cc in never (column_of scope table name) (column_other scope table name) (is ∙ ap Err same)

    no_aggregate_bare : {G : Type 0} (o : Option (Result Aggregate Fault)) → OnlySome IsOther o
        → aggregate_column (length keys) aggregates o ≡ Err BareColumn → G
    no_aggregate_bare None other d = absurd cc
    no_aggregate_bare (Some r) other d = never r other.is (also-err _ r BareColumn d)

    beside_bare : (e : ExprTree) → Each (Ready answers core order) (parts e) → ¬ IsGroupExpression answers scope core e
        → beside_keys answers scope keys aggregates e ≡ Err BareColumn → IsBareIn answers scope core e
    beside_bare (ExprTree.Column table name) all apart d = bare_here table name apart (column_of scope table name) refl d
    beside_bare e all apart d =
        no_aggregate_bare (aggregate_of answers (columns_say scope) e) (aggregate_other answers scope takes e (answered_all all)) d

    groups_marks : Marks (groups_say answers scope keys aggregates) (IsBareIn answers scope core)
    groups_marks = record {
      said = λ e all d.
          let (none, beside) =
          key_or-err (key_column keys (term_of answers (columns_say scope) e)) (beside_keys answers scope keys aggregates e) BareColumn d in
          beside_bare e all (keyless equal answers scope core written are keys keyed e none) beside;
      down = λ e all d x there b.
          climb e
          (keyless equal answers scope core written are keys keyed e
          (key_or-none (key_column keys (term_of answers (columns_say scope) e)) (beside_keys answers scope keys aggregates e) d))
          (λ m. groups_none answers scope keys aggregates e m (among found (itself e all).stands) d) x there b;
      over = λ e all has x there b.
          climb e (λ g. (itself e (no_group_over e g)) has) (over_no_aggregate e has) x there b;
    }
      where
        found : Each (AreFound is_same_aggregate (aggregate_of answers (columns_say scope)) aggregates) (parts_behind_groups core order)
        found =
            all_found is_same_aggregate (λ a. (equal.aggregates a a).1 refl) (aggregate_of answers (columns_say scope)) aggregates
            (parts_behind_groups core order) gathered

    -- ---- a call with OVER stands neither in an aggregate nor in an expression of GROUP BY

    module _ (G : Type 0) where
      -- a call with OVER is among them
      abbrev Busy : List ExprTree → Type 0
      Busy xs = Each NoOver xs → ⊥

      -- where a column is bare in it
      abbrev Lifts : ExprTree → Type 0
      Lifts q = HasOver q → IsBareIn answers scope core q → G

      -- it is so in one of them
      abbrev Enters : List ExprTree → List ExprTree → Type 0
      Enters xs within = (x : ExprTree) → Contains xs x → Busy within → IsBareIn answers scope core x → G

      abbrev AllReady : List ExprTree → Type 0
      AllReady xs = Each (Ready answers core order) xs

      in_front : (xs ys : List ExprTree) → Busy xs → Busy (xs ++ ys)
      in_front xs ys busy free = busy (front xs ys free)

      in_back : (xs ys : List ExprTree) → Busy ys → Busy (xs ++ ys)
      in_back xs ys busy free = busy (back xs ys free)

      climbs : (e : ExprTree) → AllReady (parts e) → Busy (parts e) → (x : ExprTree) → Contains (directly_in e) x → IsBareIn answers scope core x
          → IsBareIn answers scope core e
      climbs e all busy x there b =
          climb e (λ g. busy (no_group_over e g)) (λ m. busy (no_aggregate_over e (itself e all).stands m)) x there b

      -- an expression behind the parts of those in it
      node : (e : ExprTree) (xs : List ExprTree) → AllReady (parts e) → parts e ≡ xs ++ e ∷ [] → (Busy (parts e) → IsBareIn answers scope core e → G)
          → (Enters (directly_in e) xs → Each Lifts xs) → Each Lifts (parts e)
      node e xs all same up inner =
          subst (Each Lifts) (sym same)
          (join xs (e ∷ [])
          (inner (λ x there busy b. up (so busy) (climbs e all (so busy) x there b)))
          (one (λ has b. up (λ free. itself e free has) b)))
        where
          so : Busy xs → Busy (parts e)
          so busy free = busy (front xs (e ∷ []) (subst (Each NoOver) same free))

      mutual
        lift : (e : ExprTree) → AllReady (parts e) → (Busy (parts e) → IsBareIn answers scope core e → G) → Each Lifts (parts e)
        lift (ExprTree.Prefix op x) all up =
            node (ExprTree.Prefix op x) (parts x) all refl up (λ enter. lift x (front (parts x) _ all) (λ busy b. enter x (head x []) busy b))
        lift (ExprTree.Binary op x y) all up =
            let two = front (parts x ++ parts y) _ all in
            node (ExprTree.Binary op x y) (parts x ++ parts y) all refl up (λ enter.
            join (parts x) (parts y)
            (lift x (front (parts x) (parts y) two) (λ busy b. enter x (head x (y ∷ [])) (in_front (parts x) (parts y) busy) b))
            (lift y (back (parts x) (parts y) two) (λ busy b. enter y (next x (y ∷ []) y (head y [])) (in_back (parts x) (parts y) busy) b)))
        lift (ExprTree.Postfix op x) all up =
            node (ExprTree.Postfix op x) (parts x) all refl up (λ enter. lift x (front (parts x) _ all) (λ busy b. enter x (head x []) busy b))
        lift (ExprTree.Between not x low high) all up =
            let three = front (parts x ++ parts low ++ parts high) _ all in
            let two = front (parts x ++ parts low) (parts high) three in
            node (ExprTree.Between not x low high) (parts x ++ parts low ++ parts high) all refl up (λ enter.
            join (parts x ++ parts low) (parts high)
            (join (parts x) (parts low)
            (lift x (front (parts x) (parts low) two) (λ busy b.
            enter x (head x (low ∷ high ∷ [])) (in_front (parts x ++ parts low) (parts high) (in_front (parts x) (parts low) busy)) b))
            (lift low (back (parts x) (parts low) two) (λ busy b.
            enter low (next x (low ∷ high ∷ []) low (head low (high ∷ [])))
            (in_front (parts x ++ parts low) (parts high) (in_back (parts x) (parts low) busy)) b)))
            (lift high (back (parts x ++ parts low) (parts high) three) (λ busy b.
            enter high (next x (low ∷ high ∷ []) high (next low (high ∷ []) high (head high [])))
            (in_back (parts x ++ parts low) (parts high) busy) b)))
        lift (ExprTree.In not x items) all up =
            let two = front (parts x ++ all_parts items) _ all in
            node (ExprTree.In not x items) (parts x ++ all_parts items) all refl up (λ enter.
            join (parts x) (all_parts items)
            (lift x (front (parts x) (all_parts items) two) (λ busy b. enter x (head x (expressions items)) (in_front (parts x) (all_parts items) busy) b))
            (lift_items items (back (parts x) (all_parts items) two) (λ y there busy b.
            enter y (next x (expressions items) y there) (in_back (parts x) (all_parts items) busy) b)))
        lift (ExprTree.InQuery not x query) all up =
            node (ExprTree.InQuery not x query) (parts x) all refl up (λ enter. lift x (front (parts x) _ all) (λ busy b. enter x (head x []) busy b))
        lift (ExprTree.CountRows after) all up =
            node (ExprTree.CountRows after) (behind_parts after) all refl up (λ enter. lift_after after (front (behind_parts after) _ all) enter)
        lift (ExprTree.Call function items after) all up =
            let two = front (all_parts items ++ behind_parts after) _ all in
            node (ExprTree.Call function items after) (all_parts items ++ behind_parts after) all refl up (λ enter.
            join (all_parts items) (behind_parts after)
            (lift_items items (front (all_parts items) (behind_parts after) two) (λ y there busy b.
            enter y (Contains-append_left (expressions items) (after_in after) y there) (in_front (all_parts items) (behind_parts after) busy) b))
            (lift_after after (back (all_parts items) (behind_parts after) two) (λ y there busy b.
            enter y (Contains-append_right (expressions items) (after_in after) y there) (in_back (all_parts items) (behind_parts after) busy) b)))
        lift (ExprTree.Case operand arms otherwise) all up =
            let three = front (maybe_parts operand ++ arms_parts arms ++ maybe_parts otherwise) _ all in
            let two = front (maybe_parts operand ++ arms_parts arms) (maybe_parts otherwise) three in
            node (ExprTree.Case operand arms otherwise) (maybe_parts operand ++ arms_parts arms ++ maybe_parts otherwise) all refl up (λ enter.
            join (maybe_parts operand ++ arms_parts arms) (maybe_parts otherwise)
            (join (maybe_parts operand) (arms_parts arms)
            (lift_maybe operand (front (maybe_parts operand) (arms_parts arms) two) (λ y there busy b.
            enter y (Contains-append_left (maybe_in operand ++ arms_in arms) (maybe_in otherwise) y (Contains-append_left (maybe_in operand) (arms_in arms) y there))
            (in_front (maybe_parts operand ++ arms_parts arms) (maybe_parts otherwise) (in_front (maybe_parts operand) (arms_parts arms) busy)) b))
            (lift_arms arms (back (maybe_parts operand) (arms_parts arms) two) (λ y there busy b.
            enter y (Contains-append_left (maybe_in operand ++ arms_in arms) (maybe_in otherwise) y (Contains-append_right (maybe_in operand) (arms_in arms) y there))
            (in_front (maybe_parts operand ++ arms_parts arms) (maybe_parts otherwise) (in_back (maybe_parts operand) (arms_parts arms) busy)) b)))
            (lift_maybe otherwise (back (maybe_parts operand ++ arms_parts arms) (maybe_parts otherwise) three) (λ y there busy b.
            enter y (Contains-append_right (maybe_in operand ++ arms_in arms) (maybe_in otherwise) y there)
            (in_back (maybe_parts operand ++ arms_parts arms) (maybe_parts otherwise) busy) b)))
        lift _ all up = one (λ has b. up (λ free. first free has) b)

        lift_items : (es : ExprTrees) → AllReady (all_parts es) → Enters (expressions es) (all_parts es) → Each Lifts (all_parts es)
        lift_items ExprTrees.No_more all enter = none
        lift_items (ExprTrees.More x es) all enter =
            join (parts x) (all_parts es)
            (lift x (front (parts x) (all_parts es) all) (λ busy b. enter x (head x (expressions es)) (in_front (parts x) (all_parts es) busy) b))
            (lift_items es (back (parts x) (all_parts es) all) (λ y there busy b.
            enter y (next x (expressions es) y there) (in_back (parts x) (all_parts es) busy) b))

        lift_maybe : (m : MaybeExpr) → AllReady (maybe_parts m) → Enters (maybe_in m) (maybe_parts m) → Each Lifts (maybe_parts m)
        lift_maybe MaybeExpr.Absent all enter = none
        lift_maybe (MaybeExpr.Present x) all enter = lift x all (λ busy b. enter x (head x []) busy b)

        lift_arms : (arms : ArmTrees) → AllReady (arms_parts arms) → Enters (arms_in arms) (arms_parts arms) → Each Lifts (arms_parts arms)
        lift_arms ArmTrees.No_arm all enter = none
        lift_arms (ArmTrees.Arm test value arms) all enter =
            let two = front (parts test ++ parts value) (arms_parts arms) all in
            join (parts test ++ parts value) (arms_parts arms)
            (join (parts test) (parts value)
            (lift test (front (parts test) (parts value) two) (λ busy b.
            enter test (head test (value ∷ arms_in arms)) (in_front (parts test ++ parts value) (arms_parts arms) (in_front (parts test) (parts value) busy)) b))
            (lift value (back (parts test) (parts value) two) (λ busy b.
            enter value (next test (value ∷ arms_in arms) value (head value (arms_in arms)))
            (in_front (parts test ++ parts value) (arms_parts arms) (in_back (parts test) (parts value) busy)) b)))
            (lift_arms arms (back (parts test ++ parts value) (arms_parts arms) all) (λ y there busy b.
            enter y (next test (value ∷ arms_in arms) y (next value (arms_in arms) y there)) (in_back (parts test ++ parts value) (arms_parts arms) busy) b))

        lift_after : (after : BehindTree) → AllReady (behind_parts after) → Enters (after_in after) (behind_parts after) → Each Lifts (behind_parts after)
        lift_after (BehindTree.Behind filter o) all enter =
            join (maybe_parts filter) (over_parts o)
            (lift_maybe filter (front (maybe_parts filter) (over_parts o) all) (λ y there busy b.
            enter y (Contains-append_left (maybe_in filter) (over_in o) y there) (in_front (maybe_parts filter) (over_parts o) busy) b))
            (lift_over o (back (maybe_parts filter) (over_parts o) all) (λ y there busy b.
            enter y (Contains-append_right (maybe_in filter) (over_in o) y there) (in_back (maybe_parts filter) (over_parts o) busy) b))

        lift_over : (o : OverTree) → AllReady (over_parts o) → Enters (over_in o) (over_parts o) → Each Lifts (over_parts o)
        lift_over OverTree.No_over all enter = none
        lift_over (OverTree.OverName name) all enter = none
        lift_over (OverTree.Over v) all enter = lift_window v all enter

        lift_window : (v : WindowTree) → AllReady (window_parts v) → Enters (window_in v) (window_parts v) → Each Lifts (window_parts v)
        lift_window (WindowTree.Window partition sort frame) all enter =
            join (all_parts partition) (terms_parts sort)
            (lift_items partition (front (all_parts partition) (terms_parts sort) all) (λ y there busy b.
            enter y (Contains-append_left (expressions partition) (terms_in sort) y there) (in_front (all_parts partition) (terms_parts sort) busy) b))
            (lift_terms sort (back (all_parts partition) (terms_parts sort) all) (λ y there busy b.
            enter y (Contains-append_right (expressions partition) (terms_in sort) y there) (in_back (all_parts partition) (terms_parts sort) busy) b))

        lift_terms : (sort : TermTrees) → AllReady (terms_parts sort) → Enters (terms_in sort) (terms_parts sort) → Each Lifts (terms_parts sort)
        lift_terms TermTrees.No_term all enter = none
        lift_terms (TermTrees.Term x direction sort) all enter =
            join (parts x) (terms_parts sort)
            (lift x (front (parts x) (terms_parts sort) all) (λ busy b. enter x (head x (terms_in sort)) (in_front (parts x) (terms_parts sort) busy) b))
            (lift_terms sort (back (parts x) (terms_parts sort) all) (λ y there busy b.
            enter y (next x (terms_in sort) y there) (in_back (parts x) (terms_parts sort) busy) b))

      lift_results : (results : ResultTrees) → AllReady (results_parts results)
          → ((x : ExprTree) → Contains (values_in results) x → IsBareIn answers scope core x → G) → Each Lifts (results_parts results)
      lift_results ResultTrees.No_result all enter = none
      lift_results (ResultTrees.Result (ResultTree.Value e name) results) all enter =
          join (parts e) (results_parts results)
          (lift e (front (parts e) (results_parts results) all) (λ busy b. enter e (head e (values_in results)) b))
          (lift_results results (back (parts e) (results_parts results) all) (λ y there b. enter y (next e (values_in results) y there) b))
      lift_results (ResultTrees.Result ResultTree.All results) all enter = lift_results results (back [] (results_parts results) all) enter
      lift_results (ResultTrees.Result (ResultTree.AllOf table) results) all enter = lift_results results (back [] (results_parts results) all) enter

      lift_definitions : (windows : DefinitionTrees) → AllReady (definitions_parts windows)
          → ((x : ExprTree) → Contains (definitions_in windows) x → IsBareIn answers scope core x → G) → Each Lifts (definitions_parts windows)
      lift_definitions DefinitionTrees.No_definition all enter = none
      lift_definitions (DefinitionTrees.Definition name v windows) all enter =
          join (window_parts v) (definitions_parts windows)
          (lift_window v (front (window_parts v) (definitions_parts windows) all) (λ y there busy b.
          enter y (Contains-append_left (window_in v) (definitions_in windows) y there) b))
          (lift_definitions windows (back (window_parts v) (definitions_parts windows) all) (λ y there b.
          enter y (Contains-append_right (window_in v) (definitions_in windows) y there) b))

      lift_sorted : (shown : List Name) (sort : TermTrees) → AllReady (terms_parts sort)
          → ((x : ExprTree) → Contains (terms_in sort) x → IsNoResult shown x → IsBareIn answers scope core x → G) → Each Lifts (terms_parts sort)
      lift_sorted shown TermTrees.No_term all enter = none
      lift_sorted shown (TermTrees.Term (ExprTree.Column table name) direction sort) all enter =
          join (ExprTree.Column table name ∷ []) (terms_parts sort) (one (λ has b. absurd has))
          (lift_sorted shown sort (back (ExprTree.Column table name ∷ []) (terms_parts sort) all) (λ y there apart b.
          enter y (next (ExprTree.Column table name) (terms_in sort) y there) apart b))
      lift_sorted shown (TermTrees.Term e direction sort) all enter =
          join (parts e) (terms_parts sort)
          (lift e (front (parts e) (terms_parts sort) all) (λ busy b. enter e (head e (terms_in sort)) (λ alone at same. absurd cc) b))
          (lift_sorted shown sort (back (parts e) (terms_parts sort) all) (λ y there apart b. enter y (next e (terms_in sort) y there) apart b))

-- ---- groups

-- where something is gathered, it is of something that is written
gathered_some : {A B : Type 0} (same : A → A → Bool) (f : B → Option (Result A Fault)) (ys : List A) (xs : List B) → firsts same [] (filter_map f xs) ≡ Ok ys
    → (ys ≡ [] → ⊥) → (x : B) × Contains xs x × ((r : Result A Fault) × (f x ≡ Some r))
gathered_some same f ys [] e some = let alike : [] ≡ ys = cc in absurd (some (sym alike))
gathered_some {A = A} {B = B} same f ys (x ∷ xs) e some = by (f x) refl e (λ d. gathered_some same f ys xs d some)
  where
    by : (o : Option (Result A Fault)) → f x ≡ o → firsts same [] (cons_option o (filter_map f xs)) ≡ Ok ys
        → (firsts same [] (filter_map f xs) ≡ Ok ys → (x : B) × Contains xs x × ((r : Result A Fault) × (f x ≡ Some r)))
        → (y : B) × Contains (x ∷ xs) y × ((r : Result A Fault) × (f y ≡ Some r))
    by None is d others =
        let (y, there, found) = others d in (y, next x xs y there, found)
    by (Some r) is d others = (x, head x xs, (r, is))

-- a SELECT that has keys or aggregates has groups
has_groups : (answers : Answers) (scope : Scope) (core : CoreTree) (order : TermTrees) (by : ExprTrees) → groups_in core ≡ expressions by
    → (keys : List Term) (aggregates : List Aggregate) → by_of answers scope by ≡ Ok keys
    → firsts is_same_aggregate [] (filter_map (aggregate_of answers (columns_say scope)) (parts_behind_groups core order)) ≡ Ok aggregates
    → (keys ≡ [] → aggregates ≡ [] → ⊥) → HasGroups core order
has_groups answers scope core order ExprTrees.No_more are keys aggregates keyed gathered some =
    let none_is : [] ≡ keys = cc in
    let (part, there, (r, is)) =
    gathered_some is_same_aggregate (aggregate_of answers (columns_say scope)) aggregates (parts_behind_groups core order) gathered
    (λ none. some (sym none_is) none) in
    HasGroups.aggregate part there (aggregate_is answers (columns_say scope) part r is)
has_groups answers scope core order (ExprTrees.More e others) are keys aggregates keyed gathered some =
    HasGroups.key e (subst (λ es. Contains es e) (sym are) (head e (expressions others)))

-- ---- ORDER BY

numbered_never : {G : Type 0} (width : ℕ) (z : ℤ) → numbered width z ≡ Err BareColumn → G
numbered_never width (pos zero) e = absurd cc
numbered_never width (pos (suc at)) e =
    cases (checked-err (nat_lt at width) WrongPlace (Ok (KeyTerm.result at)) BareColumn e) (λ same. absurd cc) (λ d. absurd cc)
numbered_never width (negsuc n) e = absurd cc

module _ (titles : List Name) (otherwise : ExprTree → Result KeyTerm Fault) where
  -- a term of ORDER BY that is refused so is computed
  abbrev IsRefused : ExprTree → Type 0
  IsRefused e = (otherwise e ≡ Err BareColumn) × IsNoResult titles e

  named_bare : (e : ExprTree) → named_or titles otherwise e ≡ Err BareColumn → IsRefused e
  named_bare (ExprTree.Column None name) e = by (named_at name 0 titles) refl e
    where
      by : (places : List ℕ) → named_at name 0 titles ≡ places → one_or places (otherwise (ExprTree.Column None name)) ≡ Err BareColumn
          → IsRefused (ExprTree.Column None name)
      by [] are d = (
        d,
        λ alone at same is.
            let called : alone ≡ name = cc in named_none name 0 titles are at (subst (λ n. IsNamedAt titles n at) called is),
      )
      by (at ∷ []) are d = absurd cc
      by (at ∷ other ∷ more) are d = absurd cc
  named_bare e d = (d, λ alone at same is. absurd cc)

  key_bare : (e : ExprTree) → key_term titles otherwise e ≡ Err BareColumn → IsRefused e
  key_bare e d = by (number_alone e) d
    where
      by : (number : Option ℤ) → numbered_or (length titles) number (named_or titles otherwise e) ≡ Err BareColumn → IsRefused e
      by (Some z) is = numbered_never (length titles) z is
      by None is = named_bare e is

  keys_bare : {P : ExprTree → Type 0} (sort : TermTrees) → Each P (terms_parts sort) → keys_of titles otherwise sort ≡ Err BareColumn
      → (e : ExprTree) × Contains (terms_in sort) e × Each P (parts e) × IsRefused e
  keys_bare TermTrees.No_term all e = absurd cc
  keys_bare (TermTrees.Term x direction sort) all e =
      cases (both-err (λ k ks. key (direction_of direction) k ∷ ks) (key_term titles otherwise x) (keys_of titles otherwise sort) BareColumn e)
      (λ left. (x, head x (terms_in sort), front (parts x) (terms_parts sort) all, key_bare x left))
      (λ (k, is, right).
      let (y, there, of, so) = keys_bare sort (back (parts x) (terms_parts sort) all) right in (y, next x (terms_in sort) y there, of, so))

-- ---- result columns

some_is : (fault : Fault) (columns others : List ResultColumn) → some_of fault columns ≡ Ok others → columns ≡ others
some_is fault [] others e = absurd cc
some_is fault (c ∷ cs) others e = cc

some_never : {G : Type 0} (fault : Fault) (columns : List ResultColumn) → ¬ (fault ≡ BareColumn) → some_of fault columns ≡ Err BareColumn → G
some_never fault [] apart e = let same : fault ≡ BareColumn = cc in absurd (apart same)
some_never fault (c ∷ cs) apart e = absurd cc

module _ (equal : SameIsEqual) (names : NameIsColumn) (scalars : ColumnsAreScalar) (answers : Answers) (scope : Scope) where
  condition_never : {G : Type 0} (condition : MaybeExpr) → Each (IsAnswered answers) (maybe_parts condition)
      → condition_of answers (columns_say scope) condition ≡ Err BareColumn → G
  condition_never MaybeExpr.Absent all e = absurd cc
  condition_never (MaybeExpr.Present x) all e = never (term_of answers (columns_say scope) x) (columns_term_other answers scope x all) e

  by_never : {G : Type 0} (es : ExprTrees) → Each (IsAnswered answers) (all_parts es) → by_of answers scope es ≡ Err BareColumn → G
  by_never ExprTrees.No_more all e = absurd cc
  by_never {G = G} (ExprTrees.More x es) all e =
      cases (both-err ◌∷◌ (group_term answers scope x) (by_of answers scope es) BareColumn e)
      (λ left. one_never (number_alone x) left)
      (λ (t, is, right). by_never es (back (parts x) (all_parts es) all) right)
    where
      one_never : (number : Option ℤ) → no_number number (term_of answers (columns_say scope) x) ≡ Err BareColumn → G
      one_never (Some z) d = absurd cc
      one_never None d =
          never (term_of answers (columns_say scope) x) (columns_term_other answers scope x (front (parts x) (all_parts es) all)) d

  module _ (distinct : Bool) (results : ResultTrees) (from : FromTree) (condition : MaybeExpr) (written : ExprTrees) (having : MaybeExpr)
      (windows : DefinitionTrees) (order : TermTrees) where
    abbrev core : CoreTree
    core = CoreTree.Select distinct results from condition written having windows

    abbrev IsReady : ExprTree → Type 0
    IsReady = Ready answers core order

    abbrev behind : List ExprTree
    behind = parts_behind_groups core order

    module _ (all : Each IsReady behind) where
      to_windows : Each IsReady (results_parts results ++ maybe_parts having ++ definitions_parts windows)
      to_windows = front (results_parts results ++ maybe_parts having ++ definitions_parts windows) (terms_parts order) all

      in_terms : Each IsReady (terms_parts order)
      in_terms = back (results_parts results ++ maybe_parts having ++ definitions_parts windows) (terms_parts order) all

      in_windows : Each IsReady (definitions_parts windows)
      in_windows = back (results_parts results ++ maybe_parts having) (definitions_parts windows) to_windows

      in_results : Each IsReady (results_parts results)
      in_results =
          front (results_parts results) (maybe_parts having) (front (results_parts results ++ maybe_parts having) (definitions_parts windows) to_windows)

      in_having : Each IsReady (maybe_parts having)
      in_having =
          back (results_parts results) (maybe_parts having) (front (results_parts results ++ maybe_parts having) (definitions_parts windows) to_windows)

      parts_ready : (part : ExprTree) → Contains behind part → Each IsReady (parts part)
      parts_ready part there = (among deep_in there).is
        where
          deep_in : Each (Deep IsReady) behind
          deep_in =
              join (results_parts results ++ maybe_parts having ++ definitions_parts windows) (terms_parts order)
              (join (results_parts results ++ maybe_parts having) (definitions_parts windows)
              (join (results_parts results) (maybe_parts having) (deep_results results in_results) (deep_maybe having in_having))
              (deep_definitions windows in_windows)) (deep_terms order in_terms)

    module _ (input : Input) (Bad : ExprTree → Type 0)
        (marks : Traces answers IsReady (λ part ready. ready.answered) input.says Bad) (G : Type 0)
        (root : (e : ExprTree) → IsAfterGroups scope core order e → Bad e → G)
        (star : (r : ResultColumn) → IsStarred scope r results → input.over_input r.term ≡ Err BareColumn → G)
        (lifted : Each (λ q. HasOver q → Bad q → G) behind) (all : Each IsReady behind) where
      definitions_bare : (ds : DefinitionTrees) → Each IsReady (definitions_parts ds) → defined_of answers input.says ds ≡ Err BareColumn
          → (x : ExprTree) × Contains (definitions_in ds) x × Bad x
      definitions_bare DefinitionTrees.No_definition of e = absurd cc
      definitions_bare (DefinitionTrees.Definition name v ds) of e =
          cases (both-err (λ window ds. record { name = name; window = window } ∷ ds) (window_of answers input.says v) (defined_of answers input.says ds) BareColumn e)
          (λ left.
          let (x, there, bad) =
          window_traced answers IsReady (λ part ready. ready.answered) input.says Bad marks v (front (window_parts v) (definitions_parts ds) of) left in
          (x, Contains-append_left (window_in v) (definitions_in ds) x there, bad))
          (λ (w, is, right).
          let (x, there, bad) = definitions_bare ds (back (window_parts v) (definitions_parts ds) of) right in
          (x, Contains-append_right (window_in v) (definitions_in ds) x there, bad))

      module _ (says : Says) (row_marks : Traces answers IsReady (λ part ready. ready.answered) says Bad) where
        stars_bare : (fault : Fault) → ¬ (fault ≡ BareColumn) → (columns : List ResultColumn)
            → ((r : ResultColumn) → Contains columns r → input.over_input r.term ≡ Err BareColumn → G)
            → followed (some_of fault columns) (each (as_input answers input)) ≡ Err BareColumn → G
        stars_bare fault apart columns enter e =
            cases (followed-err (some_of fault columns) (each (as_input answers input)) BareColumn e)
            (λ left. some_never fault columns apart left)
            (λ (others, is, right).
            let (r, there, d) = each-err (as_input answers input) others BareColumn right in
            enter r (subst (λ columns. Contains columns r) (sym (some_is fault columns others is)) there)
            (also-err (result r.name) (input.over_input r.term) BareColumn d))

        results_bare : (rs : ResultTrees) → Each IsReady (results_parts rs) → ((x : ExprTree) → Contains (values_in rs) x → Bad x → G)
            → ((r : ResultColumn) → IsStarred scope r rs → input.over_input r.term ≡ Err BareColumn → G)
            → all_results answers scope input says rs ≡ Err BareColumn → G
        results_bare ResultTrees.No_result of value starry e = absurd cc
        results_bare (ResultTrees.Result ResultTree.All rs) of value starry e =
            cases (both-err ◌++◌ (results_of answers scope input says ResultTree.All) (all_results answers scope input says rs) BareColumn e)
            (λ left. stars_bare WrongPlace (λ same. absurd cc) (starred scope) (λ r there. starry r (IsStarred.all there)) left)
            (λ (columns, is, right).
            results_bare rs (back [] (results_parts rs) of) value (λ r there. starry r (IsStarred.later there)) right)
        results_bare (ResultTrees.Result (ResultTree.AllOf table) rs) of value starry e =
            cases (both-err ◌++◌ (results_of answers scope input says (ResultTree.AllOf table)) (all_results answers scope input says rs) BareColumn e)
            (λ left. stars_bare UnknownColumn (λ same. absurd cc) (starred_of table 0 scope) (λ r there. starry r (IsStarred.of there)) left)
            (λ (columns, is, right).
            results_bare rs (back [] (results_parts rs) of) value (λ r there. starry r (IsStarred.later there)) right)
        results_bare (ResultTrees.Result (ResultTree.Value x name) rs) of value starry e =
            cases (both-err ◌++◌ (results_of answers scope input says (ResultTree.Value x name)) (all_results answers scope input says rs) BareColumn e)
            (λ left.
            value x (head x (values_in rs))
            (term_traced answers IsReady (λ part ready. ready.answered) says Bad row_marks x (front (parts x) (results_parts rs) of)
            (also-err _ (term_of answers says x) BareColumn left)))
            (λ (columns, is, right).
            results_bare rs (back (parts x) (results_parts rs) of) (λ y there. value y (next x (values_in rs) y there))
            (λ r there. starry r (IsStarred.later there)) right)

        row_bare : (distinct : Bool) (e : ExprTree) → on_row answers distinct says e ≡ Err BareColumn → term_of answers says e ≡ Err BareColumn
        row_bare true e d = absurd cc
        row_bare false e d = also-err KeyTerm.term (term_of answers says e) BareColumn d

        shown_bare : (test : Term) (defined : List Defined) (calls : List WindowCall)
            → shown answers scope distinct results order behind test input defined calls says ≡ Err BareColumn → G
        shown_bare test defined calls e =
            cases (followed-err (all_results answers scope input says results) _ BareColumn e)
            (λ left.
            results_bare results (in_results all)
            (λ x there bad.
            root x (IsAfterGroups.computed (Contains-append_left (values_in results ++ maybe_in having) (definitions_in windows) x
            (Contains-append_left (values_in results) (maybe_in having) x there))) bad) star left)
            (λ (columns, given, rest).
            cases (checked-err (nat_le (length columns) max_columns) Limit _ BareColumn rest) (λ same. absurd cc)
            (λ last.
            let (x, there, of, (d, apart)) =
            keys_bare (names_in columns) (on_row answers distinct says) order (in_terms all)
            (also-err (finished distinct test input.grouping defined calls columns) (keys_of (names_in columns) (on_row answers distinct says) order) BareColumn last) in
            root x (IsAfterGroups.sorted there
            (subst (λ titles. IsNoResult titles x) (all_names answers input scope says results columns given) apart))
            (term_traced answers IsReady (λ part ready. ready.answered) says Bad row_marks x of (row_bare distinct x d))))

      behind_bare : (test : Term) → behind_groups answers scope distinct results order behind windows test input ≡ Err BareColumn → G
      behind_bare test e =
          cases (checked-err (are_distinct (window_names windows)) DuplicateName _ BareColumn e) (λ same. absurd cc)
          (λ on.
          cases (followed-err (defined_of answers input.says windows) _ BareColumn on)
          (λ left.
          let (x, there, bad) = definitions_bare windows (in_windows all) left in
          root x (IsAfterGroups.computed (Contains-append_right (values_in results ++ maybe_in having) (definitions_in windows) x there)) bad)
          (λ (defined, are, more).
          cases (followed-err (firsts is_same_call [] (filter_map (call_of answers input.says defined) behind)) _ BareColumn more)
          (λ left.
          let (part, there, is) = firsts-err is_same_call [] (call_of answers input.says defined) behind BareColumn left in
          let has = call_over answers input.says defined part (Err BareColumn) is in
          among lifted there has
          (call_traced answers IsReady (λ part ready. ready.answered) input.says Bad marks defined part (parts_ready all part there) has is))
          (λ (calls, called, last).
          shown_bare (windows_say answers input.says defined input.width calls)
          (windows_marks equal names scalars answers scope core order input.says Bad marks defined input.width calls) test defined calls last)))

    -- what is said of it
    abbrev IsBareCore : Type 0
    IsBareCore = HasGroups core order × HasBare answers scope core order

    module _ (all : Each IsReady behind) (test : Term) where
      module _ (keys : List Term) (keyed : by_of answers scope written ≡ Ok keys) (aggregates : List Aggregate)
          (gathered : firsts is_same_aggregate [] (filter_map (aggregate_of answers (columns_say scope)) behind) ≡ Ok aggregates)
          (some : keys ≡ [] → aggregates ≡ [] → ⊥) where
        groups : HasGroups core order
        groups = has_groups answers scope core order written refl keys aggregates keyed gathered some

        rooted : (e : ExprTree) → IsAfterGroups scope core order e → IsBareIn answers scope core e → IsBareCore
        rooted e after b = (groups, HasBare.column e after b)

        over_groups : Traces answers IsReady (λ part ready. ready.answered) (groups_say answers scope keys aggregates) (IsBareIn answers scope core)
        over_groups = groups_marks equal names scalars answers scope core order written refl keys keyed aggregates gathered

        starry : (r : ResultColumn) → IsStarred scope r results → or_bare (key_column keys (Ok r.term)) ≡ Err BareColumn → IsBareCore
        starry r there d = (
          groups,
          HasBare.star r there (λ g.
              column_place 0 (place_of is_same_term r.term keys) (group_term_place equal answers scope core written refl keys keyed r.term g)
              (or_bare-err (key_column keys (Ok r.term)) d)),
        )

        lifted : Each (λ q. HasOver q → IsBareIn answers scope core q → IsBareCore) behind
        lifted =
            join (results_parts results ++ maybe_parts having ++ definitions_parts windows) (terms_parts order)
            (join (results_parts results ++ maybe_parts having) (definitions_parts windows)
            (join (results_parts results) (maybe_parts having)
            (lift_results equal names scalars answers scope core order written refl keys keyed aggregates gathered IsBareCore results (in_results all) (λ x there b.
            rooted x (IsAfterGroups.computed (Contains-append_left (values_in results ++ maybe_in having) (definitions_in windows) x
            (Contains-append_left (values_in results) (maybe_in having) x there))) b))
            (lift_maybe equal names scalars answers scope core order written refl keys keyed aggregates gathered IsBareCore having (in_having all) (λ x there busy b.
            rooted x (IsAfterGroups.computed (Contains-append_left (values_in results ++ maybe_in having) (definitions_in windows) x
            (Contains-append_right (values_in results) (maybe_in having) x there))) b)))
            (lift_definitions equal names scalars answers scope core order written refl keys keyed aggregates gathered IsBareCore windows (in_windows all) (λ x there b.
            rooted x (IsAfterGroups.computed (Contains-append_right (values_in results ++ maybe_in having) (definitions_in windows) x there)) b)))
            (lift_sorted equal names scalars answers scope core order written refl keys keyed aggregates gathered IsBareCore (names_of_results scope results) order (in_terms all)
            (λ x there apart b. rooted x (IsAfterGroups.sorted there apart) b))

        having_bare : (m : MaybeExpr) → having ≡ m → condition_of answers (groups_say answers scope keys aggregates) m ≡ Err BareColumn → IsBareCore
        having_bare MaybeExpr.Absent same d = absurd cc
        having_bare (MaybeExpr.Present x) same d =
            rooted x (IsAfterGroups.computed (Contains-append_left (values_in results ++ maybe_in having) (definitions_in windows) x
            (Contains-append_right (values_in results) (maybe_in having) x (subst (λ m. Contains (maybe_in m) x) (sym same) (head x [])))))
            (term_traced answers IsReady (λ part ready. ready.answered) (groups_say answers scope keys aggregates) (IsBareIn answers scope core) over_groups x
            (subst (λ m. Each IsReady (maybe_parts m)) same (in_having all)) d)

        grouped_bare : followed (grouped answers scope keys aggregates having) (behind_groups answers scope distinct results order behind windows test)
            ≡ Err BareColumn → IsBareCore
        grouped_bare e =
            cases (followed-err (grouped answers scope keys aggregates having) (behind_groups answers scope distinct results order behind windows test) BareColumn e)
            (λ left. having_bare having refl (also-err _ (condition_of answers (groups_say answers scope keys aggregates) having) BareColumn left))
            (λ (input, given, rest).
            let (h, is, same) = also-ok _ (condition_of answers (groups_say answers scope keys aggregates) having) input given in
            behind_bare (record {
              says = groups_say answers scope keys aggregates;
              over_input = λ t. or_bare (key_column keys (Ok t));
              width = length keys + length aggregates;
              grouping = Some (grouping_of keys aggregates h);
            }) (IsBareIn answers scope core) over_groups IsBareCore rooted starry lifted all test
            (subst (λ input. behind_groups answers scope distinct results order behind windows test input ≡ Err BareColumn) (sym same) rest))

      input_bare : (keys : List Term) → by_of answers scope written ≡ Ok keys → (aggregates : List Aggregate)
          → firsts is_same_aggregate [] (filter_map (aggregate_of answers (columns_say scope)) behind) ≡ Ok aggregates
          → followed (input_of answers scope keys aggregates having) (behind_groups answers scope distinct results order behind windows test) ≡ Err BareColumn
          → IsBareCore
      input_bare [] keyed [] gathered e =
          behind_bare (ungrouped scope) (λ _. ⊥) (columns_marks equal names scalars answers scope core order) IsBareCore
          (λ x after bad. absurd bad) (λ r there d. absurd cc) (weaker (λ q _ has bad. absurd bad) (each_itself behind)) all test e
      input_bare [] keyed (a ∷ aggregates) gathered e = grouped_bare [] keyed (a ∷ aggregates) gathered (λ none other. absurd cc) e
      input_bare (t ∷ keys) keyed aggregates gathered e = grouped_bare (t ∷ keys) keyed aggregates gathered (λ none other. absurd cc) e

    select_bare : Each IsReady behind → Each (IsAnswered answers) (maybe_parts condition) → Each (IsAnswered answers) (all_parts written)
        → core_of answers scope core order ≡ Err BareColumn → IsBareCore
    select_bare all in_condition in_by e =
        cases (followed-err (condition_of answers (columns_say scope) condition) _ BareColumn e) (λ left. condition_never condition in_condition left)
        (λ (test, is, more).
        cases (followed-err (by_of answers scope written) _ BareColumn more) (λ left. by_never written in_by left)
        (λ (keys, keyed, rest).
        cases (followed-err (firsts is_same_aggregate [] (filter_map (aggregate_of answers (columns_say scope)) behind)) _ BareColumn rest)
        (λ left.
        let (part, there, so) = firsts-err is_same_aggregate [] (aggregate_of answers (columns_say scope)) behind BareColumn left in
        aggregate_never part there so)
        (λ (aggregates, gathered, last). input_bare all test keys keyed aggregates gathered last)))
      where
        aggregate_never : (part : ExprTree) → Contains behind part → aggregate_of answers (columns_say scope) part ≡ Some (Err BareColumn) → IsBareCore
        aggregate_never part there so = by (aggregate_of answers (columns_say scope) part) refl (aggregate_other answers scope (record { laws = inl equal }) part
            (weaker (λ part ready. ready.answered) (parts_ready all part there)))
          where
            by : (o : Option (Result Aggregate Fault)) → aggregate_of answers (columns_say scope) part ≡ o → OnlySome IsOther o → IsBareCore
            by None is other = absurd cc
            by (Some r) is other = let same : r ≡ Err BareColumn = cc in never r other.is same

pub core_bare : SameIsEqual → NameIsColumn → ColumnsAreScalar → (answers : Answers) (scope : Scope) (core : CoreTree) (order : TermTrees)
    → Each (IsAnswered answers) (core_parts core order) → core_of answers scope core order ≡ Err BareColumn
    → HasGroups core order × HasBare answers scope core order
core_bare equal names scalars answers scope (CoreTree.Select distinct results from condition written having windows) order all e =
    let r = results_parts results in
    let f = from_parts from in
    let c = maybe_parts condition in
    let b = all_parts written in
    let h = maybe_parts having in
    let d = definitions_parts windows in
    let o = terms_parts order in
    let to_windows = front (r ++ f ++ c ++ b ++ h ++ d) o all in
    let to_having = front (r ++ f ++ c ++ b ++ h) d to_windows in
    let to_by = front (r ++ f ++ c ++ b) h to_having in
    let to_condition = front (r ++ f ++ c) b to_by in
    let in_results = front r f (front (r ++ f) c to_condition) in
    let answered : Each (IsAnswered answers) (r ++ h ++ d ++ o) =
    join (r ++ h ++ d) o (join (r ++ h) d (join r h in_results (back (r ++ f ++ c ++ b) h to_having)) (back (r ++ f ++ c ++ b ++ h) d to_windows))
    (back (r ++ f ++ c ++ b ++ h ++ d) o all) in
    select_bare equal names scalars answers scope distinct results from condition written having windows order
    (each_place (r ++ h ++ d ++ o) answered (λ q there is. record { stands = there; answered = is }))
    (back (r ++ f) c to_condition) (back (r ++ f ++ c) b to_by) e
