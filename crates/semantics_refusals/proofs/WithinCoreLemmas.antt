-- One SELECT behind its FROM names columns that there are.
use Rattle.std.proofs.Common.{◌≡◌, Bool, true, false, if◌then◌else◌, ℕ, suc, ℤ, pos, ◌+◌, ◌<◌, ◌≤◌, List, [], ◌∷◌, ◌++◌, length, map, Option, Some, None, Result, Ok, Err, nat_le, nat_lt, refl, subst, sym, ◌∙◌, arith}
use Rattle.std.specs.List.{filter_map}
use Rattle.std.specs.Str.{str_eq_ignore_ascii_case}
use Rattle.std.proofs.lemmas.Bool.{ltb-true}
use Rattle.std.proofs.lemmas.List.{length-map}
use Rattle.values.specs.declared.fault.Fault.{Fault}
use Rattle.values.specs.declared.fault.Fault.TheVariants.{Ambiguous, BareColumn, DuplicateName, Limit, UnknownColumn, WrongPlace}
use Rattle.expr.specs.Term.{Term}
use Rattle.sql_reader_syntax.specs.ExprTree.{CoreTree, DefinitionTrees, ExprTree, ExprTrees, MaybeExpr, ResultTree, ResultTrees, TermTrees}
use Rattle.sql_reader_syntax.specs.Tree.{Name}
use Rattle.semantics.specs.Query.{Aggregate, Key, KeyTerm, Select, WindowCall}
use Rattle.semantics_names.specs.Expression.{Answers, Says, term_of}
use Rattle.semantics_names.specs.Outcome.{each}
use Rattle.semantics_names.specs.Parts.{parts_behind_groups}
use Rattle.semantics_names.specs.Places.{Defined, aggregate_of, call_of, columns_say, direction_of, groups_say, key_column, window_of, windows_say}
use Rattle.semantics_names.specs.Same.{is_same_aggregate, is_same_call}
use Rattle.semantics_names.specs.Scope.{Scope}
use Rattle.semantics_names.specs.Statement.{CoreData, Input, ResultColumn, all_results, are_distinct, as_input, behind_groups, by_of, condition_of, core_of, defined_of, finished, firsts, group_term, grouped, input_of, key, key_term, keys_of, max_columns, named_at, named_or, no_number, number_alone, numbered, numbered_or, on_row, one_or, or_bare, result, results_of, select_of, shown, some_of, starred, starred_of, ungrouped, window_names}
use Rattle.semantics_refusals.proofs.ClashLemmas.{IsWithin}
use Rattle.semantics_refusals.proofs.HandsLemmas.{Hands, IfAny, also_hands, both_hands, checked_hands, firsts_hands, followed_hands, given_hands, if_hands, no_hands}
use Rattle.semantics_refusals.proofs.NameLemmas.{names_in}
use Rattle.semantics_refusals.proofs.PartLemmas.{Each, first, join, more, none, one, rest}
use Rattle.semantics_refusals.proofs.WithinLemmas.{IsWithinCall, IsWithinGrouping, IsWithinSelect, IsWithinWindow, input_width}
use Rattle.semantics_refusals.proofs.WithinPlaceLemmas.{IsSaying, aggregate_within, call_within, groups_within, key_there, term_so, wider, window_within, windows_within}
use Rattle.semantics_refusals.proofs.WithinScopeLemmas.{AreAnswers, IsWithinScope, columns_said, starred_of_within, starred_within}
use Rattle.semantics_refusals.proofs.WithinTermLemmas.{IsOfColumns, of_columns}

-- ---- ORDER BY

below_from : (name : Name) (at : ℕ) (names : List Name) → Each (λ k. k < at + length names) (named_at name at names)
below_from name at [] = none
below_from name at (n ∷ ns) = by (str_eq_ignore_ascii_case n name) (wide (named_at name (suc at) ns) (below_from name (suc at) ns))
  where
    wide : (ks : List ℕ) → Each (λ k. k < suc at + length ns) ks → Each (λ k. k < at + suc (length ns)) ks
    wide [] all = none
    wide (k ∷ ks) all = let less : k < suc at + length ns = first all in more k ks (omega arith) (wide ks (rest all))

    by : (b : Bool) → Each (λ k. k < at + suc (length ns)) (named_at name (suc at) ns)
        → Each (λ k. k < at + suc (length ns)) (if b then at ∷ named_at name (suc at) ns else named_at name (suc at) ns)
    by true all = more at (named_at name (suc at) ns) (omega arith) all
    by false all = all

module _ (K : KeyTerm → Type 0) (names : List Name) (there : (at : ℕ) → at < length names → K (KeyTerm.result at))
    (otherwise : ExprTree → Result KeyTerm Fault) (other : (e : ExprTree) → Hands K (otherwise e)) where
  one_within : (places : List ℕ) (r : Result KeyTerm Fault) → Each (λ k. k < length names) places → Hands K r → Hands K (one_or places r)
  one_within [] r all h = h
  one_within (at ∷ []) r all h = record { is = there at (first all) }
  one_within (at ∷ second ∷ places) r all h = no_hands Ambiguous

  numbered_within : (z : ℤ) → Hands K (numbered (length names) z)
  numbered_within (pos (suc at)) =
      checked_hands (nat_lt at (length names)) WrongPlace _ (λ e. record { is = there at (ltb-true at (length names) e) })
  numbered_within z = no_hands WrongPlace

  named_within : (e : ExprTree) → Hands K (named_or names otherwise e)
  named_within (ExprTree.Column None name) =
      one_within (named_at name 0 names) (otherwise (ExprTree.Column None name)) (from_start (named_at name 0 names) (below_from name 0 names))
      (other (ExprTree.Column None name))
    where
      from_start : (ks : List ℕ) → Each (λ k. k < 0 + length names) ks → Each (λ k. k < length names) ks
      from_start [] all = none
      from_start (k ∷ ks) all = let less : k < 0 + length names = first all in more k ks (omega arith) (from_start ks (rest all))
  named_within e = other e

  key_within : (e : ExprTree) → Hands K (key_term names otherwise e)
  key_within e = by (number_alone e)
    where
      by : (number : Option ℤ) → Hands K (numbered_or (length names) number (named_or names otherwise e))
      by (Some z) = numbered_within z
      by None = named_within e

  pub keys_within : (order : TermTrees) → Hands (Each (λ (k : Key). K k.by)) (keys_of names otherwise order)
  keys_within TermTrees.No_term = record { is = none }
  keys_within (TermTrees.Term e direction others) =
      both_hands _ (key_term names otherwise e) (keys_of names otherwise others) (key_within e) (keys_within others)
      (λ k ks h all. more (key (direction_of direction) k) ks h all)

-- a key of a SELECT, of which these are the names
abbrev pub KeyIsThere : ℕ → ℕ → Select → ℕ → KeyTerm → Type 0
KeyIsThere count width s names (KeyTerm.result at) = at < names
KeyIsThere count width s names (KeyTerm.term t) = (s.distinct ≡ false) × IsWithin count (input_width width s.grouping + length s.windows) t

pub record IsWithinCore (count width : ℕ) (c : CoreData) : Type 0 where
  pub select : IsWithinSelect count width c.select
  pub names : length c.names ≡ length c.select.columns
  pub order : Each (λ (k : Key). KeyIsThere count width c.select (length c.names) k.by) c.order
  pub defined : Each (λ (d : Defined). IsWithinWindow count (input_width width c.select.grouping) d.window) c.defined

module _ (count : ℕ) (answers : Answers) (answered : AreAnswers count answers) (width : ℕ) (scope : Scope) (size : length scope ≡ width)
    (inside : IsWithinScope width scope) where
  scope_says : IsSaying width (columns_say scope)
  scope_says = record { so = columns_said width scope (omega arith) inside }

  -- what is computed on the rows that windows take
  record IsWithinInput (input : Input) : Type 0 where
    saying : IsSaying input.width input.says
    over : (t : Term) → IsOfColumns width t → Hands (IsOfColumns input.width) (input.over_input t)
    grouping : IfAny (IsWithinGrouping count width) input.grouping
    same : input_width width input.grouping ≡ input.width

  ungrouped_within : IsWithinInput (ungrouped scope)
  ungrouped_within = record {
    saying = subst (λ w. IsSaying w (columns_say scope)) (sym size) scope_says;
    over = λ t h. record { is = subst (λ w. IsOfColumns w t) (sym size) h };
    grouping = record { is = tt };
    same = sym size;
  }

  condition_within : (w : ℕ) (says : Says) → IsSaying w says → (condition : MaybeExpr)
      → Hands (IsWithin count w) (condition_of answers says condition)
  condition_within w says saying MaybeExpr.Absent = record { is = tt }
  condition_within w says saying (MaybeExpr.Present e) = term_so count answers answered w says saying e

  or_bare_within : (w : ℕ) (t : Option Term) → IfAny (IsOfColumns w) t → Hands (IsOfColumns w) (or_bare t)
  or_bare_within w (Some t) h = record { is = h.is }
  or_bare_within w None h = no_hands BareColumn

  grouped_within : (by : List Term) (aggregates : List Aggregate) (having : MaybeExpr) → Each (IsWithin count width) by
      → Each (λ (a : Aggregate). IsWithin count width a.argument) aggregates → Hands IsWithinInput (grouped answers scope by aggregates having)
  grouped_within by aggregates having in_by in_aggregates =
      also_hands _ (condition_of answers (groups_say answers scope by aggregates) having)
      (condition_within (length by + length aggregates) (groups_say answers scope by aggregates)
      (groups_within count answers answered by scope aggregates)
      having)
      (λ h in_having. record {
        saying = groups_within count answers answered by scope aggregates;
        over = λ t of.
            or_bare_within (length by + length aggregates) (key_column by (Ok t))
            (key_there count answers answered by (length by + length aggregates) (Ok t) (omega arith));
        grouping = record { is = record { by = in_by; aggregates = in_aggregates; having = in_having } };
        same = refl;
      })

  input_within : (by : List Term) (aggregates : List Aggregate) (having : MaybeExpr) → Each (IsWithin count width) by
      → Each (λ (a : Aggregate). IsWithin count width a.argument) aggregates → Hands IsWithinInput (input_of answers scope by aggregates having)
  input_within [] [] having in_by in_aggregates = record { is = ungrouped_within }
  input_within [] (a ∷ aggregates) having in_by in_aggregates = grouped_within [] (a ∷ aggregates) having in_by in_aggregates
  input_within (t ∷ by) aggregates having in_by in_aggregates = grouped_within (t ∷ by) aggregates having in_by in_aggregates

  no_number_within : (number : Option ℤ) (t : Result Term Fault) → Hands (IsWithin count width) t → Hands (IsWithin count width) (no_number number t)
  no_number_within (Some z) t h = no_hands WrongPlace
  no_number_within None t h = h

  by_within : (by : ExprTrees) → Hands (Each (IsWithin count width)) (by_of answers scope by)
  by_within ExprTrees.No_more = record { is = none }
  by_within (ExprTrees.More e others) =
      both_hands ◌∷◌ (group_term answers scope e) (by_of answers scope others)
      (no_number_within (number_alone e) (term_of answers (columns_say scope) e)
      (term_so count answers answered width (columns_say scope) scope_says e)) (by_within others) (λ t ts h all. more t ts h all)

  defined_within : (w : ℕ) (says : Says) → IsSaying w says → (windows : DefinitionTrees)
      → Hands (Each (λ (d : Defined). IsWithinWindow count w d.window)) (defined_of answers says windows)
  defined_within w says saying DefinitionTrees.No_definition = record { is = none }
  defined_within w says saying (DefinitionTrees.Definition name v others) =
      both_hands _ (window_of answers says v) (defined_of answers says others) (window_within count answers answered w says saying v)
      (defined_within w says saying others) (λ window ds h all. more _ ds h all)

  -- ---- result columns

  module _ (input : Input) (is : IsWithinInput input) (wide : ℕ) (few : input.width ≤ wide) (says : Says) (saying : IsSaying wide says) where
    input_columns : (columns : List ResultColumn) → Each (λ (r : ResultColumn). IsOfColumns width r.term) columns
        → Hands (Each (λ (r : ResultColumn). IsWithin count wide r.term)) (each (as_input answers input) columns)
    input_columns columns all =
        given_hands (as_input answers input) columns all (λ r of.
        also_hands (result r.name) (input.over_input r.term) (is.over r.term of)
        (λ t h. of_columns count wide t (wider input.width wide t few h)))

    some_within : (fault : Fault) (columns : List ResultColumn) → Each (λ (r : ResultColumn). IsOfColumns width r.term) columns
        → Hands (Each (λ (r : ResultColumn). IsOfColumns width r.term)) (some_of fault columns)
    some_within fault [] all = no_hands fault
    some_within fault (c ∷ cs) all = record { is = all }

    result_within : (r : ResultTree) → Hands (Each (λ (r : ResultColumn). IsWithin count wide r.term)) (results_of answers scope input says r)
    result_within ResultTree.All =
        followed_hands (some_of WrongPlace (starred scope)) (each (as_input answers input))
        (some_within WrongPlace (starred scope) (starred_within width scope inside)) input_columns
    result_within (ResultTree.AllOf table) =
        followed_hands (some_of UnknownColumn (starred_of table 0 scope)) (each (as_input answers input))
        (some_within UnknownColumn (starred_of table 0 scope) (starred_of_within width table 0 scope (omega arith))) input_columns
    result_within (ResultTree.Value e name) =
        also_hands _ (term_of answers says e) (term_so count answers answered wide says saying e) (λ t h. one h)

    results_within : (results : ResultTrees)
        → Hands (Each (λ (r : ResultColumn). IsWithin count wide r.term)) (all_results answers scope input says results)
    results_within ResultTrees.No_result = record { is = none }
    results_within (ResultTrees.Result r rs) =
        both_hands ◌++◌ (results_of answers scope input says r) (all_results answers scope input says rs) (result_within r) (results_within rs)
        (λ a b h k. join a b h k)

  terms_of_columns : (w : ℕ) (columns : List ResultColumn) → Each (λ (r : ResultColumn). IsWithin count w r.term) columns
      → Each (IsWithin count w) (map (λ (r : ResultColumn). r.term) columns)
  terms_of_columns w [] all = none
  terms_of_columns w (c ∷ cs) all = more c.term (map (λ (r : ResultColumn). r.term) cs) (first all) (terms_of_columns w cs (rest all))

  -- ---- the SELECT

  module _ (distinct : Bool) (results : ResultTrees) (order : TermTrees) (behind : List ExprTree) where
    module _ (condition : Term) (in_condition : IsWithin count width condition) (input : Input) (is : IsWithinInput input) where
      module _ (defined : List Defined) (calls : List WindowCall) (says : Says) (saying : IsSaying (input.width + length calls) says)
          (in_defined : Each (λ (d : Defined). IsWithinWindow count input.width d.window) defined)
          (in_calls : Each (IsWithinCall count input.width) calls)
        where
          row_within : (columns : List ResultColumn) (e : ExprTree)
              → Hands (KeyIsThere count width ((finished distinct condition input.grouping defined calls columns []).select)
              (length (names_in columns)))
              (on_row answers distinct says e)
          row_within columns e =
              if_hands distinct (Err WrongPlace) _ (λ _. no_hands WrongPlace) (λ plain.
              also_hands KeyTerm.term (term_of answers says e) (term_so count answers answered (input.width + length calls) says saying e)
              (λ t h. (plain, subst (λ w. IsWithin count (w + length calls) t) (sym is.same) h)))

          core_made : (columns : List ResultColumn) (keys : List Key)
              → Each (λ (r : ResultColumn). IsWithin count (input.width + length calls) r.term) columns
              → Each (λ (k : Key). KeyIsThere count width ((finished distinct condition input.grouping defined calls columns []).select)
              (length (names_in columns)) k.by) keys
              → IsWithinCore count width (finished distinct condition input.grouping defined calls columns keys)
          core_made columns keys in_columns in_keys = record {
            select = record {
              condition = in_condition;
              grouping = is.grouping;
              windows = subst (λ w. Each (IsWithinCall count w) calls) (sym is.same) in_calls;
              columns =
                  subst (λ w. Each (IsWithin count (w + length calls)) (map (λ (r : ResultColumn). r.term) columns)) (sym is.same)
                  (terms_of_columns (input.width + length calls) columns in_columns);
            };
            names = length-map columns (λ (r : ResultColumn). r.name) ∙ sym (length-map columns (λ (r : ResultColumn). r.term));
            order = in_keys;
            defined = subst (λ w. Each (λ (d : Defined). IsWithinWindow count w d.window) defined) (sym is.same) in_defined;
          }

          shown_within : Hands (IsWithinCore count width) (shown answers scope distinct results order behind condition input defined calls says)
          shown_within =
              followed_hands (all_results answers scope input says results) _
              (results_within input is (input.width + length calls) (omega arith) says saying results)
              (λ columns in_columns.
              checked_hands (nat_le (length columns) max_columns) Limit _ (λ e.
              also_hands (finished distinct condition input.grouping defined calls columns)
              (keys_of (names_in columns) (on_row answers distinct says) order)
              (keys_within
              (KeyIsThere count width ((finished distinct condition input.grouping defined calls columns []).select) (length (names_in columns)))
              (names_in columns) (λ at less. less) (on_row answers distinct says) (row_within columns) order)
              (λ keys in_keys. core_made columns keys in_columns in_keys)))

      behind_within : (windows : DefinitionTrees)
          → Hands (IsWithinCore count width) (behind_groups answers scope distinct results order behind windows condition input)
      behind_within windows =
          checked_hands (are_distinct (window_names windows)) DuplicateName _ (λ e.
          followed_hands (defined_of answers input.says windows) _ (defined_within input.width input.says is.saying windows) (λ defined in_defined.
          followed_hands (firsts is_same_call [] (filter_map (call_of answers input.says defined) behind)) _
          (firsts_hands is_same_call [] (call_of answers input.says defined) behind none
          (call_within count answers answered input.width input.says is.saying defined in_defined))
          (λ calls in_calls.
          shown_within defined calls (windows_say answers input.says defined input.width calls)
          (windows_within count answers answered input.width input.says is.saying defined calls) in_defined in_calls)))

    select_within : (condition : MaybeExpr) (by : ExprTrees) (having : MaybeExpr) (windows : DefinitionTrees)
        → Hands (IsWithinCore count width) (select_of answers scope distinct results order behind condition by having windows)
    select_within condition by having windows =
        followed_hands (condition_of answers (columns_say scope) condition) _ (condition_within width (columns_say scope) scope_says condition)
        (λ test in_test.
        followed_hands (by_of answers scope by) _ (by_within by) (λ keys in_keys.
        followed_hands (firsts is_same_aggregate [] (filter_map (aggregate_of answers (columns_say scope)) behind)) _
        (firsts_hands is_same_aggregate [] (aggregate_of answers (columns_say scope)) behind none
        (aggregate_within count answers answered width (columns_say scope) scope_says))
        (λ aggregates in_aggregates.
        followed_hands (input_of answers scope keys aggregates having) (behind_groups answers scope distinct results order behind windows test)
        (input_within keys aggregates having in_keys in_aggregates) (λ input is. behind_within test in_test input is windows))))

  pub core_within : (core : CoreTree) (order : TermTrees) → Hands (IsWithinCore count width) (core_of answers scope core order)
  core_within (CoreTree.Select distinct results from condition by having windows) order =
      select_within distinct results order
      (parts_behind_groups (CoreTree.Select distinct results from condition by having windows) order) condition by having windows
