-- In a SELECT that is taken each name of a column stands for one.
use Rattle.std.proofs.Common.{◌≡◌, ◌≢◌, Bool, true, false, ℕ, ℤ, List, [], ◌∷◌, ◌++◌, length, Option, Some, None, Result, Ok, Contains, nat_le, refl, sym, subst}
use Rattle.std.specs.List.{filter_map}
use Rattle.values.specs.declared.fault.Fault.{Fault}
use Rattle.values.specs.declared.fault.Fault.TheVariants.{DuplicateName, Limit, UnknownColumn}
use Rattle.expr.specs.Term.{Term}
use Rattle.semantics.specs.Query.{Aggregate, Key, KeyTerm, WindowCall}
use Rattle.sql_reader_syntax.specs.ExprTree.{CoreTree, DefinitionTrees, ExprTree, ExprTrees, MaybeExpr, ResultTree, ResultTrees, TermTrees}
use Rattle.sql_reader_syntax.specs.Tree.{Name}
use Rattle.semantics_names.specs.Expression.{Answers, Says, term_of}
use Rattle.semantics_names.specs.Outcome.{each}
use Rattle.semantics_names.specs.Parts.{all_parts, definitions_parts, maybe_parts, parts, parts_behind_groups, results_parts, window_parts}
use Rattle.semantics_names.specs.Places.{Defined, aggregate_of, call_of, columns_say, direction_of, groups_say, window_of, windows_say}
use Rattle.semantics_names.specs.Same.{is_same_aggregate, is_same_call}
use Rattle.semantics_names.specs.Scope.{Scope}
use Rattle.sql_reader_syntax.specs.declared.expr.PrefixOperator.TheVariants as prefixes
use Rattle.semantics_names.specs.Statement.{CoreData, Input, ResultColumn, all_results, are_distinct, as_input, behind_groups, by_of, condition_of, core_of, defined_of, finished, firsts, group_term, input_of, key, key_term, keys_of, max_columns, named_at, named_or, no_number, number_alone, numbered_or, on_row, one_or, results_of, shown, some_of, starred_of, ungrouped, window_names}
use Rattle.semantics_names.proofs.OutcomeLemmas.{also-ok, both-ok, checked-ok, followed-ok}
use Rattle.semantics_refusals.specs.Columns.{names_of_results, results_in}
use Rattle.semantics_refusals.specs.UnknownColumns.{IsNoResult}
use Rattle.semantics_refusals.specs.Written.{IsLooseHaving, spoken_in, stars_in, terms_in}
use Rattle.semantics_refusals.proofs.NameLemmas.{all_names, names_in}
use Rattle.semantics_refusals.proofs.OkLemmas.{IsGiven}
use Rattle.semantics_refusals.proofs.PartLemmas.{Each, among, join, more, none, one}
use Rattle.semantics_refusals.proofs.ScopeLemmas.{named_some}
use Rattle.semantics_refusals.proofs.ToldLemmas.{IsNamed, Tells, columns_tell, groups_tell, told, window_told, windows_tell}

-- ---- ORDER BY

pub keys_given : (names : List Name) (otherwise : ExprTree → Result KeyTerm Fault) (order : TermTrees) (ks : List Key) → keys_of names otherwise order ≡ Ok ks
    → Each (λ e. IsGiven (key_term names otherwise e)) (terms_in order)
keys_given names otherwise TermTrees.No_term ks e = none
keys_given names otherwise (TermTrees.Term x direction others) ks e =
    let (k, rest, is, last, same) =
    both-ok (λ k ks. key (direction_of direction) k ∷ ks) (key_term names otherwise x) (keys_of names otherwise others) ks e in
    more x (terms_in others) (k, is) (keys_given names otherwise others rest last)

module _ (scope : Scope) (names : List Name) (otherwise : ExprTree → Result KeyTerm Fault)
    (tells : (e : ExprTree) (k : KeyTerm) → otherwise e ≡ Ok k → Each (IsNamed scope) (parts e)) where
  number_told : (e : ExprTree) (z : ℤ) → number_alone e ≡ Some z → Each (IsNamed scope) (parts e)
  number_told (ExprTree.Number z) n is = one (record { is = λ table name same. absurd cc })
  number_told (ExprTree.Prefix prefixes.Plus x) n is =
      join (parts x) (ExprTree.Prefix prefixes.Plus x ∷ []) (number_told x n is) (one (record { is = λ table name same. absurd cc }))
  number_told x n is = absurd cc

  named_told : (e : ExprTree) (k : KeyTerm) → named_or names otherwise e ≡ Ok k → IsNoResult names e → Each (IsNamed scope) (parts e)
  named_told (ExprTree.Column None name) k e apart = by (named_at name 0 names) refl e
    where
      by : (places : List ℕ) → named_at name 0 names ≡ places → one_or places (otherwise (ExprTree.Column None name)) ≡ Ok k
          → Each (IsNamed scope) (parts (ExprTree.Column None name))
      by [] are e = tells (ExprTree.Column None name) k e
      by (at ∷ more) are e = let (found, is) = named_some name 0 names at more are in absurd (apart name found refl is)
  named_told x k e apart = tells x k e

  key_told : (e : ExprTree) (k : KeyTerm) → key_term names otherwise e ≡ Ok k → IsNoResult names e → Each (IsNamed scope) (parts e)
  key_told e k made apart = by (number_alone e) refl made
    where
      by : (number : Option ℤ) → number_alone e ≡ number → numbered_or (length names) number (named_or names otherwise e) ≡ Ok k
          → Each (IsNamed scope) (parts e)
      by (Some z) is same = number_told e z is
      by None is same = named_told e k same apart

-- ---- the clauses

-- what is known of a SELECT that is taken
pub record IsTold (scope : Scope) (core : CoreTree) (by : TermTrees) : Type 0 where
  pub spoken : Each (IsNamed scope) (spoken_in core)
  pub terms : (e : ExprTree) → Contains (terms_in by) e → IsNoResult (names_of_results scope (results_in core)) e → Each (IsNamed scope) (parts e)
  pub stars : Each (λ table. starred_of table 0 scope ≢ []) (stars_in (results_in core))

module _ (answers : Answers) (scope : Scope) where
  condition_told : (says : Says) → Tells scope answers says → (condition : MaybeExpr) (t : Term) → condition_of answers says condition ≡ Ok t
      → Each (IsNamed scope) (maybe_parts condition)
  condition_told says tells MaybeExpr.Absent t e = none
  condition_told says tells (MaybeExpr.Present x) t e = told scope answers says tells x t e

  pub group_told : (e : ExprTree) (t : Term) → group_term answers scope e ≡ Ok t → term_of answers (columns_say scope) e ≡ Ok t
  group_told e t made = by (number_alone e) made
    where
      by : (number : Option ℤ) → no_number number (term_of answers (columns_say scope) e) ≡ Ok t
          → term_of answers (columns_say scope) e ≡ Ok t
      by (Some z) same = absurd cc
      by None same = same

  by_told : (by : ExprTrees) (ts : List Term) → by_of answers scope by ≡ Ok ts → Each (IsNamed scope) (all_parts by)
  by_told ExprTrees.No_more ts e = none
  by_told (ExprTrees.More x others) ts e =
      let (u, us, is, rest, same) = both-ok ◌∷◌ (group_term answers scope x) (by_of answers scope others) ts e in
      join (parts x) (all_parts others) (told scope answers (columns_say scope) (columns_tell scope answers) x u (group_told x u is)) (by_told others us rest)

  defined_told : (says : Says) → Tells scope answers says → (windows : DefinitionTrees) (ds : List Defined) → defined_of answers says windows ≡ Ok ds
      → Each (IsNamed scope) (definitions_parts windows)
  defined_told says tells DefinitionTrees.No_definition ds e = none
  defined_told says tells (DefinitionTrees.Definition name v others) ds e =
      let (made, rest, is, last, same) = both-ok _ (window_of answers says v) (defined_of answers says others) ds e in
      join (window_parts v) (definitions_parts others) (window_told scope answers says tells v made is) (defined_told says tells others rest last)

  some_there : (fault : Fault) (columns others : List ResultColumn) → some_of fault columns ≡ Ok others → columns ≢ []
  some_there fault [] others e same = absurd cc
  some_there fault (c ∷ cs) others e same = absurd cc

  results_told : (input : Input) (says : Says) → Tells scope answers says → (results : ResultTrees) (columns : List ResultColumn)
      → all_results answers scope input says results ≡ Ok columns
      → Each (IsNamed scope) (results_parts results) × Each (λ table. starred_of table 0 scope ≢ []) (stars_in results)
  results_told input says tells ResultTrees.No_result columns e = (none, none)
  results_told input says tells (ResultTrees.Result ResultTree.All rs) columns e =
      let (first, others, is, rest, same) =
      both-ok ◌++◌ (results_of answers scope input says ResultTree.All) (all_results answers scope input says rs) columns e in
      let (all, stars) = results_told input says tells rs others rest in
      (join [] (results_parts rs) none all, stars)
  results_told input says tells (ResultTrees.Result (ResultTree.AllOf table) rs) columns e =
      let (first, others, is, rest, same) =
      both-ok ◌++◌ (results_of answers scope input says (ResultTree.AllOf table)) (all_results answers scope input says rs) columns e in
      let (all, stars) = results_told input says tells rs others rest in
      let (found, some, more_of) = followed-ok (some_of UnknownColumn (starred_of table 0 scope)) (each (as_input answers input)) first is in
      (join [] (results_parts rs) none all, more table (stars_in rs) (some_there UnknownColumn (starred_of table 0 scope) found some) stars)
  results_told input says tells (ResultTrees.Result (ResultTree.Value x name) rs) columns e =
      let (first, others, is, rest, same) =
      both-ok ◌++◌ (results_of answers scope input says (ResultTree.Value x name)) (all_results answers scope input says rs) columns e in
      let (all, stars) = results_told input says tells rs others rest in
      let (t, of, made) = also-ok _ (term_of answers says x) first is in
      (join (parts x) (results_parts rs) (told scope answers says tells x t of) all, stars)

  row_told : (distinct : Bool) (says : Says) → Tells scope answers says → (e : ExprTree) (k : KeyTerm) → on_row answers distinct says e ≡ Ok k
      → Each (IsNamed scope) (parts e)
  row_told true says tells x k e = absurd cc
  row_told false says tells x k e = let (t, is, same) = also-ok KeyTerm.term (term_of answers says x) k e in told scope answers says tells x t is

  -- what is said behind groups, or where there are none
  input_tells : (by : List Term) (aggregates : List Aggregate) (having : MaybeExpr) (input : Input) → input_of answers scope by aggregates having ≡ Ok input
      → Tells scope answers input.says
  input_tells [] [] having input e =
      let same : ungrouped scope ≡ input = cc in subst (λ (input : Input). Tells scope answers input.says) same (columns_tell scope answers)
  input_tells [] (a ∷ aggregates) having input e =
      let (t, is, same) = also-ok _ (condition_of answers (groups_say answers scope [] (a ∷ aggregates)) having) input e in
      subst (λ (input : Input). Tells scope answers input.says) same (groups_tell scope answers [] (a ∷ aggregates))
  input_tells (t ∷ by) aggregates having input e =
      let (u, is, same) = also-ok _ (condition_of answers (groups_say answers scope (t ∷ by) aggregates) having) input e in
      subst (λ (input : Input). Tells scope answers input.says) same (groups_tell scope answers (t ∷ by) aggregates)

  having_told : (by : ExprTrees) (keys : List Term) (aggregates : List Aggregate) (having : MaybeExpr) (input : Input) → by_of answers scope by ≡ Ok keys
      → input_of answers scope keys aggregates having ≡ Ok input → (by ≡ ExprTrees.No_more → having ≡ MaybeExpr.Absent)
      → Each (IsNamed scope) (maybe_parts having)
  having_told ExprTrees.No_more keys aggregates having input are e stands = subst (λ having. Each (IsNamed scope) (maybe_parts having)) (sym (stands refl)) none
  having_told (ExprTrees.More x others) keys aggregates having input are e stands =
      let (u, us, is, rest, same) = both-ok ◌∷◌ (group_term answers scope x) (by_of answers scope others) keys are in
      let given : input_of answers scope (u ∷ us) aggregates having ≡ Ok input = subst (λ keys. input_of answers scope keys aggregates having ≡ Ok input)
      (sym same) e in
      let (t, of, made) = also-ok _ (condition_of answers (groups_say answers scope (u ∷ us) aggregates) having) input given in
      condition_told (groups_say answers scope (u ∷ us) aggregates) (groups_tell scope answers (u ∷ us) aggregates) having t of

  module _ (distinct : Bool) (results : ResultTrees) (order : TermTrees) (behind : List ExprTree) where
    shown_told : (condition : Term) (input : Input) (defined : List Defined) (calls : List WindowCall) (says : Says) → Tells scope answers says → (c : CoreData)
        → shown answers scope distinct results order behind condition input defined calls says ≡ Ok c
        → Each (IsNamed scope) (results_parts results)
        × ((e : ExprTree) → Contains (terms_in order) e → IsNoResult (names_of_results scope results) e → Each (IsNamed scope) (parts e))
        × Each (λ table. starred_of table 0 scope ≢ []) (stars_in results)
    shown_told condition input defined calls says tells c e =
        let (columns, given, others) = followed-ok (all_results answers scope input says results) _ c e in
        let (few, last) = checked-ok (nat_le (length columns) max_columns) Limit _ c others in
        let (keys, sorted, same) =
        also-ok (finished distinct condition input.grouping defined calls columns) (keys_of (names_in columns) (on_row answers distinct says) order) c last in
        let (all, stars) = results_told input says tells results columns given in
        let each_key = keys_given (names_in columns) (on_row answers distinct says) order keys sorted in (
          all,
          λ x there apart.
              let (k, is) = among each_key there in
              key_told scope (names_in columns) (on_row answers distinct says) (row_told distinct says tells) x k is
              (subst (λ names. IsNoResult names x) (sym (all_names answers input scope says results columns given)) apart),
          stars,
        )

pub core_told : (answers : Answers) (scope : Scope) (core : CoreTree) (order : TermTrees) (c : CoreData) → core_of answers scope core order ≡ Ok c
    → ¬ IsLooseHaving core → IsTold scope core order
core_told answers scope (CoreTree.Select distinct results from condition by having windows) order c e tight =
    let behind = parts_behind_groups (CoreTree.Select distinct results from condition by having windows) order in
    let (test, is, others) = followed-ok (condition_of answers (columns_say scope) condition) _ c e in
    let (keys, are, more) = followed-ok (by_of answers scope by) _ c others in
    let (aggregates, found, last) =
    followed-ok (firsts is_same_aggregate [] (filter_map (aggregate_of answers (columns_say scope)) behind)) _ c more in
    let (input, given, all) =
    followed-ok (input_of answers scope keys aggregates having) (behind_groups answers scope distinct results order behind windows test) c last in
    let (apart, rest) = checked-ok (are_distinct (window_names windows)) DuplicateName _ c all in
    let (defined, are_defined, next) = followed-ok (defined_of answers input.says windows) _ c rest in
    let (calls, called, end) = followed-ok (firsts is_same_call [] (filter_map (call_of answers input.says defined) behind)) _ c next in
    let tells = input_tells answers scope keys aggregates having input given in
    let (in_results, in_order, stars) =
    shown_told answers scope distinct results order behind test input defined calls (windows_say answers input.says defined input.width calls)
    (windows_tell scope answers input.says tells defined input.width calls) c end in
    let r = results_parts results in
    let p = maybe_parts condition in
    let b = all_parts by in
    let h = maybe_parts having in
    record {
      spoken = join (r ++ p ++ b ++ h) (definitions_parts windows) (join (r ++ p ++ b) h (join (r ++ p) b (join r p in_results
          (condition_told answers scope (columns_say scope) (columns_tell scope answers) condition test is)) (by_told answers scope by keys are))
          (having_told answers scope by keys aggregates having input are given (grouped_having by having tight)))
          (defined_told answers scope input.says tells windows defined are_defined);
      terms = in_order;
      stars = stars;
    }
  where
    grouped_having : (by : ExprTrees) (having : MaybeExpr) → ¬ IsLooseHaving (CoreTree.Select distinct results from condition by having windows)
        → by ≡ ExprTrees.No_more → having ≡ MaybeExpr.Absent
    grouped_having ExprTrees.No_more MaybeExpr.Absent tight same = refl
    grouped_having ExprTrees.No_more (MaybeExpr.Present x) tight same = absurd (tight tt)
    grouped_having (ExprTrees.More x others) having tight same = absurd cc
