-- What a FROM that is taken shows, and what the columns of a query that is taken are called.
use Rattle.std.proofs.Common.{◌≡◌, Bool, true, false, if◌then◌else◌, ℕ, zero, suc, List, [], ◌∷◌, ◌++◌, length, map, None, Result, Ok, Err, ap, ap₂, refl, sym, subst, ◌∙◌, nat_eq, nat_le}
use Rattle.std.specs.List.{filter_map, list_any}
use Rattle.std.specs.Str.{str_eq_ignore_ascii_case}
use Rattle.std.proofs.lemmas.List.{map-append}
use Rattle.values.specs.declared.fault.Fault.{Fault}
use Rattle.values.specs.declared.fault.Fault.TheVariants.{ColumnCount, DuplicateName, Limit, UnknownColumn, WrongPlace}
use Rattle.expr.specs.Term.{Term}
use Rattle.semantics.specs.Query.{Body, From, JoinKind}
use Rattle.sql_reader_syntax.specs.ExprTree.{CoreTree, DefinitionTrees, ExprTree, ExprTrees, FromTree, MaybeExpr, OnTree, QueryTree, ResultTree, ResultTrees, SourceTree, TermTrees}
use Rattle.sql_reader_syntax.specs.Tree.{Name}
use Rattle.semantics_names.specs.Expression.{Answers, Says, term_of}
use Rattle.semantics_names.specs.Outcome.{also, each}
use Rattle.semantics_names.specs.Parts.{parts_behind_groups}
use Rattle.semantics_names.specs.Places.{Defined, aggregate_of, call_of, columns_say, windows_say}
use Rattle.semantics_names.specs.Same.{is_same_aggregate, is_same_call}
use Rattle.semantics_names.specs.Scope.{Scope, places_of}
use Rattle.semantics_names.specs.Sources.{Condition, Given, Known, Sources, Using, hidden, is_same_source, joined, joined_on, kind_of, known_as, merged, no_sources, shown_from, used}
use Rattle.semantics_names.specs.Statement.{CoreData, Input, Queried, ResultColumn, Single, all_results, alias_or, are_distinct, as_input, behind_groups, by_of, compounded, condition_of, core_of, defined_of, finished, firsts, from_of, from_tree, given_known, given_query, input_of, keys_of, max_columns, no_row, on_row, operator_of, queried, query_of, result, results_of, select_of, shown, simple, single_of, some_of, source_of, starred, starred_of, window_names}
use Rattle.semantics_names.proofs.OutcomeLemmas.{also-ok, both-ok, checked-ok, followed-ok}
use Rattle.semantics_refusals.specs.Columns.{HasNames, IsListed, JoinsScopes, ListedTable, Merges, Offers, Shows, names_of_result, names_of_results, results_in}
use Rattle.semantics_refusals.proofs.TakenLemmas.{answers_with, from_taken}

-- ---- result columns

abbrev pub names_in : List ResultColumn → List Name
names_in columns = map (λ (r : ResultColumn). r.name) columns

module _ (answers : Answers) (input : Input) where
  input_names : (columns others : List ResultColumn) → each (as_input answers input) columns ≡ Ok others → names_in others ≡ names_in columns
  input_names [] others e = let same : [] ≡ others = cc in ap names_in (sym same)
  input_names (r ∷ rs) others e =
      let (one, more, first, last, same) = both-ok ◌∷◌ (as_input answers input r) (each (as_input answers input) rs) others e in
      let (t, over, made) = also-ok (result r.name) (input.over_input r.term) one first in
      ap names_in (sym same) ∙ ap₂ (λ (x : ResultColumn) (xs : List Name). x.name ∷ xs) (sym made) (input_names rs more last)

  some_is : (fault : Fault) (columns others : List ResultColumn) → some_of fault columns ≡ Ok others → columns ≡ others
  some_is fault [] others e = absurd cc
  some_is fault (c ∷ cs) others e = cc

  module _ (scope : Scope) (says : Says) where
    result_names : (r : ResultTree) (columns : List ResultColumn) → results_of answers scope input says r ≡ Ok columns
        → names_in columns ≡ names_of_result scope r
    result_names ResultTree.All columns e =
        let (shown, some, more) = followed-ok (some_of WrongPlace (starred scope)) (each (as_input answers input)) columns e in
        input_names shown columns more ∙ ap names_in (sym (some_is WrongPlace (starred scope) shown some))
    result_names (ResultTree.AllOf table) columns e =
        let (shown, some, more) = followed-ok (some_of UnknownColumn (starred_of table 0 scope)) (each (as_input answers input)) columns e in
        input_names shown columns more ∙ ap names_in (sym (some_is UnknownColumn (starred_of table 0 scope) shown some))
    result_names (ResultTree.Value e name) columns is =
        let (t, of, same) = also-ok _ (term_of answers says e) columns is in ap names_in (sym same)

    pub all_names : (results : ResultTrees) (columns : List ResultColumn) → all_results answers scope input says results ≡ Ok columns
        → names_in columns ≡ names_of_results scope results
    all_names ResultTrees.No_result columns e = let same : [] ≡ columns = cc in ap names_in (sym same)
    all_names (ResultTrees.Result r rs) columns e =
        let (one, more, first, last, same) =
        both-ok ◌++◌ (results_of answers scope input says r) (all_results answers scope input says rs) columns e in
        ap names_in (sym same) ∙ map-append (λ (r : ResultColumn). r.name) one more
        ∙ ap₂ ◌++◌ (result_names r one first) (all_names rs more last)

module _ (answers : Answers) (scope : Scope) (distinct : Bool) (results : ResultTrees) (order : TermTrees) (behind : List ExprTree) where
  shown_names : (condition : Term) (input : Input) (defined : List Defined) (calls : _) (says : Says) (c : CoreData)
      → shown answers scope distinct results order behind condition input defined calls says ≡ Ok c → c.names ≡ names_of_results scope results
  shown_names condition input defined calls says c e =
      let (columns, given, more) = followed-ok (all_results answers scope input says results) _ c e in
      let (few, last) = checked-ok (nat_le (length columns) max_columns) Limit _ c more in
      let (keys, sorted, same) =
      also-ok (finished distinct condition input.grouping defined calls columns) (keys_of (names_in columns) (on_row answers distinct says) order) c last in
      ap (λ (c : CoreData). c.names) (sym same) ∙ all_names answers input scope says results columns given

  behind_names : (windows : DefinitionTrees) (condition : Term) (input : Input) (c : CoreData)
      → behind_groups answers scope distinct results order behind windows condition input ≡ Ok c → c.names ≡ names_of_results scope results
  behind_names windows condition input c e =
      let (apart, rest) = checked-ok (are_distinct (window_names windows)) DuplicateName _ c e in
      let (defined, are, more) = followed-ok (defined_of answers input.says windows) _ c rest in
      let (calls, found, last) = followed-ok (firsts is_same_call [] (filter_map (call_of answers input.says defined) behind)) _ c more in
      shown_names condition input defined calls (windows_say answers input.says defined input.width calls) c last

  select_names : (condition : MaybeExpr) (by : ExprTrees) (having : MaybeExpr) (windows : DefinitionTrees) (c : CoreData)
      → select_of answers scope distinct results order behind condition by having windows ≡ Ok c → c.names ≡ names_of_results scope results
  select_names condition by having windows c e =
      let (test, is, others) = followed-ok (condition_of answers (columns_say scope) condition) _ c e in
      let (keys, are, more) = followed-ok (by_of answers scope by) _ c others in
      let (aggregates, found, last) =
      followed-ok (firsts is_same_aggregate [] (filter_map (aggregate_of answers (columns_say scope)) behind)) _ c more in
      let (input, given, all) =
      followed-ok (input_of answers scope keys aggregates having) (behind_groups answers scope distinct results order behind windows test) c last in
      behind_names windows test input c all

pub core_names : (answers : Answers) (scope : Scope) (core : CoreTree) (order : TermTrees) (c : CoreData) → core_of answers scope core order ≡ Ok c
    → c.names ≡ names_of_results scope (results_in core)
core_names answers scope (CoreTree.Select distinct results from condition by having windows) order c e =
    select_names answers scope distinct results order
    (parts_behind_groups (CoreTree.Select distinct results from condition by having windows) order) condition by having windows c e

-- ---- sources

abbrev pub listed_of : List Known → List ListedTable
listed_of known = map (λ (k : Known). record { name = k.name; columns = k.columns }) known

pub name_listed : (known : List Known) (name : Name) (k : Known) → known_as known name ≡ Ok k → IsListed name (listed_of known) k.columns
name_listed [] name k e = absurd cc
name_listed (other ∷ known) name k e = by (str_eq_ignore_ascii_case other.name name) refl e (name_listed known name k)
  where
    by : (b : Bool) → str_eq_ignore_ascii_case other.name name ≡ b → (if b then Ok other else known_as known name) ≡ Ok k
        → (known_as known name ≡ Ok k → IsListed name (listed_of known) k.columns) → IsListed name (listed_of (other ∷ known)) k.columns
    by true same is more =
        let found : other ≡ k = cc in subst (λ (k : Known). IsListed name (listed_of (other ∷ known)) k.columns) found (IsListed.here same)
    by false apart is more = IsListed.later (λ same. absurd cc) (more is)

merges : (theirs : Scope) (names : List Name) (left right : Scope) (u : Using) → used theirs left right names ≡ Ok u
    → Merges theirs names left right u.left u.right
merges theirs [] left right u e =
    let begun : Using = record { left = left; right = right; equalities = [] } in
    let same : begun ≡ u = cc in subst (λ (u : Using). Merges theirs [] left right u.left u.right) same Merges.done
merges theirs (name ∷ names) left right u e =
    let (mine, is, others) = followed-ok (places_of left None name) _ u e in
    let (places, are, last) = followed-ok (places_of theirs None name) _ u others in
    let (more, merging, same) = also-ok _ (used theirs (merged name places left) (hidden name right) names) u last in
    subst (λ (u : Using). Merges theirs (name ∷ names) left right u.left u.right) same
    (Merges.both are (merges theirs names (merged name places left) (hidden name right) more merging))

on_joins : (answers : Answers) (on : OnTree) (left right : Scope) (c : Condition) → joined_on answers on left right ≡ Ok c → JoinsScopes on left right c.scope
on_joins answers OnTree.Always left right c e =
    let same : left ++ right ≡ c.scope = ap (λ (r : Result Condition Fault). scope_or (left ++ right) r) e in
    subst (JoinsScopes OnTree.Always left right) same JoinsScopes.always
  where
    scope_or : Scope → Result Condition Fault → Scope
    scope_or otherwise (Ok c) = c.scope
    scope_or otherwise (Err fault) = otherwise
on_joins answers (OnTree.On e) left right c is =
    let (t, of, same) = also-ok _ (term_of answers (columns_say (left ++ right)) e) c is in
    subst (λ (c : Condition). JoinsScopes (OnTree.On e) left right c.scope) same JoinsScopes.on
on_joins answers (OnTree.Using names) left right c is =
    let (u, merging, same) = also-ok _ (used right left right names) c is in
    subst (λ (c : Condition). JoinsScopes (OnTree.Using names) left right c.scope) same (JoinsScopes.by_names (merges right names left right u merging))

joined_shows : (answers : Answers) (left : Sources) (kind : JoinKind) (on : OnTree) (given : Given) (f : Sources) → joined answers left kind on given ≡ Ok f
    → JoinsScopes on left.scope (shown_from given.name (length left.scope) given.columns) f.scope
joined_shows answers left kind on given f e = by (list_any (is_same_source given.name) left.names) e
  where
    by : (b : Bool) → (if b then Err DuplicateName else also (λ (c : Condition). record {
      from = From.joined left.from kind given.source c.term;
      names = left.names ++ given.name ∷ [];
      scope = c.scope;
      beside = left.beside ++ given.beside;
    }) (joined_on answers on left.scope (shown_from given.name (length left.scope) given.columns))) ≡ Ok f
        → JoinsScopes on left.scope (shown_from given.name (length left.scope) given.columns) f.scope
    by true is = absurd cc
    by false is =
        let (c, of, same) = also-ok _ (joined_on answers on left.scope (shown_from given.name (length left.scope) given.columns)) f is in
        subst (λ (f : Sources). JoinsScopes on left.scope (shown_from given.name (length left.scope) given.columns) f.scope) same
        (on_joins answers on left.scope (shown_from given.name (length left.scope) given.columns) c of)

module _ (known : List Known) (queries : QueryTree → Result Queried Fault) (inside : (tree : QueryTree) (q : Queried) → queries tree ≡ Ok q
    → HasNames (listed_of known) tree q.names) where
  pub source_offers : (source : SourceTree) (g : Given) → source_of known queries source ≡ Ok g → Offers (listed_of known) source g.name g.columns
  source_offers (SourceTree.Named name alias) g e =
      let (k, is, more) = followed-ok (known_as known name) (given_known (alias_or name alias)) g e in
      let (source, of, same) = also-ok _ k.source g more in
      subst (λ (g : Given). Offers (listed_of known) (SourceTree.Named name alias) g.name g.columns) same (Offers.named (name_listed known name k is))
  source_offers (SourceTree.Derived query alias) g e =
      let (q, is, same) = also-ok (given_query alias) (queries query) g e in
      subst (λ (g : Given). Offers (listed_of known) (SourceTree.Derived query alias) g.name g.columns) same (Offers.derived (inside query q is))

  pub from_shows : (answers : Answers) (from : FromTree) (f : Sources) → from_of known queries answers from ≡ Ok f → Shows (listed_of known) from f.scope
  from_shows answers FromTree.No_source f e =
      let same : no_sources ≡ f = cc in subst (λ (f : Sources). Shows (listed_of known) FromTree.No_source f.scope) same Shows.nothing
  from_shows answers (FromTree.First source) f e =
      let (g, is, more) = followed-ok (source_of known queries source) (joined answers no_sources JoinKind.inner OnTree.Always) f e in
      alone source g (source_offers source g is) f.scope (joined_shows answers no_sources JoinKind.inner OnTree.Always g f more)
    where
      alone : (source : SourceTree) (g : Given) → Offers (listed_of known) source g.name g.columns → (scope : Scope)
          → JoinsScopes OnTree.Always [] (shown_from g.name 0 g.columns) scope → Shows (listed_of known) (FromTree.First source) scope
      alone source g offers _ JoinsScopes.always = Shows.first offers
  from_shows answers (FromTree.Joined from join source on) f e =
      let (left, first, more) = followed-ok (from_of known queries answers from) _ f e in
      let (g, is, rest) = followed-ok (source_of known queries source) (joined answers left (kind_of join) on) f more in
      Shows.joined (from_shows answers from left first) (source_offers source g is) (joined_shows answers left (kind_of join) on g f rest)

  pub query_names : (tree : QueryTree) (order : TermTrees) (q : Queried) → query_of known queries tree order ≡ Ok q → HasNames (listed_of known) tree q.names
  query_names (QueryTree.Core core) order q e =
      let (s, is, same) = also-ok simple (single_of known queries core order) q e in
      let (inners, f, from, (c, of, made)) = from_taken known queries core order s is in
      let named : c.names ≡ names_of_results f.scope (results_in core) = core_names (answers_with known queries inners) f.scope core order c of in
      let called : names_of_results f.scope (results_in core) ≡ q.names = sym named ∙ ap (λ (s : Single). s.core.names) made ∙ ap
      (λ (q : Queried). q.names) same in
      subst (HasNames (listed_of known) (QueryTree.Core core)) called
      (HasNames.alone (from_shows (answers_with known queries inners) (from_tree core) f from))
  query_names (QueryTree.Compound left operator core) order q e =
      let (l, is, more) = followed-ok (query_of known queries left TermTrees.No_term) _ q e in
      let (s, single, last) = followed-ok (single_of known queries core TermTrees.No_term) (compounded order l operator) q more in
      let (even, rest) = checked-ok (nat_eq (length l.names) (length s.core.names)) ColumnCount _ q last in
      let (keys, sorted, same) =
      also-ok (λ keys. record {
        body = Body.compound l.body (operator_of operator) s.from s.core.select;
        names = l.names;
        order = keys;
        beside = l.beside ++ s.beside;
      }) (keys_of l.names no_row order) q rest in
      subst (λ (q : Queried). HasNames (listed_of known) (QueryTree.Compound left operator core) q.names) same
      (HasNames.compound (query_names left TermTrees.No_term l is))

pub queried_names : (deep : ℕ) (known : List Known) (tree : QueryTree) (order : TermTrees) (q : Queried) → queried deep known tree order ≡ Ok q
    → HasNames (listed_of known) tree q.names
queried_names zero known tree order q e = absurd cc
queried_names (suc deep) known tree order q e =
    query_names known (λ inside. queried deep known inside TermTrees.No_term)
    (λ inside p is. queried_names deep known inside TermTrees.No_term p is) tree order q e
