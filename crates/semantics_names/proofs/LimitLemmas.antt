-- A query that is taken is within the limits, and no name stands twice where one may stand.
use Rattle.std.proofs.Common.{◌≡◌, ◌≤◌, Bool, true, false, ◌||◌, if◌then◌else◌, ℕ, zero, suc, List, [], ◌∷◌, ◌++◌, length, map, Option, Some, None, Result, Ok, Err, All, nat_eq, nat_le, refl, sym, subst, ◌∙◌, arith}
use Rattle.std.specs.List.{AllPairs, filter_map, list_any}
use Rattle.std.specs.Str.{str_eq_ignore_ascii_case}
use Rattle.std.proofs.lemmas.Bool.{leb-true}
use Rattle.std.proofs.lemmas.List.{length-map}
use Rattle.std.proofs.lemmas.List.Elements.{All-cons, All-head, All-nil, All-tail}
use Rattle.std.proofs.lemmas.List.Kept.{AllPairs-cons}
use Rattle.values.specs.declared.fault.Fault.{Fault}
use Rattle.values.specs.declared.fault.Fault.TheVariants.{ColumnCount, DuplicateName, Limit}
use Rattle.expr.specs.Term.{Term}
use Rattle.semantics.specs.Query.{Body, From, JoinKind, body_width}
use Rattle.sql_reader_syntax.specs.ExprTree.{CoreTree, DefinitionTrees, ExprTree, ExprTrees, FromTree, MaybeExpr, OnTree, QueryTree, ResultTrees, TermTrees}
use Rattle.sql_reader_syntax.specs.StatementTree.{ItemTree, StatementTree}
use Rattle.sql_reader_syntax.specs.Tree.{Name}
use Rattle.semantics_names.specs.Expression.{Answers, Says}
use Rattle.semantics_names.specs.Laws.{AreDistinctInAnyCase, AreSameSources, DistinctIsSaid, IsSameInAnyCase, IsWithinLimits, SourcesAreDistinct, TakenIsWithin}
use Rattle.semantics_names.specs.Outcome.{also, each}
use Rattle.semantics_names.specs.Parts.{inner_trees, parts_behind_groups}
use Rattle.semantics_names.specs.Places.{Defined, aggregate_of, call_of, columns_say, windows_say}
use Rattle.semantics_names.specs.Same.{is_same_aggregate, is_same_call}
use Rattle.semantics_names.specs.Scope.{Scope}
use Rattle.semantics_names.specs.Sources.{Condition, Given, Known, Sources, is_same_source, joined, joined_on, kind_of, no_sources, shown_from}
use Rattle.semantics_names.specs.Statement.{CoreData, Inner, Input, Named, Queried, ResultColumn, Single, all_results, answers_of, are_distinct, behind_groups, by_of, compounded, condition_of, core_of, defined_of, ended, finished, firsts, from_of, from_tree, inner_of, input_of, is_among, keys_of, max_columns, max_levels, max_sources, named, no_row, offset_or, on_row, operator_of, queried, query_of, select_of, shown, simple, single, single_of, source_of, sources_of_body, window_names, with_inners, with_items}
use Rattle.semantics_names.specs.Typed.{column_types, known_tables, with_types}
use Rattle.semantics_names.specs.Types.{body_types, query_types}
use Rattle.semantics_names.proofs.OneLemmas.{one_ok}
use Rattle.semantics_names.proofs.OutcomeLemmas.{also-ok, checked-ok, followed-ok}

-- ---- one name for each column

-- a SELECT has as many names as columns, and not too many
record IsNamed (c : CoreData) : Type 0 where
  names : length c.names ≡ length c.select.columns
  few : length c.names ≤ max_columns

record IsNamedQuery (q : Queried) : Type 0 where
  names : length q.names ≡ body_width q.body
  few : length q.names ≤ max_columns

module _ (answers : Answers) (scope : Scope) (distinct : Bool) (results : ResultTrees) (order : TermTrees) (behind : List ExprTree) where
  shown_is : (condition : Term) (input : Input) (defined : List Defined) (calls : _) (says : Says) (c : CoreData)
      → shown answers scope distinct results order behind condition input defined calls says ≡ Ok c → IsNamed c
  shown_is condition input defined calls says c e =
      let (columns, given, more) = followed-ok (all_results answers scope input says results) _ c e in
      let (few, last) = checked-ok (nat_le (length columns) max_columns) Limit _ c more in
      let (keys, sorted, same) =
      also-ok (finished distinct condition input.grouping defined calls columns)
      (keys_of (map (λ (r : ResultColumn). r.name) columns) (on_row answers distinct says) order) c last in
      let lengths : length (map (λ (r : ResultColumn). r.name) columns) ≡ length (map (λ (r : ResultColumn). r.term) columns) =
      length-map columns (λ (r : ResultColumn). r.name) ∙ sym (length-map columns (λ (r : ResultColumn). r.term)) in
      let short : length (map (λ (r : ResultColumn). r.name) columns) ≤ max_columns =
      subst (λ n. n ≤ max_columns) (sym (length-map columns (λ (r : ResultColumn). r.name))) (leb-true (length columns) max_columns few) in
      subst IsNamed same (record { names = lengths; few = short })

  behind_is : (windows : DefinitionTrees) (condition : Term) (input : Input) (c : CoreData)
      → behind_groups answers scope distinct results order behind windows condition input ≡ Ok c → IsNamed c
  behind_is windows condition input c e =
      let (apart, rest) = checked-ok (are_distinct (window_names windows)) DuplicateName _ c e in
      let (defined, are, more) = followed-ok (defined_of answers input.says windows) _ c rest in
      let (calls, found, last) = followed-ok (firsts is_same_call [] (filter_map (call_of answers input.says defined) behind)) _ c more in
      shown_is condition input defined calls (windows_say answers input.says defined input.width calls) c last

  select_named : (condition : MaybeExpr) (by : ExprTrees) (having : MaybeExpr) (windows : DefinitionTrees) (c : CoreData)
      → select_of answers scope distinct results order behind condition by having windows ≡ Ok c → IsNamed c
  select_named condition by having windows c e =
      let (test, is, others) = followed-ok (condition_of answers (columns_say scope) condition) _ c e in
      let (keys, are, more) = followed-ok (by_of answers scope by) _ c others in
      let (aggregates, found, last) =
      followed-ok (firsts is_same_aggregate [] (filter_map (aggregate_of answers (columns_say scope)) behind)) _ c more in
      let (input, given, all) =
      followed-ok (input_of answers scope keys aggregates having) (behind_groups answers scope distinct results order behind windows test) c last in
      behind_is windows test input c all

core_named : (answers : Answers) (scope : Scope) (core : CoreTree) (order : TermTrees) (c : CoreData) → core_of answers scope core order ≡ Ok c → IsNamed c
core_named answers scope (CoreTree.Select distinct results from condition by having windows) order c e =
    select_named answers scope distinct results order
    (parts_behind_groups (CoreTree.Select distinct results from condition by having windows) order) condition by having windows c e

module _ (known : List Known) (queries : QueryTree → Result Queried Fault) where
  single_named : (core : CoreTree) (order : TermTrees) (s : Single) → single_of known queries core order ≡ Ok s → IsNamed s.core
  single_named core order s e =
      let (inners, are, more) = followed-ok (each (inner_of known queries) (inner_trees core order)) (with_inners known queries core order) s e in
      let answers : Answers = answers_of known queries (map (λ (i : Inner). i.query) inners) in
      let (f, sources, last) = followed-ok (from_of known queries answers (from_tree core)) _ s more in
      let (c, is, same) = also-ok (single inners f) (core_of answers f.scope core order) s last in
      subst (λ (s : Single). IsNamed s.core) same (core_named answers f.scope core order c is)

  query_named : (tree : QueryTree) (order : TermTrees) (q : Queried) → query_of known queries tree order ≡ Ok q → IsNamedQuery q
  query_named (QueryTree.Core core) order q e =
      let (s, is, same) = also-ok simple (single_of known queries core order) q e in
      let of = single_named core order s is in
      subst IsNamedQuery same (record { names = of.names; few = of.few })
  query_named (QueryTree.Compound left operator core) order q e =
      let (l, is, more) = followed-ok (query_of known queries left TermTrees.No_term) _ q e in
      let (s, single, last) = followed-ok (single_of known queries core TermTrees.No_term) (compounded order l operator) q more in
      let (even, rest) = checked-ok (nat_eq (length l.names) (length s.core.names)) ColumnCount _ q last in
      let (keys, sorted, same) =
      also-ok (λ keys. record {
        body = Body.compound l.body (operator_of operator) s.from s.core.select;
        names = l.names;
        order = keys;
        beside = l.beside ++ s.beside;
      }) (keys_of l.names no_row order) q rest in
      let of = query_named left TermTrees.No_term l is in
      subst IsNamedQuery same (record { names = of.names; few = of.few })

queried_named : (deep : ℕ) (known : List Known) (tree : QueryTree) (order : TermTrees) (q : Queried) → queried deep known tree order ≡ Ok q → IsNamedQuery q
queried_named zero known tree order q e = absurd cc
queried_named (suc deep) known tree order q e = query_named known (λ inside. queried deep known inside TermTrees.No_term) tree order q e

ended_within : (tree : StatementTree) (beside : List Body) (q : Queried) (n : Named) → IsNamedQuery q → ended tree beside q ≡ Ok n → IsWithinLimits n
ended_within tree beside q n of e =
    let whole : Named = record {
      query = record { body = q.body; order = q.order; limit = tree.limit; offset = offset_or tree.offset };
      names = q.names;
      beside = beside ++ q.beside;
    } in
    let (few, is) = checked-ok (nat_le (sources_of_body q.body) max_sources) Limit (Ok whole) n e in
    subst IsWithinLimits (one_ok whole n (Ok whole) refl is)
    (record { named = of.names; columns = of.few; sources = leb-true (sources_of_body q.body) max_sources few })

named_within : (known : List Known) (tree : StatementTree) (n : Named) → named known tree ≡ Ok n → IsWithinLimits n
named_within known tree n e =
    let (apart, rest) = checked-ok (are_distinct (map (λ (i : ItemTree). i.name) tree.items)) DuplicateName _ n e in
    let (w, items, more) = followed-ok (with_items (record { known = known; beside = [] }) tree.items) _ n rest in
    let (q, is, last) = followed-ok (queried max_levels w.known tree.query tree.order) (ended tree w.beside) n more in
    ended_within tree w.beside q n (queried_named max_levels w.known tree.query tree.order q is) last

pub taken_is_within : TakenIsWithin
taken_is_within tables tree n e =
    let (found, names, so) = followed-ok (named (known_tables tables) tree) (with_types (column_types tables)) n e in
    let (beside, all, last) = followed-ok (each (body_types (column_types tables)) found.beside) _ n so in
    let (types, is, same) = also-ok (λ _. found) (query_types (column_types tables) found.query) n last in
    subst IsWithinLimits same (named_within (known_tables tables) tree found names)

-- ---- names that stand once

none_pass : {X : Type 0} (p : X → Bool) (xs : List X) → list_any p xs ≡ false → All (λ x. p x ≡ true → ⊥) xs
none_pass p [] e = All-nil (λ x. p x ≡ true → ⊥)
none_pass p (x ∷ xs) e = by (p x) refl e (none_pass p xs)
  where
    by : (b : Bool) → p x ≡ b → (b || list_any p xs) ≡ false → (list_any p xs ≡ false → All (λ x. p x ≡ true → ⊥) xs) → All (λ x. p x ≡ true → ⊥) (x ∷ xs)
    by true is e more = absurd cc
    by false is e more = All-cons (λ x. p x ≡ true → ⊥) x xs (λ h. let differ : true ≡ false = sym h ∙ is in absurd cc) (more e)

pass_none : {X : Type 0} (p : X → Bool) (xs : List X) → All (λ x. p x ≡ true → ⊥) xs → list_any p xs ≡ false
pass_none p [] all = refl
pass_none p (x ∷ xs) all = by (p x) refl (pass_none p xs (All-tail (λ x. p x ≡ true → ⊥) x xs all))
  where
    by : (b : Bool) → p x ≡ b → list_any p xs ≡ false → (b || list_any p xs) ≡ false
    by true is e = absurd (All-head (λ x. p x ≡ true → ⊥) x xs all is)
    by false is e = e

pairs_head : {X : Type 0} (R : X → X → Type 0) (x : X) (xs : List X) → AllPairs R (x ∷ xs) → All (R x) xs
pairs_head R x xs pairs = λ k d within. pairs 0 (suc k) d (omega arith) (omega arith)

pairs_tail : {X : Type 0} (R : X → X → Type 0) (x : X) (xs : List X) → AllPairs R (x ∷ xs) → AllPairs R xs
pairs_tail R x xs pairs = λ i j d before within. pairs (suc i) (suc j) d (omega arith) (omega arith)

pairs_none : {X : Type 0} (R : X → X → Type 0) → AllPairs R []
pairs_none R = λ i j d before within. absurd (omega arith)

apart : (names : List Name) → are_distinct names ≡ true → AreDistinctInAnyCase names
apart [] e = pairs_none (λ a b. IsSameInAnyCase b a → ⊥)
apart (n ∷ ns) e = by (is_among n ns) refl e (apart ns)
  where
    by : (b : Bool) → is_among n ns ≡ b → (if b then false else are_distinct ns) ≡ true → (are_distinct ns ≡ true → AreDistinctInAnyCase ns) → AreDistinctInAnyCase (n ∷ ns)
    by true is e more = absurd cc
    by false is e more = AllPairs-cons (λ a b. IsSameInAnyCase b a → ⊥) n ns (none_pass (λ other. str_eq_ignore_ascii_case other n) ns is) (more e)

apart_is : (names : List Name) → AreDistinctInAnyCase names → are_distinct names ≡ true
apart_is [] pairs = refl
apart_is (n ∷ ns) pairs = by (is_among n ns) is_none (apart_is ns (pairs_tail (λ a b. IsSameInAnyCase b a → ⊥) n ns pairs))
  where
    is_none : is_among n ns ≡ false
    is_none = pass_none (λ other. str_eq_ignore_ascii_case other n) ns (pairs_head (λ a b. IsSameInAnyCase b a → ⊥) n ns pairs)

    by : (b : Bool) → b ≡ false → are_distinct ns ≡ true → (if b then false else are_distinct ns) ≡ true
    by true e more = absurd cc
    by false e more = more

pub distinct_is_said : DistinctIsSaid
distinct_is_said names = (apart names, apart_is names)

-- ---- sources

IsApart : Option Name → Option Name → Type 0
IsApart a b = AreSameSources a b → ⊥

pairs_behind : {X : Type 0} (R : X → X → Type 0) (xs : List X) (y : X) → AllPairs R xs → All (λ x. R x y) xs → AllPairs R (xs ++ y ∷ [])
pairs_behind R [] y pairs all = AllPairs-cons R y [] (All-nil (R y)) (pairs_none R)
pairs_behind {X = X} R (x ∷ xs) y pairs all =
    AllPairs-cons R x (xs ++ y ∷ []) (one_more xs (pairs_head R x xs pairs))
    (pairs_behind R xs y (pairs_tail R x xs pairs) (All-tail (λ x. R x y) x xs all))
  where
    one_more : (rest : List X) → All (R x) rest → All (R x) (rest ++ y ∷ [])
    one_more [] each = All-cons (R x) y [] (All-head (λ x. R x y) x xs all) (All-nil (R x))
    one_more (z ∷ rest) each = All-cons (R x) z (rest ++ y ∷ []) (All-head (R x) z rest each) (one_more rest (All-tail (R x) z rest each))

all_apart : (name : Option Name) (names : List (Option Name)) → list_any (is_same_source name) names ≡ false → All (λ other. AreSameSources other name → ⊥) names
all_apart name [] e = All-nil (λ other. AreSameSources other name → ⊥)
all_apart name (other ∷ names) e =
    let all = none_pass (is_same_source name) (other ∷ names) e in
    All-cons (λ other. AreSameSources other name → ⊥) other names (not_same other name (All-head (λ x. is_same_source name x ≡ true → ⊥) other names all))
    (all_apart_of name names (All-tail (λ x. is_same_source name x ≡ true → ⊥) other names all))
  where
    not_same : (other name : Option Name) → (is_same_source name other ≡ true → ⊥) → AreSameSources other name → ⊥
    not_same (Some a) (Some b) differ same = differ same
    not_same (Some a) None differ same = same
    not_same None b differ same = same

    all_apart_of : (name : Option Name) (names : List (Option Name)) → All (λ x. is_same_source name x ≡ true → ⊥) names → All (λ other. AreSameSources other name → ⊥) names
    all_apart_of name [] all = All-nil (λ other. AreSameSources other name → ⊥)
    all_apart_of name (x ∷ xs) all =
        All-cons (λ other. AreSameSources other name → ⊥) x xs (not_same x name (All-head (λ x. is_same_source name x ≡ true → ⊥) x xs all))
        (all_apart_of name xs (All-tail (λ x. is_same_source name x ≡ true → ⊥) x xs all))

unless_same : {C : Type 0} (make : C → Sources) (outcome : Result C Fault) (f : Sources) (b : Bool)
    → (b ≡ false → (c : C) → AllPairs (λ x y. AreSameSources x y → ⊥) (make c).names) → (if b then Err DuplicateName else also make outcome) ≡ Ok f
    → AllPairs (λ x y. AreSameSources x y → ⊥) f.names
unless_same make outcome f true apart e = absurd cc
unless_same make outcome f false apart e =
    let (c, condition, same) = also-ok make outcome f e in subst (λ (f : Sources). AllPairs (λ x y. AreSameSources x y → ⊥) f.names) same (apart refl c)

joined_apart : (answers : Answers) (left : Sources) (kind : JoinKind) (on : OnTree) (given : Given) (f : Sources)
    → AllPairs (λ x y. AreSameSources x y → ⊥) left.names → joined answers left kind on given ≡ Ok f → AllPairs (λ x y. AreSameSources x y → ⊥) f.names
joined_apart answers left kind on given f pairs e =
    let make : Condition → Sources =
    λ c. record {
      from = From.joined left.from kind given.source c.term;
      names = left.names ++ given.name ∷ [];
      scope = c.scope;
      beside = left.beside ++ given.beside;
    } in
    unless_same make (joined_on answers on left.scope (shown_from given.name (length left.scope) given.columns)) f (list_any (is_same_source given.name) left.names)
    (λ none c. pairs_behind (λ x y. AreSameSources x y → ⊥) left.names given.name pairs (all_apart given.name left.names none)) e

pub sources_are_distinct : SourcesAreDistinct
sources_are_distinct known queries answers FromTree.No_source f e =
    let same : no_sources ≡ f = cc in
    subst (λ (f : Sources). AllPairs (λ a b. AreSameSources a b → ⊥) f.names) same (pairs_none (λ a b. AreSameSources a b → ⊥))
sources_are_distinct known queries answers (FromTree.First source) f e =
    let (given, is, more) = followed-ok (source_of known queries source) _ f e in
    joined_apart answers no_sources JoinKind.inner OnTree.Always given f (pairs_none (λ a b. AreSameSources a b → ⊥)) more
sources_are_distinct known queries answers (FromTree.Joined from join source on) f e =
    let (left, is, more) = followed-ok (from_of known queries answers from) _ f e in
    let (given, so, last) = followed-ok (source_of known queries source) _ f more in
    joined_apart answers left (kind_of join) on given f (sources_are_distinct known queries answers from left is) last
