-- A statement with a name of a column that is none, or of two, is no query.
use Rattle.std.proofs.Common.{◌≡◌, ◌⊎◌, ◌↔◌, ◌<◌, Bool, true, false, true≢false, if◌then◌else◌, inl, inr, ℕ, zero, suc, List, [], ◌∷◌, ◌++◌, length, Option, Some, None, Result, Ok, Err, All, Contains, nat_eq, nat_le, arith, ap, refl, sym, subst, ◌∙◌}
use Rattle.std.specs.List.{filter_map}
use Rattle.std.specs.Str.{str_eq_ignore_ascii_case}
use Rattle.std.proofs.lemmas.List.Elements.{All-head, All-tail, Contains-append_cases, Contains-push_cases}
use Rattle.values.specs.declared.fault.Fault.{Fault}
use Rattle.values.specs.declared.fault.Fault.TheVariants.{Ambiguous, ColumnCount, DuplicateName, Limit, UnknownColumn}
use Rattle.expr.specs.Term.{column}
use Rattle.semantics.specs.Query.{Body, Key, KeyTerm}
use Rattle.sql_reader_syntax.specs.ExprTree.{CoreTree, ExprTree, OnTree, QueryTree, TermTrees}
use Rattle.sql_reader_syntax.specs.StatementTree.{StatementTree}
use Rattle.sql_reader_syntax.specs.Tree.{Name}
use Rattle.semantics_names.specs.Expression.{Answers, term_of}
use Rattle.semantics_names.specs.Laws.{AmbiguousIsTwo, IsCalledAt, IsSameInAnyCase, UnknownIsNone}
use Rattle.semantics_names.specs.Outcome.{also}
use Rattle.semantics_names.specs.Parts.{parts_behind_groups}
use Rattle.semantics_names.specs.Places.{aggregate_of, call_of, columns_say, windows_say}
use Rattle.semantics_names.specs.Same.{is_same_aggregate, is_same_call}
use Rattle.semantics_names.specs.Scope.{Scope, bare_term, column_of, is_source, places_of}
use Rattle.semantics_names.specs.Sources.{Condition, Known, Using, hidden, joined, kind_of, merged, shown_from, used}
use Rattle.semantics_names.specs.Statement.{CoreData, Named, Queried, Single, all_results, are_distinct, behind_groups, by_of, compounded, condition_of, core_of, defined_of, finished, firsts, from_of, from_tree, input_of, keys_of, max_columns, named, named_at, no_row, on_row, one_or, operator_of, query_of, result, simple, single, single_of, source_of, starred_of, window_names}
use Rattle.semantics_names.specs.Typed.{Table, column_types, known_tables, with_types}
use Rattle.semantics_names.proofs.OutcomeLemmas.{also-ok, checked-ok, followed-ok}
use Rattle.semantics_refusals.specs.Columns.{ListedTable, Shows, names_of_results, results_in}
use Rattle.semantics_refusals.specs.UnknownColumns.{AmbiguousColumnIsRefused, HasLooseHaving, InSelect, IsAmbiguous, IsNamedAt, IsNoResult, IsOf, IsTwofold, IsUnknown, NamesColumn, NamesUnknownColumn, SortsByTwo, UnknownColumnIsRefused, columns_behind}
use Rattle.semantics_refusals.specs.Written.{HasQueryWith, IsLooseHaving, stars_in}
use Rattle.semantics_refusals.proofs.CoreToldLemmas.{core_told, keys_given}
use Rattle.semantics_refusals.proofs.NameLemmas.{listed_of, names_in}
use Rattle.semantics_refusals.proofs.OkLemmas.{IsGiven}
use Rattle.semantics_refusals.proofs.PartLemmas.{among}
use Rattle.semantics_refusals.proofs.SameColumnLemmas.{joined_is, listed_same, names_one, offers_one, same_inside, shows_one}
use Rattle.semantics_refusals.proofs.ScopeLemmas.{called_in}
use Rattle.semantics_refusals.proofs.SelectLemmas.{TakenSelect, begins_taken, part_taken, select_taken}
use Rattle.semantics_refusals.proofs.TakenLemmas.{IsTakenQuery, answers_with, from_taken, inside}
use Rattle.semantics_refusals.proofs.ToldLemmas.{columns_tell, told}

-- a name of which this holds stands for no column, and more places of the columns change nothing of it
pub record IsRefuted (Is : Scope → Option Name → Name → Type 0) : Type 0 where
  pub none : (scope : Scope) (table : Option Name) (name : Name) → IsGiven (column_of scope table name) → ¬ Is scope table name
  pub kept : (whole left : Scope) → ((name : Name) (at : ℕ) → IsCalledAt whole None name at ↔ IsCalledAt left None name at) → (name : Name)
      → Is whole None name → Is left None name

unknown_refuted : UnknownIsNone → IsRefuted IsUnknown
unknown_refuted none = record {
  none = λ scope table name (t, is) unknown. let e : column_of scope table name ≡ Err UnknownColumn = (none scope table name).1 unknown in absurd cc;
  kept = λ whole left same name unknown at called. unknown at ((same name at).1 called);
}

ambiguous_refuted : AmbiguousIsTwo → IsRefuted IsAmbiguous
ambiguous_refuted two = record {
  none = λ scope table name (t, is) twice. let e : column_of scope table name ≡ Err Ambiguous = (two scope table name).1 twice in absurd cc;
  kept = λ whole left same name (first, second, apart, one, other). (first, second, apart, (same name first).0 one, (same name second).0 other);
}

-- `t.*` of no source
none_of_star : (table : Name) (at : ℕ) (scope : Scope) → All (λ shown. ¬ IsOf table shown) scope → starred_of table at scope ≡ []
none_of_star table at [] all = refl
none_of_star table at (s ∷ ss) all =
    by (is_source table s.source) refl (none_of_star table (suc at) ss (All-tail (λ shown. ¬ IsOf table shown) s ss all))
  where
    sourced : (o : Option Name) → is_source table o ≡ true → (source : Name) × (o ≡ Some source) × IsSameInAnyCase source table
    sourced None e = absurd cc
    sourced (Some name) e = (name, refl, e)

    by : (b : Bool) → is_source table s.source ≡ b → starred_of table (suc at) ss ≡ []
        → (if b then result s.name (column at) ∷ starred_of table (suc at) ss else starred_of table (suc at) ss) ≡ []
    by true e more = absurd (All-head (λ shown. ¬ IsOf table shown) s ss all (sourced s.source e))
    by false e more = more

-- two places of a name among names
one_named : (name : Name) (from : ℕ) (names : List Name) (k : ℕ) → IsNamedAt names name k → (at : ℕ) × (more : List ℕ) × (named_at name from names ≡ at ∷ more)
one_named name from [] k (n, is, same) = absurd cc
one_named name from (n ∷ ns) k found = by (str_eq_ignore_ascii_case n name) refl k found (one_named name (suc from) ns)
  where
    by : (b : Bool) → str_eq_ignore_ascii_case n name ≡ b → (k : ℕ) → IsNamedAt (n ∷ ns) name k
        → ((k : ℕ) → IsNamedAt ns name k → (at : ℕ) × (more : List ℕ) × (named_at name (suc from) ns ≡ at ∷ more))
        → (at : ℕ) × (more : List ℕ) × ((if b then from ∷ named_at name (suc from) ns else named_at name (suc from) ns) ≡ at ∷ more)
    by true is k found rest = (from, named_at name (suc from) ns, refl)
    by false is zero (other, there, same) rest =
        let called : n ≡ other = cc in absurd (true≢false (sym (subst (λ n. str_eq_ignore_ascii_case n name ≡ true) (sym called) same) ∙ is))
    by false is (suc k) (other, there, same) rest = rest k (other, there, same)

two_named : (name : Name) (from : ℕ) (names : List Name) (j k : ℕ) → j < k → IsNamedAt names name j → IsNamedAt names name k
    → (at other : ℕ) × (more : List ℕ) × (named_at name from names ≡ at ∷ other ∷ more)
two_named name from [] j k less (n, is, same) other = absurd cc
two_named name from (n ∷ ns) j zero less one other = absurd (omega arith)
two_named name from (n ∷ ns) zero (suc k) less (m, is, same) (o, there, alike) =
    let called : n ≡ m = cc in
    let (at, more, e) = one_named name (suc from) ns k (o, there, alike) in
    by (str_eq_ignore_ascii_case n name) (subst (λ n. str_eq_ignore_ascii_case n name ≡ true) (sym called) same) at more e
  where
    by : (b : Bool) → b ≡ true → (at : ℕ) (more : List ℕ) → named_at name (suc from) ns ≡ at ∷ more
        → (first other : ℕ) × (more : List ℕ) × ((if b then from ∷ named_at name (suc from) ns else named_at name (suc from) ns) ≡ first ∷ other ∷ more)
    by true is at more e = (from, at, more, ap (λ xs. from ∷ xs) e)
    by false is at more e = absurd cc
two_named name from (n ∷ ns) (suc j) (suc k) less (m, is, same) (o, there, alike) =
    let (at, other, more, e) = two_named name (suc from) ns j k (omega arith) (m, is, same) (o, there, alike) in
    by (str_eq_ignore_ascii_case n name) at other more e
  where
    by : (b : Bool) → (at other : ℕ) (more : List ℕ) → named_at name (suc from) ns ≡ at ∷ other ∷ more
        → (first second : ℕ) × (more : List ℕ) × ((if b then from ∷ named_at name (suc from) ns else named_at name (suc from) ns) ≡ first ∷ second ∷ more)
    by true at other more e = (from, at, other ∷ more, ap (λ xs. from ∷ xs) e)
    by false at other more e = (at, other, more, e)

-- ---- one SELECT

module _ (Is : Scope → Option Name → Name → Type 0) (refuted : IsRefuted Is) where
  used_refuted : (theirs whole left right : Scope) (names : List Name) → ((name : Name) (at : ℕ) → IsCalledAt whole None name at ↔ IsCalledAt left None name at)
      → (u : Using) → used theirs left right names ≡ Ok u → (name : Name) → Contains names name → Is whole None name ⊎ Is theirs None name → ⊥
  used_refuted theirs whole left right [] same u e name (at, short, there) is = absurd (omega arith)
  used_refuted theirs whole left right (n ∷ ns) same u e name there is =
      let (mine, own, others) = followed-ok (places_of left None n) _ u e in
      let (places, found, last) = followed-ok (places_of theirs None n) _ u others in
      let (m, more, made) = also-ok _ (used theirs (merged n places left) (hidden n right) ns) u last in
      by (Contains-append_cases (n ∷ []) ns name there) (bare_term mine, ap (also bare_term) own) (bare_term places, ap (also bare_term) found)
      (λ rest. used_refuted theirs whole (merged n places left) (hidden n right) ns
      (λ name at. (λ c. (called_in name n places left at).0 ((same name at).0 c), λ c. (same name at).1 ((called_in name n places left at).1 c)))
      m more name rest is)
    where
      own_name : Contains (n ∷ []) name → n ≡ name
      own_name there = one (Contains-push_cases [] n name there)
        where
          one : Contains [] name ⊎ (n ≡ name) → n ≡ name
          one (inl (at, short, none)) = absurd (omega arith)
          one (inr same) = same

      by : Contains (n ∷ []) name ⊎ Contains ns name → IsGiven (column_of left None n) → IsGiven (column_of theirs None n)
          → (Contains ns name → ⊥) → ⊥
      by (inl here) mine places more = side is
        where
          side : Is whole None name ⊎ Is theirs None name → ⊥
          side (inl is) = refuted.none left None n mine (subst (Is left None) (sym (own_name here)) (refuted.kept whole left same name is))
          side (inr is) = refuted.none theirs None n places (subst (Is theirs None) (sym (own_name here)) is)
      by (inr rest) mine places more = more rest

  names_refuted : (known : List Known) (core : CoreTree) (by : TermTrees) → TakenSelect known core by → ¬ IsLooseHaving core
      → NamesColumn Is (listed_of known) core by → ⊥
  names_refuted known core by taken tight (NamesColumn.in_expression scope table name shows there is) =
      let queries : QueryTree → Result Queried Fault = inside taken.deep known in
      let same = shows_one known queries (same_inside known taken.deep) (answers_with known queries taken.inners) shows taken.sources taken.from in
      let told = core_told (answers_with known queries taken.inners) taken.sources.scope core by taken.made taken.is tight in
      refuted.none taken.sources.scope table name ((among told.spoken there).is table name refl) (subst (λ scope. Is scope table name) same is)
  names_refuted known core by taken tight (NamesColumn.in_order scope e table name shows there apart stands is) =
      let queries : QueryTree → Result Queried Fault = inside taken.deep known in
      let same = shows_one known queries (same_inside known taken.deep) (answers_with known queries taken.inners) shows taken.sources taken.from in
      let told = core_told (answers_with known queries taken.inners) taken.sources.scope core by taken.made taken.is tight in
      let no_result = subst (λ scope. IsNoResult (names_of_results scope (results_in core)) e) same apart in
      refuted.none taken.sources.scope table name ((among (told.terms e there no_result) stands).is table name refl)
      (subst (λ scope. Is scope table name) same is)
  names_refuted known core by taken tight (NamesColumn.in_on left join source e scope table name begins shows there is) =
      let queries : QueryTree → Result Queried Fault = inside taken.deep known in
      let answers : Answers = answers_with known queries taken.inners in
      let (f, from) = begins_taken known queries answers begins taken.sources taken.from in
      let same = shows_one known queries (same_inside known taken.deep) answers shows f from in
      let (l, first, more) = followed-ok (from_of known queries answers left) _ f from in
      let (g, given, last) = followed-ok (source_of known queries source) (joined answers l (kind_of join) (OnTree.On e)) f more in
      let (c, of, scopes) = joined_is answers l (kind_of join) (OnTree.On e) g f last in
      let whole : Scope = l.scope ++ shown_from g.name (length l.scope) g.columns in
      let (t, term, made) = also-ok _ (term_of answers (columns_say whole) e) c of in
      let there_is : whole ≡ scope = ap (λ (c : Condition). c.scope) made ∙ scopes ∙ sym same in
      refuted.none whole table name ((among (told whole answers (columns_say whole) (columns_tell whole answers) e t term) there).is table name refl)
      (subst (λ scope. Is scope table name) (sym there_is) is)
  names_refuted known core by taken tight (NamesColumn.in_using left join source names scope called columns name begins shows offers there is) =
      let queries : QueryTree → Result Queried Fault = inside taken.deep known in
      let answers : Answers = answers_with known queries taken.inners in
      let (f, from) = begins_taken known queries answers begins taken.sources taken.from in
      let (l, first, more) = followed-ok (from_of known queries answers left) _ f from in
      let (g, given, last) = followed-ok (source_of known queries source) (joined answers l (kind_of join) (OnTree.Using names)) f more in
      let (c, of, scopes) = joined_is answers l (kind_of join) (OnTree.Using names) g f last in
      let same = shows_one known queries (same_inside known taken.deep) answers shows l first in
      let (calls, lists) = offers_one known queries (same_inside known taken.deep) offers g given in
      let theirs : Scope = shown_from g.name (length l.scope) g.columns in
      let (u, using, made) = also-ok _ (used theirs l.scope theirs names) c of in
      let here : Is l.scope None name ⊎ Is (columns_behind l.scope g.name g.columns) None name =
      subst (λ columns. Is l.scope None name ⊎ Is (columns_behind l.scope g.name columns) None name) lists
      (subst (λ called. Is l.scope None name ⊎ Is (columns_behind l.scope called columns) None name) calls
      (subst (λ scope. Is scope None name ⊎ Is (columns_behind scope called columns) None name) same is)) in
      used_refuted theirs l.scope l.scope theirs names (λ name at. (λ c. c, λ c. c)) u using name there here

star_refuted : (known : List Known) (core : CoreTree) (by : TermTrees) → TakenSelect known core by → ¬ IsLooseHaving core → (scope : Scope) (table : Name)
    → Shows (listed_of known) (from_tree core) scope → Contains (stars_in (results_in core)) table → All (λ shown. ¬ IsOf table shown) scope → ⊥
star_refuted known core by taken tight scope table shows there none =
    let queries : QueryTree → Result Queried Fault = inside taken.deep known in
    let same = shows_one known queries (same_inside known taken.deep) (answers_with known queries taken.inners) shows taken.sources taken.from in
    let told = core_told (answers_with known queries taken.inners) taken.sources.scope core by taken.made taken.is tight in
    among told.stars there (none_of_star table 0 taken.sources.scope (subst (All (λ shown. ¬ IsOf table shown)) same none))

-- ---- ORDER BY of a query

-- the terms of ORDER BY are looked at by the names of the result columns
abbrev AreSorted : List Name → TermTrees → Type 0
AreSorted names order = (otherwise : ExprTree → Result KeyTerm Fault) × (keys : List Key) × (keys_of names otherwise order ≡ Ok keys)

core_sorted : (answers : Answers) (scope : Scope) (core : CoreTree) (order : TermTrees) (c : CoreData) → core_of answers scope core order ≡ Ok c
    → AreSorted c.names order
core_sorted answers scope (CoreTree.Select distinct results from condition by having windows) order c e =
    let behind = parts_behind_groups (CoreTree.Select distinct results from condition by having windows) order in
    let (test, is, others) = followed-ok (condition_of answers (columns_say scope) condition) _ c e in
    let (keys, are, more) = followed-ok (by_of answers scope by) _ c others in
    let (aggregates, found, last) =
    followed-ok (firsts is_same_aggregate [] (filter_map (aggregate_of answers (columns_say scope)) behind)) _ c more in
    let (input, given, all) =
    followed-ok (input_of answers scope keys aggregates having) (behind_groups answers scope distinct results order behind windows test) c last in
    let (apart, rest) = checked-ok (are_distinct (window_names windows)) DuplicateName _ c all in
    let (defined, are_defined, next) = followed-ok (defined_of answers input.says windows) _ c rest in
    let (calls, called, end) = followed-ok (firsts is_same_call [] (filter_map (call_of answers input.says defined) behind)) _ c next in
    let says = windows_say answers input.says defined input.width calls in
    let (columns, shown, on) = followed-ok (all_results answers scope input says results) _ c end in
    let (few, sorting) = checked-ok (nat_le (length columns) max_columns) Limit _ c on in
    let (sort, sorted, same) =
    also-ok (finished distinct test input.grouping defined calls columns) (keys_of (names_in columns) (on_row answers distinct says) order) c sorting in (
      on_row answers distinct says,
      sort,
      subst (λ names. keys_of names (on_row answers distinct says) order ≡ Ok sort)
          (ap (λ (c : CoreData). c.names) same) sorted,
    )

query_sorted : (known : List Known) (queries : QueryTree → Result Queried Fault) (query : QueryTree) (order : TermTrees) (q : Queried)
    → query_of known queries query order ≡ Ok q → AreSorted q.names order
query_sorted known queries (QueryTree.Core core) order q e =
    let (s, is, same) = also-ok simple (single_of known queries core order) q e in
    let (inners, f, from, (c, of, made)) = from_taken known queries core order s is in
    subst (λ names. AreSorted names order) (ap (λ (s : Single). s.core.names) made ∙ ap (λ (q : Queried). q.names) same)
    (core_sorted (answers_with known queries inners) f.scope core order c of)
query_sorted known queries (QueryTree.Compound left operator core) order q e =
    let (l, is, more) = followed-ok (query_of known queries left TermTrees.No_term) _ q e in
    let (s, single, last) = followed-ok (single_of known queries core TermTrees.No_term) (compounded order l operator) q more in
    let (even, rest) = checked-ok (nat_eq (length l.names) (length s.core.names)) ColumnCount _ q last in
    let (keys, sorted, same) =
    also-ok (λ keys. record {
      body = Body.compound l.body (operator_of operator) s.from s.core.select;
      names = l.names;
      order = keys;
      beside = l.beside ++ s.beside;
    }) (keys_of l.names no_row order) q rest in
    subst (λ names. AreSorted names order) (ap (λ (q : Queried). q.names) same) (no_row, keys, sorted)

sorts_refuted : (known : List Known) (query : QueryTree) (order : TermTrees) → IsTakenQuery known query order → SortsByTwo (listed_of known) query order → ⊥
sorts_refuted known query order (deep, (q, taken)) two =
    let same = names_one known (inside deep known) (same_inside known deep) two.are order q taken in
    let (otherwise, keys, sorted) = query_sorted known (inside deep known) query order q taken in
    let (k, is) = among (keys_given q.names otherwise order keys sorted) two.written in
    let (at, other, more, e) =
    two_named two.name 0 q.names two.first two.second two.apart (subst (λ names. IsNamedAt names two.name two.first) same two.one)
    (subst (λ names. IsNamedAt names two.name two.second) same two.other) in
    twice at other more (otherwise (ExprTree.Column None two.name)) k (subst (λ places. one_or places (otherwise (ExprTree.Column None two.name)) ≡ Ok k) e is)
  where
    twice : (at other : ℕ) (more : List ℕ) (otherwise : Result KeyTerm Fault) (k : KeyTerm) → one_or (at ∷ other ∷ more) otherwise ≡ Ok k → ⊥
    twice at other more otherwise k e = absurd cc

-- ---- the statement

in_select_refuted : (tables : List Table) (tree : StatementTree) (n : Named) (Is : List ListedTable → CoreTree → TermTrees → Type 0)
    → ((known : List Known) (core : CoreTree) (by : TermTrees) → TakenSelect known core by → ¬ IsLooseHaving core → Is (listed_of known) core by → ⊥)
    → HasQueryWith tree (InSelect tables Is) → ¬ HasLooseHaving tree → named (known_tables tables) tree ≡ Ok n → ⊥
in_select_refuted tables tree n Is refuted has tight e =
    let (w, items, taken) = part_taken tables tree n (InSelect tables Is) has e in
    let here = has.is in
    refuted w.known here.core here.by (select_taken w.known has.query has.order here.core here.by taken here.select)
    (λ loose. tight (record {
      items = has.items;
      outer = has.outer;
      outer_order = has.outer_order;
      of = has.of;
      query = has.query;
      order = has.order;
      has = has.has;
      is = record { core = here.core; by = here.by; select = here.select; is = loose };
    })) (subst (λ listed. Is listed here.core here.by) (listed_same tables here.are w items) here.is)

pub unknown_column_is_refused : UnknownIsNone → UnknownColumnIsRefused
unknown_column_is_refused none tables tree n has tight e =
    let (found, names, so) = followed-ok (named (known_tables tables) tree) (with_types (column_types tables)) n e in
    in_select_refuted tables tree found NamesUnknownColumn refute has tight names
  where
    refute : (known : List Known) (core : CoreTree) (by : TermTrees) → TakenSelect known core by → ¬ IsLooseHaving core
        → NamesUnknownColumn (listed_of known) core by → ⊥
    refute known core by taken tight (NamesUnknownColumn.mention is) = names_refuted IsUnknown (unknown_refuted none) known core by taken tight is
    refute known core by taken tight (NamesUnknownColumn.star scope table shows there apart) =
        star_refuted known core by taken tight scope table shows there apart

pub ambiguous_column_is_refused : AmbiguousIsTwo → AmbiguousColumnIsRefused
ambiguous_column_is_refused two tables tree n has tight e =
    let (found, names, so) = followed-ok (named (known_tables tables) tree) (with_types (column_types tables)) n e in
    by found names has.is
  where
    by : (found : Named) → named (known_tables tables) tree ≡ Ok found → IsTwofold tables has.items has.query has.order → ⊥
    by found names (IsTwofold.column is) =
        in_select_refuted tables tree found (NamesColumn IsAmbiguous) (names_refuted IsAmbiguous (ambiguous_refuted two))
        (record {
          items = has.items;
          outer = has.outer;
          outer_order = has.outer_order;
          of = has.of;
          query = has.query;
          order = has.order;
          has = has.has;
          is = is;
        }) tight names
    by found names (IsTwofold.result listed are sorts) =
        let (w, items, taken) = part_taken tables tree found (IsTwofold tables) has names in
        sorts_refuted w.known has.query has.order taken (subst (λ listed. SortsByTwo listed has.query has.order) (listed_same tables are w items) sorts)
