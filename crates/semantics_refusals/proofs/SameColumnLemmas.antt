-- A FROM that is taken shows the columns that it shows, and no others.
use Rattle.std.proofs.Common.{◌≡◌, Bool, true, false, if◌then◌else◌, ℕ, zero, suc, List, [], ◌∷◌, ◌++◌, length, Option, None, Result, Ok, Err, nat_eq, ap, ap₂, refl, sym, subst, ◌∙◌}
use Rattle.std.specs.List.{list_any}
use Rattle.std.specs.Str.{str_eq_ignore_ascii_case}
use Rattle.values.specs.declared.fault.Fault.{Fault}
use Rattle.values.specs.declared.fault.Fault.TheVariants.{ColumnCount, DuplicateName}
use Rattle.semantics.specs.Query.{Body, From, JoinKind}
use Rattle.sql_reader_syntax.specs.ExprTree.{FromTree, OnTree, QueryTree, SourceTree, TermTrees}
use Rattle.sql_reader_syntax.specs.StatementTree.{ItemTree}
use Rattle.sql_reader_syntax.specs.Tree.{Name}
use Rattle.sql_reader_syntax.specs.declared.query.CompoundOperator.{CompoundOperator}
use Rattle.semantics_names.specs.Expression.{Answers, term_of}
use Rattle.semantics_names.specs.Outcome.{also}
use Rattle.semantics_names.specs.Places.{columns_say}
use Rattle.semantics_names.specs.Scope.{Scope, places_of}
use Rattle.semantics_names.specs.Sources.{Condition, Given, Known, Sources, Using, hidden, is_same_source, joined, joined_on, kind_of, known_as, merged, no_sources, shown_from, used}
use Rattle.semantics_names.specs.Statement.{Queried, Single, With, alias_or, compounded, from_of, given_known, given_query, item_of, keys_of, max_levels, no_row, operator_of, queried, query_of, simple, single_of, source_of, with_items}
use Rattle.semantics_names.specs.Typed.{Table, known_tables}
use Rattle.semantics_names.proofs.OneLemmas.{one_ok}
use Rattle.semantics_names.proofs.OutcomeLemmas.{also-ok, checked-ok, followed-ok}
use Rattle.semantics_refusals.specs.Columns.{AreListed, HasNames, IsListed, JoinsScopes, ListedTable, Merges, Offers, Shows, columns_or, names_of_results, results_in}
use Rattle.semantics_refusals.proofs.NameLemmas.{core_names, listed_of}
use Rattle.semantics_refusals.proofs.StatementLemmas.{all_tables_are, columns_are, with_more}
use Rattle.semantics_refusals.proofs.TakenLemmas.{answers_with, from_taken, inside}
use Rattle.semantics_refusals.proofs.WithLemmas.{item_taken, no_items, split_items}

abbrev scope_or : Scope → Result Condition Fault → Scope
scope_or otherwise (Ok c) = c.scope
scope_or otherwise (Err fault) = otherwise

abbrev item_listed : ItemTree → List Name → ListedTable
item_listed i columns = record { name = i.name; columns = columns }

compounded_names : (order : TermTrees) (l : Queried) (operator : CompoundOperator) (s : Single) (q : Queried) → compounded order l operator s ≡ Ok q
    → l.names ≡ q.names
compounded_names order l operator s q e =
    let (even, rest) = checked-ok (nat_eq (length l.names) (length s.core.names)) ColumnCount _ q e in
    let (keys, sorted, same) =
    also-ok (λ keys. record {
      body = Body.compound l.body (operator_of operator) s.from s.core.select;
      names = l.names;
      order = keys;
      beside = l.beside ++ s.beside;
    }) (keys_of l.names no_row order) q rest in
    ap (λ (q : Queried). q.names) same

listed_one : (known : List Known) (name : Name) (k : Known) → known_as known name ≡ Ok k → {columns : List Name} → IsListed name (listed_of known) columns
    → columns ≡ k.columns
listed_one [] name k e is = absurd cc
listed_one (other ∷ known) name k e (IsListed.here same) = by (str_eq_ignore_ascii_case other.name name) same e
  where
    by : (b : Bool) → b ≡ true → (if b then Ok other else known_as known name) ≡ Ok k → other.columns ≡ k.columns
    by true same is = let found : other ≡ k = cc in ap (λ (k : Known). k.columns) found
    by false same is = absurd cc
listed_one (other ∷ known) name k e (IsListed.later {columns = columns} apart is) =
    by (str_eq_ignore_ascii_case other.name name) apart e (λ more. listed_one known name k more is)
  where
    by : (b : Bool) → ¬ (b ≡ true) → (if b then Ok other else known_as known name) ≡ Ok k → (known_as known name ≡ Ok k → columns ≡ k.columns)
        → columns ≡ k.columns
    by true apart is more = absurd (apart refl)
    by false apart is more = more is

merges_one : {theirs : Scope} {names : List Name} {left right more others : Scope} → Merges theirs names left right more others → (u : Using)
    → used theirs left right names ≡ Ok u → (more ≡ u.left) × (others ≡ u.right)
merges_one (Merges.done {left = left} {right = right}) u e =
    let begun : Using = record { left = left; right = right; equalities = [] } in
    let same : begun ≡ u = cc in (ap (λ (u : Using). u.left) same, ap (λ (u : Using). u.right) same)
merges_one {theirs = theirs} (Merges.both {name = name} {names = names} {left = left} {right = right} {places = places} is merges) u e =
    let (mine, own, others) = followed-ok (places_of left None name) _ u e in
    let (found, are, last) = followed-ok (places_of theirs None name) _ u others in
    let (m, merging, same) = also-ok _ (used theirs (merged name found left) (hidden name right) names) u last in
    let one : found ≡ places = one_ok found places (places_of theirs None name) are is in
    let (lefts, rights) = merges_one merges m (subst (λ p. used theirs (merged name p left) (hidden name right) names ≡ Ok m) one merging) in
    (lefts ∙ ap (λ (u : Using). u.left) same, rights ∙ ap (λ (u : Using). u.right) same)

joins_one : {on : OnTree} {left right scope : Scope} → JoinsScopes on left right scope → (answers : Answers) (c : Condition) → joined_on answers on left right ≡ Ok c
    → scope ≡ c.scope
joins_one (JoinsScopes.always {left = left} {right = right}) answers c e = ap (λ (r : Result Condition Fault). scope_or (left ++ right) r) e
joins_one (JoinsScopes.on {e = x} {left = left} {right = right}) answers c e =
    let (t, of, same) = also-ok _ (term_of answers (columns_say (left ++ right)) x) c e in ap (λ (c : Condition). c.scope) same
joins_one (JoinsScopes.by_names {names = names} {left = left} {right = right} merges) answers c e =
    let (u, merging, same) = also-ok _ (used right left right names) c e in
    let (lefts, rights) = merges_one merges u merging in
    ap₂ ◌++◌ lefts rights ∙ ap (λ (c : Condition). c.scope) same

-- what is joined on
pub joined_is : (answers : Answers) (left : Sources) (kind : JoinKind) (on : OnTree) (given : Given) (f : Sources) → joined answers left kind on given ≡ Ok f
    → (c : Condition) × (joined_on answers on left.scope (shown_from given.name (length left.scope) given.columns) ≡ Ok c) × (c.scope ≡ f.scope)
joined_is answers left kind on given f e = by (list_any (is_same_source given.name) left.names) e
  where
    by : (b : Bool) → (if b then Err DuplicateName else also (λ (c : Condition). record {
      from = From.joined left.from kind given.source c.term;
      names = left.names ++ given.name ∷ [];
      scope = c.scope;
      beside = left.beside ++ given.beside;
    }) (joined_on answers on left.scope (shown_from given.name (length left.scope) given.columns))) ≡ Ok f
        → (c : Condition) × (joined_on answers on left.scope (shown_from given.name (length left.scope) given.columns) ≡ Ok c) × (c.scope ≡ f.scope)
    by true is = absurd cc
    by false is =
        let (c, of, same) = also-ok _ (joined_on answers on left.scope (shown_from given.name (length left.scope) given.columns)) f is in
        (c, of, ap (λ (f : Sources). f.scope) same)

module _ (known : List Known) (queries : QueryTree → Result Queried Fault)
    (same_names : (tree : QueryTree) (q : Queried) → queries tree ≡ Ok q → (names : List Name) → HasNames (listed_of known) tree names → names ≡ q.names) where
  pub offers_one : {source : SourceTree} {called : Option Name} {columns : List Name} → Offers (listed_of known) source called columns → (g : Given)
      → source_of known queries source ≡ Ok g → (called ≡ g.name) × (columns ≡ g.columns)
  offers_one (Offers.named {name = name} {alias = alias} is) g e =
      let (k, found, more) = followed-ok (known_as known name) (given_known (alias_or name alias)) g e in
      let (source, of, same) = also-ok _ k.source g more in
      (ap (λ (g : Given). g.name) same, listed_one known name k found is ∙ ap (λ (g : Given). g.columns) same)
  offers_one (Offers.derived {query = query} {alias = alias} {columns = columns} has) g e =
      let (q, is, same) = also-ok (given_query alias) (queries query) g e in
      (ap (λ (g : Given). g.name) same, same_names query q is columns has ∙ ap (λ (g : Given). g.columns) same)

  pub shows_one : (answers : Answers) {from : FromTree} {scope : Scope} → Shows (listed_of known) from scope → (f : Sources)
      → from_of known queries answers from ≡ Ok f → scope ≡ f.scope
  shows_one answers Shows.nothing f e = let same : no_sources ≡ f = cc in ap (λ (f : Sources). f.scope) same
  shows_one answers (Shows.first {source = source} {called = called} {columns = columns} offers) f e =
      let (g, is, more) = followed-ok (source_of known queries source) (joined answers no_sources JoinKind.inner OnTree.Always) f e in
      let (names, lists) = offers_one offers g is in
      let (c, of, same) = joined_is answers no_sources JoinKind.inner OnTree.Always g f more in
      ap₂ (λ called columns. shown_from called 0 columns) names lists
      ∙ joins_one (JoinsScopes.always {left = []} {right = shown_from g.name 0 g.columns}) answers c of ∙ same
  shows_one answers (Shows.joined {from = from} {join = join} {source = source} {on = on} {left = left} {scope = scope} {called = called} {columns = columns}
      shows offers joins) f e =
      let (l, first, more) = followed-ok (from_of known queries answers from) _ f e in
      let (g, is, last) = followed-ok (source_of known queries source) (joined answers l (kind_of join) on) f more in
      let scopes : left ≡ l.scope = shows_one answers shows l first in
      let (names, lists) = offers_one offers g is in
      let (c, of, same) = joined_is answers l (kind_of join) on g f last in
      let there : JoinsScopes on l.scope (shown_from g.name (length l.scope) g.columns) scope =
      subst (λ left. JoinsScopes on left (shown_from g.name (length left) g.columns) scope) scopes
      (subst (λ called. JoinsScopes on left (shown_from called (length left) g.columns) scope) names
      (subst (λ columns. JoinsScopes on left (shown_from called (length left) columns) scope) lists joins)) in
      joins_one there answers c of ∙ same

  pub names_one : {tree : QueryTree} {names : List Name} → HasNames (listed_of known) tree names → (order : TermTrees) (q : Queried)
      → query_of known queries tree order ≡ Ok q → names ≡ q.names
  names_one (HasNames.alone {core = core} {scope = scope} shows) order q e =
      let (s, is, same) = also-ok simple (single_of known queries core order) q e in
      let (inners, f, from, (c, of, made)) = from_taken known queries core order s is in
      let named : c.names ≡ names_of_results f.scope (results_in core) = core_names (answers_with known queries inners) f.scope core order c of in
      ap (λ scope. names_of_results scope (results_in core)) (shows_one (answers_with known queries inners) shows f from)
      ∙ sym named ∙ ap (λ (s : Single). s.core.names) made ∙ ap (λ (q : Queried). q.names) same
  names_one (HasNames.compound {left = left} {operator = operator} {core = core} has) order q e =
      let (l, is, more) = followed-ok (query_of known queries left TermTrees.No_term) _ q e in
      let (s, single, last) = followed-ok (single_of known queries core TermTrees.No_term) (compounded order l operator) q more in
      names_one has TermTrees.No_term l is ∙ compounded_names order l operator s q last

pub same_names : (deep : ℕ) (known : List Known) (tree : QueryTree) (order : TermTrees) (q : Queried) → queried deep known tree order ≡ Ok q
    → (names : List Name)
    → HasNames (listed_of known) tree names → names ≡ q.names
same_names zero known tree order q e names has = absurd cc
same_names (suc deep) known tree order q e names has =
    names_one known (inside deep known) (λ inner p is names has. same_names deep known inner TermTrees.No_term p is names has) has order q e

pub same_inside : (known : List Known) (deep : ℕ) (tree : QueryTree) (q : Queried) → inside deep known tree ≡ Ok q → (names : List Name)
    → HasNames (listed_of known) tree names → names ≡ q.names
same_inside known deep tree q e names has = same_names deep known tree TermTrees.No_term q e names has

-- ---- the statement

pub listed_same : (tables : List Table) {items : List ItemTree} {listed : List ListedTable} → AreListed tables items listed → (w : With)
    → with_items (no_items (known_tables tables)) items ≡ Ok w → listed ≡ listed_of w.known
listed_same tables AreListed.no_item w e =
    let same : no_items (known_tables tables) ≡ w = cc in sym (all_tables_are tables) ∙ ap (λ (w : With). listed_of w.known) same
listed_same tables (AreListed.item {before = before} {listed = listed} i names are has) w e =
    let (u, q, columns, begun, taken, called) = split_items before i [] (no_items (known_tables tables)) w e in
    let last : with_items u (i ∷ []) ≡ Ok w = sym (with_more (no_items (known_tables tables)) u before (i ∷ []) begun) ∙ e in
    let (m, is, ended) = followed-ok (item_of u i) (λ more. with_items more []) w last in
    let (p, written, of, named, made) = item_taken u m i is in
    let same : m ≡ w = cc in
    let listed_is : listed ≡ listed_of u.known = listed_same tables are u begun in
    let names_are : names ≡ p.names =
    same_names max_levels u.known i.query TermTrees.No_term p of names (subst (λ listed. HasNames listed i.query names) listed_is has) in
    let columns_is : columns_or i.columns names ≡ written = ap (columns_or i.columns) names_are ∙ columns_are i.columns p.names written named in
    ap₂ (λ columns listed. item_listed i columns ∷ listed) columns_is listed_is ∙ ap (λ (w : With). listed_of w.known) (made ∙ same)
