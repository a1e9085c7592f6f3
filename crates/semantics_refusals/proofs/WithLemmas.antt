-- What the queries of a statement may mention: the items of WITH before them, and the tables.
use Rattle.std.proofs.Common.{◌≡◌, Bool, true, false, if◌then◌else◌, ℕ, suc, List, [], ◌∷◌, ◌++◌, codes, map, Ok, Err, All, refl, ap, ◌∙◌, subst, sym}
use Rattle.std.specs.Str.{str_eq_ignore_ascii_case}
use Rattle.std.proofs.lemmas.List.Elements.{All-append, All-cons, All-head, All-nil, All-tail}
use Rattle.values.specs.declared.fault.Fault.{Fault}
use Rattle.values.specs.declared.fault.Fault.TheVariants.{DuplicateName, UnknownTable}
use Rattle.sql_reader_syntax.specs.ExprTree.{QueryTree, TermTrees}
use Rattle.sql_reader_syntax.specs.StatementTree.{ItemTree, StatementTree}
use Rattle.sql_reader_syntax.specs.Tree.{Name}
use Rattle.semantics_names.specs.Laws.{IsSameInAnyCase}
use Rattle.semantics_names.specs.Outcome.{followed}
use Rattle.semantics_names.specs.Sources.{Known, known_as}
use Rattle.semantics_names.specs.Statement.{Named, Queried, With, are_distinct, ended, item_columns, item_of, max_levels, named, queried, with_item, with_items}
use Rattle.semantics_names.specs.Typed.{Table, known_from, known_schema, known_tables}
use Rattle.semantics_names.proofs.OutcomeLemmas.{also-ok, checked-ok, followed-ok}
use Rattle.semantics_refusals.specs.UnknownSources.{table_names}
use Rattle.semantics_refusals.specs.Written.{IsQueryOf}
use Rattle.semantics_refusals.proofs.OkLemmas.{IsGiven, back, front}

abbrev pub no_items : List Known → With
no_items tables = record { known = tables; beside = [] }

-- ---- the queries

pub item_taken : (w v : With) (item : ItemTree) → item_of w item ≡ Ok v → (q : Queried) × (columns : List Name)
    × (queried max_levels w.known item.query TermTrees.No_term ≡ Ok q) × (item_columns item.columns q.names ≡ Ok columns)
    × (with_item w item q columns ≡ v)
item_taken w v item e =
    let (q, is, more) = followed-ok (queried max_levels w.known item.query TermTrees.No_term) _ v e in
    let (columns, are, same) = also-ok (with_item w item q) (item_columns item.columns q.names) v more in
    (q, columns, is, are, same)

-- the items before one, and its query
pub split_items : (before : List ItemTree) (i : ItemTree) (after : List ItemTree) (w v : With) → with_items w (before ++ i ∷ after) ≡ Ok v
    → (u : With) × (q : Queried) × (columns : List Name) × (with_items w before ≡ Ok u)
    × (queried max_levels u.known i.query TermTrees.No_term ≡ Ok q) × (item_columns i.columns q.names ≡ Ok columns)
split_items [] i after w v e =
    let (m, is, more) = followed-ok (item_of w i) (λ more. with_items more after) v e in
    let (q, columns, taken, are, same) = item_taken w m i is in
    (w, q, columns, refl, taken, are)
split_items (b ∷ before) i after w v e =
    let (m, is, more) = followed-ok (item_of w b) (λ more. with_items more (before ++ i ∷ after)) v e in
    let (u, q, columns, begun, taken, are) = split_items before i after m v more in
    (u, q, columns, ap (λ r. followed r (λ more. with_items more before)) is ∙ begun, taken, are)

pub query_taken : (tables : List Known) (tree : StatementTree) (n : Named) {items : List ItemTree} {query : QueryTree} {order : TermTrees}
    → IsQueryOf tree items query order → named tables tree ≡ Ok n
    → (w : With) × (with_items (no_items tables) items ≡ Ok w) × IsGiven (queried max_levels w.known query order)
query_taken tables tree n (IsQueryOf.item before i after are) e =
    let (apart, rest) = checked-ok (are_distinct (map (λ (i : ItemTree). i.name) tree.items)) DuplicateName _ n e in
    let (w, items, more) = followed-ok (with_items (no_items tables) tree.items) _ n rest in
    let (u, q, columns, begun, taken, called) =
    split_items before i after (no_items tables) w (subst (λ all. with_items (no_items tables) all ≡ Ok w) are items) in
    (u, begun, (q, taken))
query_taken tables tree n IsQueryOf.whole e =
    let (apart, rest) = checked-ok (are_distinct (map (λ (i : ItemTree). i.name) tree.items)) DuplicateName _ n e in
    let (w, items, more) = followed-ok (with_items (no_items tables) tree.items) _ n rest in
    let (q, is, last) = followed-ok (queried max_levels w.known tree.query tree.order) (ended tree w.beside) n more in
    (w, items, (q, is))

-- ---- the names

module _ (P : Name → Type 0) where
  abbrev pub OfKnown : Known → Type 0
  OfKnown k = P k.name

  abbrev pub OfItem : ItemTree → Type 0
  OfItem i = P i.name

  pub items_there : (items : List ItemTree) (w v : With) → with_items w items ≡ Ok v → All OfItem items → All OfKnown w.known → All OfKnown v.known
  items_there [] w v e are known = let same : w ≡ v = cc in subst (λ (w : With). All OfKnown w.known) same known
  items_there (i ∷ items) w v e are known =
      let (m, is, more) = followed-ok (item_of w i) (λ more. with_items more items) v e in
      let (q, columns, taken, named, same) = item_taken w m i is in
      items_there items m v more (All-tail OfItem i items are)
      (subst (λ (w : With). All OfKnown w.known) same (All-cons OfKnown _ w.known (All-head OfItem i items are) known))

  pub items_back : (items : List ItemTree) (w v : With) → with_items w items ≡ Ok v → All OfKnown v.known → All OfItem items × All OfKnown w.known
  items_back [] w v e known = let same : w ≡ v = cc in (All-nil OfItem, subst (λ (w : With). All OfKnown w.known) (sym same) known)
  items_back (i ∷ items) w v e known =
      let (m, is, more) = followed-ok (item_of w i) (λ more. with_items more items) v e in
      let (q, columns, taken, named, same) = item_taken w m i is in
      let (are, rest) = items_back items m v more known in
      let all : All OfKnown ((with_item w i q columns).known) = subst (λ (w : With). All OfKnown w.known) (sym same) rest in
      (All-cons OfItem i items (All-head OfKnown _ w.known all) are, All-tail OfKnown _ w.known all)

  from_there : (at : ℕ) (tables : List Table) → All P (map (λ t. t.name) tables) → All OfKnown (known_from at tables)
  from_there at [] all = All-nil OfKnown
  from_there at (t ∷ ts) all =
      All-cons OfKnown _ (known_from (suc at) ts) (All-head P t.name (map (λ t. t.name) ts) all)
      (from_there (suc at) ts (All-tail P t.name (map (λ t. t.name) ts) all))

  from_back : (at : ℕ) (tables : List Table) → All OfKnown (known_from at tables) → All P (map (λ t. t.name) tables)
  from_back at [] all = All-nil P
  from_back at (t ∷ ts) all =
      All-cons P t.name (map (λ t. t.name) ts) (All-head OfKnown _ (known_from (suc at) ts) all)
      (from_back (suc at) ts (All-tail OfKnown _ (known_from (suc at) ts) all))

  pub tables_there : (tables : List Table) → All P (table_names tables) → All OfKnown (known_tables tables)
  tables_there tables all =
      let names : List Name = map (λ (t : Table). t.name) tables in
      let rest : List Name = codes "sqlite_schema" ∷ codes "sqlite_master" ∷ [] in
      let schema : All P rest = back P names rest all in
      All-append OfKnown (known_from 0 tables) (known_schema (codes "sqlite_schema") ∷ known_schema (codes "sqlite_master") ∷ [])
      (from_there 0 tables (front P names rest all))
      (All-cons OfKnown (known_schema (codes "sqlite_schema")) (known_schema (codes "sqlite_master") ∷ [])
      (All-head P (codes "sqlite_schema") (codes "sqlite_master" ∷ []) schema)
      (All-cons OfKnown (known_schema (codes "sqlite_master")) []
      (All-head P (codes "sqlite_master") [] (All-tail P (codes "sqlite_schema") (codes "sqlite_master" ∷ []) schema)) (All-nil OfKnown)))

  pub tables_back : (tables : List Table) → All OfKnown (known_tables tables) → All P (table_names tables)
  tables_back tables all =
      let schema : List Known = known_schema (codes "sqlite_schema") ∷ known_schema (codes "sqlite_master") ∷ [] in
      let last : All OfKnown schema = back OfKnown (known_from 0 tables) schema all in
      All-append P (map (λ (t : Table). t.name) tables) (codes "sqlite_schema" ∷ codes "sqlite_master" ∷ [])
      (from_back 0 tables (front OfKnown (known_from 0 tables) schema all))
      (All-cons P (codes "sqlite_schema") (codes "sqlite_master" ∷ [])
      (All-head OfKnown (known_schema (codes "sqlite_schema")) (known_schema (codes "sqlite_master") ∷ []) last)
      (All-cons P (codes "sqlite_master") []
      (All-head OfKnown (known_schema (codes "sqlite_master")) []
      (All-tail OfKnown (known_schema (codes "sqlite_schema")) (known_schema (codes "sqlite_master") ∷ []) last)) (All-nil P)))

-- ---- what a name stands for

abbrev pub IsOther : Name → Known → Type 0
IsOther name k = ¬ IsSameInAnyCase k.name name

-- where no name is the same, nothing is found, and the other way round
pub none_known : (known : List Known) (name : Name) (k : Known) → All (IsOther name) known → known_as known name ≡ Ok k → ⊥
none_known [] name k all e = absurd cc
none_known (other ∷ known) name k all e =
    by (str_eq_ignore_ascii_case other.name name) (All-head (IsOther name) other known all)
    (none_known known name k (All-tail (IsOther name) other known all)) e
  where
    by : (b : Bool) → ¬ (b ≡ true) → (known_as known name ≡ Ok k → ⊥) → (if b then Ok other else known_as known name) ≡ Ok k → ⊥
    by true apart more e = apart refl
    by false apart more e = more e

pub unknown_none : (known : List Known) (name : Name) (fault : Fault) → known_as known name ≡ Err fault → All (IsOther name) known
unknown_none [] name fault e = All-nil (IsOther name)
unknown_none (other ∷ known) name fault e =
    let (apart, rest) = by (str_eq_ignore_ascii_case other.name name) e in
    All-cons (IsOther name) other known apart (unknown_none known name fault rest)
  where
    by : (b : Bool) → (if b then Ok other else known_as known name) ≡ Err fault → (¬ (b ≡ true)) × (known_as known name ≡ Err fault)
    by true e = absurd cc
    by false e = (λ same. absurd cc, e)

pub unknown_is : (known : List Known) (name : Name) (fault : Fault) → known_as known name ≡ Err fault → UnknownTable ≡ fault
unknown_is [] name fault e = cc
unknown_is (other ∷ known) name fault e = by (str_eq_ignore_ascii_case other.name name) e (unknown_is known name fault)
  where
    by : (b : Bool) → (if b then Ok other else known_as known name) ≡ Err fault → (known_as known name ≡ Err fault → UnknownTable ≡ fault)
        → UnknownTable ≡ fault
    by true e more = absurd cc
    by false e more = more e

-- what holds of all that may be mentioned holds of what is found
pub found_all : (P : Known → Type 0) (known : List Known) (name : Name) (k : Known) → All P known → known_as known name ≡ Ok k → P k
found_all P [] name k all e = absurd cc
found_all P (other ∷ known) name k all e =
    by (str_eq_ignore_ascii_case other.name name) (All-head P other known all) (found_all P known name k (All-tail P other known all)) e
  where
    by : (b : Bool) → P other → (known_as known name ≡ Ok k → P k) → (if b then Ok other else known_as known name) ≡ Ok k → P k
    by true is more e = let same : other ≡ k = cc in subst P same is
    by false is more e = more e
