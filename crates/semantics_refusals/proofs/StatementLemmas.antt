-- A statement by its names and types, or why it is no query.
use Rattle.std.proofs.Common.{◌≡◌, false, ℕ, suc, ◌+◌, List, [], ◌∷◌, ◌++◌, codes, length, map, Result, Ok, Err, All, append_assoc, append-nil, ap, refl, sym, subst, ◌∙◌, nat_eq, nat_le}
use Rattle.std.proofs.lemmas.List.{map-append}
use Rattle.values.specs.declared.fault.Fault.{Fault}
use Rattle.values.specs.declared.fault.Fault.TheVariants.{ColumnCount, DuplicateName, Limit, UnknownTable, WrongPlace}
use Rattle.values.specs.declared.value.Ty.{Ty}
use Rattle.semantics.specs.Query.{Body}
use Rattle.sql_reader_syntax.specs.ExprTree.{QueryTree, TermTrees}
use Rattle.sql_reader_syntax.specs.StatementTree.{ItemTree, StatementTree}
use Rattle.sql_reader_syntax.specs.Tree.{Name}
use Rattle.semantics_names.specs.Outcome.{each, followed}
use Rattle.semantics_names.specs.Sources.{Known, known_as}
use Rattle.semantics_names.specs.Statement.{Named, Queried, With, are_distinct, ended, item_columns, item_of, max_levels, max_sources, named, queried, sources_of_body, with_item, with_items}
use Rattle.semantics_names.specs.Typed.{Table, column_types, known_from, known_schema, known_tables, typed_query, with_types}
use Rattle.semantics_names.specs.Types.{body_types, query_types}
use Rattle.semantics_names.proofs.OutcomeLemmas.{checked-ok, followed-ok}
use Rattle.semantics_refusals.specs.Columns.{AreListed, HasNames, columns_or, schema_listed, table_listed, tables_listed}
use Rattle.semantics_refusals.specs.Limits.{IsDeep}
use Rattle.semantics_refusals.specs.Written.{HasQuery, IsQueryOf, levels_around}
use Rattle.semantics_refusals.proofs.EvenLemmas.{IsEvenBody, named_even, tables_even}
use Rattle.semantics_refusals.proofs.NameLemmas.{listed_of, queried_names}
use Rattle.semantics_refusals.proofs.OutcomeLemmas.{Gives, Only, Takes, also_only, checked_only, each_only, followed_only, known_only, ok}
use Rattle.semantics_refusals.proofs.PartLemmas.{Each, weaker}
use Rattle.semantics_refusals.proofs.QueryLemmas.{IsFineQuery, queried_only}
use Rattle.semantics_refusals.proofs.TakenLemmas.{inside}
use Rattle.semantics_refusals.proofs.TypeLemmas.{TakesTypes, body_only, query_only}
use Rattle.semantics_refusals.proofs.WithLemmas.{IsOther, item_taken, no_items, unknown_is, unknown_none}

-- ---- what may be mentioned

-- the columns of an item of WITH
pub columns_are : (written names columns : List Name) → item_columns written names ≡ Ok columns → columns_or written names ≡ columns
columns_are [] names columns e = cc
columns_are (n ∷ ns) names columns e =
    let (even, rest) = checked-ok (nat_eq (length (n ∷ ns)) (length names)) ColumnCount _ columns e in
    let (apart, last) = checked-ok (are_distinct (n ∷ ns)) DuplicateName (Ok (n ∷ ns)) columns rest in
    cc

tables_are : (at : ℕ) (tables : List Table) → listed_of (known_from at tables) ≡ map table_listed tables
tables_are at [] = refl
tables_are at (t ∷ ts) = ap (λ others. table_listed t ∷ others) (tables_are (suc at) ts)

pub all_tables_are : (tables : List Table) → listed_of (known_tables tables) ≡ tables_listed tables
all_tables_are tables =
    map-append _ (known_from 0 tables) (known_schema (codes "sqlite_schema") ∷ known_schema (codes "sqlite_master") ∷ [])
    ∙ ap (λ all. all ++ schema_listed (codes "sqlite_schema") ∷ schema_listed (codes "sqlite_master") ∷ []) (tables_are 0 tables)

items_listed : (tables : List Table) (before items : List ItemTree) (w v : With) → AreListed tables before (listed_of w.known) → with_items w items ≡ Ok v
    → AreListed tables (before ++ items) (listed_of v.known)
items_listed tables before [] w v are e =
    let same : w ≡ v = cc in
    subst (λ items. AreListed tables items (listed_of v.known)) (sym (append-nil before))
    (subst (λ (w : With). AreListed tables before (listed_of w.known)) same are)
items_listed tables before (i ∷ items) w v are e =
    let (m, is, more) = followed-ok (item_of w i) (λ more. with_items more items) v e in
    let (q, columns, taken, named, same) = item_taken w m i is in
    let next : AreListed tables (before ++ i ∷ []) (listed_of ((with_item w i q columns).known)) =
    subst (λ columns. AreListed tables (before ++ i ∷ []) (record { name = i.name; columns = columns } ∷ listed_of w.known))
    (columns_are i.columns q.names columns named)
    (AreListed.item i q.names are (queried_names max_levels w.known i.query TermTrees.No_term q taken)) in
    subst (λ all. AreListed tables all (listed_of v.known)) (append_assoc before (i ∷ []) items)
    (items_listed tables (before ++ i ∷ []) items m v (subst (λ (w : With). AreListed tables (before ++ i ∷ []) (listed_of w.known)) same next) more)

pub known_listed : (tables : List Table) (items : List ItemTree) (w : With) → with_items (no_items (known_tables tables)) items ≡ Ok w
    → AreListed tables items (listed_of w.known)
known_listed tables items w e =
    items_listed tables [] items (no_items (known_tables tables)) w
    (subst (AreListed tables []) (sym (all_tables_are tables)) AreListed.no_item) e

pub with_more : (w v : With) (before after : List ItemTree) → with_items w before ≡ Ok v → with_items w (before ++ after) ≡ with_items v after
with_more w v [] after e = let same : w ≡ v = cc in ap (λ (w : With). with_items w after) same
with_more w v (b ∷ before) after e =
    let (m, is, more) = followed-ok (item_of w b) (λ more. with_items more before) v e in
    ap (λ r. followed r (λ more. with_items more (before ++ after))) is ∙ with_more m v before after more

-- ---- why it is none

module _ (F : Fault → Type 0) (takes : Takes F) where
  abbrev pub IsFineKnown : Known → Type 0
  IsFineKnown k = Only F k.source

  -- a name that is no source is one that nothing is called
  pub known_gives : (known : List Known) (name : Name) → ((k : Known) → known_as known name ≡ Ok k → IsFineKnown k)
      → (All (IsOther name) known → F UnknownTable) → Gives F IsFineKnown (known_as known name)
  known_gives known name found unknown = by (known_as known name) refl
    where
      by : (r : Result Known Fault) → known_as known name ≡ r → Gives F IsFineKnown r
      by (Ok k) e = record { is = found k e }
      by (Err fault) e = record { is = subst F (unknown_is known name fault e) (unknown (unknown_none known name fault e)) }

  module _ (tables : List Table) (tree : StatementTree) where
    -- what has to hold of a statement, so that of its fault this holds
    pub record IsFineStatement : Type 0 where
      pub items : are_distinct (map (λ (i : ItemTree). i.name) tree.items) ≡ false → F DuplicateName
      pub queries : {items : List ItemTree} {query : QueryTree} {order : TermTrees} → IsQueryOf tree items query order → (w : With)
          → with_items (no_items (known_tables tables)) items ≡ Ok w → (inner : QueryTree) (by : TermTrees) (has : HasQuery query order inner by) (more : ℕ)
          → suc (levels_around has + more) ≡ max_levels → IsFineQuery F w.known (inside more w.known) inner by
      pub columns : (i : ItemTree) (before after : List ItemTree) → tree.items ≡ before ++ i ∷ after → (w : With)
          → with_items (no_items (known_tables tables)) before ≡ Ok w → (names : List Name) → HasNames (listed_of w.known) i.query names
          → Only F (item_columns i.columns names)
      pub deep : {items : List ItemTree} {query : QueryTree} {order : TermTrees} → IsQueryOf tree items query order → IsDeep max_levels query order
          → F Limit
      pub sources : (w : With) → with_items (no_items (known_tables tables)) tree.items ≡ Ok w → (q : Queried)
          → queried max_levels w.known tree.query tree.order ≡ Ok q → nat_le (sources_of_body q.body) max_sources ≡ false → F Limit

    module _ (fine : IsFineStatement) where
      item_only : (i : ItemTree) (before after : List ItemTree) (w : With) → tree.items ≡ before ++ i ∷ after
          → with_items (no_items (known_tables tables)) before ≡ Ok w → Only F (item_of w i)
      item_only i before after w are begun =
          known_only (queried max_levels w.known i.query TermTrees.No_term) _
          (queried_only F takes max_levels w.known i.query TermTrees.No_term (fine.queries (IsQueryOf.item before i after are) w begun)
          (fine.deep (IsQueryOf.item before i after are)))
          (λ q is. also_only (with_item w i q) (item_columns i.columns q.names)
          (fine.columns i before after are w begun q.names (queried_names max_levels w.known i.query TermTrees.No_term q is)))

      items_only : (before after : List ItemTree) (w : With) → tree.items ≡ before ++ after → with_items (no_items (known_tables tables)) before ≡ Ok w
          → Only F (with_items w after)
      items_only before [] w are begun = ok w
      items_only before (i ∷ after) w are begun =
          known_only (item_of w i) (λ more. with_items more after) (item_only i before after w are begun) (λ m is.
          items_only (before ++ i ∷ []) after m (are ∙ sym (append_assoc before (i ∷ []) after))
          (with_more (no_items (known_tables tables)) w before (i ∷ []) begun ∙ ap (λ r. followed r (λ more. with_items more [])) is))

      ended_only : (beside : List Body) (q : Queried) → (nat_le (sources_of_body q.body) max_sources ≡ false → F Limit) → Only F (ended tree beside q)
      ended_only beside q few = checked_only (nat_le (sources_of_body q.body) max_sources) Limit _ few (ok _)

      pub named_only : Only F (named (known_tables tables) tree)
      named_only =
          checked_only (are_distinct (map (λ (i : ItemTree). i.name) tree.items)) DuplicateName _ fine.items
          (known_only (with_items (no_items (known_tables tables)) tree.items) _ (items_only [] tree.items (no_items (known_tables tables)) refl refl)
          (λ w begun.
          known_only (queried max_levels w.known tree.query tree.order) (ended tree w.beside)
          (queried_only F takes max_levels w.known tree.query tree.order (fine.queries IsQueryOf.whole w begun) (fine.deep IsQueryOf.whole))
          (λ q is. ended_only w.beside q (fine.sources w begun q is))))

      types_only : F WrongPlace → TakesTypes F → (types : List (List Ty)) (n : Named) → IsEvenBody types n.query.body → Each (IsEvenBody types) n.beside
          → Only F (with_types types n)
      types_only place typed types n even all =
          followed_only (each (body_types types) n.beside) _
          (each_only (body_types types) n.beside (weaker (λ body even. body_only F typed types body even) all))
          (λ _. also_only (λ _. n) (query_types types n.query) (query_only F typed types place n.query even))

      pub typed_only : F WrongPlace → TakesTypes F → Only F (typed_query tables tree)
      typed_only place typed =
          known_only (named (known_tables tables) tree) (with_types (column_types tables)) named_only (λ n is.
          let (even, all) = named_even (column_types tables) (known_tables tables) tree n (tables_even tables) is in
          types_only place typed (column_types tables) n even all)

-- the fault that it gives
pub fault_is : {F : Fault → Type 0} {A : Type 0} (r : Result A Fault) (fault : Fault) → Only F r → r ≡ Err fault → F fault
fault_is {F = F} r fault o is = let refused = subst (λ r. Only F r) is o in refused.is
