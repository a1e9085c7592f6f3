-- Where a statement is a query, each SELECT of it is taken.
use Rattle.std.proofs.Common.{◌≡◌, true, ℕ, List, [], ◌∷◌, ◌++◌, map, Result, Ok, subst}
use Rattle.std.specs.List.{filter_map}
use Rattle.values.specs.declared.fault.Fault.{Fault}
use Rattle.values.specs.declared.fault.Fault.TheVariants.{DuplicateName}
use Rattle.sql_reader_syntax.specs.ExprTree.{CoreTree, FromTree, QueryTree, TermTrees}
use Rattle.sql_reader_syntax.specs.StatementTree.{ItemTree, StatementTree}
use Rattle.sql_reader_syntax.specs.Tree.{Name}
use Rattle.semantics_names.specs.Expression.{Answers}
use Rattle.semantics_names.specs.Parts.{parts_behind_groups}
use Rattle.semantics_names.specs.Places.{aggregate_of, columns_say}
use Rattle.semantics_names.specs.Same.{is_same_aggregate}
use Rattle.semantics_names.specs.Scope.{Scope}
use Rattle.semantics_names.specs.Sources.{Known, Sources}
use Rattle.semantics_names.specs.Statement.{CoreData, Inner, Named, Queried, With, are_distinct, behind_groups, by_of, condition_of, core_of, firsts, from_of, from_tree, input_of, item_columns, max_levels, named, queried, window_names, with_items}
use Rattle.semantics_names.specs.Typed.{Table, known_tables}
use Rattle.semantics_names.proofs.OutcomeLemmas.{checked-ok, followed-ok}
use Rattle.semantics_refusals.specs.Written.{BeginsFrom, HasQueryWith, IsSelect, windows_in}
use Rattle.semantics_refusals.proofs.OkLemmas.{IsGiven}
use Rattle.semantics_refusals.proofs.TakenLemmas.{IsTakenQuery, all_taken, answers_with, from_taken, inside, single_in}
use Rattle.semantics_refusals.proofs.WithLemmas.{no_items, query_taken, split_items}

-- the query of a statement that is a query is taken
pub part_taken : (tables : List Table) (tree : StatementTree) (n : Named) (Is : List ItemTree → QueryTree → TermTrees → Type 0) (h : HasQueryWith tree Is)
    → named (known_tables tables) tree ≡ Ok n
    → (w : With) × (with_items (no_items (known_tables tables)) h.items ≡ Ok w) × IsTakenQuery w.known h.query h.order
part_taken tables tree n Is h e =
    let (w, items, (q, is)) = query_taken (known_tables tables) tree n h.of e in
    (w, items, all_taken w.known max_levels h.has q is)

-- a SELECT that is taken: its FROM, and what is behind it
pub record TakenSelect (known : List Known) (core : CoreTree) (by : TermTrees) : Type 0 where
  pub deep : ℕ
  pub inners : List Inner
  pub sources : Sources
  pub from : from_of known (inside deep known) (answers_with known (inside deep known) inners) (from_tree core) ≡ Ok sources
  pub made : CoreData
  pub is : core_of (answers_with known (inside deep known) inners) sources.scope core by ≡ Ok made

pub select_taken : (known : List Known) (query : QueryTree) (order : TermTrees) (core : CoreTree) (by : TermTrees) → IsTakenQuery known query order
    → IsSelect query order core by → TakenSelect known core by
select_taken known query order core by (deep, (q, taken)) select =
    let (s, single) = single_in known (inside deep known) select q taken in
    let (inners, f, from, (c, is, same)) = from_taken known (inside deep known) core by s single in
    record { deep = deep; inners = inners; sources = f; from = from; made = c; is = is }

-- so is the beginning of a FROM
pub begins_taken : (known : List Known) (queries : QueryTree → Result Queried Fault) (answers : Answers) {begin from : FromTree} → BeginsFrom begin from
    → (f : Sources) → from_of known queries answers from ≡ Ok f → IsGiven (from_of known queries answers begin)
begins_taken known queries answers BeginsFrom.whole f e = (f, e)
begins_taken known queries answers (BeginsFrom.more {from = from} begins) f e =
    let (left, first, more) = followed-ok (from_of known queries answers from) _ f e in
    begins_taken known queries answers begins left first

-- its windows have different names
pub core_apart : (answers : Answers) (scope : Scope) (core : CoreTree) (order : TermTrees) (c : CoreData) → core_of answers scope core order ≡ Ok c
    → are_distinct (window_names (windows_in core)) ≡ true
core_apart answers scope (CoreTree.Select distinct results from condition by having windows) order c e =
    let behind = parts_behind_groups (CoreTree.Select distinct results from condition by having windows) order in
    let (test, is, others) = followed-ok (condition_of answers (columns_say scope) condition) _ c e in
    let (keys, are, more) = followed-ok (by_of answers scope by) _ c others in
    let (aggregates, found, last) =
    followed-ok (firsts is_same_aggregate [] (filter_map (aggregate_of answers (columns_say scope)) behind)) _ c more in
    let (input, given, all) =
    followed-ok (input_of answers scope keys aggregates having) (behind_groups answers scope distinct results order behind windows test) c last in
    let (apart, rest) = checked-ok (are_distinct (window_names windows)) DuplicateName _ c all in
    apart

-- an item of WITH
pub item_at : (tables : List Known) (tree : StatementTree) (n : Named) (before : List ItemTree) (i : ItemTree) (after : List ItemTree)
    → tree.items ≡ before ++ i ∷ after → named tables tree ≡ Ok n
    → (w : With) × (q : Queried) × (columns : List Name) × (with_items (no_items tables) before ≡ Ok w)
    × (queried max_levels w.known i.query TermTrees.No_term ≡ Ok q) × (item_columns i.columns q.names ≡ Ok columns)
item_at tables tree n before i after stand e =
    let (apart, rest) = checked-ok (are_distinct (map (λ (i : ItemTree). i.name) tree.items)) DuplicateName _ n e in
    let (w, items, more) = followed-ok (with_items (no_items tables) tree.items) _ n rest in
    split_items before i after (no_items tables) w (subst (λ all. with_items (no_items tables) all ≡ Ok w) stand items)
