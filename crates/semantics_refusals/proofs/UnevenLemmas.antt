-- A statement with numbers of columns that differ is no query.
use Rattle.std.proofs.Common.{◌≡◌, ◌≢◌, List, [], ◌∷◌, length, Some, Result, Ok, nat_eq, ap, refl, sym, subst, ◌∙◌}
use Rattle.std.proofs.lemmas.Bool.{eqb-true}
use Rattle.std.proofs.lemmas.List.Elements.{All-contains}
use Rattle.values.specs.declared.fault.Fault.{Fault}
use Rattle.values.specs.declared.fault.Fault.TheVariants.{ColumnCount}
use Rattle.sql_reader_syntax.specs.ExprTree.{CoreTree, ExprTree, QueryTree, TermTrees}
use Rattle.sql_reader_syntax.specs.StatementTree.{ItemTree}
use Rattle.sql_reader_syntax.specs.Tree.{Name}
use Rattle.sql_reader_syntax.specs.declared.query.CompoundOperator.{CompoundOperator}
use Rattle.semantics_names.specs.Expression.{InnerTree}
use Rattle.semantics_names.specs.Outcome.{also, each}
use Rattle.semantics_names.specs.Parts.{core_parts, inner_tree, inner_trees}
use Rattle.semantics_names.specs.Sources.{Known}
use Rattle.semantics_names.specs.Statement.{Named, Queried, With, compounded, inner_of, item_columns, max_levels, named, query_of, simple, single_of, values_inner, with_inners, with_items}
use Rattle.semantics_names.specs.Typed.{Table, column_types, known_tables, with_types}
use Rattle.semantics_names.proofs.OutcomeLemmas.{checked-ok, followed-ok}
use Rattle.semantics_refusals.specs.Columns.{HasNames}
use Rattle.semantics_refusals.specs.UnevenColumns.{HasUnevenColumns, HasWideMembers, IsUneven, UnevenIsRefused}
use Rattle.semantics_refusals.specs.Written.{BeginsQuery, IsSelect}
use Rattle.semantics_refusals.proofs.NameLemmas.{listed_of}
use Rattle.semantics_refusals.proofs.OkLemmas.{IsGiven, each-ok, filtered}
use Rattle.semantics_refusals.proofs.SameColumnLemmas.{listed_same, names_one, same_inside, same_names}
use Rattle.semantics_refusals.proofs.SelectLemmas.{item_at, part_taken}
use Rattle.semantics_refusals.proofs.TakenLemmas.{IsTakenQuery, inside, single_in}
use Rattle.semantics_refusals.proofs.WithLemmas.{no_items}

-- the query of an IN has one column
members_refuted : (known : List Known) (query : QueryTree) (order : TermTrees) (core : CoreTree) (by : TermTrees) → IsTakenQuery known query order
    → IsSelect query order core by → HasWideMembers (listed_of known) core by → ⊥
members_refuted known query order core by (deep, (q, taken)) select wide =
    let queries : QueryTree → Result Queried Fault = inside deep known in
    let (s, single) = single_in known queries select q taken in
    let (inners, are, more) = followed-ok (each (inner_of known queries) (inner_trees core by)) (with_inners known queries core by) s single in
    let all = filtered (λ tree. IsGiven (inner_of known queries tree)) inner_tree (core_parts core by)
    (each-ok (inner_of known queries) (inner_trees core by) inners are) in
    let (i, given) =
    All-contains (λ part. (tree : InnerTree) → inner_tree part ≡ Some tree → IsGiven (inner_of known queries tree)) (core_parts core by)
    (ExprTree.InQuery wide.not wide.x wide.query) all wide.written (InnerTree.values_in wide.query) refl in
    let (p, is, checked) = followed-ok (queries wide.query) values_inner i given in
    let (one, last) = checked-ok (nat_eq (length p.names) 1) ColumnCount _ i checked in
    wide.wide (ap length (same_inside known deep wide.query p is wide.names wide.are) ∙ eqb-true (length p.names) 1 one)

-- the SELECTs of a compound have as many columns
begins_given : (known : List Known) (queries : QueryTree → Result Queried Fault) {begin query : QueryTree} → BeginsQuery begin query
    → (order : TermTrees) (q : Queried)
    → query_of known queries query order ≡ Ok q → (by : TermTrees) × IsGiven (query_of known queries begin by)
begins_given known queries BeginsQuery.whole order q e = (order, (q, e))
begins_given known queries (BeginsQuery.more {query = left} begins) order q e =
    let (l, is, more) = followed-ok (query_of known queries left TermTrees.No_term) _ q e in
    begins_given known queries begins TermTrees.No_term l is

compound_refuted : (known : List Known) (query : QueryTree) (order : TermTrees) (left : QueryTree) (operator : CompoundOperator) (core : CoreTree)
    (names others : List Name)
    → IsTakenQuery known query order → BeginsQuery (QueryTree.Compound left operator core) query → HasNames (listed_of known) left names
    → HasNames (listed_of known) (QueryTree.Core core) others → length names ≡ length others
compound_refuted known query order left operator core names others (deep, (q, taken)) begins has more =
    let queries : QueryTree → Result Queried Fault = inside deep known in
    let (by, (p, is)) = begins_given known queries begins order q taken in
    let (l, first, rest) = followed-ok (query_of known queries left TermTrees.No_term) _ p is in
    let (s, single, last) = followed-ok (single_of known queries core TermTrees.No_term) (compounded by l operator) p rest in
    let (even, end) = checked-ok (nat_eq (length l.names) (length s.core.names)) ColumnCount _ p last in
    ap length (names_one known queries (same_inside known deep) has TermTrees.No_term l first)
    ∙ eqb-true (length l.names) (length s.core.names) even
    ∙ sym (ap length (names_one known queries (same_inside known deep) more TermTrees.No_term (simple s) (ap (also simple) single)))

columns_even : (written names columns : List Name) → item_columns written names ≡ Ok columns → written ≢ [] → length written ≡ length names
columns_even [] names columns e some = absurd (some refl)
columns_even (n ∷ ns) names columns e some =
    let (even, rest) = checked-ok (nat_eq (length (n ∷ ns)) (length names)) ColumnCount _ columns e in
    eqb-true (length (n ∷ ns)) (length names) even

query_refuted : (tables : List Table) (items : List ItemTree) (query : QueryTree) (order : TermTrees) (w : With)
    → with_items (no_items (known_tables tables)) items ≡ Ok w → IsTakenQuery w.known query order → IsUneven tables items query order → ⊥
query_refuted tables items query order w begun taken (IsUneven.members is) =
    members_refuted w.known query order is.core is.by taken is.select
    (subst (λ listed. HasWideMembers listed is.core is.by) (listed_same tables is.are w begun) is.is)
query_refuted tables items query order w begun taken (IsUneven.compound listed left operator core names others are begins has more wide) =
    let same = listed_same tables are w begun in
    wide (compound_refuted w.known query order left operator core names others taken begins (subst (λ listed. HasNames listed left names) same has)
    (subst (λ listed. HasNames listed (QueryTree.Core core) others) same more))

pub uneven_is_refused : UnevenIsRefused
uneven_is_refused tables tree n has e =
    let (found, names, so) = followed-ok (named (known_tables tables) tree) (with_types (column_types tables)) n e in
    by found names has
  where
    by : (found : Named) → named (known_tables tables) tree ≡ Ok found → HasUnevenColumns tables tree → ⊥
    by found names (HasUnevenColumns.query has) =
        let (w, items, taken) = part_taken tables tree found (IsUneven tables) has names in
        query_refuted tables has.items has.query has.order w items taken has.is
    by found names (HasUnevenColumns.item before i after listed called stand are written some wide) =
        let (w, q, columns, begun, taken, of) = item_at (known_tables tables) tree found before i after stand names in
        let same : called ≡ q.names =
        same_names max_levels w.known i.query TermTrees.No_term q taken called
        (subst (λ listed. HasNames listed i.query called) (listed_same tables are w begun) written) in
        wide (columns_even i.columns q.names columns of some ∙ ap length (sym same))
