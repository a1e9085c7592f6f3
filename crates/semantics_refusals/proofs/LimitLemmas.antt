-- A statement beyond a limit is no query.
use Rattle.std.proofs.Common.{◌≡◌, ℕ, zero, suc, ◌<◌, ◌≤◌, List, [], length, map, Result, Ok, nat_le, arith, ap, sym, subst, ◌∙◌}
use Rattle.std.specs.List.{filter_map}
use Rattle.std.proofs.lemmas.Bool.{leb-true}
use Rattle.std.proofs.lemmas.List.{length-map}
use Rattle.std.proofs.lemmas.List.Elements.{All-contains}
use Rattle.values.specs.declared.fault.Fault.{Fault}
use Rattle.values.specs.declared.fault.Fault.TheVariants.{DuplicateName, Limit}
use Rattle.sql_reader_syntax.specs.ExprTree.{CoreTree, QueryTree, SourceTree, TermTrees}
use Rattle.sql_reader_syntax.specs.StatementTree.{ItemTree}
use Rattle.semantics_names.specs.Expression.{Answers}
use Rattle.semantics_names.specs.Parts.{parts_behind_groups}
use Rattle.semantics_names.specs.Places.{aggregate_of, call_of, columns_say, windows_say}
use Rattle.semantics_names.specs.Same.{is_same_aggregate, is_same_call}
use Rattle.semantics_names.specs.Scope.{Scope}
use Rattle.semantics_names.specs.Sources.{Known, known_as}
use Rattle.semantics_names.specs.Statement.{CoreData, Named, Queried, ResultColumn, With, alias_or, all_results, are_distinct, behind_groups, by_of, condition_of, core_of, defined_of, ended, firsts, from_tree, given_known, input_of, max_columns, max_levels, max_sources, named, queried, source_of, sources_of_body, window_names, with_items}
use Rattle.semantics_names.specs.Typed.{Table, column_types, known_tables, with_types}
use Rattle.semantics_names.proofs.OutcomeLemmas.{also-ok, checked-ok, followed-ok}
use Rattle.semantics_refusals.specs.Columns.{names_of_results, results_in}
use Rattle.semantics_refusals.specs.Limits.{BeyondLimitIsRefused, IsBeyondLimit, IsDeep, IsWide, MentionsLarge}
use Rattle.semantics_refusals.specs.UnknownColumns.{InSelect}
use Rattle.semantics_refusals.specs.Written.{HasSelect, sources_in}
use Rattle.semantics_refusals.proofs.CountLemmas.{counted_same, name_one, queried_one}
use Rattle.semantics_refusals.proofs.NameLemmas.{all_names, listed_of}
use Rattle.semantics_refusals.proofs.OkLemmas.{IsGiven}
use Rattle.semantics_refusals.proofs.SameColumnLemmas.{listed_same, same_inside, shows_one}
use Rattle.semantics_refusals.proofs.SelectLemmas.{TakenSelect, part_taken, select_taken}
use Rattle.semantics_refusals.proofs.TakenLemmas.{answers_with, inner_taken, inside, sources_taken}
use Rattle.semantics_refusals.proofs.WithLemmas.{no_items, query_taken}

-- a SELECT that is taken has few enough result columns
core_narrow : (answers : Answers) (scope : Scope) (core : CoreTree) (order : TermTrees) (c : CoreData) → core_of answers scope core order ≡ Ok c
    → length (names_of_results scope (results_in core)) ≤ max_columns
core_narrow answers scope (CoreTree.Select distinct results from condition by having windows) order c e =
    let behind = parts_behind_groups (CoreTree.Select distinct results from condition by having windows) order in
    let (test, is, others) = followed-ok (condition_of answers (columns_say scope) condition) _ c e in
    let (keys, are, more) = followed-ok (by_of answers scope by) _ c others in
    let (aggregates, found, last) =
    followed-ok (firsts is_same_aggregate [] (filter_map (aggregate_of answers (columns_say scope)) behind)) _ c more in
    let (input, given, all) =
    followed-ok (input_of answers scope keys aggregates having) (behind_groups answers scope distinct results order behind windows test) c last in
    let (apart, rest) = checked-ok (are_distinct (window_names windows)) DuplicateName _ c all in
    let (defined, are_defined, next) = followed-ok (defined_of answers input.says windows) _ c rest in
    let (calls, called, end) = followed-ok (firsts is_same_call [] (filter_map (call_of answers input.says defined) behind)) _ c next in
    let says = windows_say answers input.says defined input.width calls in
    let (columns, shown, on) = followed-ok (all_results answers scope input says results) _ c end in
    let (few, sorting) = checked-ok (nat_le (length columns) max_columns) Limit _ c on in
    let size : length (names_of_results scope results) ≡ length columns =
    ap length (sym (all_names answers input scope says results columns shown)) ∙ length-map columns (λ (r : ResultColumn). r.name) in
    let less : length columns ≤ max_columns = leb-true (length columns) max_columns few in
    subst (λ n. n ≤ max_columns) (sym size) less

wide_refuted : (known : List Known) (core : CoreTree) (by : TermTrees) → TakenSelect known core by → IsWide (listed_of known) core by → ⊥
wide_refuted known core by taken wide =
    let queries : QueryTree → Result Queried Fault = inside taken.deep known in
    let answers : Answers = answers_with known queries taken.inners in
    let same = shows_one known queries (same_inside known taken.deep) answers wide.shows taken.sources taken.from in
    let less : length (names_of_results wide.scope (results_in core)) ≤ max_columns =
    subst (λ scope. length (names_of_results scope (results_in core)) ≤ max_columns) (sym same)
    (core_narrow answers taken.sources.scope core by taken.made taken.is) in
    let more : 100 < length (names_of_results wide.scope (results_in core)) = wide.wide in
    omega (arith, less, more)

deep_refuted : (levels : ℕ) (known : List Known) (query : QueryTree) (order : TermTrees) → IsDeep levels query order → (q : Queried)
    → queried levels known query order ≡ Ok q → ⊥
deep_refuted zero known query order deep q e = absurd cc
deep_refuted (suc levels) known query order (IsDeep.inside inner stands deep) q e =
    let (p, is) = inner_taken known (inside levels known) stands q e in
    deep_refuted levels known inner TermTrees.No_term deep p is

-- a mention of an item that is too large is none
large_refuted : (tables : List Table) (items : List ItemTree) (w : With) → with_items (no_items (known_tables tables)) items ≡ Ok w
    → (core : CoreTree) (by : TermTrees) → TakenSelect w.known core by → MentionsLarge tables items core by → ⊥
large_refuted tables items w begun core by taken mentions =
    let queries : QueryTree → Result Queried Fault = inside taken.deep w.known in
    let (g, given) =
    All-contains (λ source. IsGiven (source_of w.known queries source)) (sources_in (from_tree core)) (SourceTree.Named mentions.name mentions.alias)
    (sources_taken w.known queries (answers_with w.known queries taken.inners) (from_tree core) taken.sources taken.from) mentions.written in
    let (k, found, more) = followed-ok (known_as w.known mentions.name) (given_known (alias_or mentions.name mentions.alias)) g given in
    let (source, of, same) = also-ok _ k.source g more in
    let (c, number, count) =
    name_one w.known mentions.counted (counted_same tables mentions.are w begun) mentions.name k found mentions.mentioned in
    let less : c.count ≤ suc max_sources = (count.few source of).1 in
    let large : 64 < mentions.sources = mentions.large in
    omega (arith, number, less, large)

pub beyond_limit_is_refused : BeyondLimitIsRefused
beyond_limit_is_refused tables tree n has e =
    let (found, names, so) = followed-ok (named (known_tables tables) tree) (with_types (column_types tables)) n e in
    by found names has
  where
    by : (found : Named) → named (known_tables tables) tree ≡ Ok found → IsBeyondLimit tables tree → ⊥
    by found names (IsBeyondLimit.columns has) =
        let (w, items, taken) = part_taken tables tree found (InSelect tables IsWide) has names in
        let here = has.is in
        wide_refuted w.known here.core here.by (select_taken w.known has.query has.order here.core here.by taken here.select)
        (subst (λ listed. IsWide listed here.core here.by) (listed_same tables here.are w items) here.is)
    by found names (IsBeyondLimit.levels items query order of deep) =
        let (w, begun, (q, is)) = query_taken (known_tables tables) tree found of names in
        deep_refuted max_levels w.known query order deep q is
    by found names (IsBeyondLimit.sources counted n are counts many) =
        let (apart, rest) = checked-ok (are_distinct (map (λ (i : ItemTree). i.name) tree.items)) DuplicateName _ found names in
        let (w, items, more) = followed-ok (with_items (no_items (known_tables tables)) tree.items) _ found rest in
        let (q, is, last) = followed-ok (queried max_levels w.known tree.query tree.order) (ended tree w.beside) found more in
        let (few, made) = checked-ok (nat_le (sources_of_body q.body) max_sources) Limit _ found last in
        let number : n ≡ sources_of_body q.body =
        queried_one max_levels w.known counted (counted_same tables are w items) tree.query tree.order q is n counts in
        let less : sources_of_body q.body ≤ max_sources = leb-true (sources_of_body q.body) max_sources few in
        omega (arith, number, less, many)
    by found names (IsBeyondLimit.mention has) =
        let (w, items, taken) = part_taken tables tree found (HasSelect (MentionsLarge tables)) has names in
        let here = has.is in
        large_refuted tables has.items w items here.core here.by (select_taken w.known has.query has.order here.core here.by taken here.select) here.is
