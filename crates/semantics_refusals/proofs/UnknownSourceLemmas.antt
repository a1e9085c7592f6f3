-- A statement with a source that is none is no query.
use Rattle.std.proofs.Common.{◌≡◌, List, Option, Result, Ok, All, Contains}
use Rattle.std.proofs.lemmas.List.Elements.{All-contains}
use Rattle.values.specs.declared.fault.Fault.{Fault}
use Rattle.sql_reader_syntax.specs.ExprTree.{CoreTree, QueryTree, SourceTree, TermTrees}
use Rattle.sql_reader_syntax.specs.StatementTree.{ItemTree}
use Rattle.sql_reader_syntax.specs.Tree.{Name}
use Rattle.semantics_names.specs.Laws.{IsSameInAnyCase}
use Rattle.semantics_names.specs.Sources.{Known, known_as}
use Rattle.semantics_names.specs.Statement.{Queried, With, alias_or, from_tree, given_known, named, source_of, with_items}
use Rattle.semantics_names.specs.Typed.{Table, column_types, known_tables, with_types}
use Rattle.semantics_names.proofs.OutcomeLemmas.{followed-ok}
use Rattle.semantics_refusals.specs.UnknownSources.{IsNoSource, NamesNoSource, UnknownSourceIsRefused}
use Rattle.semantics_refusals.specs.Written.{HasSelect, sources_in}
use Rattle.semantics_refusals.proofs.OkLemmas.{IsGiven}
use Rattle.semantics_refusals.proofs.SelectLemmas.{TakenSelect, part_taken, select_taken}
use Rattle.semantics_refusals.proofs.TakenLemmas.{answers_with, inside, sources_taken}
use Rattle.semantics_refusals.proofs.WithLemmas.{IsOther, items_there, no_items, none_known, tables_there}

none_there : (tables : List Table) (items : List ItemTree) (name : Name) (w : With) → with_items (no_items (known_tables tables)) items ≡ Ok w
    → IsNoSource tables items name → All (IsOther name) w.known
none_there tables items name w e none =
    items_there (λ other. ¬ IsSameInAnyCase other name) items (no_items (known_tables tables)) w e none.no_item
    (tables_there (λ other. ¬ IsSameInAnyCase other name) tables none.no_table)

select_refused : (known : List Known) (core : CoreTree) (by : TermTrees) (name : Name) (alias : Option Name) → TakenSelect known core by
    → Contains (sources_in (from_tree core)) (SourceTree.Named name alias) → All (IsOther name) known → ⊥
select_refused known core by name alias taken written none =
    let queries : QueryTree → Result Queried Fault = inside taken.deep known in
    let (g, given) = All-contains (λ source. IsGiven (source_of known queries source)) (sources_in (from_tree core)) (SourceTree.Named name alias)
    (sources_taken known queries (answers_with known queries taken.inners) (from_tree core) taken.sources taken.from) written in
    let (k, is, more) = followed-ok (known_as known name) (given_known (alias_or name alias)) g given in
    none_known known name k none is

pub unknown_source_is_refused : UnknownSourceIsRefused
unknown_source_is_refused tables tree n has e =
    let (found, names, so) = followed-ok (named (known_tables tables) tree) (with_types (column_types tables)) n e in
    let (w, items, taken) = part_taken tables tree found (HasSelect (NamesNoSource tables)) has names in
    let here = has.is in
    select_refused w.known here.core here.by here.is.name here.is.alias
    (select_taken w.known has.query has.order here.core here.by taken here.select) here.is.written
    (none_there tables has.items here.is.name w items here.is.unknown)
