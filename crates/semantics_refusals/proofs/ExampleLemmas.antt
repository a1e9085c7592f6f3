-- Worked statements, and what is written in them.
use Rattle.std.proofs.Common.{◌≡◌, inr, true, false, List, [], ◌∷◌, ◌++◌, codes, Option, None, Result, Ok, Err, All, Contains, is_ok, refl}
use Rattle.std.proofs.lemmas.List.Elements.{All-cons, All-contains, All-nil}
use Rattle.values.specs.declared.fault.Fault.{Fault}
use Rattle.values.specs.declared.fault.Fault.TheVariants as f
use Rattle.sql_reader_syntax.specs.ExprTree.{CoreTree, DefinitionTrees, ExprTree, ExprTrees, MaybeExpr, QueryTree, SourceTree, TermTrees}
use Rattle.sql_reader_syntax.specs.StatementTree.{ItemTree, StatementTree}
use Rattle.sql_reader_syntax.specs.Tree.{Name}
use Rattle.semantics_names.specs.Laws.{AmbiguousIsTwo, ColumnsAreScalar, DistinctIsSaid, SameIsEqual, TypedIsTaken, UnknownIsNone}
use Rattle.semantics_names.specs.Parts.{core_parts, terms_parts}
use Rattle.semantics_names.specs.RefusedExamples.{RefusedFrames, RefusedNames, RefusedPlaces, RefusedTypes, aggregate_in_where, alias_in_where, arms_of_two_types, bad_frame, bare, distance_of_texts, group_by_signed_number, hidden_order, in_two_sources, item_in_itself, mismatch, no_buckets, order_out_of_range, other_type, outer_column, scalar_over, star_beside_aggregate, star_of_none, star_of_nothing, sum_behind_compound, twice, two_columns, two_named, two_of_one_name, undefined_window, uneven, uneven_item, unknown_column, unknown_table, untyped_item, unused_window, windows_of_one_name}
use Rattle.semantics_names.specs.Statement.{Named, from_tree}
use Rattle.semantics_names.specs.Typed.{typed_query}
use Rattle.semantics_names.specs.Worked.{by_term, called, id, item as item_alone, name_alone, number, results_of, select, shown, statement, tables}
use Rattle.semantics_refusals.specs.BareColumns.{HasBareColumn}
use Rattle.semantics_refusals.specs.Examples.{BareColumnsAreWritten, NoColumnIsBare, NothingIsWritten, ReasonsAreWritten, bare_in_having, bare_in_order, bare_in_over, bare_in_sum, bare_in_window, beside_aggregate, distance_of_numbers, from_ones, in_aggregate, in_aggregate_over, in_group_expression, in_other_letters, in_result, in_same_query, item_before_its_own, items_of_items, levels, of_null_alone, ones, sorted_by_alias, star_of_groups, star_of_more}
use Rattle.semantics_refusals.specs.Reasons.{IsReason}
use Rattle.semantics_refusals.specs.UnknownColumns.{HasLooseHaving}
use Rattle.semantics_refusals.specs.Written.{HasQuery, HasSelect, IsDerived, IsLooseHaving, IsOperand, IsQueryOf, IsSelect, StandsIn, sources_in}
use Rattle.semantics_refusals.proofs.BareRefusedLemmas.{bare_column_is_refused}
use Rattle.semantics_refusals.proofs.LimitLemmas.{beyond_limit_is_refused}
use Rattle.semantics_refusals.proofs.MistypedQueryLemmas.{mistyped_is_refused}
use Rattle.semantics_refusals.proofs.RefusalLemmas.{NameLaws, refusals_have_reasons}
use Rattle.semantics_refusals.proofs.RepeatedLemmas.{repeated_is_refused}
use Rattle.semantics_refusals.proofs.UnevenLemmas.{uneven_is_refused}
use Rattle.semantics_refusals.proofs.UnknownColumnLemmas.{ambiguous_column_is_refused, unknown_column_is_refused}
use Rattle.semantics_refusals.proofs.UnknownSourceLemmas.{unknown_source_is_refused}
use Rattle.semantics_refusals.proofs.WindowLemmas.{bad_frame_is_refused}
use Rattle.semantics_refusals.proofs.WrongPlaceLemmas.{wrong_place_is_refused}

reason : NameLaws → (tree : StatementTree) (fault : Fault) → typed_query tables tree ≡ Err fault → IsReason tables tree fault
reason laws tree fault e = refusals_have_reasons laws tables tree fault (inr e)

pub reasons_are_written : NameLaws → RefusedNames → RefusedTypes → RefusedFrames → RefusedPlaces → ReasonsAreWritten
reasons_are_written laws names types frames places = (
  reason laws unknown_table f.UnknownTable names.0,
  reason laws item_in_itself f.UnknownTable names.1,
  reason laws item_before_its_own f.UnknownTable refl,
  reason laws unknown_column f.UnknownColumn names.2,
  reason laws alias_in_where f.UnknownColumn names.3,
  reason laws outer_column f.UnknownColumn names.4,
  reason laws star_of_none f.UnknownColumn names.5,
  reason laws two_named f.Ambiguous names.6,
  reason laws in_two_sources f.Ambiguous names.7,
  reason laws uneven f.ColumnCount names.8,
  reason laws two_columns f.ColumnCount names.9,
  reason laws uneven_item f.ColumnCount names.10,
  reason laws twice f.DuplicateName names.11,
  reason laws two_of_one_name f.DuplicateName names.12,
  reason laws windows_of_one_name f.DuplicateName names.13,
  reason laws mismatch f.TypeMismatch types.0,
  reason laws other_type f.TypeMismatch types.1,
  reason laws unused_window f.TypeMismatch types.2,
  reason laws arms_of_two_types f.TypeMismatch types.3,
  reason laws untyped_item f.TypeMismatch types.4,
  reason laws bad_frame f.BadFrame frames.0,
  reason laws undefined_window f.BadFrame frames.1,
  reason laws no_buckets f.BadFrame frames.2,
  reason laws distance_of_texts f.BadFrame frames.3,
  reason laws aggregate_in_where f.WrongPlace places.2,
  reason laws hidden_order f.WrongPlace places.3,
  reason laws order_out_of_range f.WrongPlace places.9,
  reason laws group_by_signed_number f.WrongPlace places.13,
  reason laws star_of_nothing f.WrongPlace places.14,
  reason laws sum_behind_compound f.WrongPlace places.15,
  reason laws scalar_over f.WrongPlace places.7,
  reason laws (ones 101) f.Limit refl,
  reason laws (statement (select (shown (number 1) ∷ []) (from_ones 64))) f.Limit refl,
  reason laws (statement (levels 100)) f.Limit refl,
)

pub bare_columns_are_written : NameLaws → RefusedPlaces → BareColumnsAreWritten
bare_columns_are_written laws places = (
  reason laws bare f.BareColumn places.0,
  reason laws beside_aggregate f.BareColumn refl,
  reason laws bare_in_having f.BareColumn refl,
  reason laws bare_in_order f.BareColumn refl,
  reason laws bare_in_window f.BareColumn refl,
  reason laws bare_in_over f.BareColumn refl,
  reason laws bare_in_sum f.BareColumn refl,
  reason laws star_beside_aggregate f.BareColumn places.1,
  reason laws star_of_more f.BareColumn refl,
)

taken : (r : Result Named Fault) → is_ok r ≡ true → (n : Named) × (r ≡ Ok n)
taken (Ok n) e = (n, refl)
taken (Err fault) e = absurd cc

-- ---- a statement of one SELECT in which no query stands

abbrev NoQuery : ExprTree → Type 0
NoQuery part = (query : QueryTree) → IsOperand part query → ⊥

abbrev NoDerived : SourceTree → Type 0
NoDerived source = (query : QueryTree) → IsDerived source query → ⊥

named_none : (name : Name) (alias : Option Name) → NoDerived (SourceTree.Named name alias)
named_none name alias query is = elim is [ ]

column_none : (table : Option Name) (name : Name) → NoQuery (ExprTree.Column table name)
column_none table name query is = elim is [ ]

module _ (core : CoreTree) (order : TermTrees) (sources : All NoDerived (sources_in (from_tree core))) (spoken : All NoQuery (core_parts core order))
    (terms : All NoQuery (terms_parts order)) where
  none_stands : {inner : QueryTree} → StandsIn (QueryTree.Core core) order inner → ⊥
  none_stands (StandsIn.derived other by inner source select there is) = in_from select there
    where
      in_from : {other : CoreTree} {by : TermTrees} → IsSelect (QueryTree.Core core) order other by → Contains (sources_in (from_tree other)) source → ⊥
      in_from IsSelect.alone there = All-contains NoDerived (sources_in (from_tree core)) source sources there inner is
  none_stands (StandsIn.operand other by inner part select there is) = in_parts select there
    where
      in_parts : {other : CoreTree} {by : TermTrees} → IsSelect (QueryTree.Core core) order other by → Contains (core_parts other by) part → ⊥
      in_parts IsSelect.alone there = All-contains NoQuery (core_parts core order) part spoken there inner is
  none_stands (StandsIn.sorted inner part there is) = All-contains NoQuery (terms_parts order) part terms there inner is

  tight_alone : ¬ IsLooseHaving core → {query : QueryTree} {by : TermTrees} → HasQuery (QueryTree.Core core) order query by → (items : List ItemTree)
      → HasSelect (λ items core by. IsLooseHaving core) items query by → ⊥
  tight_alone tight HasQuery.own items has = only has.select has.is
    where
      only : {other : CoreTree} {by : TermTrees} → IsSelect (QueryTree.Core core) order other by → IsLooseHaving other → ⊥
      only IsSelect.alone loose = tight loose
  tight_alone tight (HasQuery.inside inner stands more) items has = none_stands stands

no_item : (before : List ItemTree) (i : ItemTree) (after : List ItemTree) → [] ≡ before ++ i ∷ after → ⊥
no_item [] i after e = absurd cc
no_item (b ∷ before) i after e = absurd cc

abbrev sorted_core : CoreTree
sorted_core =
    CoreTree.Select false (results_of (called id (codes "k") ∷ [])) item_alone MaybeExpr.Absent ExprTrees.No_more MaybeExpr.Absent DefinitionTrees.No_definition

abbrev by_k : TermTrees
by_k = by_term (name_alone (codes "k"))

sorted_sources : All NoDerived (sources_in (from_tree sorted_core))
sorted_sources = All-cons NoDerived (SourceTree.Named (codes "item") None) [] (named_none (codes "item") None) (All-nil NoDerived)

sorted_terms : All NoQuery (terms_parts by_k)
sorted_terms = All-cons NoQuery (name_alone (codes "k")) [] (column_none None (codes "k")) (All-nil NoQuery)

sorted_parts : All NoQuery (core_parts sorted_core by_k)
sorted_parts = All-cons NoQuery id (name_alone (codes "k") ∷ []) (column_none None (codes "id")) sorted_terms

sorted_tight : ¬ HasLooseHaving sorted_by_alias
sorted_tight has = by has.of has.has
  where
    by : {items : List ItemTree} {outer : QueryTree} {order : TermTrees} → IsQueryOf sorted_by_alias items outer order
        → HasQuery outer order has.query has.order → ⊥
    by (IsQueryOf.item before i after e) deeper = no_item before i after e
    by IsQueryOf.whole deeper =
        tight_alone sorted_core by_k sorted_sources sorted_parts sorted_terms (λ loose. loose) deeper has.items has.is

pub nothing_is_written : UnknownIsNone → AmbiguousIsTwo → DistinctIsSaid → TypedIsTaken → ColumnsAreScalar → NothingIsWritten
nothing_is_written none two said typed scalars =
    let (n, items) = taken (typed_query tables items_of_items) refl in
    let (m, alias) = taken (typed_query tables sorted_by_alias) refl in
    let (k, nulls) = taken (typed_query tables of_null_alone) refl in
    let (h, distance) = taken (typed_query tables distance_of_numbers) refl in
    let (i, hundred) = taken (typed_query tables (ones 100)) refl in
    let (j, sources) = taken (typed_query tables (statement (select (shown (number 1) ∷ []) (from_ones 63)))) refl in
    let (l, deep) = taken (typed_query tables (statement (levels 64))) refl in (
      λ has. unknown_source_is_refused tables items_of_items n has items,
      λ has. uneven_is_refused tables items_of_items n has items,
      λ has. repeated_is_refused said tables items_of_items n has items,
      λ has. unknown_column_is_refused none tables sorted_by_alias m has sorted_tight alias,
      λ has. ambiguous_column_is_refused two tables sorted_by_alias m has sorted_tight alias,
      λ has. mistyped_is_refused typed tables items_of_items n has items,
      λ has. mistyped_is_refused typed tables of_null_alone k has nulls,
      λ has. bad_frame_is_refused scalars typed tables distance_of_numbers h has distance,
      λ has. wrong_place_is_refused scalars tables sorted_by_alias m has alias,
      λ has. wrong_place_is_refused scalars tables distance_of_numbers h has distance,
      λ has. beyond_limit_is_refused tables (ones 100) i has hundred,
      λ has. beyond_limit_is_refused tables (statement (select (shown (number 1) ∷ []) (from_ones 63))) j has sources,
      λ has. beyond_limit_is_refused tables (statement (levels 64)) l has deep,
    )

pub no_column_is_bare : SameIsEqual → NoColumnIsBare
no_column_is_bare equal = (
  none in_aggregate refl,
  none in_aggregate_over refl,
  none in_group_expression refl,
  none in_other_letters refl,
  none in_same_query refl,
  none in_result refl,
  none star_of_groups refl,
)
  where
    none : (tree : StatementTree) → is_ok (typed_query tables tree) ≡ true → ¬ HasBareColumn tables tree
    none tree e has = let (n, is) = taken (typed_query tables tree) e in bare_column_is_refused equal tables tree n has is
