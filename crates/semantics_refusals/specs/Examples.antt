-- Worked statements, and what is written in them.
use Rattle.std.specs.Prelude.{false, ℕ, zero, suc, List, [], ◌∷◌, codes, replicate, None, Some}
use Rattle.sql_reader_syntax.specs.ExprTree.{CoreTree, DefinitionTrees, ExprTree, FromTree, MaybeExpr, OnTree, QueryTree, ResultTree, SourceTree, plain_call, plain_count, trees_of}
use Rattle.sql_reader_syntax.specs.StatementTree.{StatementTree}
use Rattle.sql_reader_syntax.specs.declared.expr.BinaryOperator.TheVariants.{Add, Concatenate, Greater, Multiply}
use Rattle.sql_reader_syntax.specs.declared.expr.Function.TheVariants.{Sum}
use Rattle.sql_reader_syntax.specs.declared.query.Join.TheVariants.{Inner}
use Rattle.semantics_names.specs.RefusedExamples.{aggregate_in_where, alias_in_where, arms_of_two_types, bad_frame, bare, by_distance, distance_of_texts, group_by_signed_number, hidden_order, in_two_sources, item_in_itself, mismatch, no_buckets, order_out_of_range, other_type, outer_column, scalar_over, star_beside_aggregate, star_of_none, star_of_nothing, sum_behind_compound, twice, two_columns, two_named, two_of_one_name, undefined_window, uneven, uneven_item, unknown_column, unknown_table, untyped_item, unused_window, windows_of_one_name}
use Rattle.semantics_names.specs.Worked.{by_term, call_over, called, id, item, name, name_alone, name_of, number, one, ordered, results_of, sales, select, select_by, shown, statement, table, tables, window_by, with, with_item, without_from}
use Rattle.semantics_refusals.specs.BadFrames.{HasBadFrame}
use Rattle.semantics_refusals.specs.BareColumns.{HasBareColumn}
use Rattle.semantics_refusals.specs.Limits.{IsBeyondLimit}
use Rattle.semantics_refusals.specs.Mismatches.{IsMistyped}
use Rattle.semantics_refusals.specs.RepeatedNames.{HasRepeatedName}
use Rattle.semantics_refusals.specs.UnevenColumns.{HasUnevenColumns}
use Rattle.semantics_refusals.specs.UnknownColumns.{HasAmbiguousColumn, HasUnknownColumn}
use Rattle.semantics_refusals.specs.UnknownSources.{HasUnknownSource}
use Rattle.semantics_refusals.specs.WrongPlaces.{HasWrongPlace, HasAnyWrongPlace}

-- WITH a AS (SELECT 1), b AS (SELECT * FROM a) SELECT 1 IN (SELECT * FROM b)
abbrev pub items_of_items : StatementTree
items_of_items =
    with (with_item (codes "a") [] one ∷ with_item (codes "b") [] (select (ResultTree.All ∷ []) (FromTree.First (table (codes "a")))) ∷ [])
    (without_from (shown (ExprTree.InQuery false (number 1) (select (ResultTree.All ∷ []) (FromTree.First (table (codes "b"))))) ∷ []))

-- WITH b AS (SELECT * FROM a), a AS (SELECT 1) SELECT 1
abbrev pub item_before_its_own : StatementTree
item_before_its_own =
    with (with_item (codes "b") [] (select (ResultTree.All ∷ []) (FromTree.First (table (codes "a")))) ∷ with_item (codes "a") [] one ∷ []) one

-- SELECT id AS k FROM item ORDER BY k
abbrev pub sorted_by_alias : StatementTree
sorted_by_alias = ordered (select (called id (codes "k") ∷ []) item) (by_term (name_alone (codes "k")))

-- SELECT x + 1, x || 'a' FROM (SELECT NULL AS x)
abbrev pub of_null_alone : StatementTree
of_null_alone =
    statement (select
    (shown (ExprTree.Binary Add (name_alone (codes "x")) (number 1)) ∷ shown (ExprTree.Binary Concatenate (name_alone (codes "x")) (ExprTree.Text (codes "a")))
    ∷ [])
    (FromTree.First (SourceTree.Derived (without_from (called ExprTree.Null (codes "x") ∷ [])) None)))

-- SELECT sum(id) OVER (ORDER BY id RANGE 1 PRECEDING) FROM item
abbrev pub distance_of_numbers : StatementTree
distance_of_numbers = statement (select (shown (call_over Sum (id ∷ []) (window_by (by_term id) (Some by_distance))) ∷ []) item)

-- SELECT 1, 1, .., of n columns
abbrev pub ones : ℕ → StatementTree
ones n = statement (without_from (replicate n (shown (number 1))))

-- (SELECT 1), (SELECT 1), .., of n + 1 sources
abbrev pub from_ones : ℕ → FromTree
from_ones zero = FromTree.First (SourceTree.Derived one None)
from_ones (suc n) = FromTree.Joined (from_ones n) Inner (SourceTree.Derived one None) OnTree.Always

-- SELECT 1 FROM (SELECT 1 FROM .. (SELECT 1)), with n queries in the first
abbrev pub levels : ℕ → QueryTree
levels zero = one
levels (suc n) = select (shown (number 1) ∷ []) (FromTree.First (SourceTree.Derived (levels n) None))

-- ---- columns where only groups are left

-- SELECT .. FROM item GROUP BY name HAVING .. WINDOW ..
abbrev pub of_names : List ResultTree → MaybeExpr → DefinitionTrees → QueryTree
of_names results having windows =
    QueryTree.Core (CoreTree.Select false (results_of results) item MaybeExpr.Absent (trees_of (name ∷ [])) having windows)

-- SELECT name, count(*) FROM item
abbrev pub beside_aggregate : StatementTree
beside_aggregate = statement (select (shown name ∷ shown plain_count ∷ []) item)

-- SELECT 1 FROM item GROUP BY name HAVING id > 1
abbrev pub bare_in_having : StatementTree
bare_in_having =
    statement (of_names (shown (number 1) ∷ []) (MaybeExpr.Present (ExprTree.Binary Greater id (number 1))) DefinitionTrees.No_definition)

-- SELECT name FROM item GROUP BY name ORDER BY id
abbrev pub bare_in_order : StatementTree
bare_in_order = ordered (of_names (shown name ∷ []) MaybeExpr.Absent DefinitionTrees.No_definition) (by_term id)

-- SELECT name FROM item GROUP BY name WINDOW w AS (ORDER BY id)
abbrev pub bare_in_window : StatementTree
bare_in_window =
    statement (of_names (shown name ∷ []) MaybeExpr.Absent
    (DefinitionTrees.Definition (codes "w") (window_by (by_term id) None) DefinitionTrees.No_definition))

-- SELECT sum(count(*)) OVER (ORDER BY id) FROM item GROUP BY name
abbrev pub bare_in_over : StatementTree
bare_in_over =
    statement (of_names (shown (call_over Sum (plain_count ∷ []) (window_by (by_term id) None)) ∷ []) MaybeExpr.Absent DefinitionTrees.No_definition)

-- SELECT id + 2 FROM item GROUP BY id + 1
abbrev pub bare_in_sum : StatementTree
bare_in_sum =
    statement (select_by (shown (ExprTree.Binary Add id (number 2)) ∷ []) item (ExprTree.Binary Add id (number 1) ∷ []))

-- SELECT * FROM sale GROUP BY item
abbrev pub star_of_more : StatementTree
star_of_more = statement (select_by (ResultTree.All ∷ []) sales (name_alone (codes "item") ∷ []))

-- SELECT name, sum(id) FROM item GROUP BY name
abbrev pub in_aggregate : StatementTree
in_aggregate =
    statement (of_names (shown name ∷ shown (plain_call Sum (trees_of (id ∷ []))) ∷ []) MaybeExpr.Absent DefinitionTrees.No_definition)

-- SELECT sum(sum(id)) OVER (ORDER BY name) FROM item GROUP BY name
abbrev pub in_aggregate_over : StatementTree
in_aggregate_over =
    statement (of_names (shown (call_over Sum (plain_call Sum (trees_of (id ∷ [])) ∷ []) (window_by (by_term name) None)) ∷ [])
    MaybeExpr.Absent DefinitionTrees.No_definition)

-- SELECT (id + 1) * 2 FROM item GROUP BY id + 1
abbrev pub in_group_expression : StatementTree
in_group_expression =
    statement (select_by (shown (ExprTree.Binary Multiply (ExprTree.Binary Add id (number 1)) (number 2)) ∷ []) item
    (ExprTree.Binary Add id (number 1) ∷ []))

-- SELECT Name, item.NAME FROM item GROUP BY name
abbrev pub in_other_letters : StatementTree
in_other_letters =
    statement (of_names (shown (name_alone (codes "Name")) ∷ shown (name_of (codes "item") (codes "NAME")) ∷ []) MaybeExpr.Absent
    DefinitionTrees.No_definition)

-- SELECT id IN (SELECT sale.ITEM FROM sale) FROM item GROUP BY id IN (SELECT item FROM sale)
abbrev pub in_same_query : StatementTree
in_same_query =
    statement (select_by
    (shown (ExprTree.InQuery false id (select (shown (name_of (codes "sale") (codes "ITEM")) ∷ []) sales)) ∷ []) item
    (ExprTree.InQuery false id (select (shown (name_alone (codes "item")) ∷ []) sales) ∷ []))

-- SELECT count(*) AS id FROM item GROUP BY name ORDER BY id
abbrev pub in_result : StatementTree
in_result =
    ordered (of_names (called plain_count (codes "id") ∷ []) MaybeExpr.Absent DefinitionTrees.No_definition) (by_term id)

-- SELECT * FROM sale GROUP BY item, sale.n
abbrev pub star_of_groups : StatementTree
star_of_groups =
    statement (select_by (ResultTree.All ∷ []) sales (name_alone (codes "item") ∷ name_of (codes "sale") (codes "n") ∷ []))

-- ---- what is said of them

-- what is written in each that is refused so
abbrev pub ReasonsAreWritten : Type 0
ReasonsAreWritten =
    HasUnknownSource tables unknown_table × HasUnknownSource tables item_in_itself × HasUnknownSource tables item_before_its_own
    × HasUnknownColumn tables unknown_column × HasUnknownColumn tables alias_in_where × HasUnknownColumn tables outer_column
    × HasUnknownColumn tables star_of_none
    × HasAmbiguousColumn tables two_named × HasAmbiguousColumn tables in_two_sources
    × HasUnevenColumns tables uneven × HasUnevenColumns tables two_columns × HasUnevenColumns tables uneven_item
    × HasRepeatedName twice × HasRepeatedName two_of_one_name × HasRepeatedName windows_of_one_name
    × IsMistyped tables mismatch × IsMistyped tables other_type × IsMistyped tables unused_window × IsMistyped tables arms_of_two_types
    × IsMistyped tables untyped_item
    × HasBadFrame tables bad_frame × HasBadFrame tables undefined_window × HasBadFrame tables no_buckets × HasBadFrame tables distance_of_texts
    × HasAnyWrongPlace tables aggregate_in_where × HasAnyWrongPlace tables hidden_order × HasAnyWrongPlace tables order_out_of_range
    × HasAnyWrongPlace tables group_by_signed_number × HasAnyWrongPlace tables star_of_nothing × HasAnyWrongPlace tables sum_behind_compound
    × HasAnyWrongPlace tables scalar_over
    × IsBeyondLimit tables (ones 101) × IsBeyondLimit tables (statement (select (shown (number 1) ∷ []) (from_ones 64)))
    × IsBeyondLimit tables (statement (levels 100))

-- and that nothing of it is in others
abbrev pub NothingIsWritten : Type 0
NothingIsWritten =
    (¬ HasUnknownSource tables items_of_items) × (¬ HasUnevenColumns tables items_of_items) × (¬ HasRepeatedName items_of_items)
    × (¬ HasUnknownColumn tables sorted_by_alias) × (¬ HasAmbiguousColumn tables sorted_by_alias)
    × (¬ IsMistyped tables items_of_items) × (¬ IsMistyped tables of_null_alone)
    × (¬ HasBadFrame tables distance_of_numbers)
    × (¬ HasWrongPlace tables sorted_by_alias) × (¬ HasWrongPlace tables distance_of_numbers)
    × (¬ IsBeyondLimit tables (ones 100)) × (¬ IsBeyondLimit tables (statement (select (shown (number 1) ∷ []) (from_ones 63))))
    × (¬ IsBeyondLimit tables (statement (levels 64)))

-- a column is bare in these
abbrev pub BareColumnsAreWritten : Type 0
BareColumnsAreWritten =
    HasBareColumn tables bare × HasBareColumn tables beside_aggregate × HasBareColumn tables bare_in_having × HasBareColumn tables bare_in_order
    × HasBareColumn tables bare_in_window × HasBareColumn tables bare_in_over × HasBareColumn tables bare_in_sum
    × HasBareColumn tables star_beside_aggregate × HasBareColumn tables star_of_more

-- and none in these
abbrev pub NoColumnIsBare : Type 0
NoColumnIsBare =
    (¬ HasBareColumn tables in_aggregate) × (¬ HasBareColumn tables in_aggregate_over) × (¬ HasBareColumn tables in_group_expression)
    × (¬ HasBareColumn tables in_other_letters) × (¬ HasBareColumn tables in_same_query) × (¬ HasBareColumn tables in_result)
    × (¬ HasBareColumn tables star_of_groups)
