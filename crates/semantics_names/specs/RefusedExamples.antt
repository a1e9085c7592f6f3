-- Worked statements that are refused.
use Rattle.std.specs.Prelude.{false, pos, [], ◌∷◌, codes, Some, None}
use Rattle.values.specs.declared.fault.Fault.TheVariants as f
use Rattle.sql_reader_syntax.specs.ExprTree.{ExprTree, ExprTrees, MaybeExpr, BehindTree, DefinitionTrees, FromTree, OnTree, OverTree, ResultTree, SourceTree, TermTrees, plain_count, plain_call, trees_of}
use Rattle.sql_reader_syntax.specs.StatementTree.{StatementTree}
use Rattle.sql_reader_syntax.specs.declared.expr.BinaryOperator.TheVariants.{Add, Equal, Greater}
use Rattle.sql_reader_syntax.specs.declared.expr.Function.TheVariants as w
use Rattle.sql_reader_syntax.specs.declared.query.Edge.TheVariants as edges
use Rattle.sql_reader_syntax.specs.declared.query.Exclusion.TheVariants.{NoOthers}
use Rattle.sql_reader_syntax.specs.declared.query.Frame as frames
use Rattle.sql_reader_syntax.specs.declared.query.FrameUnit.TheVariants.{Range, Rows}
use Rattle.sql_reader_syntax.specs.declared.query.Join.TheVariants as joins
use Rattle.semantics_names.specs.Worked.{IsFault, by_term, call_over, called, from_alias, id, item, name, name_alone, name_of, number, one, ordered, select, select_by, select_distinct, select_where, select_windows, shown, signed, statement, table, union_of, window_by, with, with_item, without_from}

-- SELECT nme FROM item
abbrev pub unknown_column : StatementTree
unknown_column = statement (select (shown (name_alone (codes "nme")) ∷ []) item)

-- SELECT 1 FROM items
abbrev pub unknown_table : StatementTree
unknown_table = statement (select (shown (number 1) ∷ []) (FromTree.First (table (codes "items"))))

-- SELECT name + 1 FROM item
abbrev pub mismatch : StatementTree
mismatch = statement (select (shown (ExprTree.Binary Add name (number 1)) ∷ []) item)

-- SELECT id FROM item GROUP BY name
abbrev pub bare : StatementTree
bare = statement (select_by (shown id ∷ []) item (name ∷ []))

-- SELECT 1 FROM item WHERE count(*) > 0
abbrev pub aggregate_in_where : StatementTree
aggregate_in_where = statement (select_where (shown (number 1) ∷ []) item (ExprTree.Binary Greater plain_count (number 0)))

-- SELECT 1 UNION SELECT 1, 2
abbrev pub uneven : StatementTree
uneven = statement (union_of one (shown (number 1) ∷ shown (number 2) ∷ []))

-- SELECT 1 FROM item, item
abbrev pub twice : StatementTree
twice = statement (select (shown (number 1) ∷ []) (FromTree.Joined item joins.Inner (table (codes "item")) OnTree.Always))

-- SELECT DISTINCT name FROM item ORDER BY qty
abbrev pub hidden_order : StatementTree
hidden_order = ordered (select_distinct (shown name ∷ []) item) (by_term (name_alone (codes "qty")))

-- SELECT id, id FROM item ORDER BY ID
abbrev pub two_named : StatementTree
two_named = ordered (select (shown id ∷ shown id ∷ []) item) (by_term (name_alone (codes "ID")))

-- SELECT sum(id) OVER (ORDER BY id ROWS BETWEEN CURRENT ROW AND 1 PRECEDING) FROM item
abbrev pub backward : frames.Frame
backward = record { unit = Rows; start = edges.CurrentRow; end = edges.Preceding (pos 1); exclusion = NoOthers }

abbrev pub bad_frame : StatementTree
bad_frame = statement (select (shown (call_over w.Sum (id ∷ []) (window_by (by_term id) (Some backward))) ∷ []) item)

-- SELECT 1 FROM item WINDOW w AS (ORDER BY name + 1)
abbrev pub unused_window : StatementTree
unused_window =
    statement (select_windows (shown (number 1) ∷ []) item
    (DefinitionTrees.Definition (codes "w") (window_by (by_term (ExprTree.Binary Add name (number 1))) None) DefinitionTrees.No_definition))

-- SELECT id FROM item WHERE EXISTS (SELECT 1 FROM sale WHERE sale.item = item.id)
abbrev pub outer_column : StatementTree
outer_column =
    statement (select_where (shown id ∷ []) item (ExprTree.Exists
    (select_where (shown (number 1) ∷ []) (FromTree.First (table (codes "sale")))
    (ExprTree.Binary Equal (name_of (codes "sale") (codes "item")) (name_of (codes "item") (codes "id"))))))

-- SELECT 1 IN (SELECT id, qty FROM item)
abbrev pub two_columns : StatementTree
two_columns =
    statement (without_from (shown (ExprTree.InQuery false (number 1) (select (shown id ∷ shown (name_alone (codes "qty")) ∷ []) item)) ∷ []))

-- SELECT 1 IN (SELECT name FROM item)
abbrev pub other_type : StatementTree
other_type = statement (select (shown (ExprTree.InQuery false (number 1) (select (shown name ∷ []) item)) ∷ []) FromTree.No_source)

-- WITH a AS (SELECT 1), b(x, X) AS (SELECT 1, 2) SELECT 1
abbrev pub two_of_one_name : StatementTree
two_of_one_name =
    with (with_item (codes "a") [] one
    ∷ with_item (codes "b") (codes "x" ∷ codes "X" ∷ []) (without_from (shown (number 1) ∷ shown (number 2) ∷ [])) ∷ []) one

-- WITH a AS (SELECT * FROM a) SELECT 1
abbrev pub item_in_itself : StatementTree
item_in_itself = with (with_item (codes "a") [] (select (ResultTree.All ∷ []) (FromTree.First (table (codes "a")))) ∷ []) one

-- SELECT id AS k FROM item WHERE k > 1
abbrev pub alias_in_where : StatementTree
alias_in_where = statement (select_where (called id (codes "k") ∷ []) item (ExprTree.Binary Greater (name_alone (codes "k")) (number 1)))

-- SELECT item FROM sale AS a, sale AS b
abbrev pub in_two_sources : StatementTree
in_two_sources =
    statement (select (shown (name_alone (codes "item")) ∷ []) (FromTree.Joined (from_alias (codes "sale") (codes "a")) joins.Inner
    (SourceTree.Named (codes "sale") (Some (codes "b"))) OnTree.Always))

-- SELECT x.* FROM item
abbrev pub star_of_none : StatementTree
star_of_none = statement (select (ResultTree.AllOf (codes "x") ∷ []) item)

-- WITH a(x) AS (SELECT 1, 2) SELECT 1
abbrev pub uneven_item : StatementTree
uneven_item = with (with_item (codes "a") (codes "x" ∷ []) (without_from (shown (number 1) ∷ shown (number 2) ∷ [])) ∷ []) one

-- SELECT 1 FROM item WINDOW w AS (), W AS ()
abbrev pub windows_of_one_name : StatementTree
windows_of_one_name =
    statement (select_windows (shown (number 1) ∷ []) item
    (DefinitionTrees.Definition (codes "w") (window_by TermTrees.No_term None)
    (DefinitionTrees.Definition (codes "W") (window_by TermTrees.No_term None) DefinitionTrees.No_definition)))

-- SELECT 1 UNION SELECT 'a'
abbrev pub arms_of_two_types : StatementTree
arms_of_two_types = statement (union_of one (shown (ExprTree.Text (codes "a")) ∷ []))

-- WITH a AS (SELECT 'a' + 1) SELECT 1
abbrev pub untyped_item : StatementTree
untyped_item = with (with_item (codes "a") [] (without_from (shown (ExprTree.Binary Add (ExprTree.Text (codes "a")) (number 1)) ∷ [])) ∷ []) one

-- SELECT sum(row_number() OVER ()) OVER () FROM item
abbrev pub window_in_window : StatementTree
window_in_window =
    statement (select (shown (call_over w.Sum (call_over w.RowNumber [] (window_by TermTrees.No_term None) ∷ [])
    (window_by TermTrees.No_term None)) ∷ []) item)

-- SELECT count(sum(id)) FROM item
abbrev pub aggregate_in_aggregate : StatementTree
aggregate_in_aggregate = statement (select (shown (plain_call w.Count (trees_of (plain_call w.Sum (trees_of (id ∷ [])) ∷ []))) ∷ []) item)

-- SELECT rank() FROM item
abbrev pub rank_without_over : StatementTree
rank_without_over = statement (select (shown (plain_call w.Rank ExprTrees.No_more) ∷ []) item)

-- SELECT abs(id) OVER () FROM item
abbrev pub scalar_over : StatementTree
scalar_over = statement (select (shown (call_over w.Abs (id ∷ []) (window_by TermTrees.No_term None)) ∷ []) item)

-- SELECT abs(id) FILTER (WHERE id) FROM item
abbrev pub scalar_filter : StatementTree
scalar_filter =
    statement (select (shown (ExprTree.Call w.Abs (trees_of (id ∷ [])) (BehindTree.Behind (MaybeExpr.Present id) OverTree.No_over)) ∷ []) item)

-- SELECT id FROM item ORDER BY 2
abbrev pub order_out_of_range : StatementTree
order_out_of_range = ordered (select (shown id ∷ []) item) (by_term (number 2))

-- SELECT id FROM item ORDER BY 0
abbrev pub order_by_zero : StatementTree
order_by_zero = ordered (select (shown id ∷ []) item) (by_term (number 0))

-- SELECT 1 FROM item GROUP BY 1
abbrev pub group_by_number : StatementTree
group_by_number = statement (select_by (shown (number 1) ∷ []) item (number 1 ∷ []))

-- SELECT 1 FROM item GROUP BY +1
abbrev pub group_by_signed_number : StatementTree
group_by_signed_number = statement (select_by (shown (number 1) ∷ []) item (signed 1 ∷ []))

-- SELECT id FROM item ORDER BY +2
abbrev pub order_by_signed_number : StatementTree
order_by_signed_number = ordered (select (shown id ∷ []) item) (by_term (signed 2))

-- SELECT *
abbrev pub star_of_nothing : StatementTree
star_of_nothing = statement (without_from (ResultTree.All ∷ []))

-- SELECT count(*), * FROM item
abbrev pub star_beside_aggregate : StatementTree
star_beside_aggregate = statement (select (shown plain_count ∷ ResultTree.All ∷ []) item)

-- SELECT 1 UNION SELECT 2 ORDER BY 1 + 1
abbrev pub sum_behind_compound : StatementTree
sum_behind_compound = ordered (union_of one (shown (number 2) ∷ [])) (by_term (ExprTree.Binary Add (number 1) (number 1)))

-- SELECT sum(id) OVER w FROM item
abbrev pub undefined_window : StatementTree
undefined_window =
    statement (select
    (shown (ExprTree.Call w.Sum (trees_of (id ∷ [])) (BehindTree.Behind MaybeExpr.Absent (OverTree.OverName (codes "w")))) ∷ []) item)

-- SELECT ntile(0) OVER () FROM item
abbrev pub no_buckets : StatementTree
no_buckets = statement (select (shown (call_over w.NTile (number 0 ∷ []) (window_by TermTrees.No_term None)) ∷ []) item)

-- RANGE 1 PRECEDING
abbrev pub by_distance : frames.Frame
by_distance = record { unit = Range; start = edges.Preceding (pos 1); end = edges.CurrentRow; exclusion = NoOthers }

-- SELECT sum(id) OVER (ORDER BY name RANGE 1 PRECEDING) FROM item
abbrev pub distance_of_texts : StatementTree
distance_of_texts = statement (select (shown (call_over w.Sum (id ∷ []) (window_by (by_term name) (Some by_distance))) ∷ []) item)

-- ---- each by its fault

abbrev pub RefusedNames : Type 0
RefusedNames =
    IsFault unknown_table f.UnknownTable × IsFault item_in_itself f.UnknownTable
    × IsFault unknown_column f.UnknownColumn × IsFault alias_in_where f.UnknownColumn × IsFault outer_column f.UnknownColumn
    × IsFault star_of_none f.UnknownColumn
    × IsFault two_named f.Ambiguous × IsFault in_two_sources f.Ambiguous
    × IsFault uneven f.ColumnCount × IsFault two_columns f.ColumnCount × IsFault uneven_item f.ColumnCount
    × IsFault twice f.DuplicateName × IsFault two_of_one_name f.DuplicateName × IsFault windows_of_one_name f.DuplicateName

abbrev pub RefusedTypes : Type 0
RefusedTypes =
    IsFault mismatch f.TypeMismatch × IsFault other_type f.TypeMismatch × IsFault unused_window f.TypeMismatch
    × IsFault arms_of_two_types f.TypeMismatch
    × IsFault untyped_item f.TypeMismatch

abbrev pub RefusedPlaces : Type 0
RefusedPlaces =
    IsFault bare f.BareColumn × IsFault star_beside_aggregate f.BareColumn
    × IsFault aggregate_in_where f.WrongPlace × IsFault hidden_order f.WrongPlace × IsFault window_in_window f.WrongPlace
    × IsFault aggregate_in_aggregate f.WrongPlace
    × IsFault rank_without_over f.WrongPlace × IsFault scalar_over f.WrongPlace × IsFault scalar_filter f.WrongPlace
    × IsFault order_out_of_range f.WrongPlace
    × IsFault order_by_zero f.WrongPlace
    × IsFault order_by_signed_number f.WrongPlace
    × IsFault group_by_number f.WrongPlace × IsFault group_by_signed_number f.WrongPlace × IsFault star_of_nothing f.WrongPlace × IsFault sum_behind_compound f.WrongPlace

abbrev pub RefusedFrames : Type 0
RefusedFrames =
    IsFault bad_frame f.BadFrame × IsFault undefined_window f.BadFrame × IsFault no_buckets f.BadFrame × IsFault distance_of_texts f.BadFrame
