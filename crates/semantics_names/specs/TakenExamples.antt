-- Worked statements, and the queries that they are.
use Rattle.std.specs.Prelude.{false, true, pos, List, [], ◌∷◌, codes, Some, None}
use Rattle.values.specs.Datum.{int, null}
use Rattle.expr.specs.Term.{among, answer, coalesce, column, compare, literal, more, none}
use Rattle.expr.specs.declared.operations.kinds.Comparison.TheVariants.{Eq, Gt}
use Rattle.sql_reader_syntax.specs.ExprTree.{ExprTree, MaybeExpr, BehindTree, FromTree, OnTree, OverTree, ResultTree, SourceTree, plain_count}
use Rattle.sql_reader_syntax.specs.StatementTree.{StatementTree}
use Rattle.sql_reader_syntax.specs.declared.expr.BinaryOperator.TheVariants.{Greater}
use Rattle.sql_reader_syntax.specs.declared.expr.Function.TheVariants as w
use Rattle.sql_reader_syntax.specs.declared.query.Join.TheVariants as joins
use Rattle.semantics.specs.Query.{always, filtered, AggregateFunction, Body, Direction, From, Grouping, InnerQuery, JoinKind, Key, KeyTerm, Operator, Source, WindowFunction, of_columns, only}
use Rattle.semantics_names.specs.Places.{default_frame}
use Rattle.semantics_names.specs.Worked.{IsQuery, by_term, call_over, called, id, item, name_alone, name_of, number, one, ordered, sales, select, select_by, select_where, shown, signed, statement, table, union_of, window_by, with, with_item}

abbrev pub items : From
items = only (Source.table 0 3)

abbrev pub ids : Body
ids = Body.select items (of_columns (column 0 ∷ []))

-- SELECT item, n FROM (SELECT id AS item FROM item) FULL JOIN sale USING (item)
abbrev pub using_item : StatementTree
using_item =
    statement (select (shown (name_alone (codes "item")) ∷ shown (name_alone (codes "n")) ∷ [])
    (FromTree.Joined (FromTree.First (SourceTree.Derived (select (called id (codes "item") ∷ []) item) None)) joins.Full
    (table (codes "sale")) (OnTree.Using (codes "item" ∷ []))))

-- its first column is the item of either side
abbrev pub using_body : Body
using_body =
    Body.select (From.joined (only (Source.derived ids)) JoinKind.full (Source.table 1 2) (compare Eq (column 0) (column 1)))
    (of_columns (coalesce (more (column 0) (more (column 1) none)) ∷ column 2 ∷ []))

-- SELECT id FROM item WHERE id IN (SELECT item FROM sale) ORDER BY qty
abbrev pub inner_query : StatementTree
inner_query =
    ordered (select_where (shown id ∷ []) item (ExprTree.InQuery false id (select (shown (name_alone (codes "item")) ∷ []) sales)))
    (by_term (name_alone (codes "qty")))

abbrev pub inner_body : Body
inner_body =
    Body.select (From.with_inner items (InnerQuery.values_of (Body.select (only (Source.table 1 2)) (of_columns (column 0 ∷ [])))))
    (record (of_columns (column 0 ∷ [])) { condition = among (column 0) (answer 0) })

-- SELECT Name, count(*) FROM item GROUP BY item.name, in this order
abbrev pub grouped_by : ExprTree → StatementTree
grouped_by order =
    ordered
    (select_by (shown (name_alone (codes "Name")) ∷ called plain_count (codes "n") ∷ []) item (name_of (codes "item") (codes "name") ∷ []))
    (by_term order)

-- ORDER BY 2
abbrev pub grouped : StatementTree
grouped = grouped_by (number 2)

-- ORDER BY +2: a sign + is no operation
abbrev pub grouped_signed : StatementTree
grouped_signed = grouped_by (signed 2)

abbrev pub by_name : Grouping
by_name = record { by = column 1 ∷ []; aggregates = record { function = AggregateFunction.count; argument = always } ∷ []; having = always }

abbrev pub grouped_body : Body
grouped_body = Body.select items (record (of_columns (column 0 ∷ column 1 ∷ [])) { grouping = Some by_name })

-- WITH item AS (SELECT id AS k FROM item) SELECT * FROM item WHERE k > 1
abbrev pub hiding : StatementTree
hiding =
    with (with_item (codes "item") [] (select (called id (codes "k") ∷ []) item) ∷ [])
    (select_where (ResultTree.All ∷ []) item (ExprTree.Binary Greater (name_alone (codes "k")) (number 1)))

abbrev pub hiding_body : Body
hiding_body =
    Body.select (only (Source.derived ids)) (record (of_columns (column 0 ∷ [])) { condition = compare Gt (column 0) (literal (int (pos 1))) })

abbrev pub upwards : KeyTerm → List Key
upwards k = record { by = k; direction = record { descending = false; nulls_first = true } } ∷ []

-- SELECT * FROM sale JOIN (SELECT id AS item FROM item) AS i USING (item)
abbrev pub star_of_using : StatementTree
star_of_using =
    statement (select (ResultTree.All ∷ [])
    (FromTree.Joined sales joins.Inner (SourceTree.Derived (select (called id (codes "item") ∷ []) item) (Some (codes "i")))
    (OnTree.Using (codes "item" ∷ []))))

abbrev pub star_of_using_body : Body
star_of_using_body =
    Body.select (From.joined (only (Source.table 1 2)) JoinKind.inner (Source.derived ids) (compare Eq (column 0) (column 2)))
    (of_columns (coalesce (more (column 0) (more (column 2) none)) ∷ column 1 ∷ []))

-- SELECT d.k FROM (SELECT id AS k FROM item) AS d
abbrev pub by_alias : StatementTree
by_alias =
    statement (select (shown (name_of (codes "d") (codes "k")) ∷ [])
    (FromTree.First (SourceTree.Derived (select (called id (codes "k") ∷ []) item) (Some (codes "d")))))

abbrev pub by_alias_body : Body
by_alias_body = Body.select (only (Source.derived ids)) (of_columns (column 0 ∷ []))

-- SELECT 1 UNION SELECT NULL
abbrev pub one_or_null : StatementTree
one_or_null = statement (union_of one (shown ExprTree.Null ∷ []))

abbrev pub one_or_null_body : Body
one_or_null_body =
    Body.compound (Body.select From.nothing (of_columns (literal (int (pos 1)) ∷ []))) Operator.union From.nothing (of_columns (literal null ∷ []))

-- SELECT sum(qty) OVER (ORDER BY id), sum(qty) OVER (ORDER BY item.ID) FROM item
abbrev pub windowed_twice : StatementTree
windowed_twice =
    statement (select
    (called (call_over w.Sum (name_alone (codes "qty") ∷ []) (window_by (by_term id) None)) (codes "a")
    ∷ called (call_over w.Sum (name_alone (codes "qty") ∷ []) (window_by (by_term (name_of (codes "item") (codes "ID"))) None))
    (codes "b") ∷ []) item)

abbrev pub upward : Direction
upward = record { descending = false; nulls_first = true }

-- equal calls stand once
abbrev pub windowed_twice_body : Body
windowed_twice_body =
    Body.select items (record (of_columns (column 3 ∷ column 3 ∷ [])) {
      windows = record {
        window = record { partition = []; order = record { term = column 0; direction = upward } ∷ []; frame = default_frame };
        function = WindowFunction.aggregate (record { function = AggregateFunction.sum; argument = column 2 });
      } ∷ [];
    })

-- SELECT count(*) FILTER (WHERE qty), id IN (SELECT item FROM sale) FROM item GROUP BY id IN (SELECT item FROM sale)
abbrev pub sold : ExprTree
sold = ExprTree.InQuery false id (select (shown (name_alone (codes "item")) ∷ []) sales)

abbrev pub grouped_by_inner : StatementTree
grouped_by_inner =
    statement (select_by
    (called (ExprTree.CountRows (BehindTree.Behind (MaybeExpr.Present (name_alone (codes "qty"))) OverTree.No_over)) (codes "c")
    ∷ called sold (codes "s") ∷ [])
    item (sold ∷ []))

abbrev pub sold_items : InnerQuery
sold_items = InnerQuery.values_of (Body.select (only (Source.table 1 2)) (of_columns (column 0 ∷ [])))

-- the inner query is listed where it is written, and told by its first place
abbrev pub grouped_by_inner_body : Body
grouped_by_inner_body =
    Body.select (From.with_inner (From.with_inner items sold_items) sold_items) (record (of_columns (column 1 ∷ column 0 ∷ [])) {
      grouping = Some (record {
        by = among (column 0) (answer 0) ∷ [];
        aggregates = record { function = AggregateFunction.count; argument = filtered (column 2) always } ∷ [];
        having = always;
      });
    })

abbrev pub TakenStatements : Type 0
TakenStatements =
    IsQuery using_item using_body [] (codes "item" ∷ codes "n" ∷ [])
    × IsQuery star_of_using star_of_using_body [] (codes "item" ∷ codes "n" ∷ [])
    × IsQuery inner_query inner_body (upwards (KeyTerm.term (column 2))) (codes "id" ∷ [])
    × IsQuery grouped grouped_body (upwards (KeyTerm.result 1)) (codes "name" ∷ codes "n" ∷ [])
    × IsQuery grouped_signed grouped_body (upwards (KeyTerm.result 1)) (codes "name" ∷ codes "n" ∷ [])
    × IsQuery grouped_by_inner grouped_by_inner_body [] (codes "c" ∷ codes "s" ∷ [])
    × IsQuery hiding hiding_body [] (codes "k" ∷ [])
    × IsQuery by_alias by_alias_body [] (codes "k" ∷ [])
    × IsQuery one_or_null one_or_null_body [] ([] ∷ [])
    × IsQuery windowed_twice windowed_twice_body [] (codes "a" ∷ codes "b" ∷ [])
