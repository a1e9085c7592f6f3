-- Two tables, CREATE TABLE item(id INTEGER PRIMARY KEY, name TEXT NOT NULL, qty INT) STRICT and CREATE TABLE sale(item INT,
-- n INT) STRICT, and queries over them with what they show.
use Rattle.std.specs.Prelude.{ℕ, ℤ, true, false, List, [], ◌∷◌, Option, Some, None, pos, negsuc, codes}
use Rattle.expr.specs.declared.operations.kinds.Comparison.TheVariants.{Eq, Gt, Lt}
use Rattle.expr.specs.declared.operations.kinds.Arithmetic.TheVariants.{Add}
use Rattle.values.specs.declared.value.Ty.{Ty}
use Rattle.values.specs.declared.value.Ty.TheVariants.{Int, Text}
use Rattle.values.specs.Datum.{Datum, null, int, text}
use Rattle.expr.specs.Term.{Term, literal, column, compare, is, and, among, answer, arithmetic, call, if_null}
use Rattle.expr.specs.declared.operations.kinds.Function.TheVariants.{Not}
use Rattle.semantics.specs.Query.{Aggregate, AggregateFunction, Body, Direction, Edge, Exclusion, Frame, FrameUnit, From, Key, KeyTerm, Operator, QueryData, Source, Window, WindowFunction, always, compound, derived, filtered, full, inner, joined, left, nothing, of_columns, only, right, select, table, values_of, exists, with_inner}
use Rattle.values.specs.Row.{Row}
use Rattle.values.specs.Database.{Database}
use Rattle.semantics.specs.Answer.{Permits}

abbrev pub whole : ℕ → Datum
whole n = int (pos n)

abbrev pub items : Database
items = record {
  schema = [];
  tables =
      ((whole 1 ∷ text (codes "bolt") ∷ whole 40 ∷ []) ∷ (whole 2 ∷ text (codes "nut") ∷ null ∷ [])
      ∷ (whole 3 ∷ text (codes "cap") ∷ whole 7 ∷ []) ∷ (whole 4 ∷ text (codes "nut") ∷ whole 7 ∷ []) ∷ [])
      ∷ ((whole 1 ∷ whole 5 ∷ []) ∷ (whole 3 ∷ whole 2 ∷ []) ∷ (whole 3 ∷ whole 9 ∷ []) ∷ (whole 9 ∷ whole 1 ∷ []) ∷ [])
      ∷ [];
}

abbrev pub item : Source
item = table 0 3

abbrev pub sale : Source
sale = table 1 2

abbrev pub up : Direction
up = record { descending = false; nulls_first = true }

abbrev pub by_column : ℕ → Key
by_column at = record { by = KeyTerm.result at; direction = up }

abbrev pub by_term : Term → Key
by_term t = record { by = KeyTerm.term t; direction = up }

abbrev pub plain : From → Term → List Term → Body
plain from condition columns = select from (record (of_columns columns) { condition = condition })

abbrev pub in_order : Body → List Key → QueryData
in_order body order = record { body = body; order = order; limit = None; offset = pos 0 }

-- FROM item .. JOIN sale ON item.id = sale.item
abbrev pub id_is_item : Term
id_is_item = compare Eq (column 0) (column 3)

-- SELECT item.id, sale.n FROM item RIGHT JOIN sale ON item.id = sale.item ORDER BY sale.n
abbrev pub right_join : QueryData
right_join = in_order (plain (joined (only item) right sale id_is_item) always (column 0 ∷ column 4 ∷ [])) (by_term (column 4) ∷ [])

abbrev pub right_join_rows : List Row
right_join_rows = (null ∷ whole 1 ∷ []) ∷ (whole 3 ∷ whole 2 ∷ []) ∷ (whole 1 ∷ whole 5 ∷ []) ∷ (whole 3 ∷ whole 9 ∷ []) ∷ []

-- the same with FULL JOIN and ORDER BY sale.n, item.id
abbrev pub full_join : QueryData
full_join = in_order (plain (joined (only item) full sale id_is_item) always (column 0 ∷ column 4 ∷ [])) (by_term (column 4) ∷ by_column 0 ∷ [])

abbrev pub full_join_rows : List Row
full_join_rows = (whole 2 ∷ null ∷ []) ∷ (whole 4 ∷ null ∷ []) ∷ right_join_rows

-- SELECT item.id FROM item LEFT JOIN sale ON item.id = sale.item WHERE sale.n IS NULL ORDER BY item.id
abbrev pub unsold : QueryData
unsold = in_order (plain (joined (only item) left sale id_is_item) (is (column 4) (literal null)) (column 0 ∷ [])) (by_column 0 ∷ [])

abbrev pub unsold_rows : List Row
unsold_rows = (whole 2 ∷ []) ∷ (whole 4 ∷ []) ∷ []

abbrev pub aggregate_of : AggregateFunction → Term → Aggregate
aggregate_of function argument = record { function = function; argument = argument }

abbrev pub default_frame : Frame
default_frame = record { unit = FrameUnit.range; start = Edge.unbounded_preceding; end = Edge.current_row; exclude = Exclusion.no_others }

abbrev pub over : Term → Frame → Window
over t frame = record { partition = []; order = record { term = t; direction = up } ∷ []; frame = frame }

abbrev pub with_window : From → Window → WindowFunction → List Term → Body
with_window from window function columns =
    select from (record (of_columns columns) { windows = record { window = window; function = function } ∷ [] })

-- SELECT id, sum(qty) OVER (ORDER BY qty) FROM item ORDER BY id
abbrev pub running_sum : QueryData
running_sum = in_order
    (with_window (only item) (over (column 2) default_frame) (WindowFunction.aggregate (aggregate_of AggregateFunction.sum (column 2))) (column 0 ∷ column 3 ∷ []))
    (by_column 0 ∷ [])

abbrev pub running_sum_rows : List Row
running_sum_rows = (whole 1 ∷ whole 54 ∷ []) ∷ (whole 2 ∷ null ∷ []) ∷ (whole 3 ∷ whole 14 ∷ []) ∷ (whole 4 ∷ whole 14 ∷ []) ∷ []

-- SELECT id, sum(qty) OVER (ORDER BY qty GROUPS BETWEEN CURRENT ROW AND 1 FOLLOWING EXCLUDE TIES) FROM item ORDER BY id
abbrev pub without_ties : QueryData
without_ties = in_order
    (with_window (only item)
    (over (column 2) (record { unit = FrameUnit.groups; start = Edge.current_row; end = Edge.following 1; exclude = Exclusion.ties }))
    (WindowFunction.aggregate (aggregate_of AggregateFunction.sum (column 2))) (column 0 ∷ column 3 ∷ []))
    (by_column 0 ∷ [])

abbrev pub without_ties_rows : List Row
without_ties_rows = (whole 1 ∷ whole 40 ∷ []) ∷ (whole 2 ∷ whole 14 ∷ []) ∷ (whole 3 ∷ whole 47 ∷ []) ∷ (whole 4 ∷ whole 47 ∷ []) ∷ []

-- SELECT id, ntile(3) OVER (ORDER BY id) FROM item ORDER BY id
abbrev pub buckets : QueryData
buckets = in_order (with_window (only item) (over (column 0) default_frame) (WindowFunction.ntile 3) (column 0 ∷ column 3 ∷ [])) (by_column 0 ∷ [])

abbrev pub buckets_rows : List Row
buckets_rows = (whole 1 ∷ whole 1 ∷ []) ∷ (whole 2 ∷ whole 1 ∷ []) ∷ (whole 3 ∷ whole 2 ∷ []) ∷ (whole 4 ∷ whole 3 ∷ []) ∷ []

abbrev pub greatest : Datum
greatest = whole 9223372036854775807

abbrev pub next_to_greatest : Datum
next_to_greatest = whole 9223372036854775806

abbrev pub of_value : Datum → Body
of_value value = plain nothing always (literal value ∷ [])

abbrev pub and_value : Body → Datum → Body
and_value body value = compound body Operator.union_all nothing (of_columns (literal value ∷ []))

-- SELECT m, count(*) OVER (ORDER BY m RANGE BETWEEN CURRENT ROW AND 1 FOLLOWING) FROM (SELECT 9223372036854775807 AS m UNION
-- ALL SELECT 9223372036854775806) ORDER BY m
abbrev pub near_greatest : QueryData
near_greatest = in_order
    (with_window (only (derived (and_value (of_value greatest) next_to_greatest)))
    (over (column 0) (record { unit = FrameUnit.range; start = Edge.current_row; end = Edge.following 1; exclude = Exclusion.no_others }))
    (WindowFunction.aggregate (aggregate_of AggregateFunction.count (literal (whole 1)))) (column 0 ∷ column 1 ∷ []))
    (by_column 0 ∷ [])

abbrev pub near_greatest_rows : List Row
near_greatest_rows = (next_to_greatest ∷ whole 2 ∷ []) ∷ (greatest ∷ whole 1 ∷ []) ∷ []

-- SELECT sum(x) FROM (SELECT 9223372036854775807 AS x UNION ALL SELECT 1 UNION ALL SELECT -1)
abbrev pub exact_sum : QueryData
exact_sum = in_order
    (select (only (derived (and_value (and_value (of_value greatest) (whole 1)) (int (negsuc 0)))))
    (record {
      condition = always;
      grouping = Some (record { by = []; aggregates = aggregate_of AggregateFunction.sum (column 0) ∷ []; having = always });
      windows = [];
      columns = column 0 ∷ [];
      distinct = false;
    }))
    []

-- SELECT name FROM item EXCEPT SELECT 'cap', LIMIT and OFFSET as given
abbrev pub all_but_cap : Option ℤ → ℤ → QueryData
all_but_cap limit offset = record {
  body = compound (plain (only item) always (column 1 ∷ [])) Operator.except nothing
      (of_columns (literal (text (codes "cap")) ∷ []));
  order = [];
  limit = limit;
  offset = offset;
}

-- SELECT name, count(*), sum(qty) FROM item GROUP BY name HAVING count(*) > 1
abbrev pub by_name : QueryData
by_name = in_order
    (select (only item)
    (record {
      condition = always;
      grouping = Some (record {
        by = column 1 ∷ [];
        aggregates = aggregate_of AggregateFunction.count (literal (whole 1)) ∷ aggregate_of AggregateFunction.sum (column 2) ∷ [];
        having = compare Gt (column 1) (literal (whole 1));
      });
      windows = [];
      columns = column 0 ∷ column 1 ∷ column 2 ∷ [];
      distinct = false;
    }))
    []

-- SELECT count(*), max(qty) FROM item WHERE id > 9
abbrev pub of_no_rows : QueryData
of_no_rows = in_order
    (select (only item)
    (record {
      condition = compare Gt (column 0) (literal (whole 9));
      grouping = Some (record {
        by = [];
        aggregates = aggregate_of AggregateFunction.count (literal (whole 1)) ∷ aggregate_of AggregateFunction.max (column 2) ∷ [];
        having = always;
      });
      windows = [];
      columns = column 0 ∷ column 1 ∷ [];
      distinct = false;
    }))
    []

abbrev pub down : Direction
down = record { descending = true; nulls_first = false }

-- SELECT id, count(*) OVER (ORDER BY qty DESC RANGE BETWEEN 33 PRECEDING AND CURRENT ROW) FROM item ORDER BY id
abbrev pub within_distance : QueryData
within_distance = in_order
    (with_window (only item)
    (record {
      partition = [];
      order = record { term = column 2; direction = down } ∷ [];
      frame = record { unit = FrameUnit.range; start = Edge.preceding 33; end = Edge.current_row; exclude = Exclusion.no_others };
    })
    (WindowFunction.aggregate (aggregate_of AggregateFunction.count (literal (whole 1)))) (column 0 ∷ column 3 ∷ []))
    (by_column 0 ∷ [])

abbrev pub within_distance_rows : List Row
within_distance_rows = (whole 1 ∷ whole 1 ∷ []) ∷ (whole 2 ∷ whole 1 ∷ []) ∷ (whole 3 ∷ whole 3 ∷ []) ∷ (whole 4 ∷ whole 3 ∷ []) ∷ []

-- SELECT x, lead(x) OVER (ORDER BY x), row_number() OVER (ORDER BY x DESC) FROM (SELECT 1 AS x UNION ALL SELECT 1 UNION ALL
-- SELECT 2) ORDER BY 1, 2
abbrev pub equal_rows : QueryData
equal_rows = in_order
    (select (only (derived (and_value (and_value (of_value (whole 1)) (whole 1)) (whole 2))))
    (record (of_columns (column 0 ∷ column 1 ∷ column 2 ∷ [])) {
      windows =
          record { window = over (column 0) default_frame; function = WindowFunction.lead (column 0) 1 (literal null) }
          ∷ record {
            window = record { partition = []; order = record { term = column 0; direction = down } ∷ []; frame = default_frame };
            function = WindowFunction.row_number;
          } ∷ [];
    }))
    (by_column 0 ∷ by_column 1 ∷ [])

abbrev pub equal_rows_shown : List Row
equal_rows_shown = (whole 1 ∷ whole 1 ∷ whole 2 ∷ []) ∷ (whole 1 ∷ whole 2 ∷ whole 3 ∷ []) ∷ (whole 2 ∷ null ∷ whole 1 ∷ []) ∷ []

-- ---- more joins

-- SELECT item, n FROM (SELECT id AS item FROM item) FULL JOIN sale USING (item)
abbrev pub using_item : QueryData
using_item = in_order
    (plain (joined (only (derived (plain (only item) always (column 0 ∷ [])))) full sale (compare Eq (column 0) (column 1))) always
    (if_null (column 0) (column 1) ∷ column 2 ∷ []))
    []

abbrev pub using_item_rows : List Row
using_item_rows =
    (whole 1 ∷ whole 5 ∷ []) ∷ (whole 3 ∷ whole 2 ∷ []) ∷ (whole 3 ∷ whole 9 ∷ []) ∷ (whole 2 ∷ null ∷ []) ∷ (whole 4 ∷ null ∷ [])
    ∷ (whole 9 ∷ whole 1 ∷ []) ∷ []

-- SELECT item.id, s.n, t.n FROM item LEFT JOIN sale AS s ON item.id = s.item AND s.n > 2 RIGHT JOIN sale AS t ON s.n = t.n
abbrev pub left_then_right : QueryData
left_then_right = in_order
    (plain
    (joined (joined (only item) left sale (and id_is_item (compare Gt (column 4) (literal (whole 2))))) right sale (compare Eq (column 4) (column 6)))
    always (column 0 ∷ column 4 ∷ column 6 ∷ []))
    []

abbrev pub left_then_right_rows : List Row
left_then_right_rows =
    (whole 1 ∷ whole 5 ∷ whole 5 ∷ []) ∷ (whole 3 ∷ whole 9 ∷ whole 9 ∷ []) ∷ (null ∷ null ∷ whole 2 ∷ []) ∷ (null ∷ null ∷ whole 1 ∷ []) ∷ []

-- WITH a(k) AS (SELECT id FROM item) SELECT x.k, y.k FROM a AS x JOIN a AS y ON x.k < y.k WHERE x.k > 2
abbrev pub one_table_twice : QueryData
one_table_twice = in_order
    (plain
    (joined (only (derived (plain (only item) always (column 0 ∷ [])))) inner (derived (plain (only item) always (column 0 ∷ [])))
    (compare Lt (column 0) (column 1)))
    (compare Gt (column 0) (literal (whole 2))) (column 0 ∷ column 1 ∷ []))
    []

-- SELECT id FROM (SELECT id, qty FROM item WHERE qty < 40) AS d WHERE d.qty + 9223372036854775800 > 0
abbrev pub of_derived : QueryData
of_derived = in_order
    (plain (only (derived (plain (only item) (compare Lt (column 2) (literal (whole 40))) (column 0 ∷ column 2 ∷ []))))
    (compare Gt (arithmetic Add (column 1) (literal (whole 9223372036854775800))) (literal (whole 0))) (column 0 ∷ []))
    []

-- the same as `unsold`, but for its WHERE, which stands below the padded side of the join: SELECT item.id FROM item LEFT JOIN
-- (SELECT * FROM sale WHERE n IS NULL) AS s ON item.id = s.item ORDER BY item.id
abbrev pub below_padded : QueryData
below_padded = in_order
    (plain (joined (only item) left (derived (plain (only sale) (is (column 1) (literal null)) (column 0 ∷ column 1 ∷ []))) id_is_item) always (column 0 ∷ []))
    (by_column 0 ∷ [])

abbrev pub ids : List Row
ids = (whole 1 ∷ []) ∷ (whole 2 ∷ []) ∷ (whole 3 ∷ []) ∷ (whole 4 ∷ []) ∷ []

-- ---- more groups and compounds

abbrev pub count_rows : Aggregate
count_rows = aggregate_of AggregateFunction.count (literal (whole 1))

abbrev pub with_groups : From → Term → List Term → List Aggregate → List Term → Body
with_groups from condition by aggregates columns = select from (record (of_columns columns) {
  condition = condition;
  grouping = Some (record { by = by; aggregates = aggregates; having = always });
})

-- SELECT name, count(*), sum(qty), min(id) FROM item GROUP BY name ORDER BY name
abbrev pub of_names : QueryData
of_names = in_order
    (with_groups (only item) always (column 1 ∷ [])
    (count_rows ∷ aggregate_of AggregateFunction.sum (column 2) ∷ aggregate_of AggregateFunction.min (column 0) ∷ [])
    (column 0 ∷ column 1 ∷ column 2 ∷ column 3 ∷ []))
    (by_column 0 ∷ [])

abbrev pub of_names_rows : List Row
of_names_rows =
    (text (codes "bolt") ∷ whole 1 ∷ whole 40 ∷ whole 1 ∷ []) ∷ (text (codes "cap") ∷ whole 1 ∷ whole 7 ∷ whole 3 ∷ [])
    ∷ (text (codes "nut") ∷ whole 2 ∷ whole 7 ∷ whole 2 ∷ []) ∷ []

-- SELECT count(*), sum(n), max(n) FROM sale WHERE n > 100
abbrev pub of_none : QueryData
of_none = in_order
    (with_groups (only sale) (compare Gt (column 1) (literal (whole 100))) []
    (count_rows ∷ aggregate_of AggregateFunction.sum (column 1) ∷ aggregate_of AggregateFunction.max (column 1) ∷ [])
    (column 0 ∷ column 1 ∷ column 2 ∷ []))
    []

-- SELECT count(*) FILTER (WHERE qty = 7), sum(id) FILTER (WHERE qty > 7) FROM item
abbrev pub with_filters : QueryData
with_filters = in_order
    (with_groups (only item) always []
    (aggregate_of AggregateFunction.count (filtered (compare Eq (column 2) (literal (whole 7))) (literal (whole 1)))
    ∷ aggregate_of AggregateFunction.sum (filtered (compare Gt (column 2) (literal (whole 7))) (column 0)) ∷ [])
    (column 0 ∷ column 1 ∷ []))
    []

-- SELECT 1 UNION SELECT 1 UNION ALL SELECT 1
abbrev pub ones : QueryData
ones = in_order (and_value (compound (of_value (whole 1)) Operator.union nothing (of_columns (literal (whole 1) ∷ []))) (whole 1)) []

-- SELECT qty FROM item UNION SELECT qty FROM item ORDER BY 1 NULLS LAST LIMIT 2 OFFSET 1
abbrev pub nulls_last : QueryData
nulls_last = record {
  body = compound (plain (only item) always (column 2 ∷ [])) Operator.union (only item) (of_columns (column 2 ∷ []));
  order = record { by = KeyTerm.result 0; direction = record { descending = false; nulls_first = false } } ∷ [];
  limit = Some (pos 2);
  offset = pos 1;
}

-- SELECT DISTINCT qty FROM item ORDER BY qty
abbrev pub each_qty : QueryData
each_qty = in_order (select (only item) (record (of_columns (column 2 ∷ [])) { distinct = true })) (by_column 0 ∷ [])

-- SELECT id FROM item ORDER BY id DESC LIMIT 2
abbrev pub last_two : QueryData
last_two = record {
  body = plain (only item) always (column 0 ∷ []);
  order = record { by = KeyTerm.result 0; direction = record { descending = true; nulls_first = false } } ∷ [];
  limit = Some (pos 2);
  offset = pos 0;
}

-- ---- more windows

-- SELECT name, count(*), rank() OVER (ORDER BY count(*) DESC) FROM item GROUP BY name ORDER BY name
abbrev pub ranked_groups : QueryData
ranked_groups = in_order
    (select (only item) (record (of_columns (column 0 ∷ column 1 ∷ column 2 ∷ [])) {
      grouping = Some (record { by = column 1 ∷ []; aggregates = count_rows ∷ []; having = always });
      windows = record {
        window = record { partition = []; order = record { term = column 1; direction = down } ∷ []; frame = default_frame };
        function = WindowFunction.rank;
      } ∷ [];
    }))
    (by_column 0 ∷ [])

abbrev pub ranked_groups_rows : List Row
ranked_groups_rows =
    (text (codes "bolt") ∷ whole 1 ∷ whole 2 ∷ []) ∷ (text (codes "cap") ∷ whole 1 ∷ whole 2 ∷ []) ∷ (text (codes "nut") ∷ whole 2 ∷ whole 1 ∷ []) ∷ []

-- SELECT n, sum(n) OVER (ORDER BY n DESC RANGE 3 PRECEDING) FROM sale ORDER BY n
abbrev pub down_by_three : QueryData
down_by_three = in_order
    (with_window (only sale)
    (record {
      partition = [];
      order = record { term = column 1; direction = down } ∷ [];
      frame = record { unit = FrameUnit.range; start = Edge.preceding 3; end = Edge.current_row; exclude = Exclusion.no_others };
    })
    (WindowFunction.aggregate (aggregate_of AggregateFunction.sum (column 1))) (column 1 ∷ column 2 ∷ []))
    (by_column 0 ∷ [])

abbrev pub down_by_three_rows : List Row
down_by_three_rows = (whole 1 ∷ whole 3 ∷ []) ∷ (whole 2 ∷ whole 7 ∷ []) ∷ (whole 5 ∷ whole 5 ∷ []) ∷ (whole 9 ∷ whole 9 ∷ []) ∷ []

-- SELECT id, lag(name, 1, 'none') OVER (ORDER BY id) FROM item ORDER BY id
abbrev pub name_before : QueryData
name_before = in_order
    (with_window (only item) (over (column 0) default_frame) (WindowFunction.lag (column 1) 1 (literal (text (codes "none")))) (column 0 ∷ column 3 ∷ []))
    (by_column 0 ∷ [])

abbrev pub name_before_rows : List Row
name_before_rows =
    (whole 1 ∷ text (codes "none") ∷ []) ∷ (whole 2 ∷ text (codes "bolt") ∷ []) ∷ (whole 3 ∷ text (codes "nut") ∷ [])
    ∷ (whole 4 ∷ text (codes "cap") ∷ []) ∷ []

-- SELECT id, rank() OVER w, dense_rank() OVER w, row_number() OVER w FROM item WINDOW w AS (ORDER BY name) ORDER BY id
abbrev pub ranks : QueryData
ranks = in_order
    (select (only item) (record (of_columns (column 0 ∷ column 3 ∷ column 4 ∷ column 5 ∷ [])) {
      windows =
          record { window = over (column 1) default_frame; function = WindowFunction.rank }
          ∷ record { window = over (column 1) default_frame; function = WindowFunction.dense_rank }
          ∷ record { window = over (column 1) default_frame; function = WindowFunction.row_number } ∷ [];
    }))
    (by_column 0 ∷ [])

abbrev pub ranks_rows : List Row
ranks_rows =
    (whole 1 ∷ whole 1 ∷ whole 1 ∷ whole 1 ∷ []) ∷ (whole 2 ∷ whole 3 ∷ whole 3 ∷ whole 3 ∷ []) ∷ (whole 3 ∷ whole 2 ∷ whole 2 ∷ whole 2 ∷ [])
    ∷ (whole 4 ∷ whole 3 ∷ whole 3 ∷ whole 4 ∷ []) ∷ []

-- ---- inner queries

-- SELECT id FROM item WHERE id IN (SELECT item FROM sale) ORDER BY id
abbrev pub sold : QueryData
sold = in_order
    (plain (with_inner (only item) (values_of (plain (only sale) always (column 0 ∷ [])))) (among (column 0) (answer 0)) (column 0 ∷ []))
    (by_column 0 ∷ [])

-- SELECT id FROM item WHERE id NOT IN (SELECT qty FROM item)
abbrev pub not_in_qty : QueryData
not_in_qty = in_order
    (plain (with_inner (only item) (values_of (plain (only item) always (column 2 ∷ [])))) (call Not (among (column 0) (answer 0))) (column 0 ∷ []))
    []

-- SELECT EXISTS (SELECT 1 FROM sale WHERE n > 8), 5 IN (SELECT n FROM sale WHERE 0), NULL IN (SELECT n FROM sale WHERE 0)
abbrev pub three_inner : QueryData
three_inner = in_order
    (plain
    (with_inner
    (with_inner (with_inner nothing (exists (plain (only sale) (compare Gt (column 1) (literal (whole 8))) (literal (whole 1) ∷ []))))
    (values_of (plain (only sale) (literal (whole 0)) (column 1 ∷ []))))
    (values_of (plain (only sale) (literal (whole 0)) (column 1 ∷ []))))
    always
    (among (literal (whole 1)) (answer 0) ∷ among (literal (whole 5)) (answer 1) ∷ among (literal null) (answer 2) ∷ []))
    []

-- SELECT item.id, sale.n FROM item JOIN sale ON item.id = sale.item AND sale.n IN (SELECT id FROM item)
abbrev pub on_inner : QueryData
on_inner = in_order
    (plain
    (with_inner (joined (only item) inner sale (and id_is_item (among (column 4) (answer 0)))) (values_of (plain (only item) always (column 0 ∷ []))))
    always (column 0 ∷ column 4 ∷ []))
    []

-- SELECT id FROM item ORDER BY id IN (SELECT item FROM sale), id DESC
abbrev pub unsold_first : QueryData
unsold_first = in_order
    (plain (with_inner (only item) (values_of (plain (only sale) always (column 0 ∷ [])))) always (column 0 ∷ []))
    (by_term (among (column 0) (answer 0)) ∷ record { by = KeyTerm.result 0; direction = down } ∷ [])

-- ---- the queries, each with a list of rows that it permits

abbrev pub Examples : Type 0
Examples = List (QueryData × List Row)

abbrev pub join_examples : Examples
join_examples =
    (right_join, right_join_rows) ∷ (full_join, full_join_rows) ∷ (unsold, unsold_rows) ∷ (using_item, using_item_rows)
    ∷ (left_then_right, left_then_right_rows) ∷ (one_table_twice, (whole 3 ∷ whole 4 ∷ []) ∷ [])
    ∷ (of_derived, (whole 3 ∷ []) ∷ (whole 4 ∷ []) ∷ []) ∷ (below_padded, ids) ∷ []

abbrev pub group_examples : Examples
group_examples =
    (exact_sum, (greatest ∷ []) ∷ []) ∷ (by_name, (text (codes "nut") ∷ whole 2 ∷ whole 7 ∷ []) ∷ []) ∷ (of_no_rows, (whole 0 ∷ null ∷ []) ∷ [])
    ∷ (of_names, of_names_rows) ∷ (of_none, (whole 0 ∷ null ∷ null ∷ []) ∷ []) ∷ (with_filters, (whole 2 ∷ whole 1 ∷ []) ∷ []) ∷ []

abbrev pub window_examples : Examples
window_examples =
    (running_sum, running_sum_rows) ∷ (without_ties, without_ties_rows) ∷ (buckets, buckets_rows) ∷ (near_greatest, near_greatest_rows)
    ∷ (within_distance, within_distance_rows) ∷ (equal_rows, equal_rows_shown) ∷ (down_by_three, down_by_three_rows)
    ∷ (name_before, name_before_rows) ∷ (ranks, ranks_rows) ∷ (ranked_groups, ranked_groups_rows) ∷ []

abbrev pub compound_examples : Examples
compound_examples =
    (all_but_cap None (pos 0), (text (codes "bolt") ∷ []) ∷ (text (codes "nut") ∷ []) ∷ []) ∷ (all_but_cap (Some (negsuc 0)) (pos 9), [])
    ∷ (ones, (whole 1 ∷ []) ∷ (whole 1 ∷ []) ∷ []) ∷ (nulls_last, (whole 40 ∷ []) ∷ (null ∷ []) ∷ [])
    ∷ (each_qty, (null ∷ []) ∷ (whole 7 ∷ []) ∷ (whole 40 ∷ []) ∷ []) ∷ (last_two, (whole 4 ∷ []) ∷ (whole 3 ∷ []) ∷ []) ∷ []

abbrev pub inner_examples : Examples
inner_examples =
    (sold, (whole 1 ∷ []) ∷ (whole 3 ∷ []) ∷ []) ∷ (not_in_qty, []) ∷ (three_inner, (whole 1 ∷ whole 0 ∷ whole 0 ∷ []) ∷ [])
    ∷ (unsold_first, (whole 4 ∷ []) ∷ (whole 2 ∷ []) ∷ (whole 3 ∷ []) ∷ (whole 1 ∷ []) ∷ []) ∷ (on_inner, (whole 3 ∷ whole 2 ∷ []) ∷ []) ∷ []

-- whatever stands for results out of range, each query permits the rows beside it
abbrev pub Show : Datum → Examples → Type 0
Show w [] = Unit {0}
Show w (example ∷ examples) = Permits w items example.0 example.1 × Show w examples

-- ---- types

-- the types of the columns of both tables
abbrev pub item_types : List Ty
item_types = Int ∷ Text ∷ Int ∷ []

abbrev pub catalog : List (List Ty)
catalog = item_types ∷ (Int ∷ Int ∷ []) ∷ []
