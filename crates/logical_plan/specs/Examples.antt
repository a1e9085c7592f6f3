-- Plans over the two tables of the examples of queries, with their rows and their work.
use Rattle.std.specs.Prelude.{Bool, ℕ, true, false, List, [], ◌∷◌, codes, None}
use Rattle.expr.specs.declared.operations.kinds.Comparison.TheVariants.{Eq, Lt}
use Rattle.expr.specs.Term.{Term, column, compare, literal}
use Rattle.values.specs.Datum.{null, text}
use Rattle.values.specs.Row.{Row}
use Rattle.semantics.specs.Examples.{aggregate_of, default_frame, item, over, sale, whole}
use Rattle.semantics.specs.Query.{AggregateFunction, From, WindowFunction, always, inner, only, right}
use Rattle.semantics.specs.Query as q
use Rattle.logical_plan.specs.Plan.{NestedData, PlanData, TreeSizes, flagged, joined, kept, once, windowed}
use Rattle.logical_plan.specs.Stands.{one_table}

-- the tables have trees of so many pages
abbrev pub example_sizes : List TreeSizes
example_sizes = record { pages = 5; depth = 2; fetch = 0 } ∷ record { pages = 3; depth = 2; fetch = 0 } ∷ []

-- qty = 7, of all columns and of those that are read
abbrev pub is_seven : ℕ → Term
is_seven at = compare Eq (column at) (literal (whole 7))

-- FROM item WHERE qty = 7, of which id and qty are read
abbrev pub sevens : PlanData
sevens = one_table 0 (0 ∷ 2 ∷ []) [] (is_seven 1 ∷ [])

abbrev pub sevens_rows : List Row
sevens_rows = (whole 3 ∷ whole 7 ∷ []) ∷ (whole 4 ∷ whole 7 ∷ []) ∷ []

-- FROM item WHERE 2 < 1 AND qty = 7
abbrev pub nothing_kept : PlanData
nothing_kept = one_table 0 (0 ∷ 2 ∷ []) (compare Lt (literal (whole 2)) (literal (whole 1)) ∷ []) (is_seven 1 ∷ [])

-- FROM item, sale WHERE qty = 7 AND item = id AND n < 5, of which id, qty, item and n are read
abbrev pub sold : PlanData
sold = kept (joined sevens (record { table = 1; columns = 0 ∷ 1 ∷ []; tests = compare Eq (column 2) (column 0) ∷ []; padded = false; search = None }))
    (compare Lt (column 3) (literal (whole 5)) ∷ [])

abbrev pub sold_rows : List Row
sold_rows = (whole 3 ∷ whole 7 ∷ whole 3 ∷ whole 2 ∷ []) ∷ []

-- FROM item LEFT JOIN sale ON item = id AND n < 6, of which id, item and n are read: of the item with two sales one has so
-- few, and two items have none
abbrev pub padded : PlanData
padded = joined (joined once (record { table = 0; columns = 0 ∷ []; tests = []; padded = false; search = None })) (record {
  table = 1;
  columns = 0 ∷ 1 ∷ [];
  tests = compare Eq (column 1) (column 0) ∷ compare Lt (column 2) (literal (whole 6)) ∷ [];
  padded = true;
  search = None;
})

abbrev pub padded_rows : List Row
padded_rows =
    (whole 1 ∷ whole 1 ∷ whole 5 ∷ []) ∷ (whole 2 ∷ null ∷ null ∷ []) ∷ (whole 3 ∷ whole 3 ∷ whole 2 ∷ []) ∷ (whole 4 ∷ null ∷ null ∷ []) ∷ []

-- ---- RIGHT and FULL joins

-- the ids of items
abbrev pub ids : PlanData
ids = joined once (record { table = 0; columns = 0 ∷ []; tests = always ∷ []; padded = false; search = None })

-- sales behind the values of a row, of which the first is compared with the item of a sale
abbrev pub sale_of : ℕ → Bool → NestedData
sale_of before padded = record { table = 1; columns = 0 ∷ 1 ∷ []; tests = compare Eq (column 0) (column before) ∷ []; padded = padded; search = None }

-- FROM item RIGHT JOIN sale ON item.id = sale.item, of which id, item and n are read: of four sales one is of no item
abbrev pub right_from : From
right_from = q.joined (only item) right sale (compare Eq (column 0) (column 3))

abbrev pub right_sold : PlanData
right_sold = flagged ids (record { nest = sale_of 1 false; before = 1 })

abbrev pub lone_sale : Row
lone_sale = null ∷ whole 9 ∷ whole 1 ∷ []

abbrev pub right_sold_rows : List Row
right_sold_rows =
    (whole 1 ∷ whole 1 ∷ whole 5 ∷ []) ∷ (whole 3 ∷ whole 3 ∷ whole 2 ∷ []) ∷ (whole 3 ∷ whole 3 ∷ whole 9 ∷ []) ∷ lone_sale ∷ []

-- the same with FULL JOIN: two items have no sale
abbrev pub full_sold : PlanData
full_sold = flagged ids (record { nest = sale_of 1 true; before = 1 })

abbrev pub full_sold_rows : List Row
full_sold_rows =
    (whole 1 ∷ whole 1 ∷ whole 5 ∷ []) ∷ (whole 2 ∷ null ∷ null ∷ []) ∷ (whole 3 ∷ whole 3 ∷ whole 2 ∷ []) ∷ (whole 3 ∷ whole 3 ∷ whole 9 ∷ [])
    ∷ (whole 4 ∷ null ∷ null ∷ []) ∷ lone_sale ∷ []

-- FROM item JOIN sale AS other ON 2 < 1 RIGHT JOIN sale ON item.id = sale.item: no row stands before the last sales, and each of
-- them stands alone. WHERE keeps those of which n < 5.
abbrev pub never : Term
never = compare Lt (literal (whole 2)) (literal (whole 1))

abbrev pub emptied_from : From
emptied_from = q.joined (q.joined (only item) inner sale never) right sale (compare Eq (column 0) (column 5))

abbrev pub emptied_where : Term
emptied_where = compare Lt (column 6) (literal (whole 5))

abbrev pub emptied : PlanData
emptied =
    kept (flagged (joined ids (record { table = 1; columns = []; tests = never ∷ []; padded = false; search = None })) (record { nest = sale_of 1 false; before = 1 }))
    (compare Lt (column 2) (literal (whole 5)) ∷ [])

abbrev pub emptied_rows : List Row
emptied_rows = (null ∷ whole 3 ∷ whole 2 ∷ []) ∷ (null ∷ whole 9 ∷ whole 1 ∷ []) ∷ []

-- ---- windows

-- sum(qty) OVER (ORDER BY qty) beside each item, in the table's order; qty is read first, and comes after the other columns
abbrev pub summed : PlanData
summed = windowed (joined once (record { table = 0; columns = 2 ∷ 0 ∷ 1 ∷ []; tests = []; padded = false; search = None })) (1 ∷ 2 ∷ 0 ∷ []) (record {
  window = over (column 2) default_frame;
  function = WindowFunction.aggregate (aggregate_of AggregateFunction.sum (column 2));
} ∷ [])

abbrev pub summed_rows : List Row
summed_rows =
    (whole 1 ∷ text (codes "bolt") ∷ whole 40 ∷ whole 54 ∷ []) ∷ (whole 2 ∷ text (codes "nut") ∷ null ∷ null ∷ [])
    ∷ (whole 3 ∷ text (codes "cap") ∷ whole 7 ∷ whole 14 ∷ []) ∷ (whole 4 ∷ text (codes "nut") ∷ whole 7 ∷ whole 14 ∷ []) ∷ []
