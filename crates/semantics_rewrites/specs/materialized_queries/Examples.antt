-- Queries over two tables, and the same without the queries in them.
use Rattle.std.specs.Prelude.{◌≡◌, List, [], ◌∷◌}
use Rattle.expr.specs.declared.operations.kinds.Comparison.TheVariants.{Eq, Gt}
use Rattle.expr.specs.Filled.{literals}
use Rattle.expr.specs.Term.{among, answer, column, compare, literal}
use Rattle.semantics.specs.Answer.{Permits}
use Rattle.semantics.specs.Examples.{by_column, by_term, down, in_order, item, items, plain, sale, sold, unsold_first, whole}
use Rattle.semantics.specs.Query.{KeyTerm, Operator, QueryData, always, compound, derived, exists, inner, joined, of_columns, only, table, with_inner}
use Rattle.values.specs.Datum.{Datum}
use Rattle.values.specs.Row.{Row}
use Rattle.semantics_rewrites.specs.materialized_queries.Flat.{flat, kept_of, with_kept}
use Rattle.semantics_rewrites.specs.materialized_queries.FlatWith.{materialized_with}

-- SELECT id FROM item WHERE id IN (1, 3, 3, 9) ORDER BY id
abbrev pub sold_flat : QueryData
sold_flat = in_order (plain (only item) (among (column 0) (literals (whole 1 ∷ whole 3 ∷ whole 3 ∷ whole 9 ∷ []))) (column 0 ∷ [])) (by_column 0 ∷ [])

-- the same, of values that were found in another order
abbrev pub sold_otherwise : QueryData
sold_otherwise =
    in_order (plain (only item) (among (column 0) (literals (whole 9 ∷ whole 3 ∷ whole 1 ∷ whole 3 ∷ []))) (column 0 ∷ [])) (by_column 0 ∷ [])

-- SELECT id FROM item ORDER BY id IN (1, 3, 3, 9), id DESC
abbrev pub unsold_first_flat : QueryData
unsold_first_flat = in_order (plain (only item) always (column 0 ∷ []))
    (by_term (among (column 0) (literals (whole 1 ∷ whole 3 ∷ whole 3 ∷ whole 9 ∷ []))) ∷ record { by = KeyTerm.result 0; direction = down } ∷ [])

-- SELECT n FROM (SELECT n FROM sale WHERE n > 4) UNION ALL SELECT item.id FROM item JOIN (SELECT item FROM sale WHERE n > 1) AS s ON
-- item.id = s.item WHERE EXISTS (SELECT n FROM sale WHERE n > 8) ORDER BY 1
abbrev pub two_selects : QueryData
two_selects = in_order
    (compound
    (plain (only (derived (plain (only sale) (compare Gt (column 1) (literal (whole 4))) (column 1 ∷ [])))) always (column 0 ∷ []))
    Operator.union_all
    (with_inner
    (joined (only item) inner (derived (plain (only sale) (compare Gt (column 1) (literal (whole 1))) (column 0 ∷ []))) (compare Eq (column 0) (column 3)))
    (exists (plain (only sale) (compare Gt (column 1) (literal (whole 8))) (column 1 ∷ []))))
    (record (of_columns (column 0 ∷ [])) { condition = among (literal (whole 1)) (answer 0) }))
    (by_column 0 ∷ [])

-- the derived tables are those at the places 2 and 3, and EXISTS is 1 IN (1)
abbrev pub two_selects_flat : QueryData
two_selects_flat = in_order
    (compound (plain (only (table 2 1)) always (column 0 ∷ [])) Operator.union_all
    (joined (only item) inner (table 3 1) (compare Eq (column 0) (column 3)))
    (record (of_columns (column 0 ∷ [])) { condition = among (literal (whole 1)) (literals (whole 1 ∷ [])) }))
    (by_column 0 ∷ [])

abbrev pub two_selects_rows : List Row
two_selects_rows = (whole 1 ∷ []) ∷ (whole 3 ∷ []) ∷ (whole 3 ∷ []) ∷ (whole 5 ∷ []) ∷ (whole 9 ∷ []) ∷ []

-- a query, the same without the queries in it, and rows that it permits
pub record Example : Type 0 where
  pub query : QueryData
  pub flat : QueryData
  pub rows : List Row

abbrev pub examples : List Example
examples =
    record { query = sold; flat = sold_flat; rows = (whole 1 ∷ []) ∷ (whole 3 ∷ []) ∷ [] }
    ∷ record { query = unsold_first; flat = unsold_first_flat; rows = (whole 4 ∷ []) ∷ (whole 2 ∷ []) ∷ (whole 3 ∷ []) ∷ (whole 1 ∷ []) ∷ [] }
    ∷ record { query = two_selects; flat = two_selects_flat; rows = two_selects_rows } ∷ []

-- whatever stands for results out of range, each is this query without queries in it, which permits the rows beside it
abbrev pub Show : Datum → List Example → Type 0
Show w [] = Unit {0}
Show w (e ∷ es) = (flat w items 2 e.query ≡ e.flat) × Permits w (with_kept w items (kept_of e.query.body)) e.flat e.rows × Show w es

-- values in another order make another tree, which permits the same rows
abbrev pub ShowOtherwise : Datum → Type 0
ShowOtherwise w =
    (materialized_with ((whole 9 ∷ whole 3 ∷ whole 1 ∷ whole 3 ∷ []) ∷ []) 2 sold ≡ sold_otherwise) × Permits w items sold_otherwise ((whole 1 ∷ []) ∷ (whole 3 ∷ []) ∷ [])
