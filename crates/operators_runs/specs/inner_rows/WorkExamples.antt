-- Queries over two tables, and how many pages they may ask for.
use Rattle.std.specs.Prelude.{◌≡◌, ℕ, List, [], ◌∷◌}
use Rattle.values.specs.Datum.{Datum}
use Rattle.semantics_rewrites.specs.materialized_queries.Examples.{two_selects}
use Rattle.semantics.specs.Examples.{below_padded, items, right_join, sold, unsold}
use Rattle.semantics.specs.Query.{QueryData}
use Rattle.logical_plan.specs.Plan.{TreeSizes}
use Rattle.operators_runs.specs.inner_rows.Work.{body_work}

-- the tree of item, which has four rows, has three pages, and that of sale five
abbrev pub worked_sizes : List TreeSizes
worked_sizes = record { pages = 3; depth = 2; fetch = 0 } ∷ record { pages = 5; depth = 2; fetch = 0 } ∷ []

-- a query, and as many pages
pub record WorkedPages : Type 0 where
  pub query : QueryData
  pub pages : ℕ

-- item LEFT JOIN sale, which reads sale for each row of item; item RIGHT JOIN sale, which reads it once; one of item that asks whether its
-- rows are IN a query of sale, and item LEFT JOIN a query of sale, which are computed once; and two SELECTs with three queries in them
abbrev pub worked_pages : List WorkedPages
worked_pages =
    record { query = unsold; pages = 23 } ∷ record { query = right_join; pages = 8 } ∷ record { query = sold; pages = 8 }
    ∷ record { query = below_padded; pages = 8 } ∷ record { query = two_selects; pages = 18 } ∷ []

-- whatever stands for results out of range
abbrev pub AskFor : Datum → List WorkedPages → Type 0
AskFor w [] = Unit {0}
AskFor w (worked ∷ others) = (body_work w items worked_sizes worked.query.body ≡ worked.pages) × AskFor w others
