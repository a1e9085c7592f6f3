-- Which SELECTs have groups. (SELECT, "Generation of the set of result rows")
use Rattle.std.specs.Prelude.{Bool, true, false, List, []}
use Rattle.expr.specs.Term.{Term}
use Rattle.semantics.specs.Query.{Aggregate}

-- those with GROUP BY or an aggregate
abbrev pub has_groups : List Term → List Aggregate → Bool
has_groups [] [] = false
has_groups by aggregates = true
