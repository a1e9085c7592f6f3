use Rattle.std.proofs.Common.{◌≡◌, ◌++◌, flat_map, map, take}
use Rattle.expr.specs.Columns.{columns_of}
use Rattle.expr.specs.View.{term}
use Rattle.logical_plan_terms.proofs.names.push_columns_of_all.Given as goal

abbrev pub invariant-loop-t : goal.invariant-loop-t
invariant-loop-t l = l.out.items ≡ l.initial.out.items ++ flat_map columns_of (map term (take l.t-index l.terms))
