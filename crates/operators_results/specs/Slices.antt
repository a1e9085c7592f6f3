-- What LIMIT and OFFSET leave of the rows to come. (SELECT, "The LIMIT clause")
use Rattle.std.specs.Prelude.{List, drop}
use Rattle.windows_groups.specs.Firsts.{at_most}
use Rattle.operators_results.specs.declared.limits.LimitOffset.{LimitOffset}

abbrev pub sliced : {X : Type 0} → LimitOffset → List X → List X
sliced slice xs = at_most slice.left (drop slice.skip xs)
