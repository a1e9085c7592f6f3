-- All conditions so far.
use Rattle.std.proofs.Common.{◌≡◌, map, option_map}
use Rattle.expr.specs.View.{term}
use Rattle.resolver_sources.specs.source_names.Matched.{so_far}
use Rattle.resolver_sources.proofs.source_names.using.conjunction.Given as goal

abbrev pub invariant-loop-next : goal.invariant-loop-next
invariant-loop-next l = option_map term l.all ≡ so_far (map term l.yielded)
