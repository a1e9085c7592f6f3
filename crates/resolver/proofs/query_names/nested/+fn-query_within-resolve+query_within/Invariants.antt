-- Each goes down to queries that stand in one query fewer.
use Rattle.std.proofs.Common.{◌+◌, ◌*◌}
use Rattle.resolver.proofs.query_names.nested.+fn-query_within-resolve+query_within.Given as goal

abbrev pub decreases-resolve : goal.decreases-resolve
decreases-resolve l = 2 * l.below + 1

abbrev pub decreases-query_within : goal.decreases-query_within
decreases-query_within l = 2 * l.depth
