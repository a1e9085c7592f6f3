-- The copies so far are those of what stands before this one.
use Rattle.std.proofs.Common.{◌≡◌, map, take}
use Rattle.expr.specs.CopyView.{copied}
use Rattle.semantics.specs.Mapped.{mapped_aggregate}
use Rattle.resolver_terms.specs.SelectView.{aggregate_of}
use Rattle.resolver_terms.proofs.copies.terms.aggregates_with.Given as goal

abbrev pub invariant-loop-aggregate : goal.invariant-loop-aggregate
invariant-loop-aggregate l = map aggregate_of l.copies.items ≡ map (mapped_aggregate (copied l.leaves)) (map aggregate_of (take l.aggregate-index l.aggregates))
